-- The table of the page's "Plan file": each record's mark, and the width in bytes of each field after it. Sizes and places of fields
-- all come from here.
use Rattle.std.specs.Prelude.{Bool, List, [], ◌∷◌, ◌++◌, ℕ, zero, suc, ◌+◌, ◌*◌, eqb, get_or, take, drop}
use Rattle.integers.specs.Tests.{and, if}
use Rattle.plan.specs.declared.Task.{Task}
use Rattle.plan.specs.declared.Resource.{Resource}
use Rattle.plan.specs.declared.Kind.{Kind}
use Rattle.plan.specs.declared.Kind.TheVariants.{Plain, Held}
use Rattle.plan.specs.declared.Band.{Band}
use Rattle.plan.specs.declared.Span.{Span}
use Rattle.plan.specs.declared.Day.{Day}
use Rattle.plan.specs.declared.Power.{Power}
use Rattle.plan.specs.declared.Sense.{Sense}
use Rattle.plan.specs.declared.Sense.TheVariants.{AtMost, AtLeast}
use Rattle.plan.specs.Days.{day}
use Rattle.plan.specs.Powers.{power}
use Rattle.plan.specs.Tasks.{most_resources, most_bands, most_tasks}
use Rattle.format.specs.declared.Mark.{Mark}
use Rattle.format.specs.declared.Mark.TheVariants.{PL, RS, RH, LB, TK}
use Rattle.format.specs.declared.Header.{Header}
use Rattle.format.specs.Numbers.{bytes_of, number_of, signed_of, unsigned_of}

-- "Each record begins with two mark bytes (ASCII)."
abbrev pub mark : Mark → List ℕ
mark PL = 80 ∷ 76 ∷ []
mark RS = 82 ∷ 83 ∷ []
mark RH = 82 ∷ 72 ∷ []
mark LB = 76 ∷ 66 ∷ []
mark TK = 84 ∷ 75 ∷ []

-- PL: "sense 1, resource count 1, task count 2"; RS: "identifier 4, limit 4"; RH: "same layout"; LB: "resource place (2 bytes), first day (4),
-- limit (4)"; TK: "set 2 (bit k is resource k), then low and high, 4 each, of origin, duration, end, height"
abbrev pub widths : Mark → List ℕ
widths PL = 1 ∷ 1 ∷ 2 ∷ []
widths RS = 4 ∷ 4 ∷ []
widths RH = 4 ∷ 4 ∷ []
widths LB = 2 ∷ 4 ∷ 4 ∷ []
widths TK = 2 ∷ 4 ∷ 4 ∷ 4 ∷ 4 ∷ 4 ∷ 4 ∷ 4 ∷ 4 ∷ []

abbrev pub total : List ℕ → ℕ
total [] = 0
total (w ∷ ws) = w + total ws

-- the mark's own two bytes
abbrev pub mark_size : ℕ
mark_size = 2

-- "total": 6, 10, 10, 12 and 36
abbrev pub size : Mark → ℕ
size k = mark_size + total (widths k)

-- these bytes begin with the mark, in both of its bytes
unfoldable pub marked : Mark → List ℕ → Bool
marked k bs = and (eqb (get_or bs 0 0) (get_or (mark k) 0 0)) (eqb (get_or bs 1 0) (get_or (mark k) 1 0))

-- ---- "In a file a held resource has mark RH in place of RS, same layout."
-- the mark that may stand where a mark is due as well as that one: RH for RS, for every other only itself
abbrev pub in_place_of : Mark → Mark
in_place_of PL = PL
in_place_of RS = RH
in_place_of RH = RH
in_place_of LB = LB
in_place_of TK = TK

-- where a mark is due: the one in its place, if these bytes begin with it, and else that mark
unfoldable pub due_in : Mark → List ℕ → Mark
due_in k bs = if (marked (in_place_of k) bs) (in_place_of k) k

-- the mark of a resource of such a kind, and the kind that a mark tells
abbrev pub kind_mark : Kind → Mark
kind_mark Plain = RS
kind_mark Held = RH

abbrev pub kind_from : Mark → Kind
kind_from PL = Plain
kind_from RS = Plain
kind_from RH = Held
kind_from LB = Plain
kind_from TK = Plain

-- ---- a record's bytes from its numbers, and its numbers from its bytes
unfoldable pub field_bytes : List ℕ → List ℕ → List ℕ
field_bytes [] ns = []
field_bytes (w ∷ ws) [] = []
field_bytes (w ∷ ws) (n ∷ ns) = bytes_of w n ++ field_bytes ws ns

unfoldable pub record_bytes : Mark → List ℕ → List ℕ
record_bytes k ns = mark k ++ field_bytes (widths k) ns

unfoldable pub fields_in : List ℕ → List ℕ → List ℕ
fields_in [] bs = []
fields_in (w ∷ ws) bs = number_of (take w bs) ∷ fields_in ws (drop w bs)

unfoldable pub numbers_in : Mark → List ℕ → List ℕ
numbers_in k bs = fields_in (widths k) (drop mark_size bs)

-- ---- what the numbers of a record stand for
abbrev pub field : List ℕ → ℕ → ℕ
field ns k = get_or ns k 0

unfoldable pub header_numbers : Header → List ℕ
header_numbers h = h.sense ∷ h.resources ∷ h.tasks ∷ []

unfoldable pub header_from : List ℕ → Header
header_from ns = record { sense = field ns 0; resources = field ns 1; tasks = field ns 2 }

unfoldable pub resource_numbers : Resource → List ℕ
resource_numbers q = unsigned_of q.id ∷ unsigned_of q.limit.0 ∷ []

unfoldable pub resource_from : Mark → List ℕ → Resource
resource_from k ns = record { id = signed_of (field ns 0); limit = power (signed_of (field ns 1)); kind = kind_from k }

unfoldable pub band_numbers : Band → List ℕ
band_numbers b = b.place ∷ unsigned_of b.from.0 ∷ unsigned_of b.limit.0 ∷ []

unfoldable pub band_from : List ℕ → Band
band_from ns = record { place = field ns 0; from = day (signed_of (field ns 1)); limit = power (signed_of (field ns 2)) }

unfoldable pub task_numbers : Task → List ℕ
task_numbers t =
    t.set
    ∷ unsigned_of t.origin.low.0 ∷ unsigned_of t.origin.high.0
    ∷ unsigned_of t.duration.low.0 ∷ unsigned_of t.duration.high.0
    ∷ unsigned_of t.end.low.0 ∷ unsigned_of t.end.high.0
    ∷ unsigned_of t.height.low.0 ∷ unsigned_of t.height.high.0 ∷ []

-- the range whose low and high are two numbers
abbrev pub days_from : ℕ → ℕ → Span Day
days_from x y = record { low = day (signed_of x); high = day (signed_of y) }

abbrev pub powers_from : ℕ → ℕ → Span Power
powers_from x y = record { low = power (signed_of x); high = power (signed_of y) }

unfoldable pub task_from : List ℕ → Task
task_from ns =
    record {
      set = field ns 0;
      origin = days_from (field ns 1) (field ns 2);
      duration = days_from (field ns 3) (field ns 4);
      end = days_from (field ns 5) (field ns 6);
      height = powers_from (field ns 7) (field ns 8);
    }

-- "A sense for the whole plan: 0 at most, 1 at least"
abbrev pub sense_number : Sense → ℕ
sense_number AtMost = 0
sense_number AtLeast = 1

abbrev pub sense_from : ℕ → Sense
sense_from zero = AtMost
sense_from (suc n) = AtLeast

-- ---- the lists of a plan, record after record
-- the mark that a resource's record is written with, and that of every task of a plan of so many resources
abbrev pub resource_mark : Resource → Mark
resource_mark q = kind_mark q.kind

abbrev pub task_mark : ℕ → Mark
task_mark n = TK

-- how the elements of a list stand in a file: the mark and the numbers that each is written with, the mark that is due where one is read
-- (it, or the one in its place), and the element that the mark and the numbers there stand for
pub record Layout (A : Type 0) : Type 0 where
  pub mark : A → Mark
  pub numbers : A → List ℕ
  pub due : Mark
  pub from : Mark → List ℕ → A

abbrev pub resources : Layout Resource
resources = record { mark = resource_mark; numbers = resource_numbers; due = RS; from = resource_from }

abbrev pub bands : Layout Band
bands = record { mark = λ b. LB; numbers = band_numbers; due = LB; from = λ k. band_from }

abbrev pub tasks : ℕ → Layout Task
tasks n = record { mark = λ t. task_mark n; numbers = task_numbers; due = task_mark n; from = λ k. task_from }

-- "One PL, all RS" (or RH in place of RS), bands "after all RS and before TK", "all TK": where the bands start, where the task records start, and where the file
-- ends, of so many resources, bands and tasks
abbrev pub bands_from : ℕ → ℕ
bands_from n = size PL + n * size resources.due

abbrev pub tasks_from : ℕ → ℕ → ℕ
tasks_from n k = bands_from n + k * size bands.due

abbrev pub file_length : ℕ → ℕ → ℕ → ℕ
file_length n k m = tasks_from n k + m * size (task_mark n)

-- 10,150 bytes; without bands "at most 9,382 bytes"
abbrev pub longest_file : ℕ
longest_file = file_length most_resources most_bands most_tasks
