-- Every place that a refused file is given lies within the longest file: 10,150 bytes, for 16 resources, 64 bands and 256 tasks. The file may be of
-- any length: a count above its most is refused before a record of the body is read, and a 65th band where it is met.
use Rattle.std.specs.Prelude.{Ok, Err}
use mathlib.Core.Path.{◌≡◌, refl, subst}
use mathlib.Core.Logic.{◌≢◌}
use mathlib.Core.Bool.{not}
use mathlib.Core.List.{List}
use Prim.Native.Nat.{ℕ, zero, suc, ◌+◌, ◌*◌, ◌≤◌}
use native.Mathlib.Omega.{arith}
use native.Mathlib.Nat.{suc-mul}
use lib.Dec.{eqb, ltb}
use lib.ListN.{length, drop}
use Rattle.integers.specs.Tests.{or}
use Rattle.integers.proofs.Tests.{by_cases}
use Rattle.plan.specs.declared.Refusal.{Refusal}
use Rattle.plan.specs.declared.Refusal.TheVariants.{TooManyTasks, ResourceCount, WrongMark, CutShort, ListShort, BandOutside}
use Rattle.plan.specs.Refusals.{number, place, Checked, accepted}
use Rattle.plan.specs.Tasks.{most_resources, most_bands, most_tasks}
use Rattle.rules.specs.Calls.{or_else, refuse_if, check}
use Rattle.rules.proofs.Checks.{past_all}
use Rattle.rules.proofs.Bounds.{PlaceIn, PlacedTo, last_place, placed_then, placed_if, placed_unless, placed_more, check_placed}
use Rattle.format.specs.declared.Mark.{Mark}
use Rattle.format.specs.declared.Mark.TheVariants.{PL, LB}
use Rattle.format.specs.declared.Header.{Header}
use Rattle.format.specs.Reading.{HeaderAnswer}
use Rattle.format.specs.Format.{resources, tasks, size, mark_size, marked, due_in, bands_from, tasks_from, longest_file}
use Rattle.format.specs.Reading.{Read, due, each_due, band_due, each_band_due, bands_due, band_count, bands_in, looked_at, run_due, header_in, header_due, lists_due, file_end, frame_in, tasks_in, body_due, header_unless, read_unless, read_checked, read_header, read_body, read_after, read_plan, lent_after, plan_after, read_lent}
use Rattle.format.proofs.Bands.{run_is, taken_is}
use Rattle.format.proofs.Files.{Few, few}

pub longest_is : longest_file ≡ 10150
longest_is = refl

-- a check whose place, where it refuses, lies within the longest file
abbrev Placed : Checked → Type 0
Placed c = PlacedTo longest_file c

-- ---- a record is refused at its first byte
due_placed : (k : Mark) (at : ℕ) (bs : List ℕ) → at ≤ longest_file → Placed (due k at bs)
unfolding due
due_placed k at bs l =
    let ends = refuse_if (ltb (length bs) (size k)) (CutShort at) in
    placed_unless longest_file (ltb (length bs) mark_size) (CutShort at) (or_else (refuse_if (not (marked k bs)) (WrongMark at)) ends) (l, omega arith) λ e.
    placed_unless longest_file (not (marked k bs)) (WrongMark at) ends (l, omega arith) λ f.
    placed_if longest_file (ltb (length bs) (size k)) (CutShort at) (l, omega arith)

each_placed : (k : Mark) (n at : ℕ) (bs : List ℕ) → at + n * size k ≤ longest_file → Placed (each_due k n at bs)
unfolding each_due
each_placed k zero at bs l = tt
each_placed k (suc n) at bs l =
    placed_then longest_file (due (due_in k bs) at bs) (each_due k n (at + size k) (drop (size k) bs)) (due_placed (due_in k bs) at bs (omega arith))
    (λ e. each_placed k n (at + size k) (drop (size k) bs) (omega (arith, l, suc-mul n (size k))))

-- a band too, or, where it is a 65th, by its own place
band_placed : (room k at : ℕ) (bs : List ℕ) → at ≤ longest_file → k ≤ most_bands → Placed (band_due room k at bs)
unfolding band_due
band_placed room k at bs l m =
    let more = not (ltb k most_bands) in
    let none = not (ltb k room) in
    placed_unless longest_file (ltb (length bs) (size LB)) (CutShort at) (or_else (refuse_if more (BandOutside k)) (refuse_if none ListShort)) (l, omega arith) λ e.
    placed_unless longest_file more (BandOutside k) (refuse_if none ListShort) (omega arith) λ f.
    placed_if longest_file none ListShort (omega arith)

bands_placed : (most room k at : ℕ) (bs : List ℕ) → k ≤ most_bands → at ≤ bands_from most_resources + k * size LB → Placed (each_band_due most room k at bs)
unfolding each_band_due
bands_placed zero room k at bs m l = tt
bands_placed (suc most) room k at bs m l =
    let rest = each_band_due most room (suc k) (at + size LB) (drop (size LB) bs) in
    by_cases (marked LB bs)
    (λ e.
    rw e
    (placed_then longest_file (band_due room k at bs) rest (band_placed room k at bs (omega arith) m) λ d.
    bands_placed most room (suc k) (at + size LB) (drop (size LB) bs) (taken_is room k at bs d).few (omega arith)))
    (λ e. rw e tt)

-- ---- the header
header_placed : (h : Header) → Placed (header_due h)
unfolding header_due
header_placed h =
    let none = or (eqb h.resources 0) (ltb most_resources h.resources) in
    placed_unless longest_file (ltb 1 h.sense) (WrongMark 0) (or_else (refuse_if (ltb most_tasks h.tasks) TooManyTasks) (refuse_if none ResourceCount)) (omega arith) λ e.
    placed_unless longest_file (ltb most_tasks h.tasks) TooManyTasks (refuse_if none ResourceCount) (omega arith) λ f.
    placed_if longest_file none ResourceCount (omega arith)

-- ---- the body
body_placed : (room : ℕ) (h : Header) (file : List ℕ) → Few h → Placed (body_due room h file)
unfolding body_due bands_due bands_in band_count
body_placed room h file f =
    let r = f.resources in
    let t = f.tasks in
    let from = bands_from h.resources in
    let at = tasks_from h.resources (bands_in h file) in
    let left = refuse_if (ltb (file_end h file) (length file)) (CutShort (file_end h file)) in
    let last = run_due (tasks h.resources) file at h.tasks in
    let banded = bands_due room file from in
    placed_then longest_file (run_due resources file (size PL) h.resources) (or_else banded (or_else last left)) (each_placed resources.due h.resources (size PL) (drop (size PL) file) (omega arith)) λ e.
    placed_then longest_file banded (or_else last left) (bands_placed looked_at room 0 from (drop from file) (omega arith) (omega arith)) λ b.
    let few = (run_is looked_at room 0 from (drop from file) b).few (omega arith) in
    placed_then longest_file last left (each_placed (tasks h.resources).due h.tasks at (drop at file) (omega (arith, few))) λ g.
    placed_if longest_file (ltb (file_end h file) (length file)) (CutShort (file_end h file)) (omega (arith, few))

-- ---- what is read
abbrev PlacedRead : Read → Type 0
PlacedRead (Read.Plan f ts) = Unit {0}
PlacedRead (Read.Refuse f) = PlaceIn longest_file f

unless_placed : (c : Checked) (x : Read) → Placed c → PlacedRead x → PlacedRead (read_unless c x)
unless_placed (Ok _) x p q = q
unless_placed (Err f) x p q = p

checked_placed : (x : Read) → PlacedRead x → PlacedRead (read_checked x)
checked_placed (Read.Plan f ts) p =
    unless_placed (check f ts) (Read.Plan f ts) (placed_more last_place longest_file (omega arith) (check f ts) (check_placed f ts)) tt
checked_placed (Read.Refuse f) p = p

after_placed : (room : ℕ) (h : Header) (file : List ℕ) → Few h → PlacedRead (read_after room h file)
unfolding read_after read_body
after_placed room h file f =
    let x = Read.Plan (frame_in h file) (tasks_in h file) in
    checked_placed (read_unless (body_due room h file) x) (unless_placed (body_due room h file) x (body_placed room h file f) tt)

-- by what the header answers
module _ (file : List ℕ) (next : HeaderAnswer → Read) (refuses : (f : Refusal) → next (Err f) ≡ Read.Refuse f) where
  answer_placed : (c : Checked) (h : Header) → Placed c → (c ≡ accepted → PlacedRead (next (Ok h))) → PlacedRead (next (header_unless c h))
  answer_placed (Ok _) h p q = q refl
  answer_placed (Err f) h p q = rw (refuses f) p

  file_placed : ((h : Header) → Few h → PlacedRead (next (Ok h))) → PlacedRead (next (read_header file))
  unfolding read_header
  file_placed q =
      let h = header_in file in
      answer_placed (or_else (due PL 0 file) (header_due h)) h
      (placed_then longest_file (due PL 0 file) (header_due h) (due_placed PL 0 file (omega arith)) (λ e. header_placed h))
      (λ e. q h (few h (past_all (due PL 0 file) (header_due h) e).1))

-- any refusal of a file: 1 to 6, 8, 9 and 13, and by lists of so many places 11
read_refused : (file : List ℕ) (f : Refusal) → read_plan file ≡ Read.Refuse f → PlaceIn longest_file f
unfolding read_plan
read_refused file f e = subst PlacedRead e (file_placed file (plan_after file) (λ g. refl) (λ h w. after_placed most_bands h file w))

pub read_place : (file : List ℕ) (f : Refusal) → read_plan file ≡ Read.Refuse f → place f ≤ longest_file
read_place file f e = (read_refused file f e).0

-- and none says "no plan"
pub read_number_lem : (file : List ℕ) (f : Refusal) → read_plan file ≡ Read.Refuse f → number f ≢ 7
read_number_lem file f e = (read_refused file f e).1

lent_refused : (places bandRoom room : ℕ) (file : List ℕ) (f : Refusal) → read_lent places bandRoom room file ≡ Read.Refuse f → PlaceIn longest_file f
unfolding read_lent lists_due
lent_refused places bandRoom room file f e =
    subst PlacedRead e (file_placed file (lent_after places bandRoom room file) (λ g. refl) λ h w.
    unless_placed (lists_due places room h) (read_after bandRoom h file)
    (placed_if longest_file (or (ltb places h.resources) (ltb room h.tasks)) ListShort (omega arith)) (after_placed bandRoom h file w))

pub lent_place : (places bandRoom room : ℕ) (file : List ℕ) (f : Refusal) → read_lent places bandRoom room file ≡ Read.Refuse f → place f ≤ longest_file
lent_place places bandRoom room file f e = (lent_refused places bandRoom room file f e).0

pub lent_number : (places bandRoom room : ℕ) (file : List ℕ) (f : Refusal) → read_lent places bandRoom room file ≡ Read.Refuse f → number f ≢ 7
lent_number places bandRoom room file f e = (lent_refused places bandRoom room file f e).1
