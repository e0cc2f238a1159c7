-- What is written: "One PL, all RS, all TK, nothing more", and the bands "after all RS and before TK"; and what the writing call answers and leaves.
use Rattle.std.specs.Prelude.{◌≡◌, List, [], ◌∷◌, ◌++◌, Result, Ok, Err, ℕ, ◌+◌, ◌<◌, ◌^◌, ltb, length, drop}
use Rattle.std.proofs.lemmas.List.Edits.{sets}
use Rattle.std.specs.Int.{w32}
use Rattle.std.proofs.Common.{SFits}
use Rattle.integers.specs.Hull.{Range}
use Rattle.integers.specs.Lists.{Each}
use Rattle.plan.specs.declared.Task.{Task}
use Rattle.plan.specs.declared.Resource.{Resource}
use Rattle.plan.specs.declared.Band.{Band}
use Rattle.plan.specs.declared.Refusal.{Refusal}
use Rattle.plan.specs.declared.Refusal.TheVariants.{BufferShort}
use Rattle.plan.specs.Refusals.{Told, told, told_refusal, Checked, accepted}
use Rattle.plan.specs.Days.{days_of}
use Rattle.plan.specs.Powers.{powers_of}
use Rattle.plan.specs.Tasks.{most_resources}
use Rattle.rules.specs.Frame.{Frame, resource_count}
use Rattle.rules.specs.Calls.{or_else, refuse_if, check}
use Rattle.format.specs.declared.Mark.TheVariants.{PL}
use Rattle.format.specs.declared.Header.{Header}
use Rattle.format.specs.Numbers.{bytes_of, unsigned_of}
use Rattle.format.specs.Format.{Layout, resources, bands, tasks, size, record_bytes, header_numbers, sense_number}

-- the records of a list, one after another
module _ {A : Type 0} (l : Layout A) where
  unfoldable pub records_bytes : List A → List ℕ
  records_bytes [] = []
  records_bytes (x ∷ xs) = record_bytes (l.mark x) (l.numbers x) ++ records_bytes xs

  -- each is as long as the record of the mark that is due
  abbrev pub Even : Type 0
  Even = (x : A) → length (record_bytes (l.mark x) (l.numbers x)) ≡ size l.due

-- what a plan's PL record holds
unfoldable pub header_of : Frame → ℕ → Header
header_of f m = record { sense = sense_number f.sense; resources = resource_count f; tasks = m }

-- the bytes of a plan
unfoldable pub written : Frame → List Task → List ℕ
written f ts =
    record_bytes PL (header_numbers (header_of f (length ts)))
    ++ (records_bytes resources f.resources ++ (records_bytes bands f.bands ++ records_bytes (tasks (resource_count f)) ts))

-- ---- what the fields of a record hold: a set or a place of two bytes, signed numbers of four
pub record Small (s : Range) : Type 0 where
  pub low : SFits w32 s.low
  pub high : SFits w32 s.high

pub record TaskSmall (t : Task) : Type 0 where
  pub set : t.set < 2 ^ most_resources
  pub origin : Small (days_of t.origin)
  pub duration : Small (days_of t.duration)
  pub end : Small (days_of t.end)
  pub height : Small (powers_of t.height)

-- "an identifier (any signed 32-bit number, ..)"
abbrev pub Identified : Resource → Type 0
Identified q = SFits w32 q.id

-- "limit from -1,000,000 to 1,000,000": four bytes hold it
abbrev pub Limited : Resource → Type 0
Limited q = SFits w32 q.limit.0

-- a plan that can be written: 32-bit identifiers, which every lent list of resources has, and it passes the checks
pub record Good (f : Frame) (ts : List Task) : Type 0 where
  pub identifiers : Each Identified f.resources
  pub passes : check f ts ≡ accepted

pub record ResourceSmall (q : Resource) : Type 0 where
  pub id : Identified q
  pub limit : Limited q

-- what two bytes hold
abbrev pub two_bytes : ℕ
two_bytes = 2 ^ 16

pub record BandSmall (b : Band) : Type 0 where
  pub place : b.place < two_bytes
  pub from : SFits w32 b.from.0
  pub limit : SFits w32 b.limit.0

-- a range stored at a place: low, then high
abbrev pub range_stored : List ℕ → ℕ → Range → List ℕ
range_stored bs at s = sets (sets bs at (bytes_of 4 (unsigned_of s.low))) (at + 4) (bytes_of 4 (unsigned_of s.high))

-- ---- the writing call
-- how many bytes it wrote, or one refusal
abbrev pub WriteAnswer : Type 0
WriteAnswer = Result ℕ Refusal

-- the first places hold xs, later ones stay
abbrev pub laid {ℓ} : {A : Type ℓ} → List A → List A → List A
laid xs ds = xs ++ drop (length xs) ds

-- the page's number and values of its answer: 0 with the file's length, or the refusal's number with its place
abbrev pub told_write : WriteAnswer → Told
told_write (Ok n) = told 0 (n ∷ [])
told_write (Err f) = told_refusal f

-- the answer, so told, and the buffer's later contents
pub record WriteResult : Type 0 where
  pub answer : Told
  pub buffer : List ℕ

abbrev pub write_result : WriteAnswer → List ℕ → WriteResult
write_result r out = record { answer = told_write r; buffer = out }

abbrev pub written_unless : Checked → List ℕ → List ℕ → WriteResult
written_unless (Ok _) file out = write_result (Ok (length file)) (laid file out)
written_unless (Err f) file out = write_result (Err f) out

-- 10: "output buffer shorter than the file", of such lengths
unfoldable pub room_for : ℕ → ℕ → Checked
room_for file out = refuse_if (ltb out file) BufferShort

-- 1 to 6 and 13, then 10; "the writer writes exactly the file's length"
unfoldable pub write_call : Frame → List Task → List ℕ → WriteResult
write_call f ts out =
    let file = written f ts in
    written_unless (or_else (check f ts) (room_for (length file) (length out))) file out
