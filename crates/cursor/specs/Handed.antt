-- What the reader hands out at a place, and what every answer but the record that is due becomes.
use Rattle.std.specs.Prelude.{List, Bool, ℕ, ◌+◌, ltb, length, drop}
use Rattle.integers.specs.Tests.{if}
use Rattle.plan.specs.declared.Refusal.{Refusal}
use Rattle.plan.specs.declared.Refusal.TheVariants.{WrongMark, CutShort}
use Rattle.format.specs.declared.Mark.{Mark}
use Rattle.format.specs.declared.Mark.TheVariants.{PL, RS, RH, LB, TK}
use Rattle.format.specs.Format.{mark, mark_size, marked, due_in, size, numbers_in, header_from, resource_from, band_from, task_from}
use Rattle.cursor.specs.declared.Record.{Record}

-- the record that a mark announces, with the place past it
abbrev pub record_in : Mark → ℕ → List ℕ → Record
record_in PL at bs = Record.Plan (header_from (numbers_in PL bs)) (at + size PL)
record_in RS at bs = Record.Resource (resource_from RS (numbers_in RS bs)) (at + size RS)
record_in RH at bs = Record.Resource (resource_from RH (numbers_in RH bs)) (at + size RH)
record_in LB at bs = Record.Band (band_from (numbers_in LB bs)) (at + size LB)
record_in TK at bs = Record.Task (task_from (numbers_in TK bs)) (at + size TK)

-- unless it is longer than the rest
abbrev pub record_of : Mark → ℕ → List ℕ → Record
record_of k at bs = if (ltb (length bs) (size k)) (Record.CutShort k) (record_in k at bs)

-- the mark that the bytes begin with, if with any
unfoldable pub standing : List ℕ → Mark
standing bs = if (marked PL bs) PL (if (marked RS bs) RS (if (marked RH bs) RH (if (marked LB bs) LB TK)))

unfoldable pub handed : ℕ → List ℕ → Record
handed at bs =
    if (ltb (length bs) mark_size) Record.Ended
    (if (marked (standing bs) bs) (record_of (standing bs) at bs) Record.NoMark)

unfoldable pub record_at : List ℕ → ℕ → Record
record_at file at = handed at (drop at file)

-- the place past a record that is handed out at a place; where no whole one is, the place itself
abbrev pub past_in : ℕ → Record → ℕ
past_in at (Record.Plan h past) = past
past_in at (Record.Resource q past) = past
past_in at (Record.Band b past) = past
past_in at (Record.Task t past) = past
past_in at (Record.CutShort k) = at
past_in at Record.NoMark = at
past_in at Record.Ended = at

-- past what stands at a place: where the next record is looked for
unfoldable pub past_at : List ℕ → ℕ → ℕ
past_at file at = past_in at (record_at file at)

abbrev pub same_mark : Mark → Mark → Bool
same_mark j k = marked k (mark j)

-- a mark that stands where another is due is that one, or the one in its place
abbrev pub stands_for : Mark → Mark → Bool
stands_for j k = same_mark j (due_in k (mark j))

-- "each caller takes the record it is due and turns every other answer into the refusal"
abbrev pub not_due : Mark → ℕ → Record → Refusal
not_due k at Record.Ended = CutShort at
not_due k at (Record.CutShort j) = if (stands_for j k) (CutShort at) (WrongMark at)
not_due k at (Record.Plan h past) = WrongMark at
not_due k at (Record.Resource q past) = WrongMark at
not_due k at (Record.Band b past) = WrongMark at
not_due k at (Record.Task t past) = WrongMark at
not_due k at Record.NoMark = WrongMark at
