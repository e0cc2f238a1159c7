-- What is taken where a record of a kind is due: what it holds, or the refusal.
use Rattle.std.specs.Prelude.{List, ℕ, Result, Ok, Err, drop}
use Rattle.plan.specs.declared.Refusal.{Refusal}
use Rattle.plan.specs.Refusals.{Checked}
use Rattle.format.specs.declared.Mark.TheVariants.{PL}
use Rattle.format.specs.declared.Header.{Header}
use Rattle.format.specs.Format.{Layout, due_in, numbers_in, header_numbers, header_from}
use Rattle.format.specs.Reading.{due}

-- a plan's first record is laid out as an element of a list is
abbrev pub headers : Layout Header
headers = record { mark = λ h. PL; numbers = header_numbers; due = PL; from = λ k. header_from }

module _ {A : Type 0} where
  abbrev pub taken_unless : Checked → A → Result A Refusal
  taken_unless (Ok _) x = Ok x
  taken_unless (Err f) x = Err f

  unfoldable pub taken_at : Layout A → List ℕ → ℕ → Result A Refusal
  taken_at l file at =
      let bs = drop at file in
      taken_unless (due (due_in l.due bs) at bs) (l.from (due_in l.due bs) (numbers_in l.due bs))
