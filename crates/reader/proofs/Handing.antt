-- How an element is handed out, by its layout: as what kind of record, and what follows where one of that kind is handed out, or none.
use mathlib.Core.Path.{◌≡◌, refl, sym, ap, ◌∙◌}
use mathlib.Core.List.{List}
use Prim.Native.Nat.{ℕ, ◌+◌}
use lib.ListN.{drop}
use Rattle.std.specs.Prelude.{Ok, Err}
use Rattle.plan.specs.declared.Refusal.{Refusal}
use Rattle.plan.specs.Refusals.{Checked, accepted}
use Rattle.format.specs.declared.Mark.TheVariants.{PL, LB, TK}
use Rattle.format.specs.Format.{Layout, resources, bands, tasks, size, due_in, numbers_in}
use Rattle.format.specs.Reading.{due}
use Rattle.cursor.specs.declared.Record.{Record}
use Rattle.cursor.specs.Handed.{record_in, handed, record_at, not_due}
use Rattle.cursor.proofs.Due.{Other, alone_in, resource_in, plan_taken, resource_taken, band_taken, task_taken, refused}
use Rattle.reader.specs.Taking.{headers, taken_unless, taken_at}
use Rattle.reader.specs.Walking.{plan_record, resource_record, band_record, task_record}

pub record Kind {A : Type 0} (l : Layout A) (made : A → ℕ → Record) : Type 0 where
  pub whole : (at : ℕ) (bs : List ℕ) → record_in (due_in l.due bs) at bs ≡ made (l.from (due_in l.due bs) (numbers_in l.due bs)) (at + size l.due)
  pub taken : (at : ℕ) (bs : List ℕ) {x : A} {past : ℕ} → handed at bs ≡ made x past → (due (due_in l.due bs) at bs ≡ accepted) × (x ≡ l.from (due_in l.due bs) (numbers_in l.due bs)) × (past ≡ at + size l.due)

pub plan_kind : Kind headers plan_record
plan_kind = record { whole = λ at bs. alone_in PL at bs refl; taken = λ at bs e. plan_taken at bs refl e }

pub resource_kind : Kind resources resource_record
resource_kind = record { whole = λ at bs. resource_in at bs; taken = λ at bs e. resource_taken at bs refl e }

pub band_kind : Kind bands band_record
band_kind = record { whole = λ at bs. alone_in LB at bs refl; taken = λ at bs e. band_taken at bs refl e }

pub task_kind : (n : ℕ) → Kind (tasks n) task_record
task_kind n = record { whole = λ at bs. alone_in TK at bs refl; taken = λ at bs e. task_taken at bs refl e }

module _ {A : Type 0} {l : Layout A} {made : A → ℕ → Record} (w : Kind l made) (file : List ℕ) (at : ℕ) {got : Record} (e : got ≡ record_at file at) where
  -- one is handed out: it is taken
  took : {x : A} {past : ℕ} → got ≡ made x past → (due (due_in l.due (drop at file)) at (drop at file) ≡ accepted) × (x ≡ l.from (due_in l.due (drop at file)) (numbers_in l.due (drop at file))) × (past ≡ at + size l.due)
  unfolding record_at
  took g = w.taken at (drop at file) (sym e ∙ g)

  pub took_one : {x : A} {past : ℕ} → got ≡ made x past → Ok x ≡ taken_at l file at
  unfolding taken_at
  took_one g = let t = took g in rw t.0 (ap Ok t.1)

  pub took_past : {x : A} {past : ℕ} → got ≡ made x past → past ≡ at + size l.due
  took_past g = (took g).2

  -- none is: so it is refused
  pub took_none : Other l.due got → Err (not_due l.due at got) ≡ taken_at l file at
  unfolding taken_at record_at
  took_none n = rw (refused at (drop at file) e l.due n)

-- ---- what the answer says
unless_ok : {A : Type 0} (c : Checked) (y : A) {x : A} → taken_unless c y ≡ Ok x → (c ≡ accepted) × (x ≡ y)
unless_ok (Ok _) y {x} e = let same : x ≡ y = cc in (refl, same)
unless_ok (Err f) y e = (cc, cc)

unless_err : {A : Type 0} (c : Checked) (y : A) {f : Refusal} → taken_unless c y ≡ Err f → c ≡ Err f
unless_err (Ok _) y e = cc
unless_err (Err g) y {f} e = let same : g ≡ f = cc in ap Err same

module _ {A : Type 0} (l : Layout A) (file : List ℕ) (at : ℕ) where
  pub one_taken : {x : A} → taken_at l file at ≡ Ok x → (due (due_in l.due (drop at file)) at (drop at file) ≡ accepted) × (x ≡ l.from (due_in l.due (drop at file)) (numbers_in l.due (drop at file)))
  unfolding taken_at
  one_taken e = unless_ok (due (due_in l.due (drop at file)) at (drop at file)) (l.from (due_in l.due (drop at file)) (numbers_in l.due (drop at file))) e

  pub none_taken : {f : Refusal} → taken_at l file at ≡ Err f → due (due_in l.due (drop at file)) at (drop at file) ≡ Err f
  unfolding taken_at
  none_taken e = unless_err (due (due_in l.due (drop at file)) at (drop at file)) (l.from (due_in l.due (drop at file)) (numbers_in l.due (drop at file))) e
