-- Each contract of a call over lent lists is one equation between its answer beside what it leaves and a value of the inputs: it admits one result.
use mathlib.Core.Path.{◌≡◌, sym, ap, ◌∙◌}
use mathlib.Core.List.{List}
use Prim.Native.Nat.{ℕ}
use Rattle.plan.specs.declared.Task.{Task}
use Rattle.plan.specs.declared.Resource.{Resource}
use Rattle.plan.specs.declared.Band.{Band}
use Rattle.plan.specs.Refusals.{told_answer, Answer}
use Rattle.plan.proofs.Refusals.{told_once}
use Rattle.rules.specs.Calls.{ListResult, list_result}
use Rattle.format.specs.Reading.{ReadAnswer, ReadResult, read_result}
use Rattle.format.specs.Writing.{WriteAnswer, WriteResult, write_result}
use Rattle.format.proofs.CallTrips.{write_told_once, read_told_once}

-- two results that are one value agree in each part
agree : {R A : Type 0} (part : R → A) {x y z : R} → x ≡ z → y ≡ z → part x ≡ part y
agree part e f = ap part (e ∙ sym f)

-- the checks, the steps, a pass and settling
pub one_call : {x : ListResult} (a b : Answer) {ts us : List Task} → list_result (told_answer a) ts ≡ x → list_result (told_answer b) us ≡ x → (a ≡ b) × (ts ≡ us)
one_call a b e f = (told_once a b (agree (λ (r : ListResult). r.answer) e f), agree (λ (r : ListResult). r.tasks) e f)

-- reading
pub one_read : {x : ReadResult} (a b : ReadAnswer) {qs rs : List Resource} {bs cs : List Band} {ts us : List Task} → read_result a qs bs ts ≡ x → read_result b rs cs us ≡ x
    → (a ≡ b) × (qs ≡ rs) × (bs ≡ cs) × (ts ≡ us)
one_read a b e f =
    (read_told_once a b (agree (λ (r : ReadResult). r.answer) e f), agree (λ (r : ReadResult). r.resources) e f, agree (λ (r : ReadResult). r.bands) e f, agree (λ (r : ReadResult). r.tasks) e f)

-- writing
pub one_written : {x : WriteResult} (a b : WriteAnswer) {out later : List ℕ} → write_result a out ≡ x → write_result b later ≡ x → (a ≡ b) × (out ≡ later)
one_written a b e f = (write_told_once a b (agree (λ (r : WriteResult). r.answer) e f), agree (λ (r : WriteResult). r.buffer) e f)
