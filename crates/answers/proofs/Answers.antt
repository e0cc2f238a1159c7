-- The number that a call on a plan file answers can be taken apart, as the C header does it: divided by 2^32 it is the refusal number (0:
-- nothing is refused), and what is left is the place of the refusal, or a number of passes. So no two outcomes share an answer.
use Rattle.std.specs.Prelude.{Ok, Err}
use mathlib.Core.Path.{◌≡◌, refl, sym, ap, ◌∙◌, subst}
use mathlib.Core.Bool.{not}
use mathlib.Core.List.{List}
use Prim.Native.Nat.{ℕ, ◌%◌, ◌^◌, ◌<◌}
use native.Mathlib.Omega.{arith}
use lib.Dec.{ltb}
use lib.ListN.{length}
use Rattle.plan.specs.declared.Task.{Task}
use Rattle.plan.specs.declared.Call.{Call}
use Rattle.plan.specs.declared.Call.TheVariants.{Check, Balance, Step, Pass, Settle, Within, MostPasses}
use Rattle.plan.specs.declared.Refusal.{Refusal}
use Rattle.plan.specs.declared.Refusal.TheVariants.{BufferShort, NoSuchResource}
use Rattle.plan.specs.Refusals.{number, place, Answer, Checked, accepted}
use Rattle.plan.proofs.Refusals.{number_ends, refusal_once}
use Rattle.rules.specs.Frame.{Frame, resource_count}
use Rattle.rules.specs.Balance.{Outcome, balance}
use Rattle.rules.specs.Step.{resource_step}
use Rattle.rules.specs.Settle.{Settled, pass, settle_within, settle, most_passes}
use Rattle.rules.specs.Calls.{refuse_if, check, Result, stepped, settled, unless_refused, placed_in, answered, call_of}
use Rattle.rules.proofs.Within.{settled_within}
use Rattle.rules.proofs.Bounds.{PlacedTo, placed_then, placed_if, rooms_most, settle_small}
use Rattle.format.specs.Reading.{Read, read_plan}
use Rattle.format.specs.Writing.{written, room_for}
use Rattle.format.proofs.Files.{whole}
use Rattle.format.proofs.Refusing.{read_place}
use Rattle.answers.specs.Files.{FileResult, file_result, answer_number, answer_file, lent_due, plan_call, after_read, file_call, read_number, checked, check_file, most_file, refusal_in}
use Rattle.answers.specs.Outcomes.{read_outcome, file_outcome, entry_outcome, check_outcome, most_outcome, Apart}

abbrev Small : Answer → Type 0
Small (Ok passes) = passes < 2 ^ 32
Small (Err f) = place f < 2 ^ 32

apart : (a : Answer) → Small a → Apart (answer_number a) a
apart (Ok passes) h = (refl, h, omega arith)
apart (Err f) h = (omega arith, omega arith)

-- ---- every outcome is small
stepped_small : (ts : List Task) (o : Outcome) → Small (stepped ts o).answer
stepped_small ts Outcome.NoPlan = omega arith
stepped_small ts (Outcome.Plan us) = omega arith

settled_small : (ts : List Task) (s : Settled) → ((k : ℕ) (us : List Task) → s ≡ Settled.After k us → k < 2 ^ 32) → Small (settled ts s).answer
settled_small ts Settled.Refused h = omega arith
settled_small ts (Settled.After k us) h = h k us refl
settled_small ts (Settled.Unsettled us) h = omega arith

most_small : (f : Frame) (ts : List Task) → check f ts ≡ accepted → most_passes ts < 2 ^ 32
most_small f ts ok = let a = rooms_most f ts ok in omega arith

answered_small : (c : Call) (f : Frame) (ts : List Task) → check f ts ≡ accepted → Small (answered c f ts).answer
answered_small Check f ts ok = omega arith
answered_small Balance f ts ok = stepped_small ts (balance ts)
answered_small (Step r) f ts ok = stepped_small ts (resource_step f r ts)
answered_small Pass f ts ok = stepped_small ts (pass f ts)
answered_small Settle f ts ok = settled_small ts (settle f ts) (settle_small f ts ok)
answered_small (Within most) f ts ok =
    settled_small ts (settle_within most f ts) (λ k us e. settle_small f ts ok k us (settled_within f most ts ok k us e).2)
answered_small MostPasses f ts ok = most_small f ts ok

unless_small : (k : Checked) (ts : List Task) (x : Result) → PlacedTo 0 k → Small x.answer → Small (unless_refused k ts x).answer
unless_small (Ok _) ts x p h = h
unless_small (Err e) ts x p h = let q = p.0 in omega arith

call_small : (c : Call) (f : Frame) (ts : List Task) → check f ts ≡ accepted → Small (call_of c f ts).answer
unfolding call_of
call_small c f ts ok =
    let missing = not (placed_in (resource_count f) c) in
    rw ok (unless_small (refuse_if missing NoSuchResource) ts (answered c f ts) (placed_if 0 missing NoSuchResource (omega arith)) (answered_small c f ts ok))

-- 12 and 10 have no place
pub lent_placed : (c : Call) (resources file out : ℕ) → PlacedTo 0 (lent_due c resources file out)
unfolding lent_due room_for
lent_placed c resources file out =
    let missing = not (placed_in resources c) in
    let short = ltb out file in
    placed_then 0 (refuse_if missing NoSuchResource) (refuse_if short BufferShort) (placed_if 0 missing NoSuchResource (omega arith)) (λ e. placed_if 0 short BufferShort (omega arith))

plan_small : (c : Call) (f : Frame) (ts : List Task) (out : List ℕ) → check f ts ≡ accepted → Small (plan_call c f ts out).answer
unfolding plan_call
plan_small c f ts out ok =
    unless_small (lent_due c (resource_count f) (length (written f ts)) (length out)) ts (call_of c f ts)
    (lent_placed c (resource_count f) (length (written f ts)) (length out)) (call_small c f ts ok)

file_place : (file : List ℕ) (e : Refusal) → read_plan file ≡ Read.Refuse e → place e < 2 ^ 32
file_place file e h = let a = read_place file e h in omega arith

outcome_small : (c : Call) (file out : List ℕ) (x : Read) → read_plan file ≡ x → Small (read_outcome c out x)
outcome_small c file out (Read.Plan f ts) h = plan_small c f ts out (whole h).accepted
outcome_small c file out (Read.Refuse e) h = file_place file e h

entry_small : (asked : List Task → ℕ) → ((f : Frame) (ts : List Task) → check f ts ≡ accepted → asked ts < 2 ^ 32) → (file : List ℕ) (x : Read) → read_plan file ≡ x → Small (entry_outcome asked x)
entry_small asked k file (Read.Plan f ts) h = k f ts (whole h).accepted
entry_small asked k file (Read.Refuse e) h = file_place file e h

-- ---- the answer is the outcome's number
result_number : (f : Frame) (out : List ℕ) (a : Answer) (us : List Task) → (answer_file f out a us).answer ≡ answer_number a
result_number f out (Ok n) us = refl
result_number f out (Err e) us = refl

read_number_lem : (c : Call) (out : List ℕ) (x : Read) → (after_read c out x).answer ≡ answer_number (read_outcome c out x)
read_number_lem c out (Read.Plan f ts) = result_number f out (plan_call c f ts out).answer (plan_call c f ts out).tasks
read_number_lem c out (Read.Refuse e) = refl

entry_number : (asked : List Task → ℕ) (x : Read) → read_number asked x ≡ answer_number (entry_outcome asked x)
entry_number asked (Read.Plan f ts) = refl
entry_number asked (Read.Refuse e) = refl

-- ---- so every answer can be taken apart
pub call_apart : (c : Call) (file out : List ℕ) → Apart (file_call c file out).answer (file_outcome c file out)
unfolding file_call
call_apart c file out =
    subst (λ (n : ℕ). Apart n (file_outcome c file out)) (sym (read_number_lem c out (read_plan file)))
    (apart (file_outcome c file out) (outcome_small c file out (read_plan file) refl))

-- of a file that is only looked at
looked_apart : (asked : List Task → ℕ) → ((f : Frame) (ts : List Task) → check f ts ≡ accepted → asked ts < 2 ^ 32) → (file : List ℕ) → Apart (read_number asked (read_plan file)) (entry_outcome asked (read_plan file))
looked_apart asked k file =
    subst (λ (n : ℕ). Apart n (entry_outcome asked (read_plan file))) (sym (entry_number asked (read_plan file)))
    (apart (entry_outcome asked (read_plan file)) (entry_small asked k file (read_plan file) refl))

pub check_apart : (file : List ℕ) → Apart (check_file file) (check_outcome file)
unfolding check_file
check_apart file = looked_apart checked (λ f ts ok. omega arith) file

pub most_apart : (file : List ℕ) → Apart (most_file file) (most_outcome file)
unfolding most_file
most_apart file = looked_apart most_passes most_small file

-- the same, case by case
pub call_done : (c : Call) (file out : List ℕ) (passes : ℕ) → file_outcome c file out ≡ Ok passes → ((file_call c file out).answer ≡ passes) × (passes < 2 ^ 32) × (refusal_in (file_call c file out).answer ≡ 0)
call_done c file out passes e = subst (Apart (file_call c file out).answer) e (call_apart c file out)

pub call_refused : (c : Call) (file out : List ℕ) (f : Refusal) → file_outcome c file out ≡ Err f → (refusal_in (file_call c file out).answer ≡ number f) × ((file_call c file out).answer % 2 ^ 32 ≡ place f)
call_refused c file out f e = subst (Apart (file_call c file out).answer) e (call_apart c file out)

-- ---- and no two outcomes share an answer
pub apart_once : (answer : ℕ) (a b : Answer) → Apart answer a → Apart answer b → a ≡ b
apart_once answer (Ok n) (Ok m) h g = ap Ok (sym h.0 ∙ g.0)
apart_once answer (Ok n) (Err f) h g = let a = (number_ends f).0 in let b = h.2 in let c = g.0 in absurd (omega arith)
apart_once answer (Err f) (Ok n) h g = let a = (number_ends f).0 in let b = g.2 in let c = h.0 in absurd (omega arith)
apart_once answer (Err f) (Err g) h k =
    ap Err (refusal_once f g (sym h.0 ∙ k.0) (sym h.1 ∙ k.1))

pub one_outcome : (c d : Call) (file out file' out' : List ℕ) → (file_call c file out).answer ≡ (file_call d file' out').answer → file_outcome c file out ≡ file_outcome d file' out'
one_outcome c d file out file' out' e =
    apart_once (file_call d file' out').answer (file_outcome c file out) (file_outcome d file' out')
    (subst (λ (n : ℕ). Apart n (file_outcome c file out)) e (call_apart c file out)) (call_apart d file' out')

pub one_check : (file file' : List ℕ) → check_file file ≡ check_file file' → check_outcome file ≡ check_outcome file'
one_check file file' e =
    apart_once (check_file file') (check_outcome file) (check_outcome file')
    (subst (λ (n : ℕ). Apart n (check_outcome file)) e (check_apart file)) (check_apart file')

pub one_most : (file file' : List ℕ) → most_file file ≡ most_file file' → most_outcome file ≡ most_outcome file'
one_most file file' e =
    apart_once (most_file file') (most_outcome file) (most_outcome file')
    (subst (λ (n : ℕ). Apart n (most_outcome file)) e (most_apart file)) (most_apart file')

-- ---- the contract of a call on a plan file is one equation between its answer beside what it leaves and a value of the inputs: it admits one
pub one_file : {x : FileResult} {a b : ℕ} {out later : List ℕ} → file_result a out ≡ x → file_result b later ≡ x → (a ≡ b) × (out ≡ later)
one_file e f = (ap (λ (r : FileResult). r.answer) (e ∙ sym f), ap (λ (r : FileResult). r.out) (e ∙ sym f))
