-- The page's wrong programs, shut out by `result_of a ts us ≡ call_of c f ts`, for tasks ts that entered and tasks us that are left: on a plan of
-- the page no answer of such a program keeps it, so no program of its kind does. It is what the engine promises of its own lists, and less than
-- what every public call promises, which fixes us on a refusal too.
use Rattle.std.specs.Prelude.{Ok, Err}
use Rattle.plan.specs.Refusals.{Answer}
use Prim.Native.Nat.{ℕ}
use native.Mathlib.Omega.{arith}
use mathlib.Core.Path.{◌≡◌, sym, ap, ◌∙◌}
use mathlib.Core.Bool.{Bool, true, false, true≢false}
use mathlib.Core.List.{List, []}
use lib.IntN.{nat_abs}
use lib.ListN.{get_or}
use Rattle.plan.specs.declared.Task.{Task}
use Rattle.plan.specs.declared.Call.TheVariants.{Step, Pass, Settle}
use Rattle.plan.specs.declared.Refusal.{Refusal}
use Rattle.plan.specs.Tasks.{no_task}
use Rattle.rules.specs.Calls.{Result, done, call_of, result_of}
use Rattle.rules.specs.Cases.{Case, page_cases, case9_frame, case9_before, case9_stepped, case9_after}
use Rattle.rules.proofs.Cases.{page_cases_lem, case9_calls_lem}

-- ---- the plans: cases 7 and 9 of the page, of two tasks each
abbrev no_case : Case
no_case = record { call = Settle; frame = case9_frame; tasks = []; result = done 0 [] }

abbrev case7 : Case
case7 = get_or page_cases 8 no_case

case7_settles : call_of Settle case7.frame case7.tasks ≡ case7.result
case7_settles = ap (λ (xs : List Result). get_or xs 8 (done 0 [])) page_cases_lem

pub case9_settles : call_of Settle case9_frame case9_before ≡ done 3 case9_after
case9_settles = ap (λ (xs : List Result). get_or xs 10 (done 0 [])) page_cases_lem

case9_steps : call_of (Step 0) case9_frame case9_before ≡ done 0 case9_stepped
case9_steps = ap (λ (xs : List Result). get_or xs 0 (done 0 [])) case9_calls_lem

case9_passes : call_of Pass case9_frame case9_before ≡ done 0 case9_stepped
case9_passes = ap (λ (xs : List Result). get_or xs 1 (done 0 [])) case9_calls_lem

-- the promise for settling each
abbrev Keeps7 : Answer → List Task → Type 0
Keeps7 a us = result_of a case7.tasks us ≡ call_of Settle case7.frame case7.tasks

abbrev Keeps9 : Answer → List Task → Type 0
Keeps9 a us = result_of a case9_before us ≡ call_of Settle case9_frame case9_before

-- ---- what tells two results apart
abbrev is_done : Answer → Bool
is_done (Ok n) = true
is_done (Err f) = false

abbrev passes : Answer → ℕ
passes (Ok n) = n
passes (Err f) = 0

-- of the second task: its set, and its least origin and height (none of them below 0)
abbrev second : List Task → Task
second ts = get_or ts 1 no_task

abbrev low_origin : List Task → ℕ
low_origin ts = nat_abs (second ts).origin.low.0

abbrev low_height : List Task → ℕ
low_height ts = nat_abs (second ts).height.low.0

-- ---- one that refuses everything
pub refuses_everything : (f : Refusal) (us : List Task) → Keeps9 (Err f) us → ⊥
refuses_everything f us h = true≢false (sym (ap (λ x. is_done x.answer) (h ∙ case9_settles)))

-- ---- one that always gives one plan
pub gives_one_plan : (a b : Answer) (us : List Task) → Keeps9 a us → Keeps7 b us → ⊥
gives_one_plan (Err f) b us h k = refuses_everything f us h
gives_one_plan (Ok n) (Err f) us h k = true≢false (sym (ap (λ x. is_done x.answer) (k ∙ case7_settles)))
gives_one_plan (Ok n) (Ok m) us h k =
    let e : ◌≡◌ {A = ℕ} 1 3 = sym (ap (λ x. low_origin x.tasks) (h ∙ case9_settles)) ∙ ap (λ x. low_origin x.tasks) (k ∙ case7_settles) in
    absurd (omega arith)

-- ---- one that changes nothing
pub changes_nothing : (a : Answer) → Keeps9 a case9_before → ⊥
changes_nothing (Err f) h = refuses_everything f case9_before h
changes_nothing (Ok n) h = let e : ◌≡◌ {A = ℕ} 3 1 = ap (λ x. (second x.tasks).set) (h ∙ case9_settles) in absurd (omega arith)

-- ---- one that narrows in the first step only, or in the first pass only: the second pass still finds the second task's least height
ends_early : (us : List Task) → us ≡ case9_stepped → (a : Answer) → Keeps9 a us → ⊥
ends_early us s (Err f) h = refuses_everything f us h
ends_early us s (Ok n) h =
    let e : ◌≡◌ {A = ℕ} 0 3 = sym (ap low_height s) ∙ ap (λ x. low_height x.tasks) (h ∙ case9_settles) in absurd (omega arith)

pub narrows_at_first : (a : Answer) → Keeps9 a (call_of (Step 0) case9_frame case9_before).tasks → ⊥
narrows_at_first = ends_early _ (ap (λ x. x.tasks) case9_steps)

pub passes_once : (a : Answer) → Keeps9 a (call_of Pass case9_frame case9_before).tasks → ⊥
passes_once = ends_early _ (ap (λ x. x.tasks) case9_passes)

-- ---- one with an invented pass count: case 9 has no other, and no one count serves both plans
pub count_is : (n : ℕ) (us : List Task) → Keeps9 (Ok n) us → n ≡ 3
count_is n us h = ap (λ x. passes x.answer) (h ∙ case9_settles)

pub counts_alike : (n : ℕ) (us vs : List Task) → Keeps9 (Ok n) us → Keeps7 (Ok n) vs → ⊥
counts_alike n us vs h k =
    let e : ◌≡◌ {A = ℕ} 3 2 = sym (count_is n us h) ∙ ap (λ x. passes x.answer) (k ∙ case7_settles) in absurd (omega arith)
