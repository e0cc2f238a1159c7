-- Each call by its refusals: 1 to 6 and 13, then 12, then 7; and what a call leaves holds the same allowed plans.
use Rattle.std.specs.Prelude.{Ok, Err}
use mathlib.Core.Path.{◌≡◌, refl, sym, ap, subst, ◌∙◌}
use mathlib.Core.Bool.{true, false, not}
use mathlib.Core.List.{List}
use Prim.Native.Nat.{ℕ, suc, ◌≤◌}
use native.Mathlib.Omega.{arith}
use lib.ListN.{length}
use borrow.Author.Tests.{ltb-true}
use Rattle.integers.proofs.Tests.{by_cases}
use Rattle.plan.specs.declared.Task.{Task}
use Rattle.plan.specs.declared.Call.{Call}
use Rattle.plan.specs.declared.Call.TheVariants.{Check, Balance, Step, Pass, Settle, Within, MostPasses}
use Rattle.plan.specs.declared.Refusal.{Refusal}
use Rattle.plan.specs.declared.Refusal.TheVariants.{NoPlan, NoSuchResource}
use Rattle.plan.specs.Refusals.{told_answer, Answer, Checked, accepted}
use Rattle.plan.specs.Tasks.{most_tasks}
use Rattle.rules.specs.Frame.{Frame, resource_count}
use Rattle.rules.specs.Balance.{Outcome, balance}
use Rattle.rules.specs.Step.{resource_step}
use Rattle.rules.specs.Settle.{Settled, pass, settle_within, settle, rooms, most_passes}
use Rattle.rules.specs.Calls.{or_else, refuse_if, check, Result, done, refused, unless_refused, stepped, settled, placed_in, answered, call_of, list_result, list_call}
use Rattle.rules.proofs.Checks.{accepts}
use Rattle.rules.proofs.Keeps.{Sound, balance_sound, step_sound, nothing_sound}
use Rattle.rules.specs.Keeps.{Keeps, HoldsNone}
use Rattle.rules.proofs.Passes.{pass_sound, SettledSound, settle_sound}

module _ (c : Call) (f : Frame) (ts : List Task) where
  pub call_refused : (e : Refusal) → check f ts ≡ Err e → call_of c f ts ≡ refused e ts
  unfolding call_of
  call_refused e h = rw h

  pub call_unplaced : check f ts ≡ accepted → placed_in (resource_count f) c ≡ false → call_of c f ts ≡ refused NoSuchResource ts
  unfolding call_of
  call_unplaced a h = rw (a, h)

  pub call_answered : check f ts ≡ accepted → placed_in (resource_count f) c ≡ true → call_of c f ts ≡ answered c f ts
  unfolding call_of
  call_answered a h = rw (a, h)

-- ---- what a call answers and leaves of an accepted plan: the same allowed plans; 7 only where there is none; on a refusal what entered
pub record Fair (f : Frame) (ts : List Task) (x : Result) : Type 0 where
  pub keeps : Keeps f ts x.tasks
  pub none : x.answer ≡ Err NoPlan → HoldsNone f ts

module _ (f : Frame) (ts : List Task) where
  not_done : {P : Type 0} (n : ℕ) → ◌≡◌ {A = Answer} (Ok n) (Err NoPlan) → P
  not_done n e = let q : ◌≡◌ {A = ℕ} 0 1 = cc in absurd (omega arith)

  pub refused_fair : (e : Refusal) → check f ts ≡ accepted → (◌≡◌ {A = Answer} (Err e) (Err NoPlan) → HoldsNone f ts) → Fair f ts (refused e ts)
  refused_fair e a h = record { keeps = nothing_sound f ts a; none = h }

  stepped_fair : (o : Outcome) → check f ts ≡ accepted → Sound f ts o → Fair f ts (stepped ts o)
  stepped_fair Outcome.NoPlan a h = refused_fair NoPlan a (λ e. h)
  stepped_fair (Outcome.Plan us) a h = record { keeps = h; none = not_done 0 }

  settled_fair : (s : Settled) → check f ts ≡ accepted → SettledSound f ts s → Fair f ts (settled ts s)
  settled_fair Settled.Refused a h = refused_fair NoPlan a (λ e. h)
  settled_fair (Settled.After n us) a h = record { keeps = h; none = not_done n }
  settled_fair (Settled.Unsettled us) a h = record { keeps = h; none = not_done _ }

  answered_fair : (c : Call) → check f ts ≡ accepted → placed_in (resource_count f) c ≡ true → Fair f ts (answered c f ts)
  unfolding settle
  answered_fair Check a p = stepped_fair (Outcome.Plan ts) a (nothing_sound f ts a)
  answered_fair Balance a p = stepped_fair (balance ts) a (balance_sound f ts a)
  answered_fair (Step r) a p = stepped_fair (resource_step f r ts) a (step_sound f r (ltb-true r (resource_count f) p) ts a)
  answered_fair Pass a p = stepped_fair (pass f ts) a (pass_sound f ts a)
  answered_fair Settle a p = settled_fair (settle f ts) a (settle_sound (suc (rooms ts)) f ts a)
  answered_fair (Within most) a p = settled_fair (settle_within most f ts) a (settle_sound most f ts a)
  answered_fair MostPasses a p = record { keeps = nothing_sound f ts a; none = not_done (most_passes ts) }

  pub call_fair : (c : Call) → check f ts ≡ accepted → Fair f ts (call_of c f ts)
  call_fair c a =
      by_cases (placed_in (resource_count f) c)
      (λ p. subst (Fair f ts) (sym (call_answered c f ts a p)) (answered_fair c a p))
      (λ p. subst (Fair f ts) (sym (call_unplaced c f ts a p)) (refused_fair NoSuchResource a (λ e. let q : ◌≡◌ {A = ℕ} 0 1 = cc in absurd (omega arith))))

  pub call_keeps : (c : Call) (n : ℕ) (us : List Task) → check f ts ≡ accepted → call_of c f ts ≡ done n us → Keeps f ts us
  call_keeps c n us a e = subst (Keeps f ts) (ap (λ (x : Result). x.tasks) e) (call_fair c a).keeps

-- ---- on a refusal the tasks are those that entered, whatever the lists
abbrev pub Stays : List Task → Result → Type 0
Stays ts x = ((told_answer x.answer).number ≡ 0 → ⊥) → x.tasks ≡ ts

stepped_stays : (ts : List Task) (o : Outcome) → Stays ts (stepped ts o)
stepped_stays ts Outcome.NoPlan h = refl
stepped_stays ts (Outcome.Plan us) h = absurd (h refl)

settled_stays : (ts : List Task) (s : Settled) → Stays ts (settled ts s)
settled_stays ts Settled.Refused h = refl
settled_stays ts (Settled.After n us) h = absurd (h refl)
settled_stays ts (Settled.Unsettled us) h = absurd (h refl)

answered_stays : (c : Call) (f : Frame) (ts : List Task) → Stays ts (answered c f ts)
answered_stays Check f ts = stepped_stays ts (Outcome.Plan ts)
answered_stays Balance f ts = stepped_stays ts (balance ts)
answered_stays (Step r) f ts = stepped_stays ts (resource_step f r ts)
answered_stays Pass f ts = stepped_stays ts (pass f ts)
answered_stays Settle f ts = settled_stays ts (settle f ts)
answered_stays (Within most) f ts = settled_stays ts (settle_within most f ts)
answered_stays MostPasses f ts = λ h. refl

pub unless_stays : (k : Checked) (ts : List Task) (x : Result) → Stays ts x → Stays ts (unless_refused k ts x)
unless_stays (Ok _) ts x h = h
unless_stays (Err e) ts x h = λ g. refl

pub call_stays : (c : Call) (f : Frame) (ts : List Task) → Stays ts (call_of c f ts)
unfolding call_of
call_stays c f ts =
    unless_stays (or_else (check f ts) (refuse_if (not (placed_in (resource_count f) c)) NoSuchResource)) ts (answered c f ts) (answered_stays c f ts)

-- ---- a call that is done was accepted
pub call_few : (c : Call) (f : Frame) (ts : List Task) (n : ℕ) (us : List Task) → call_of c f ts ≡ done n us → length ts ≤ most_tasks
call_few c f ts n us e = go (check f ts) refl
  where
    go : (k : Checked) → check f ts ≡ k → length ts ≤ most_tasks
    go (Ok _) h = (accepts f ts h).few
    go (Err r) h = let q : ◌≡◌ {A = Answer} (Err r) (Ok n) = ap (λ (x : Result). x.answer) (sym (call_refused c f ts r h) ∙ e) in cc

-- ---- the answer, told in the page's number and values
pub list_told : (c : Call) (f : Frame) (ts : List Task) (a : Answer) (us : List Task) → record { answer = a; tasks = us } ≡ call_of c f ts → list_result (told_answer a) us ≡ list_call c f ts
unfolding list_call
list_told c f ts a us e = ap (λ (x : Result). list_result (told_answer x.answer) x.tasks) e
