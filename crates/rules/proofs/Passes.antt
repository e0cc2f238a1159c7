-- A pass is a sequence of steps, settling is passes in a row: so what holds of sequences holds of both.
use Rattle.plan.specs.Refusals.{accepted}
use mathlib.Core.Path.{◌≡◌, refl, sym, ap, ◌∙◌, subst}
use Prim.Native.Nat.{ℕ, zero, suc, ◌+◌, ◌≤◌, ◌<◌}
use borrow.Author.Tests.{lt-ltb}
use native.Mathlib.Omega.{arith}
use mathlib.Core.List.{List, [], ◌∷◌, ◌++◌, map}
use Rattle.integers.proofs.Tests.{if-case}
use Rattle.plan.specs.declared.Task.{Task}
use Rattle.rules.specs.Frame.{Frame, resource_count, places_from, places}
use Rattle.rules.specs.Balance.{Outcome, balance}
use Rattle.rules.specs.Balance.Outcome.{NoPlan, Plan}
use Rattle.rules.specs.Step.{resource_step}
use Rattle.rules.specs.Settle.{then, steps, pass, same_tasks, Settled, one_pass_more, unless_same, settle_within}
use Rattle.rules.specs.Settle.Settled.{Refused, After, Unsettled}
use Rattle.rules.specs.Moves.{Move, move, play, one_pass, passes, many_passes}
use Rattle.rules.specs.Moves.Move.{StepOf}
use Rattle.rules.specs.Calls.{check}
use Rattle.rules.proofs.Keeps.{Sound, keeps_then, nothing_then, nothing_sound, play_sound}
use Rattle.rules.specs.Keeps.{Keeps, HoldsNone}

-- ---- a pass
pub then_same : (o : Outcome) (k k' : List Task → Outcome) → ((us : List Task) → k us ≡ k' us) → then o k ≡ then o k'
then_same NoPlan k k' h = refl
then_same (Plan us) k k' h = h us

-- the step of a place is a move
pub move_step : (f : Frame) (r : ℕ) → r < resource_count f → (ts : List Task) → move f (StepOf r) ts ≡ resource_step f r ts
unfolding move
move_step f r l ts = rw (lt-ltb r (resource_count f) l)

steps_play : (f : Frame) (n k : ℕ) → k + n ≤ resource_count f → (ts : List Task) → steps f (places_from k n) ts ≡ play f (map StepOf (places_from k n)) ts
unfolding steps play places_from
steps_play f zero k l ts = refl
steps_play f (suc n) k l ts =
    ap (λ (o : Outcome). then o (steps f (places_from (suc k) n))) (sym (move_step f k (omega arith) ts))
    ∙ then_same (move f (StepOf k) ts) (steps f (places_from (suc k) n)) (play f (map StepOf (places_from (suc k) n))) (steps_play f n (suc k) (omega arith))

pub steps_sound : (f : Frame) (ts : List Task) → check f ts ≡ accepted → Sound f ts (steps f (places f) ts)
unfolding places
steps_sound f ts a = subst (Sound f ts) (sym (steps_play f (resource_count f) 0 (omega arith) ts)) (play_sound f (map StepOf (places f)) ts a)

pub pass_play : (f : Frame) (ts : List Task) → pass f ts ≡ play f (one_pass f) ts
unfolding pass play move places
pass_play f ts =
    then_same (balance ts) (steps f (places f)) (play f (map StepOf (places f))) (steps_play f (resource_count f) 0 (omega arith))

pub pass_sound : (f : Frame) (ts : List Task) → check f ts ≡ accepted → Sound f ts (pass f ts)
pass_sound f ts a = subst (Sound f ts) (sym (pass_play f ts)) (play_sound f (one_pass f) ts a)

-- ---- passes in a row
play_append : (f : Frame) (ms ns : List Move) (ts : List Task) → play f (ms ++ ns) ts ≡ then (play f ms ts) (play f ns)
unfolding play
play_append f [] ns ts = refl
play_append f (m ∷ ms) ns ts =
    then_same (move f m ts) (play f (ms ++ ns)) (λ us. then (play f ms us) (play f ns)) (play_append f ms ns)
    ∙ sym (then_then (move f m ts))
  where
    then_then : (o : Outcome) → then (then o (play f ms)) (play f ns) ≡ then o (λ us. then (play f ms us) (play f ns))
    then_then NoPlan = refl
    then_then (Plan us) = refl

pub passes_play : (k : ℕ) (f : Frame) (ts : List Task) → passes k f ts ≡ play f (many_passes k f) ts
unfolding passes play
passes_play zero f ts = refl
passes_play (suc k) f ts =
    then_same (pass f ts) (passes k f) (play f (many_passes k f)) (passes_play k f)
    ∙ ap (λ (o : Outcome). then o (play f (many_passes k f))) (pass_play f ts)
    ∙ sym (play_append f (one_pass f) (many_passes k f) ts)

-- ---- settling
abbrev pub SettledSound : Frame → List Task → Settled → Type 0
SettledSound f ts Refused = HoldsNone f ts
SettledSound f ts (After n us) = Keeps f ts us
SettledSound f ts (Unsettled us) = Keeps f ts us

more_sound : (f : Frame) (us ts : List Task) (s : Settled) → Keeps f ts us → SettledSound f us s → SettledSound f ts (one_pass_more s)
more_sound f us ts Refused h g = nothing_then h g
more_sound f us ts (After n vs) h g = keeps_then h g
more_sound f us ts (Unsettled vs) h g = keeps_then h g

unless_same_sound : (f : Frame) (ts : List Task) (k : List Task → Settled) (o : Outcome) → Sound f ts o → ((us : List Task) → check f us ≡ accepted → SettledSound f us (k us)) → SettledSound f ts (unless_same k ts o)
unless_same_sound f ts k NoPlan h g = h
unless_same_sound f ts k (Plan us) h g =
    if-case (SettledSound f ts) (same_tasks ts us) (After 1 us) (one_pass_more (k us)) (λ e. h)
    (λ e. more_sound f us ts (k us) h (g us h.accepted))

pub settle_sound : (n : ℕ) (f : Frame) (ts : List Task) → check f ts ≡ accepted → SettledSound f ts (settle_within n f ts)
unfolding settle_within
settle_sound zero f ts a = nothing_sound f ts a
settle_sound (suc n) f ts a =
    unless_same_sound f ts (settle_within n f) (pass f ts) (pass_sound f ts a) (settle_sound n f)
