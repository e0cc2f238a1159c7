-- Any sequence of steps, each on what the one before left, stopping where there is no plan. A place that is not in the list has no
-- step: that move changes nothing (refusal 12 is a call's answer, not a step's).
use Rattle.std.specs.Prelude.{◌≡◌, false, ℕ, zero, suc, ◌≤◌, ◌<◌, List, [], ◌∷◌, ◌++◌, map}
use Rattle.integers.specs.Tests.{if}
use Rattle.plan.specs.declared.Task.{Task}
use Rattle.rules.specs.Frame.{Frame, is_place, places}
use Rattle.rules.specs.Balance.{Outcome, balance}
use Rattle.rules.specs.Balance.Outcome.{Plan}
use Rattle.rules.specs.Step.{resource_step}
use Rattle.rules.specs.Settle.{then, pass, same_tasks}

pub data Move : Type 0 where
  Balance : Move
  StepOf : ℕ → Move

unfoldable pub move : Frame → Move → List Task → Outcome
move f Balance ts = balance ts
move f (StepOf r) ts = if (is_place f r) (resource_step f r ts) (Plan ts)

unfoldable pub play : Frame → List Move → List Task → Outcome
play f [] ts = Plan ts
play f (m ∷ ms) ts = then (move f m ts) (play f ms)

-- a pass as a sequence: balance, then the step of each place
abbrev pub one_pass : Frame → List Move
one_pass f = Balance ∷ map StepOf (places f)

-- so many passes, one after another
unfoldable pub passes : ℕ → Frame → List Task → Outcome
passes zero f ts = Plan ts
passes (suc n) f ts = then (pass f ts) (passes n f)

abbrev pub many_passes : ℕ → Frame → List Move
many_passes zero f = []
many_passes (suc k) f = one_pass f ++ many_passes k f

-- "Settling: passes until one changes nothing. The pass count includes that last one": k passes lead to us, the last of them changed nothing,
-- nor would a pass more, and each pass before the last changed something
pub record Stops (f : Frame) (ts : List Task) (k : ℕ) (us : List Task) : Type 0 where
  pub some : 1 ≤ k
  pub reached : passes k f ts ≡ Plan us
  pub last : (j : ℕ) → suc j ≡ k → passes j f ts ≡ Plan us
  pub settled : pass f us ≡ Plan us
  pub earlier : (j : ℕ) → suc j < k → (vs ws : List Task) → passes j f ts ≡ Plan vs → pass f vs ≡ Plan ws → same_tasks vs ws ≡ false
