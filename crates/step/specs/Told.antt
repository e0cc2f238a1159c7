-- What the stretches have to tell a step, and what the step then gives.
use Rattle.std.specs.Prelude.{◌≡◌, false, List, ℕ}
use Rattle.integers.specs.Tests.{any}
use Rattle.integers.specs.Lists.{In}
use Rattle.plan.specs.declared.Task.{Task}
use Rattle.rules.specs.Frame.{Floor}
use Rattle.rules.specs.Balance.{Outcome, each}
use Rattle.rules.specs.Step.{shortfall, listed_days, narrowed}
use Rattle.stretches.specs.declared.Stretch.{Stretch}
use Rattle.stretches.specs.Tells.{Tells}

-- they tell every task what it needs, and no day falls short
pub record TellsAll (r : ℕ) (limit : Floor) (ts : List Task) (ss : List Stretch) : Type 0 where
  pub tells : {t : Task} → In t ts → Tells r limit ts t ss
  pub enough : any (shortfall r limit ts) (listed_days ts) ≡ false

-- for every limit that they tell of, what the page leaves of each task
abbrev pub EachByPage : ℕ → List Task → List Stretch → Outcome → Type 0
EachByPage r ts ss out = (limit : Floor) → TellsAll r limit ts ss → out ≡ each (narrowed r limit ts (listed_days ts)) ts
