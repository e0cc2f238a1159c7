-- The least that all stretches leave, and whether a task asks for more.
use Rattle.std.specs.Prelude.{Bool, List, fold, ℕ, ◌<◌, length, get_or, ◌≤ℤ◌}
use Rattle.std.specs.Int.Signed.{lt_z}
use Rattle.integers.specs.Whole.{smaller}
use Rattle.integers.specs.Tests.{and, or}
use Rattle.plan.specs.declared.Task.{Task}
use Rattle.plan.specs.declared.Power.{Power}
use Rattle.plan.specs.Powers.{power}
use Rattle.plan.specs.Sets.{has}
use Rattle.stretches.specs.declared.Stretch.{Stretch}
use Rattle.stretches.specs.View.{no_stretch}
use Rattle.stretches.specs.Asks.{bar_of, lift_of}
use Rattle.stretches.specs.Tells.{big}
use Rattle.step.specs.declared.Least.{Least}
use Rattle.idle.specs.Lively.{lively}

abbrev pub lowered : Least → Stretch → Least
lowered l s = record { slack = power (smaller l.slack.0 s.slack.0); tight = power (smaller l.tight.0 s.tight.0) }

-- of all stretches; where there is none it is more than any slack
unfoldable pub least_of : List Stretch → Least
least_of ss = fold lowered (record { slack = power big; tight = power big }) ss

-- no stretch has less
abbrev pub Under : Least → List Stretch → Type 0
Under l ss = (k : ℕ) → k < length ss → (l.slack.0 ≤ℤ (get_or ss k no_stretch).slack.0) × (l.tight.0 ≤ℤ (get_or ss k no_stretch).tight.0)

-- a bar could touch the task where the slack is so low
unfoldable pub can_be_barred : Task → Power → Bool
can_be_barred t slack = and (lt_z slack.0 (bar_of t)) (lively t)

-- the task may stand on r, and is barred, needed or raised somewhere only if some stretch leaves less than it asks
unfoldable pub asks_more : ℕ → Task → Least → Bool
asks_more r t l = and (has t.set r) (or (can_be_barred t l.slack) (lt_z l.tight.0 (lift_of t)))
