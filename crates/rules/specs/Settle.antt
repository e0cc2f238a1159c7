-- "Pass: balance, then the resource step for each resource in list order. Settling: passes until one changes nothing."
use Rattle.std.specs.Prelude.{ℕ, zero, suc, ◌+◌, ◌-◌, List, [], ◌∷◌, Bool, true, false, eqb}
use Rattle.integers.specs.Tests.{if, and}
use Rattle.integers.specs.Hull.{same_range, width}
use Rattle.plan.specs.declared.Task.{Task}
use Rattle.plan.specs.Days.{days_of}
use Rattle.plan.specs.Powers.{powers_of}
use Rattle.plan.specs.Sets.{set_bits, size}
use Rattle.rules.specs.Frame.{Frame, places}
use Rattle.rules.specs.Balance.{Outcome, balance}
use Rattle.rules.specs.Balance.Outcome.{NoPlan, Plan}
use Rattle.rules.specs.Step.{resource_step}

-- a step on what the one before left
abbrev pub then : Outcome → (List Task → Outcome) → Outcome
then NoPlan k = NoPlan
then (Plan ts) k = k ts

-- the resource step for each of these places, in their order
unfoldable pub steps : Frame → List ℕ → List Task → Outcome
steps f [] ts = Plan ts
steps f (r ∷ rs) ts = then (resource_step f r ts) (steps f rs)

unfoldable pub pass : Frame → List Task → Outcome
pass f ts = then (balance ts) (steps f (places f))

-- "changes nothing": the same set and ranges for every task
unfoldable pub same_ranges : Task → Task → Bool
same_ranges a b =
    and (same_range (days_of a.origin) (days_of b.origin))
    (and (same_range (days_of a.duration) (days_of b.duration))
    (and (same_range (days_of a.end) (days_of b.end)) (same_range (powers_of a.height) (powers_of b.height))))

unfoldable pub same_task : Task → Task → Bool
same_task a b = and (eqb a.set b.set) (same_ranges a b)

unfoldable pub same_tasks : List Task → List Task → Bool
same_tasks [] [] = true
same_tasks [] (u ∷ us) = false
same_tasks (t ∷ ts) [] = false
same_tasks (t ∷ ts) (u ∷ us) = and (same_task t u) (same_tasks ts us)

-- settled after so many passes, or no plan; or, where so many passes were too few to settle, what they left
pub data Settled : Type 0 where
  Refused : Settled
  After : ℕ → List Task → Settled
  Unsettled : List Task → Settled

-- "The pass count includes that last one"
abbrev pub one_pass_more : Settled → Settled
one_pass_more Refused = Refused
one_pass_more (After n ts) = After (suc n) ts
one_pass_more (Unsettled ts) = Unsettled ts

abbrev pub unless_same : (List Task → Settled) → List Task → Outcome → Settled
unless_same k ts NoPlan = Refused
unless_same k ts (Plan us) = if (same_tasks ts us) (After 1 us) (one_pass_more (k us))

-- at most n passes
unfoldable pub settle_within : ℕ → Frame → List Task → Settled
settle_within zero f ts = Unsettled ts
settle_within (suc n) f ts = unless_same (settle_within n f) ts (pass f ts)

-- all that could be removed: "for every task the sum of high minus low over its four ranges, plus its number of resources less one"
unfoldable pub room : Task → ℕ
room t =
    width (days_of t.origin) + width (days_of t.duration) + width (days_of t.end) + width (powers_of t.height)
    + (size set_bits t.set - 1)

unfoldable pub rooms : List Task → ℕ
rooms [] = 0
rooms (t ∷ ts) = room t + rooms ts

-- the passes end: within one more than all that could be removed (the law `settle_ends`)
unfoldable pub settle : Frame → List Task → Settled
settle f ts = settle_within (suc (rooms ts)) f ts

-- "How many passes at most": "1 plus all that could be removed"
abbrev pub most_passes : List Task → ℕ
most_passes ts = 1 + rooms ts
