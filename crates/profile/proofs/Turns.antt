-- Changes of what is asked of a resource: from a start on they add up to the limit of each day, and they make the held days count.
use mathlib.Core.Path.{◌≡◌, ◌∙◌}
use mathlib.Core.Bool.{true}
use mathlib.Core.List.{List, ◌++◌}
use Prim.Native.Nat.{ℕ}
use lib.IntN.{ℤ, pos, neg_ℤ, ◌+ℤ◌, +ℤ_idl, +ℤ_idr}
use lib.Signed.{◌≤ℤ◌, ◌<ℤ◌, lt_z}
use Rattle.integers.specs.Hull.{Range, within}
use Rattle.integers.specs.Ends.{Within}
use Rattle.integers.specs.Lists.{Each}
use Rattle.integers.specs.Sums.{sum_of}
use Rattle.integers.proofs.Tests.{and_in, all_append}
use Rattle.integers.proofs.Sums.{sum_append}
use Rattle.plan.specs.declared.Band.{Band}
use Rattle.plan.specs.declared.Kind.{Kind}
use Rattle.plan.specs.declared.Task.{Task}
use Rattle.plan.specs.Tasks.{Bounded}
use Rattle.plan.specs.Powers.{power_ends}
use Rattle.rules.specs.Frame.{limit_from, Floor, floor}
use Rattle.rules.specs.Step.{counts}
use Rattle.rules.specs.Rises.{early, Banded}
use Rattle.events.specs.Keys.{day_of, power_of, sure_of}
use Rattle.events.specs.Extremes.{extremes_of, no_extremes}
use Rattle.events.proofs.Adds.{up_to, sure_one}
use Rattle.events.proofs.Covers.{reach_of}
use Rattle.events.proofs.Days.{on_days}
use Rattle.levels.specs.Levels.{band_keys}
use Rattle.levels.proofs.Adds.{bands_add, bands_sure, bands_within}
use Rattle.held.specs.Held.{held_keys}
use Rattle.held.proofs.Adds.{held_power, held_counts, held_within}

-- on every day from the first of a reach on and before its last, start x and the keys up to that day are the limit, negated; with the sure tasks
-- they make the days count that the page has, and they lie within the reach
pub record Turns (r : ℕ) (ts : List Task) (reach : Range) (limit : Floor) (x : ℤ) (ks : List ℕ) : Type 0 where
  pub adds : (i : ℤ) → reach.low ≤ℤ i → i <ℤ reach.high → neg_ℤ x +ℤ sum_of (up_to power_of i) ks ≡ neg_ℤ (limit.on i)
  pub counted : (i : ℤ) → lt_z (pos 0) (sum_of (sure_one r i) ts +ℤ sum_of (up_to sure_of i) ks) ≡ counts r limit ts i
  pub days : on_days (within reach) ks ≡ true

-- the bands of a resource are such changes, behind the span of a held one
pub floor_turns : (r : ℕ) (k : Kind) (x : ℤ) (bs : List Band) (ts : List Task) → Banded r bs → Within power_ends x → Each Bounded ts →
    let reach = reach_of r (extremes_of r no_extremes ts) in
    Turns r ts reach (floor k (limit_from r x bs)) (limit_from r x bs reach.low) (held_keys r k ts ++ band_keys r reach.low reach.high x bs)
floor_turns r k x bs ts b e fit =
    let reach = reach_of r (extremes_of r no_extremes ts) in
    let low = reach.low in
    let high = reach.high in
    let held = held_keys r k ts in
    let keys = band_keys r low high x bs in
    record {
      adds = λ i from to.
          rw (sum_append (up_to power_of i) held keys, held_power r ts fit k i, +ℤ_idl (sum_of (up_to power_of i) keys))
          (bands_add r low high i from to early x bs b.ends e b.rises);
      counted = λ i.
          rw (sum_append (up_to sure_of i) held keys, bands_sure r low high i x bs b.ends e, +ℤ_idr (sum_of (up_to sure_of i) held))
          (held_counts r ts fit k (limit_from r x bs) i);
      days = all_append (λ k. within reach (day_of k)) held keys
          ∙ and_in (on_days (within reach) held) (on_days (within reach) keys) (held_within r ts fit k) (bands_within r low high x bs b.ends e);
    }
