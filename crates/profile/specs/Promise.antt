-- What the stretches of a resource promise to whoever narrows its tasks.
use Rattle.std.specs.Prelude.{◌≡◌, Bool, true, false, List, ℕ, ◌≤◌, ◌<◌, ℤ, pos, length, take, get_or, ◌≤ℤ◌, ◌<ℤ◌, Result, Ok, Err}
use Rattle.std.specs.Int.Signed.{lt_z}
use Rattle.integers.specs.Tests.{any}
use Rattle.integers.specs.Lists.{In}
use Rattle.plan.specs.declared.Task.{Task}
use Rattle.rules.specs.Frame.{Floor}
use Rattle.rules.specs.Step.{shortfall, listed_days}
use Rattle.stretches.specs.declared.Stretch.{Stretch}
use Rattle.stretches.specs.View.{no_stretch}
use Rattle.stretches.specs.Tells.{Tells}
use Rattle.profile.specs.declared.Shortfall.{Shortfall}

-- its days count, and all hopes together are below the limit there
abbrev pub falls_short : Stretch → Bool
falls_short s = lt_z s.tight.0 (pos 0)

-- the first of the stretches whose days count and on which all hopes together are below the limit, or as many as there are
pub record FirstShort (ss : List Stretch) (k : ℕ) : Type 0 where
  pub within : k ≤ length ss
  pub before : (q : ℕ) → q < k → pos 0 ≤ℤ (get_or ss q no_stretch).tight.0
  pub there : k < length ss → (get_or ss k no_stretch).tight.0 <ℤ pos 0

-- the first day of which a test holds
pub record FirstDay (p : ℤ → Bool) (d : ℤ) : Type 0 where
  pub holds : p d ≡ true
  pub first : (i : ℤ) → i <ℤ d → p i ≡ false

-- THE PROMISE: each task told what it needs, a shortfall told as the page has it, and its first day
pub record Profile (r : ℕ) (limit : Floor) (ts : List Task) (ss : List Stretch) (short : Bool) : Type 0 where
  pub short_is : short ≡ any (shortfall r limit ts) (listed_days ts)
  pub day : (k : ℕ) → FirstShort ss k → k < length ss → FirstDay (shortfall r limit ts) (get_or ss k no_stretch).from.0
  pub tells : {t : Task} → In t ts → Tells r limit ts t ss

-- what is answered, the stretches being the first so many of these: how many they are, and on a shortfall the first that falls short too
abbrev pub Answered : ℕ → Floor → List Task → List Stretch → Result ℕ Shortfall → Type 0
Answered r limit ts ss (Ok n) = (n ≤ length ss) × Profile r limit ts (take n ss) false
Answered r limit ts ss (Err s) =
    (s.stretches ≤ length ss) × Profile r limit ts (take s.stretches ss) true × (s.first < s.stretches) × FirstShort (take s.stretches ss) s.first
