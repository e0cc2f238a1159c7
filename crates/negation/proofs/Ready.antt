-- What the entry checks say of the limits and heights of a plan: each lies within its ends, so it can be negated.
use native.Mathlib.Omega.{arith}
use mathlib.Core.List.{List, [], ◌∷◌}
use mathlib.Core.Path.{◌≡◌}
use Prim.Native.Nat.{ℕ, suc, ◌<◌, suc-le-suc}
use lib.ListN.{length, get_or}
use Rattle.integers.specs.Ends.{Within}
use Rattle.integers.specs.Lists.{Each}
use Rattle.integers.specs.Lists.Each.{nothing, also}
use Rattle.integers.proofs.Lists.{each_so, each_all}
use Rattle.plan.specs.declared.Resource.{Resource}
use Rattle.plan.specs.declared.Band.{Band}
use Rattle.plan.specs.declared.Task.{Task}
use Rattle.plan.specs.declared.Sense.TheVariants.{AtLeast}
use Rattle.plan.specs.Powers.{power_ends}
use Rattle.plan.specs.Refusals.{accepted}
use Rattle.plan.specs.Tasks.{no_resource, Bounded}
use Rattle.rules.specs.Frame.{framed}
use Rattle.rules.specs.Calls.{band_ends, check}
use Rattle.rules.proofs.Bands.{ends_in}
use Rattle.rules.proofs.Checks.{accepts}

each_of : {A : Type 0} {P : A → Type 0} (d : A) (xs : List A) → ((k : ℕ) → k < length xs → P (get_or xs k d)) → Each P xs
each_of d [] f = nothing
each_of d (x ∷ xs) f = also (f 0 (omega arith)) (each_of d xs (λ k h. f (suc k) (suc-le-suc h)))

module _ (qs : List Resource) (bs : List Band) (ts : List Task) (a : check (framed AtLeast qs bs) ts ≡ accepted) where
  pub limits_ready : Each (λ q. Within power_ends q.limit.0) qs
  limits_ready = each_of no_resource qs (accepts (framed AtLeast qs bs) ts a).limits

  pub bands_ready : Each (λ b. Within power_ends b.limit.0) bs
  bands_ready = each_so (λ b e. (ends_in b e).limit) (each_all band_ends bs ((accepts (framed AtLeast qs bs) ts a).banded 0).ends)

  pub heights_ready : Each Bounded ts
  heights_ready = each_so (λ t k. k.ranges) (accepts (framed AtLeast qs bs) ts a).tasks
