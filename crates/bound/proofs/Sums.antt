-- What is removed of all tasks at most, added up from the front.
use mathlib.Core.Path.{◌≡◌}
use mathlib.Core.List.{List, [], ◌∷◌}
use Prim.Native.Nat.{ℕ, ◌+◌}
use native.Mathlib.Omega.{arith}
use Rattle.std.specs.List.{fold, sum_by}
use Rattle.plan.specs.declared.Task.{Task}
use Rattle.rules.specs.Settle.{room, rooms}

added : (n : ℕ) (ts : List Task) → fold (λ a t. a + room t) n ts ≡ n + rooms ts
unfolding rooms
added n [] = omega arith
added n (t ∷ ts) = omega (arith, added (n + room t) ts)

pub rooms_sum : (ts : List Task) → sum_by room ts ≡ rooms ts
rooms_sum ts = omega (arith, added 0 ts)
