-- The room for a held resource's span: enough for the largest plan, enough for each of a plan's resources, the same whatever their limits.
use mathlib.Core.Path.{◌≡◌, refl, ap₂}
use mathlib.Core.Bool.{Bool, true, false}
use mathlib.Core.List.{List, [], ◌∷◌, map}
use Prim.Native.Nat.{ℕ, ◌≤◌, ◌<◌}
use native.Mathlib.Omega.{arith}
use lib.ListN.{length, get_or}
use Rattle.integers.specs.Tests.{or, any}
use Rattle.integers.proofs.Lists.{in_at, in_any}
use Rattle.plan.specs.declared.Resource.{Resource}
use Rattle.plan.specs.Tasks.{no_resource}
use Rattle.rules.specs.Frame.{is_held}
use Rattle.held.specs.Held.{held_events, room_if, some_held}

pub room_most : (held : Bool) → room_if held ≤ held_events
room_most true = omega arith
room_most false = omega arith

room_grows : (a b : Bool) → (a ≡ true → b ≡ true) → room_if a ≤ room_if b
room_grows true b h = rw (h refl) (omega arith)
room_grows false b h = omega arith

pub room_at : (qs : List Resource) (r : ℕ) → r < length qs → room_if (is_held (get_or qs r no_resource).kind) ≤ room_if (some_held qs)
unfolding some_held
room_at qs r h =
    room_grows (is_held (get_or qs r no_resource).kind) (any (λ q. is_held q.kind) qs) (λ e. in_any (λ q. is_held q.kind) (in_at no_resource r qs h) e)

pub held_map : (g : Resource → Resource) → ((q : Resource) → is_held (g q).kind ≡ is_held q.kind) → (qs : List Resource) → some_held (map g qs) ≡ some_held qs
unfolding some_held any
held_map g h [] = refl
held_map g h (q ∷ qs) = ap₂ or (h q) (held_map g h qs)
