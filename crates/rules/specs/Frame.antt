-- What no step changes, a plan's frame: its sense, its resources, each known by its place in the list, and their bands. "Places count from 0."
use Rattle.std.specs.Prelude.{ℕ, zero, suc, List, [], ◌∷◌, Bool, true, false, eqb, ltb, ℤ, length, get_or}
use Rattle.std.specs.Int.Signed.{le_z}
use Rattle.integers.specs.Tests.{if, and}
use Rattle.plan.specs.declared.Resource.{Resource}
use Rattle.plan.specs.declared.Kind.{Kind}
use Rattle.plan.specs.declared.Kind.TheVariants.{Plain, Held}
use Rattle.plan.specs.declared.Band.{Band}
use Rattle.plan.specs.declared.Sense.{Sense}
use Rattle.plan.specs.Tasks.{no_resource}

pub record Frame : Type 0 where
  pub sense : Sense
  pub resources : List Resource
  pub bands : List Band

abbrev pub framed : Sense → List Resource → List Band → Frame
framed sense qs bs = record { sense = sense; resources = qs; bands = bs }

-- without bands
abbrev pub unbanded : Sense → List Resource → Frame
unbanded sense qs = framed sense qs []

abbrev pub resource_count : Frame → ℕ
resource_count f = length f.resources

abbrev pub is_place : Frame → ℕ → Bool
is_place f r = ltb r (resource_count f)

abbrev pub resource_at : Frame → ℕ → Resource
resource_at f r = get_or f.resources r no_resource

-- n places from k upwards
unfoldable pub places_from : ℕ → ℕ → List ℕ
places_from k zero = []
places_from k (suc n) = k ∷ places_from (suc k) n

-- "each resource in list order"
unfoldable pub places : Frame → List ℕ
places f = places_from 0 (resource_count f)

-- ---- "Levels that change by date."
-- the band is one of this place, and its first day is not after day i
abbrev pub stands : ℕ → ℤ → Band → Bool
stands r i b = and (eqb b.place r) (le_z b.from.0 i)

-- the limit of the last band that stands on day i; x where none does
unfoldable pub limit_from : ℕ → ℤ → List Band → ℤ → ℤ
limit_from r x [] i = x
limit_from r x (b ∷ bs) i = limit_from r (if (stands r i b) b.limit.0 x) bs i

-- the limit of the resource at a place, on a day: "Before a resource's first band its RS limit stands."
unfoldable pub limit_on : Frame → ℕ → ℤ → ℤ
limit_on f r i = limit_from r (resource_at f r).limit.0 f.bands i

-- ---- "Feeders that must hold between jobs too."
abbrev pub is_held : Kind → Bool
is_held Plain = false
is_held Held = true

-- what is asked of a resource: its limit on each day, and whether it is held
pub record Floor : Type 0 where
  pub on : ℤ → ℤ
  pub held : Bool

abbrev pub floor : Kind → (ℤ → ℤ) → Floor
floor k limit = record { on = limit; held = is_held k }

-- of the resource at a place
abbrev pub floor_at : Frame → ℕ → Floor
floor_at f r = floor (resource_at f r).kind (limit_on f r)
