-- What one identifier says of another, whether it is one of several, and what is promised of lists of which the first places are held.
use Rattle.std.specs.Prelude.{◌≡◌, Bool, List, ℕ, ◌≤◌, ℤ, length, take}
use Rattle.std.specs.List.{list_any}
use Rattle.std.specs.Int.Signed.{lt_z}
use Rattle.integers.specs.Whole.{eq_z}
use Rattle.plan.specs.declared.Task.{Task}
use Rattle.plan.specs.declared.Resource.{Resource}
use Rattle.plan.specs.declared.Band.{Band}
use Rattle.plan.specs.Refusals.{Checked}
use Rattle.plan.specs.Tasks.{most_resources, most_bands, most_tasks}
use Rattle.rules.specs.Frame.{Frame, resource_count}
use Rattle.rules.specs.Calls.{check}

abbrev pub below_id : Resource → Resource → Bool
below_id q r = lt_z q.id r.id

abbrev pub is_among : ℤ → List Resource → Bool
is_among x qs = list_any (λ q. eq_z x q.id) qs

-- a plan of so many resources, bands and tasks: these lists hold its resources and tasks whole, where there are not too many, and its first
-- bands, which are all that refusal 13 looks at
pub record Held (f : Frame) (ts : List Task) (resources bands tasks : ℕ) (qs : List Resource) (bs : List Band) (us : List Task) : Type 0 where
  pub resources_many : resource_count f ≡ resources
  pub bands_many : length f.bands ≡ bands
  pub tasks_many : length ts ≡ tasks
  pub resources_held : resource_count f ≤ most_resources → qs ≡ f.resources
  pub bands_held : bs ≡ take most_bands f.bands
  pub tasks_held : length ts ≤ most_tasks → us ≡ ts

abbrev pub ChecksHeld : ℕ → ℕ → ℕ → List Resource → List Band → List Task → Checked → Type 0
ChecksHeld resources bands tasks qs bs us r =
    (f : Frame) (ts : List Task) → Held f ts resources bands tasks qs bs us → r ≡ check f ts
