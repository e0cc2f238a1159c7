-- The checks of a plan of which the first places are held.
use mathlib.Core.Path.{◌≡◌, refl, sym, ◌∙◌}
use mathlib.Core.List.{List, []}
use Prim.Native.Nat.{ℕ, ◌<◌, ◌≤◌}
use native.Mathlib.Omega.{arith}
use lib.ListN.{length}
use borrow.Author.Tests.{lt-ltb, le-ltb, eq-eqb, ne_eqb}
use lib.Seq.{take_all}
use Rattle.plan.specs.declared.Sense.{Sense}
use Rattle.plan.specs.declared.Task.{Task}
use Rattle.plan.specs.declared.Resource.{Resource}
use Rattle.plan.specs.declared.Band.{Band}
use Rattle.plan.specs.declared.Refusal.TheVariants.{TooManyTasks, ResourceCount}
use Rattle.plan.specs.Tasks.{most_tasks, most_resources, most_bands}
use Rattle.rules.specs.Frame.{Frame, framed, resource_count}
use Rattle.rules.specs.Calls.{or_else, repeats, limits, bands_fit, tasks_fit, check}
use Rattle.std.proofs.Common.{Err}
use Rattle.bands.proofs.Firsts.{too_many, bands_first}
use Rattle.entry.specs.Checks.{Held}

module _ {n k m : ℕ} {qs : List Resource} {bs : List Band} {us : List Task} {f : Frame} {ts : List Task} (h : Held f ts n k m qs bs us) where
  pub held_tasks : most_tasks < m → Err TooManyTasks ≡ check f ts
  unfolding check
  held_tasks g = rw (lt-ltb most_tasks (length ts) (omega (arith, h.tasks_many)))

  pub held_none : m ≤ most_tasks → n ≡ 0 → Err ResourceCount ≡ check f ts
  unfolding check
  held_none g e = rw (le-ltb most_tasks (length ts) (omega (arith, h.tasks_many)), eq-eqb (resource_count f) 0 (omega (arith, h.resources_many)))

  pub held_resources : m ≤ most_tasks → most_resources < n → Err ResourceCount ≡ check f ts
  unfolding check
  held_resources g l = let n = h.resources_many in
      rw (le-ltb most_tasks (length ts) (omega (arith, h.tasks_many)), ne_eqb (resource_count f) 0 (λ e. omega arith), lt-ltb most_resources (resource_count f) (omega arith))

  pub held_contents : m ≤ most_tasks → 0 < n → n ≤ most_resources
      → or_else (repeats 0 [] qs) (or_else (limits 0 qs) (or_else (or_else (bands_fit (length qs) bs) (too_many k)) (tasks_fit (length qs) 0 us))) ≡ check f ts
  unfolding check
  held_contents g p l = let e = h.resources_many in
      let d = h.tasks_many in
      let b = bands_first (length f.resources) f.bands in
      rw (le-ltb most_tasks (length ts) (omega arith), ne_eqb (resource_count f) 0 (λ e. omega arith), le-ltb most_resources (resource_count f) (omega arith))
      (rw (h.resources_held (omega arith), h.tasks_held (omega arith), h.bands_held, sym h.bands_many, b) refl)

  -- few enough to be held whole
  pub held_whole : (sense : Sense) → m ≤ most_tasks → n ≤ most_resources → k ≤ most_bands → check (framed sense qs bs) us ≡ check f ts
  unfolding check
  held_whole sense g l b =
      let e = h.resources_many in
      let d = h.tasks_many in
      let c = h.bands_many in
      let whole : bs ≡ f.bands = h.bands_held ∙ take_all most_bands f.bands (omega arith) in
      rw (h.resources_held (omega arith), h.tasks_held (omega arith), whole) refl
