-- What a plan that is ready gives the step of one of its resources; and it stays ready while the lengths of what is lent stay.
use mathlib.Core.Path.{◌≡◌, refl, sym, ◌∙◌}
use mathlib.Core.List.{List}
use Prim.Native.Nat.{ℕ, ◌+◌, ◌<◌}
use native.Mathlib.Omega.{arith}
use lib.ListN.{length, get_or}
use Rattle.plan.specs.declared.Band.{Band}
use Rattle.plan.specs.declared.Resource.{Resource}
use Rattle.plan.specs.declared.Sense.TheVariants.{AtLeast}
use Rattle.plan.specs.declared.Task.{Task}
use Rattle.plan.specs.Refusals.{accepted}
use Rattle.plan.specs.Tasks.{no_resource}
use Rattle.rules.specs.Frame.{framed, is_held, limit_from, limit_on, floor}
use Rattle.rules.specs.Step.{at_least_step, resource_step}
use Rattle.rules.specs.Calls.{check}
use Rattle.rules.proofs.Checks.{accepts}
use Rattle.idle.proofs.Mask.{at_least_step_lem}
use Rattle.held.specs.Held.{room_if}
use Rattle.held.proofs.Room.{room_at}
use Rattle.profile.specs.declared.Work.{Work}
use Rattle.profile.specs.Lent.{Lent, Asks}
use Rattle.step.specs.Kept.{Kept}
use Rattle.passes.specs.Ready.{Ready}

module _ {resources : List Resource} {bands : List Band} {tasks : List Task} {work : Work} (k : Ready resources bands tasks work) where
  pub place_small : (r : ℕ) → r < length resources → r < 64
  place_small r h =
      let l = (accepts (framed AtLeast resources bands) tasks k.accepted).most in
      omega arith

  -- the step of the resource at a place has what it asks
  module _ (r : ℕ) (h : r < length resources) where
    pub ready_asks : Asks r (get_or resources r no_resource).limit bands (length tasks)
    ready_asks =
        let l = accepts (framed AtLeast resources bands) tasks k.accepted in
        record { place = place_small r h; limited = l.limits r h; banded = l.banded r; few_bands = l.few_bands; few = l.few }

    pub ready_lent : Lent (length tasks) (room_if (is_held (get_or resources r no_resource).kind) + length bands) (length work.keys.now) (length work.stretches.now)
    ready_lent =
        let e = k.lent in
        let some = room_at resources r h in
        record { keys_long = omega arith; stretches_long = omega arith }

  pub stays_ready : (us : List Task) (w : Work) → check (framed AtLeast resources bands) us ≡ accepted → length us ≡ length tasks → Kept work w → Ready resources bands us w
  stays_ready us w a e s = record { accepted = a; lent = rw (e, s.keys, s.stretches) k.lent }

-- the step of the resource at a place, as the page has it
pub at_place : (resources : List Resource) (bands : List Band) (r : ℕ) (ts : List Task)
    → at_least_step r (floor (get_or resources r no_resource).kind (limit_from r (get_or resources r no_resource).limit.0 bands)) ts
    ≡ resource_step (framed AtLeast resources bands) r ts
unfolding limit_on
at_place resources bands r ts = sym (at_least_step_lem (framed AtLeast resources bands) refl r ts)

-- what is lent keeps its length over two steps
pub kept_on : {u v w : Work} → Kept u v → Kept v w → Kept u w
kept_on a b = record { keys = b.keys ∙ a.keys; stretches = b.stretches ∙ a.stretches }
