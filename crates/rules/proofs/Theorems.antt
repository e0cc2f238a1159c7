-- What follows from the page alone, as statements; the proofs are in the other files. `plans f ts` lists every allowed plan inside the sets
-- and ranges of ts, `count` is its length, `check f ts ≡ accepted` says that ts passes the entry checks, `Keeps f ts us` that us has the very
-- same allowed plans, passes the checks again and lies inside ts, `HoldsNone f ts` that ts has none. Nothing is asked of the ranges beyond the
-- checks: they may be unbalanced. The frame f is what no step changes.
use Rattle.plan.specs.Refusals.{accepted}
use mathlib.Core.Path.{◌≡◌, ap, subst}
use Prim.Native.Nat.{ℕ, suc, ◌≤◌, ◌<◌}
use mathlib.Core.List.{List, [], ◌∷◌, map}
use mathlib.Core.Bool.{true, false}
use lib.ListN.{length}
use lib.IntN.{ℤ}
use Rattle.integers.specs.Whole.{eq_z}
use Rattle.integers.specs.Tests.{if, and, filter, all, any}
use Rattle.integers.specs.Lists.{In}
use Rattle.integers.proofs.Lists.{each_in}
use Rattle.plan.specs.declared.Task.{Task}
use Rattle.rules.specs.Frame.{Frame, resource_count, Floor}
use Rattle.rules.specs.Allowed.{Choice, inside_all, allowed}
use Rattle.rules.specs.Listing.{listing, same_plan, plans, count}
use Rattle.rules.specs.Balance.{balance}
use Rattle.rules.specs.Balance.Outcome.{NoPlan, Plan}
use Rattle.rules.specs.Step.{sure, shortfall, needed, barred, listed_days, resource_step}
use Rattle.rules.specs.Settle.{pass, settle, same_tasks, rooms, most_passes}
use Rattle.rules.specs.Settle.Settled.{Refused, After, Unsettled}
use Rattle.rules.specs.Moves.{Move, move, play, one_pass, passes, many_passes, Stops}
use Rattle.rules.specs.Fixed.{fixed, one_value, one_resource}
use Rattle.rules.specs.Calls.{check}
use Rattle.rules.specs.Keeps.{Keeps, HoldsNone}
use Rattle.rules.proofs.Keeps.{Sound, balance_sound, step_sound, play_sound, move_sound}
use Rattle.rules.proofs.Passes.{pass_play, passes_play, pass_sound, SettledSound, settle_sound}
use Rattle.rules.proofs.FixedPass.{pass_fixed, some_choice, pass_one_choice}
use Rattle.rules.proofs.Rooms.{keeps_less}
use Rattle.rules.proofs.Checks.{check_live}
use Rattle.rules.proofs.Unlisted.{shortfall_unlisted, needed_unlisted, barred_unlisted, sure_unlisted}
use Rattle.rules.proofs.Once.{listed, plans_listed}
use Rattle.rules.proofs.Ends.{Ended, settle_ends, settle_stopped}

module _ (f : Frame) (ts : List Task) (ok : check f ts ≡ accepted) where
  -- ---- one step: the same choices are allowed inside what it leaves as inside what entered, and none where it finds no plan
  pub balance_keeps : (us : List Task) → balance ts ≡ Plan us → Keeps f ts us
  balance_keeps us e = subst (Sound f ts) e (balance_sound f ts ok)

  pub balance_refuses : balance ts ≡ NoPlan → HoldsNone f ts
  balance_refuses e = subst (Sound f ts) e (balance_sound f ts ok)

  -- of the resource at any place r of the list
  pub resource_step_keeps : (r : ℕ) → r < resource_count f → (us : List Task) → resource_step f r ts ≡ Plan us → Keeps f ts us
  resource_step_keeps r l us e = subst (Sound f ts) e (step_sound f r l ts ok)

  pub resource_step_refuses : (r : ℕ) → r < resource_count f → resource_step f r ts ≡ NoPlan → HoldsNone f ts
  resource_step_refuses r l e = subst (Sound f ts) e (step_sound f r l ts ok)

  -- ---- any sequence of such steps, of any length and order, each on what the one before left: the same
  pub sequence_keeps : (ms : List Move) (us : List Task) → play f ms ts ≡ Plan us → Keeps f ts us
  sequence_keeps ms us e = subst (Sound f ts) e (play_sound f ms ts ok)

  pub sequence_refuses : (ms : List Move) → play f ms ts ≡ NoPlan → HoldsNone f ts
  sequence_refuses ms e = subst (Sound f ts) e (play_sound f ms ts ok)

  pub pass_keeps : (us : List Task) → pass f ts ≡ Plan us → Keeps f ts us
  pass_keeps us e = subst (Sound f ts) e (pass_sound f ts ok)

  pub pass_refuses : pass f ts ≡ NoPlan → HoldsNone f ts
  pass_refuses e = subst (Sound f ts) e (pass_sound f ts ok)

  pub settle_keeps : (k : ℕ) (us : List Task) → settle f ts ≡ After k us → Keeps f ts us
  unfolding settle
  settle_keeps k us e = subst (SettledSound f ts) e (settle_sound (suc (rooms ts)) f ts ok)

  pub settle_refuses : settle f ts ≡ Refused → HoldsNone f ts
  unfolding settle
  settle_refuses e = subst (SettledSound f ts) e (settle_sound (suc (rooms ts)) f ts ok)

  -- ---- the number of allowed plans is the same before and after, and 0 where there is no plan
  pub sequence_counts : (ms : List Move) (us : List Task) → play f ms ts ≡ Plan us → count f us ≡ count f ts
  unfolding count
  sequence_counts ms us e = ap length (sequence_keeps ms us e).same

  pub sequence_counts_none : (ms : List Move) → play f ms ts ≡ NoPlan → count f ts ≡ 0
  unfolding count
  sequence_counts_none ms e = ap length (sequence_refuses ms e).none

  pub settle_counts : (k : ℕ) (us : List Task) → settle f ts ≡ After k us → count f us ≡ count f ts
  unfolding count
  settle_counts k us e = ap length (settle_keeps k us e).same

  pub settle_counts_none : settle f ts ≡ Refused → count f ts ≡ 0
  unfolding count
  settle_counts_none e = ap length (settle_refuses e).none

  -- ---- one fixed choice: where every range has one value and every set one resource, there is a choice inside, and for it a full pass
  -- finds no plan exactly where it breaks a rule, and else changes nothing
  pub choice_inside : (cs : List Choice) × (inside_all ts cs ≡ true)
  choice_inside = some_choice f ts ok

  pub fixed_choice : all one_value ts ≡ true → all one_resource ts ≡ true → (cs : List Choice) → inside_all ts cs ≡ true → pass f ts ≡ if (allowed f cs) (Plan ts) NoPlan
  fixed_choice v w cs h = pass_one_choice f ts ok v w cs h

  -- ---- settling ends, and its passes are at most one more than all that could be removed
  pub settle_settles : (us : List Task) → settle f ts ≡ Unsettled us → ⊥
  settle_settles us e = subst (Ended f (most_passes ts) ts) e (settle_ends f ts ok)

  pub settle_bound : (k : ℕ) (us : List Task) → settle f ts ≡ After k us → (k ≤ most_passes ts) × (passes k f ts ≡ Plan us)
  settle_bound k us e = subst (Ended f (most_passes ts) ts) e (settle_ends f ts ok)

  -- it stops at the first pass that changes nothing
  pub settle_stops : (k : ℕ) (us : List Task) → settle f ts ≡ After k us → Stops f ts k us
  settle_stops k us e = settle_stopped f ts k us e

  -- and where it ends in no plan, the pass that finds none comes within as many
  pub refusal_bound : settle f ts ≡ Refused → (k : ℕ) × (k ≤ most_passes ts) × (passes k f ts ≡ NoPlan)
  refusal_bound e = subst (Ended f (most_passes ts) ts) e (settle_ends f ts ok)

  -- because a step that changes something takes away some of what could be removed
  pub step_takes_room : (m : Move) (us : List Task) → move f m ts ≡ Plan us → same_tasks ts us ≡ false → rooms us < rooms ts
  step_takes_room m us e = keeps_less f ts us ok (subst (Sound f ts) e (move_sound f m ts ok))

  -- ---- the listing that is counted: each choice inside the sets and ranges is listed exactly once, and nothing else is; and so it is with the
  -- allowed plans
  pub listed_once : (cs : List Choice) → filter (same_plan cs) (listing (resource_count f) ts) ≡ if (inside_all ts cs) (cs ∷ []) []
  listed_once cs = listed f ts ok cs

  pub plans_once : (cs : List Choice) → filter (same_plan cs) (plans f ts) ≡ if (and (inside_all ts cs) (allowed f cs)) (cs ∷ []) []
  plans_once cs = plans_listed f ts ok cs

  -- ---- listing only the days from the least origin low to the greatest end high is no choice of ours: no rule speaks of another day
  pub no_other_day : (r : ℕ) (limit : Floor) (i : ℤ) → any (eq_z i) (listed_days ts) ≡ false → (shortfall r limit ts i ≡ false) × ((t : Task) → In t ts → (needed r limit ts t i ≡ false) × (barred r limit ts t i ≡ false) × (sure r i t ≡ false))
  no_other_day r limit i out =
      let l = check_live f ts ok in
      (shortfall_unlisted r limit ts i out l, λ t k. (needed_unlisted r limit ts i out k, barred_unlisted r limit ts i out k, sure_unlisted r limit ts i out k (each_in l k)))

-- ---- with no check: a pass is a sequence of steps, and so are passes in a row, of which settling is made (settle_stops, refusal_bound)
pub pass_is_sequence : (f : Frame) (ts : List Task) → pass f ts ≡ play f (one_pass f) ts
pass_is_sequence f ts = pass_play f ts

pub passes_are_sequence : (f : Frame) (ts : List Task) (k : ℕ) → passes k f ts ≡ play f (many_passes k f) ts
passes_are_sequence f ts k = passes_play k f ts

-- one fixed choice, written as such
pub fixed_choice_listed : (f : Frame) (cs : List Choice) → pass f (map fixed cs) ≡ if (allowed f cs) (Plan (map fixed cs)) NoPlan
fixed_choice_listed f cs = pass_fixed f cs
