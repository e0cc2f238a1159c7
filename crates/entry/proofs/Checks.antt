-- Each check from place k on: what is left to look at gives the answer, one law where the place passes and one where it does not.
use mathlib.Core.Path.{◌≡◌, refl}
use mathlib.Core.Bool.{Bool, true, false, not, ◌||◌}
use mathlib.Core.List.{List, [], ◌∷◌}
use Prim.Native.Nat.{ℕ, zero, suc, ◌+◌, ◌≤◌, ◌<◌}
use native.Mathlib.Omega.{arith}
use native.Mathlib.Numerals.{add-one}
use lib.IntN.{ℤ}
use lib.ListN.{length, drop, take, get_or, drop_of_length-le}
use lib.Seq.{drop-cons}
use Rattle.std.proofs.lemmas.List.Folds.{list_any_more}
use Rattle.integers.specs.Tests.{or, any}
use Rattle.integers.specs.Whole.{eq_z}
use Rattle.plan.specs.declared.Task.{Task}
use Rattle.plan.specs.declared.Resource.{Resource}
use Rattle.plan.specs.declared.Refusal.TheVariants.{RepeatedIdentifier, LimitOutside, RangeOutside, SetOutside}
use Rattle.integers.specs.Hull.{within}
use Rattle.plan.specs.Powers.{power_ends}
use Rattle.plan.specs.Refusals.{Checked, accepted}
use Rattle.rules.specs.Calls.{or_else, refuse_if, repeats, limits, ranges_fit, set_fits, tasks_fit}
use Rattle.std.proofs.Common.{Err}
use Rattle.plan.specs.Tasks.{no_task, no_resource}
use Rattle.entry.specs.Checks.{is_among}

-- ---- identifiers
-- the identifiers of the first k resources, the latest first
unfoldable pub seen : ℕ → List Resource → List ℤ
seen zero qs = []
seen (suc k) qs = (get_or qs k no_resource).id ∷ seen k qs

either : (a b : Bool) → or a b ≡ (b || a)
either true true = refl
either true false = refl
either false true = refl
either false false = refl

seen_any : (x : ℤ) (qs : List Resource) (k : ℕ) → k ≤ length qs → any (eq_z x) (seen k qs) ≡ is_among x (take k qs)
unfolding seen any
seen_any x qs zero h = refl
seen_any x qs (suc k) h =
    let i = seen_any x qs k (omega arith) in
    let e = rw add-one at (list_any_more (λ q. eq_z x q.id) qs k no_resource h) in
    rw (i, e) (either (eq_z x (get_or qs k no_resource).id) (is_among x (take k qs)))

module _ (qs : List Resource) where
  unfoldable pub repeats_from : ℕ → Checked
  repeats_from k = repeats k (seen k qs) (drop k qs)

  -- the identifier at k is one of those before it
  abbrev pub among_earlier : ℕ → Bool
  among_earlier k = is_among (get_or qs k no_resource).id (take k qs)

  pub repeats_start : repeats_from 0 ≡ repeats 0 [] qs
  unfolding repeats_from seen
  repeats_start = refl

  repeats_at_lem : (k : ℕ) → k < length qs → repeats_from k ≡ or_else (refuse_if (among_earlier k) (RepeatedIdentifier k)) (repeats_from (suc k))
  unfolding repeats_from seen repeats
  repeats_at_lem k h = rw (drop-cons qs k no_resource h, seen_any (get_or qs k no_resource).id qs k (omega arith))

  pub repeats_past : (k : ℕ) → k < length qs → among_earlier k ≡ false → repeats_from (k + 1) ≡ repeats_from k
  repeats_past k h e = rw (add-one, repeats_at_lem k h, e)

  pub repeats_here : (k : ℕ) → k < length qs → among_earlier k ≡ true → repeats_from k ≡ Err (RepeatedIdentifier k)
  repeats_here k h e = rw (repeats_at_lem k h, e)

  pub repeats_end : (k : ℕ) → length qs ≤ k → repeats_from k ≡ accepted
  unfolding repeats_from repeats
  repeats_end k h = rw (drop_of_length-le qs {i = k} h)

pub ruleset repeats_steps = (repeats_start, repeats_past, repeats_here, repeats_end)

-- ---- limits
module _ (qs : List Resource) where
  unfoldable pub limits_from : ℕ → Checked
  limits_from k = limits k (drop k qs)

  pub limits_start : limits_from 0 ≡ limits 0 qs
  unfolding limits_from
  limits_start = refl

  limits_at : (k : ℕ) → k < length qs → limits_from k ≡ or_else (refuse_if (not (within power_ends (get_or qs k no_resource).limit.0)) (LimitOutside k)) (limits_from (suc k))
  unfolding limits_from limits
  limits_at k h = rw (drop-cons qs k no_resource h)

  pub limits_past : (k : ℕ) → k < length qs → within power_ends (get_or qs k no_resource).limit.0 ≡ true → limits_from (k + 1) ≡ limits_from k
  limits_past k h e = rw (add-one, limits_at k h, e)

  pub limits_here : (k : ℕ) → k < length qs → within power_ends (get_or qs k no_resource).limit.0 ≡ false → limits_from k ≡ Err (LimitOutside k)
  limits_here k h e = rw (limits_at k h, e)

  pub limits_end : (k : ℕ) → length qs ≤ k → limits_from k ≡ accepted
  unfolding limits_from limits
  limits_end k h = rw (drop_of_length-le qs {i = k} h)

pub ruleset limits_steps = (limits_start, limits_past, limits_here, limits_end)

-- ---- tasks
module _ (n : ℕ) (ts : List Task) where
  unfoldable pub tasks_from : ℕ → Checked
  tasks_from k = tasks_fit n k (drop k ts)

  pub tasks_start : tasks_from 0 ≡ tasks_fit n 0 ts
  unfolding tasks_from
  tasks_start = refl

  tasks_at : (k : ℕ) → k < length ts → tasks_from k ≡ or_else (refuse_if (not (ranges_fit (get_or ts k no_task))) (RangeOutside k)) (or_else (refuse_if (not (set_fits n (get_or ts k no_task))) (SetOutside k)) (tasks_from (suc k)))
  unfolding tasks_from tasks_fit
  tasks_at k h = rw (drop-cons ts k no_task h)

  pub tasks_past : (k : ℕ) → k < length ts → ranges_fit (get_or ts k no_task) ≡ true → set_fits n (get_or ts k no_task) ≡ true → tasks_from (k + 1) ≡ tasks_from k
  tasks_past k h e f = rw (add-one, tasks_at k h, e, f)

  pub range_here : (k : ℕ) → k < length ts → ranges_fit (get_or ts k no_task) ≡ false → tasks_from k ≡ Err (RangeOutside k)
  range_here k h e = rw (tasks_at k h, e)

  pub set_here : (k : ℕ) → k < length ts → ranges_fit (get_or ts k no_task) ≡ true → set_fits n (get_or ts k no_task) ≡ false → tasks_from k ≡ Err (SetOutside k)
  set_here k h e f = rw (tasks_at k h, e, f)

  pub tasks_end : (k : ℕ) → length ts ≤ k → tasks_from k ≡ accepted
  unfolding tasks_from tasks_fit
  tasks_end k h = rw (drop_of_length-le ts {i = k} h)

pub ruleset tasks_steps = (tasks_start, tasks_past, range_here, set_here, tasks_end)
