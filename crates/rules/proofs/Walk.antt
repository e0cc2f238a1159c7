-- A loop that takes each task by itself, in place, from the front: `each_left f i ts` is the whole answer, with the first i tasks
-- done and the others still to do.
use Rattle.std.specs.Prelude.{Ok, Err}
use Rattle.plan.specs.Refusals.{Narrowed}
use mathlib.Core.Path.{◌≡◌, refl, sym, ap}
use mathlib.Core.List.{List, [], ◌∷◌}
use Prim.Native.Nat.{ℕ, zero, suc, ◌+◌, ◌≤◌, ◌<◌}
use native.Mathlib.Nat.{not-suc-le-zero, le_of_suc-le-suc}
use native.Mathlib.Numerals.{add-one}
use lib.ListN.{length, set, get_or}
use Rattle.plan.specs.declared.Task.{Task}
use Rattle.plan.specs.declared.Value.{Value}
use Rattle.rules.specs.Balance.{Outcome, and_then, each}
use Rattle.rules.specs.Balance.Outcome.{NoPlan, Plan}

module _ (f : Task → Narrowed) where
  unfoldable pub each_left : ℕ → List Task → Outcome
  each_left zero ts = each f ts
  each_left (suc i) [] = Plan []
  each_left (suc i) (t ∷ ts) = and_then (Ok t) (each_left i ts)

  pub each_start : (ts : List Task) → each_left 0 ts ≡ each f ts
  unfolding each_left
  each_start ts = refl

  kept_suc : (d u : Task) (i : ℕ) (ts : List Task) → i < length ts → f (get_or ts i d) ≡ Ok u → each_left (suc i) (set ts i u) ≡ each_left i ts
  unfolding each_left each
  kept_suc d u i [] h e = absurd (not-suc-le-zero h)
  kept_suc d u zero (t ∷ ts) h e = sym (ap (λ (n : Narrowed). and_then n (each f ts)) e)
  kept_suc d u (suc i) (t ∷ ts) h e = ap (and_then (Ok t)) (kept_suc d u i ts (le_of_suc-le-suc h) e)

  -- a task put back as what is left of it
  pub each_kept : (d u : Task) (i : ℕ) (ts : List Task) → i < length ts → f (get_or ts i d) ≡ Ok u → each_left (i + 1) (set ts i u) ≡ each_left i ts
  each_kept d u i ts h e = rw add-one (kept_suc d u i ts h e)

  same_suc : (d : Task) (i : ℕ) (ts : List Task) → i < length ts → f (get_or ts i d) ≡ Ok (get_or ts i d) → each_left (suc i) ts ≡ each_left i ts
  unfolding each_left each
  same_suc d i [] h e = absurd (not-suc-le-zero h)
  same_suc d zero (t ∷ ts) h e = sym (ap (λ (n : Narrowed). and_then n (each f ts)) e)
  same_suc d (suc i) (t ∷ ts) h e = ap (and_then (Ok t)) (same_suc d i ts (le_of_suc-le-suc h) e)

  -- a task that stays as it is needs no store
  pub each_same : (d : Task) (i : ℕ) (ts : List Task) → i < length ts → f (get_or ts i d) ≡ Ok (get_or ts i d) → each_left (i + 1) ts ≡ each_left i ts
  each_same d i ts h e = rw add-one (same_suc d i ts h e)

  -- a task of which a value ran out
  pub each_out : (d : Task) (v : Value) (i : ℕ) (ts : List Task) → i < length ts → f (get_or ts i d) ≡ Err v → each_left i ts ≡ NoPlan
  unfolding each_left each
  each_out d v i [] h e = absurd (not-suc-le-zero h)
  each_out d v zero (t ∷ ts) h e = ap (λ (n : Narrowed). and_then n (each f ts)) e
  each_out d v (suc i) (t ∷ ts) h e = ap (and_then (Ok t)) (each_out d v i ts (le_of_suc-le-suc h) e)

  pub each_end : (i : ℕ) (ts : List Task) → length ts ≤ i → each_left i ts ≡ Plan ts
  unfolding each_left each
  each_end zero [] h = refl
  each_end zero (t ∷ ts) h = absurd (not-suc-le-zero h)
  each_end (suc i) [] h = refl
  each_end (suc i) (t ∷ ts) h = ap (and_then (Ok t)) (each_end i ts (le_of_suc-le-suc h))
