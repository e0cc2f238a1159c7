-- What one turn of the loop over the tasks keeps: the keys written, joined to those of the tasks left, are the answer.
use mathlib.Core.Path.{◌≡◌, ◌∙◌}
use mathlib.Core.List.{List, [], ◌++◌}
use Prim.Native.Nat.{ℕ, ◌+◌, ◌≤◌, ◌<◌}
use native.Mathlib.Numerals.{add-one}
use native.Mathlib.Omega.{arith}
use lib.ListN.{length, take, drop, get_or, drop_of_length-le}
use lib.Seq.{drop-cons}
use Rattle.integers.proofs.Tests.{if-case}
use Rattle.plan.specs.declared.Task.{Task}
use Rattle.plan.specs.Sets.{has}
use Rattle.events.specs.declared.Extremes.{Extremes}
use Rattle.events.specs.Laid.{Laid}
use Rattle.events.specs.Events.{change_keys, hopeful, surely, fixed, task_keys, events_a_task, events_of, keys_of}
use Rattle.events.specs.Extremes.{joined, extremes_of}
use Rattle.events.proofs.Laid.{laid_more}

abbrev few : List ℕ → Type 0
few l = length l ≤ events_a_task

pub events_few : (r : ℕ) (t : Task) → few (events_of r t)
unfolding events_of task_keys change_keys
events_few r t =
    if-case few (has t.set r) _ _
    (λ _.
    if-case few (hopeful t) _ _
    (λ _. if-case few (surely r t) _ _ (λ _. if-case few (fixed t) _ _ (λ _. omega arith) (λ _. omega arith)) (λ _. omega arith))
    (λ _. if-case few (surely r t) _ _ (λ _. omega arith) (λ _. omega arith)))
    (λ _. omega arith)

module _ (r : ℕ) (d : Task) (ts : List Task) (i : ℕ) (h : i < length ts) where
  -- the keys of task i behind those before it
  pub keys_more : (k l : List ℕ) (n m : ℕ) → Laid k l n m (events_of r (get_or ts i d)) → take m l ++ keys_of r (drop (i + 1) ts) ≡ take n k ++ keys_of r (drop i ts)
  unfolding keys_of
  keys_more k l n m p = laid_more k l n m (events_of r (get_or ts i d)) (keys_of r (drop (i + 1) ts)) p ∙ rw (add-one, drop-cons ts i d h)

  pub extremes_more : (e : Extremes) → extremes_of r (joined r e (get_or ts i d)) (drop (i + 1) ts) ≡ extremes_of r e (drop i ts)
  unfolding extremes_of
  extremes_more e = rw (add-one, drop-cons ts i d h)

pub keys_end : (r : ℕ) (ts : List Task) (i : ℕ) → length ts ≤ i → keys_of r (drop i ts) ≡ []
unfolding keys_of
keys_end r ts i h = rw (drop_of_length-le ts h)

pub extremes_end : (r : ℕ) (e : Extremes) (ts : List Task) (i : ℕ) → length ts ≤ i → extremes_of r e (drop i ts) ≡ e
unfolding extremes_of
extremes_end r e ts i h = rw (drop_of_length-le ts h)
