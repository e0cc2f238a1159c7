-- Laws of changes: what the touched places say of a list before and after.
use mathlib.Core.Path.{◌≡◌, refl, sym, ap, subst}
use mathlib.Core.Bool.{true, false, not}
use mathlib.Core.List.{List, [], ◌∷◌}
use Prim.Native.Nat.{ℕ, zero, suc, ◌<◌}
use native.Mathlib.Nat.{not-suc-le-zero, le_of_suc-le-suc}
use native.Mathlib.Omega.{arith}
use lib.Dec.{eqb}
use lib.ListN.{length, drop, get_or, set, length-drop}
use Rattle.integers.specs.Tests.{if, and}
use Rattle.integers.proofs.Tests.{clash, by_cases, and_first, if-case, same_test}
use Rattle.plan.specs.declared.Task.{Task}
use Rattle.plan.specs.Sets.{at_most_one, union, differing}
use Rattle.plan.proofs.Sets.{eqb_true, eqb_in, has_none_lem, same_set, union_assoc, union_swap, union_le, differing_has}
use Rattle.rules.specs.Settle.{same_ranges, same_task, same_tasks}
use Rattle.integers.specs.Lists.Each.{nothing, also}
use Rattle.rules.proofs.Live.{Lives}
use Rattle.rules.proofs.Rooms.{same_but_set, same_task_is, same_task_self, same_tasks_is, same_tasks_self}
use Rattle.changes.specs.Changes.{seen_by, touched_by}

-- ---- the touched places
-- nothing changed
pub touched_self : (ts : List Task) → touched_by ts ts ≡ 0
unfolding touched_by
touched_self [] = refl
touched_self (t ∷ ts) = rw (same_task_self t) (touched_self ts)

-- one task more put back: the first i are done, the others as they were
pub touched_put : (d u : Task) (i : ℕ) (ts us : List Task) → i < length us → drop i us ≡ drop i ts
    → touched_by ts (set us i u) ≡ if (same_task (get_or us i d) u) (touched_by ts us) (union (touched_by ts us) (seen_by (get_or us i d) u))
unfolding touched_by
touched_put d u i ts [] h e = absurd (not-suc-le-zero h)
touched_put d u zero ts (v ∷ us) h e =
    subst (λ (l : List Task). touched_by l (u ∷ us) ≡ if (same_task v u) (touched_by l (v ∷ us)) (union (touched_by l (v ∷ us)) (seen_by v u))) e
    (rw (same_task_self v, union_swap (seen_by v u) (touched_by us us)))
touched_put d u (suc i) [] (v ∷ us) h e =
    let l : length (drop i us) ≡ 0 = ap length e in
    absurd (omega (arith, length-drop i us))
touched_put d u (suc i) (t ∷ ts) (v ∷ us) h e =
    let w = get_or us i d in
    let r = touched_put d u i ts us (le_of_suc-le-suc h) e in
    by_cases (same_task t v) (λ q. rw q r)
    (λ q.
    rw (q, r)
    (by_cases (same_task w u) (λ p. rw p) (λ p. rw p (sym (union_assoc (seen_by t v) (touched_by ts us) (seen_by w u))))))

-- a task that changed is seen by some resource, where its set is not empty: a set that lost nothing under the same ranges is no change
seen_some : (t u : Task) → eqb t.set 0 ≡ false → same_task t u ≡ false → seen_by t u ≡ 0 → ⊥
unfolding seen_by
seen_some t u f n =
    if-case (λ s. s ≡ 0 → ⊥) (and (same_ranges t u) (not (at_most_one u.set))) (differing t.set u.set) t.set
    (λ q e.
    let s = same_set t.set u.set (λ k. differing_has t.set u.set k (rw e (has_none_lem k))) in
    let w = same_but_set t u (and_first (same_ranges t u) (not (at_most_one u.set)) q) s in
    clash (same_task t u) (subst (λ x. same_task t x ≡ true) w (same_task_self t)) n)
    (λ q e. clash (eqb t.set 0) (eqb_in t.set 0 e) f)

-- no place touched: nothing changed, where no task's set is empty
touched_none : {ts : List Task} (us : List Task) → Lives ts → length us ≡ length ts → touched_by ts us ≡ 0 → us ≡ ts
unfolding touched_by
touched_none [] nothing l e = refl
touched_none (u ∷ us) nothing l e = absurd (omega arith)
touched_none [] (also f g) l e = absurd (omega arith)
touched_none (u ∷ us) (also {x = t} {xs = ts} f g) l e =
    by_cases (same_task t u)
    (λ q.
    let a = same_task_is t u q in
    let b = touched_none us g (omega arith) (rw q at e) in
    cc)
    (λ q.
    let a : union (seen_by t u) (touched_by ts us) ≡ 0 = rw q at e in
    let b = union_le (seen_by t u) (touched_by ts us) in
    absurd (seen_some t u f.set q (omega arith)))

-- the touched places tell whether anything changed
pub touched_tells : (ts us : List Task) → Lives ts → length us ≡ length ts → same_tasks ts us ≡ eqb (touched_by ts us) 0
touched_tells ts us f l =
    same_test (same_tasks ts us) (eqb (touched_by ts us) 0)
    (λ h. rw (sym (same_tasks_is ts us h)) (eqb_in (touched_by ts ts) 0 (touched_self ts)))
    (λ h. rw (touched_none us f l (eqb_true (touched_by ts us) 0 h)) (same_tasks_self ts))
