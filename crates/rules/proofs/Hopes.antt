-- What an allowed choice adds on a day is at most its task's hope, so a level is at most the total of hopes, and what the others add
-- is at most `others`.
use mathlib.Core.Path.{◌≡◌, sym, ◌∙◌}
use Prim.Native.Nat.{ℕ}
use mathlib.Core.List.{List}
use mathlib.Core.Bool.{Bool, true}
use lib.IntN.{ℤ, pos, ◌+ℤ◌, ◌-ℤ◌}
use lib.Signed.{le_z, lt_z, ◌≤ℤ◌, ◌<ℤ◌}
use lib.Dec.{eqb}
use Rattle.integers.specs.Tests.{if, any}
use Rattle.integers.specs.Lists.{In}
use Rattle.integers.specs.Lists.In.{head, tail}
use Rattle.integers.specs.Sums.{sum_of}
use Rattle.integers.proofs.Z.{z, +z, -z, le_z_in, lt_z_in}
use Rattle.integers.proofs.Tests.{clash, by_cases, if-case, and_first, and_second, and_in, or_left, any_first, any_later}
use Rattle.plan.specs.declared.Task.{Task}
use Rattle.plan.specs.Sets.{only}
use Rattle.plan.proofs.Sets.{eqb_in, only_is, alone_only}
use Rattle.rules.specs.Frame.{Floor}
use Rattle.rules.specs.Allowed.{Choice, covers, adds, level}
use Rattle.rules.specs.Step.{possible, running, sure, begun, unended, hope, total, others, counts}
use Rattle.rules.proofs.TaskDay.{possible_in, running_is, sure_only, sure_running}
use Rattle.rules.proofs.Counted.{begun_by_lem, begun_only, ends_after_lem, unended_only}
use Rattle.rules.proofs.Limits.{begun_by, ends_after, checked, covered_checked}
use Rattle.rules.proofs.Inside.{Inside, Covers, Fit, For, covers_is, covers_in}
use Rattle.rules.proofs.Inside.Fit.{none, more}
use Rattle.rules.proofs.Inside.For.{here, later}

-- ---- one task on one day
module _ (r : ℕ) (i : ℤ) (t : Task) (c : Choice) (in_t : Inside t c) where
  pub covers_possible : Covers r i c → possible r i t ≡ true
  covers_possible h =
      let o = in_t.origin in
      let e = in_t.end in
      possible_in r i t (rw h.there at in_t.set) (omega z) (omega z)

  pub running_from : running r i t ≡ true → c.origin ≤ℤ i
  running_from h =
      let a = running_is r i t h in
      let o = in_t.origin in
      omega z

  pub running_to : running r i t ≡ true → i <ℤ c.end
  running_to h =
      let a = running_is r i t h in
      let e = in_t.end in
      omega z

  pub only_there : only t.set r ≡ true → c.resource ≡ r
  only_there h = alone_only r c.resource (rw (only_is t.set r h) at in_t.set)

  -- a sure task covers the day
  pub sure_covers : sure r i t ≡ true → Covers r i c
  sure_covers h =
      let b = sure_running r i t h in
      record { there = only_there (sure_only r i t h); from = running_from b; to = running_to b }

  pub adds_le : adds r i c ≤ℤ hope r i t
  unfolding adds hope
  adds_le =
      let top = t.height.high.0 in
      let up_to_lem = in_t.height in
      if-case (λ x. x ≤ℤ hope r i t) (covers r i c) c.height (pos 0)
      (λ v.
      let cov = covers_is r i c v in
      if-case (λ y. c.height ≤ℤ y) (lt_z (pos 0) top) (if (possible r i t) top (pos 0)) (if (sure r i t) top (pos 0))
      (λ p. rw (covers_possible cov) (omega z))
      (λ p. if-case (λ y. c.height ≤ℤ y) (sure r i t) top (pos 0) (λ s. omega z) (λ s. omega z)))
      (λ v.
      if-case (λ y. pos 0 ≤ℤ y) (lt_z (pos 0) top) (if (possible r i t) top (pos 0)) (if (sure r i t) top (pos 0))
      (λ p. if-case (λ y. pos 0 ≤ℤ y) (possible r i t) top (pos 0) (λ s. omega z) (λ s. omega z))
      (λ p.
      if-case (λ y. pos 0 ≤ℤ y) (sure r i t) top (pos 0)
      (λ s. clash (covers r i c) (covers_in r i c (sure_covers s)) v)
      (λ s. omega z)))

-- ---- all tasks on one day
module _ (r : ℕ) (i : ℤ) where
  pub total_le : {ts : List Task} {cs : List Choice} → Fit ts cs → level r i cs ≤ℤ total r ts i
  unfolding level total sum_of
  total_le none = omega z
  total_le (more {t} {c} {ts} {cs} h j f) =
      let a = adds_le r i t c h in
      let b = total_le f in
      omega (z, +z (adds r i c) (sum_of (adds r i) cs), +z (hope r i t) (sum_of (hope r i) ts))

  pub others_le : {t : Task} {c : Choice} {ts : List Task} {cs : List Choice} → Fit ts cs → For t c ts cs → (level r i cs -ℤ adds r i c) ≤ℤ others r ts t i
  unfolding level total sum_of others
  others_le {t = t} {c = c} none k = elim k [ ]
  others_le (more {t} {c} {ts} {cs} h j f) here =
      let a = total_le f in
      let l = sum_of (adds r i) cs in
      let m = sum_of (hope r i) ts in
      omega (z, +z (adds r i c) l, +z (hope r i t) m, -z (adds r i c +ℤ l) (adds r i c), -z (hope r i t +ℤ m) (hope r i t))
  others_le {t} {c} (more {t = u} {c = d} {ts} {cs} h j f) (later k) =
      let a = others_le f k in
      let b = adds_le r i u d h in
      let l = sum_of (adds r i) cs in
      let m = sum_of (hope r i) ts in
      omega
      (z, +z (adds r i d) l, +z (hope r i u) m, -z (adds r i d +ℤ l) (adds r i c), -z (hope r i u +ℤ m) (hope r i t), -z l (adds r i c), -z m (hope r i t))

  -- what a test says of a task, another says of its choice
  any_for : (p : Task → Bool) (q : Choice → Bool) → ((t : Task) (c : Choice) → Inside t c → p t ≡ true → q c ≡ true)
      → {ts : List Task} {cs : List Choice} → Fit ts cs → any p ts ≡ true → any q cs ≡ true
  unfolding any
  any_for p q g none h = h
  any_for p q g (more {t} {c} {ts} {cs} h j f) k =
      by_cases (p t) (λ s. any_first q c cs (g t c h s)) (λ s. any_later q c cs (any_for p q g f (sym (or_left (p t) (any p ts) s) ∙ k)))

  begun_choice : (t : Task) (c : Choice) → Inside t c → begun r i t ≡ true → begun_by r i c ≡ true
  unfolding begun_by
  begun_choice t c h b =
      let o = h.origin in
      let l = begun_by_lem r i t b in
      and_in (eqb c.resource r) (le_z c.origin i) (eqb_in c.resource r (only_there r i t c h (begun_only r i t b))) (le_z_in c.origin i (omega z))

  unended_choice : (t : Task) (c : Choice) → Inside t c → unended r i t ≡ true → ends_after r i c ≡ true
  unfolding ends_after
  unended_choice t c h b =
      let e = h.end in
      let l = ends_after_lem r i t b in
      and_in (eqb c.resource r) (lt_z i c.end) (eqb_in c.resource r (only_there r i t c h (unended_only r i t b))) (lt_z_in i c.end (omega z))

  -- a day that counts is checked
  pub counts_checked : (limit : Floor) {ts : List Task} {cs : List Choice} → Fit ts cs → counts r limit ts i ≡ true → checked r limit cs i ≡ true
  unfolding counts checked
  counts_checked limit {ts} {cs} f =
      by_cases limit.held
      (λ e.
      rw e λ k.
      and_in (any (begun_by r i) cs) (any (ends_after r i) cs)
      (any_for (begun r i) (begun_by r i) begun_choice f (and_first (any (begun r i) ts) (any (unended r i) ts) k))
      (any_for (unended r i) (ends_after r i) unended_choice f (and_second (any (begun r i) ts) (any (unended r i) ts) k)))
      (λ e. rw e λ k. any_for (sure r i) (covers r i) (λ t c h s. covers_in r i c (sure_covers r i t c h s)) f k)

  for_in : {t : Task} {c : Choice} {ts : List Task} {cs : List Choice} → For t c ts cs → In c cs
  for_in here = head
  for_in (later k) = tail (for_in k)

  pub for_checked : (limit : Floor) {t : Task} {c : Choice} {ts : List Task} {cs : List Choice} → For t c ts cs → Covers r i c → checked r limit cs i ≡ true
  for_checked limit k h = covered_checked r limit i (for_in k) h
