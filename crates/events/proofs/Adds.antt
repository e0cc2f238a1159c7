-- What a resource's events add up to on a day: its tasks' hopes, and how many of them are sure.
use mathlib.Core.Path.{◌≡◌, refl, sym, ◌∙◌}
use mathlib.Core.Bool.{Bool, true, false}
use mathlib.Core.List.{List, [], ◌∷◌}
use Prim.Native.Nat.{ℕ}
use lib.IntN.{ℤ, pos, neg_ℤ, ◌+ℤ◌, +ℤ_idl, +ℤ_idr}
use lib.Signed.{◌≤ℤ◌, le_z, lt_z}
use Rattle.integers.specs.Tests.{if, and, any}
use Rattle.integers.specs.Lists.{Each}
use Rattle.integers.specs.Lists.Each.{nothing, also}
use Rattle.integers.specs.Hull.{range}
use Rattle.integers.specs.Ends.{Within}
use Rattle.integers.specs.Sums.{sum_of}
use Rattle.integers.proofs.Z.{z, +z, ~z, le_z_in, le_z_out}
use Rattle.integers.proofs.Tests.{clash, by_cases, false_in}
use Rattle.integers.proofs.Sums.{sum_append, any_ones}
use Rattle.plan.specs.declared.Task.{Task}
use Rattle.plan.specs.Powers.{power_ends}
use Rattle.plan.specs.Sets.{has}
use Rattle.plan.specs.Tasks.{Bounded}
use Rattle.plan.proofs.Sets.{has_not_zero, only_has}
use Rattle.rules.specs.Step.{possible, running, sure, hope, total}
use Rattle.rules.proofs.Live.{live_bounded}
use Rattle.rules.proofs.TaskDay.{possible_is, sure_only, no_sure}
use Rattle.events.specs.Keys.{day_of, power_of, sure_of, key_of, EventFits}
use Rattle.events.specs.Events.{ChangeFits, change, change_keys, hopeful, surely, fixed, hope_over, sure_over, task_keys, events_of, keys_of}
use Rattle.events.proofs.Keys.{key_day, key_power, key_sure}
use Rattle.events.proofs.Fits.{hope_fits, sure_fits}
use Rattle.events.proofs.Spans.{hopeful_is, hopeful_in, fixed_is, surely_is, surely_in}

-- what a key adds on day i
abbrev pub up_to : (ℕ → ℤ) → ℤ → ℕ → ℤ
up_to f i k = if (le_z (day_of k) i) (f k) (pos 0)

abbrev pub between : ℤ → ℤ → ℤ → Bool
between a b i = and (le_z a i) (lt_z i b)

-- 1 where the task is sure
abbrev pub sure_one : ℕ → ℤ → Task → ℤ
sure_one r i t = if (sure r i t) (pos 1) (pos 0)

-- ---- a key and its opposite
pair_sum : (f : ℕ → ℤ) (k l : ℕ) (i x a b : ℤ) → day_of k ≡ a → day_of l ≡ b → f k ≡ x → f l ≡ neg_ℤ x → a ≤ℤ b
    → sum_of (up_to f i) (k ∷ l ∷ []) ≡ if (between a b i) x (pos 0)
unfolding sum_of
pair_sum f k l i x a b p q u v h =
    by_cases (le_z a i)
    (λ e.
    by_cases (lt_z i b)
    (λ g. rw (p, q, e, g, le_z_out b i (omega z), u) (omega (z, +z (pos 0) (pos 0), +z x (pos 0 +ℤ pos 0))))
    (λ g. rw (p, q, e, g, le_z_in b i (omega z), u, v) (omega (z, ~z x, +z (neg_ℤ x) (pos 0), +z x (neg_ℤ x +ℤ pos 0)))))
    (λ e. rw (p, q, e, le_z_out b i (omega z)))

-- ---- a part of a key, and the like part of what it is made of: the power or the count. Both add up alike.
pub record Part (f : ℕ → ℤ) (v : ℤ → ℤ → ℤ) : Type 0 where
  pub key : (d p u : ℤ) → EventFits d p u → f (key_of d p u) ≡ v p u
  pub none : v (pos 0) (pos 0) ≡ pos 0
  pub back : (p u : ℤ) → v (neg_ℤ p) (neg_ℤ u) ≡ neg_ℤ (v p u)
  pub both : (p u q w : ℤ) → v p u +ℤ v q w ≡ v (p +ℤ q) (u +ℤ w)

module _ (f : ℕ → ℤ) (v : ℤ → ℤ → ℤ) (part : Part f v) where
  pub change_adds : (a b p u i : ℤ) → ChangeFits (change a b p u) → a ≤ℤ b
      → sum_of (up_to f i) (change_keys (change a b p u)) ≡ if (between a b i) (v p u) (pos 0)
  unfolding change_keys
  change_adds a b p u i e h =
      pair_sum f (key_of a p u) (key_of b (neg_ℤ p) (neg_ℤ u)) i (v p u) a b (key_day a p u e.first) (key_day b (neg_ℤ p) (neg_ℤ u) e.last)
      (part.key a p u e.first) (part.key b (neg_ℤ p) (neg_ℤ u) e.last ∙ part.back p u) h

  -- what is there or not, part by part
  there : (b : Bool) (p u : ℤ) → if b (v p u) (pos 0) ≡ v (if b p (pos 0)) (if b u (pos 0))
  there true p u = refl
  there false p u = sym part.none

  there_power : (b : Bool) (p : ℤ) → if b (v p (pos 0)) (pos 0) ≡ v (if b p (pos 0)) (pos 0)
  there_power true p = refl
  there_power false p = sym part.none

  there_both : (b c : Bool) (p u : ℤ) → if b (v p (pos 0)) (pos 0) +ℤ if c (v (pos 0) u) (pos 0) ≡ v (if b p (pos 0)) (if c u (pos 0))
  there_both true true p u = part.both p (pos 0) (pos 0) u ∙ rw (+ℤ_idr p, +ℤ_idl u)
  there_both true false p u = +ℤ_idr (v p (pos 0))
  there_both false true p u = +ℤ_idl (v (pos 0) u)
  there_both false false p u = sym part.none

  -- ---- a task that may stand here
  module _ (r : ℕ) (i : ℤ) (t : Task) (b : Bounded t) (g : has t.set r ≡ true) where
    abbrev high : ℤ
    high = t.height.high.0

    hope_adds : (u : ℤ) → Within (range (pos 0) (pos 1)) u → hopeful t ≡ true → sum_of (up_to f i) (hope_over t u) ≡ if (possible r i t) (v high u) (pos 0)
    unfolding possible
    hope_adds u w h =
        let d = hopeful_is t h in
        rw g (change_adds t.origin.low.0 t.end.high.0 high u i (hope_fits t b u w) (omega z))

    sure_adds : (p : ℤ) → Within power_ends p → surely r t ≡ true → sum_of (up_to f i) (sure_over t p) ≡ if (sure r i t) (v p (pos 1)) (pos 0)
    unfolding sure running
    sure_adds p w h =
        let d = surely_is t r h in
        rw d.alone (change_adds t.origin.high.0 t.end.low.0 p (pos 1) i (sure_fits t b p w) (omega z))

    -- the hope is that of the possible days, or, where there are none with a positive height, that of the sure ones
    possible_hope : hopeful t ≡ true → hope r i t ≡ if (possible r i t) high (pos 0)
    unfolding hope
    possible_hope h = rw (hopeful_is t h).height

    sure_hope : hopeful t ≡ false → hope r i t ≡ if (sure r i t) high (pos 0)
    unfolding hope
    sure_hope h =
        by_cases (lt_z (pos 0) high)
        (λ e.
        let n = false_in (possible r i t) (λ p. clash (hopeful t) (hopeful_in t r i e p) h) in
        rw (e, n, no_sure r i t (live_bounded t b (has_not_zero t.set r g)) n))
        (λ e. rw e)

    never_sure : surely r t ≡ false → sure r i t ≡ false
    never_sure h = false_in (sure r i t) (λ s. clash (surely r t) (surely_in t r i s) h)

    fixed_days : fixed t ≡ true → surely r t ≡ true → possible r i t ≡ sure r i t
    unfolding possible sure running
    fixed_days w s = let d = fixed_is t b w in rw (g, (surely_is t r s).alone, d.0, d.1)

    task_adds : sum_of (up_to f i) (task_keys r t) ≡ v (hope r i t) (sure_one r i t)
    unfolding task_keys sum_of
    task_adds =
        by_cases (hopeful t)
        (λ p.
        by_cases (surely r t)
        (λ s.
        by_cases (fixed t)
        (λ w. rw (p, s, w, possible_hope p, hope_adds (pos 1) (omega z) p, fixed_days w s) (there (sure r i t) high (pos 1)))
        (λ w.
        rw (p, s, w, possible_hope p)
        (sum_append (up_to f i) (hope_over t (pos 0)) (sure_over t (pos 0))
        ∙ rw (hope_adds (pos 0) (omega z) p, sure_adds (pos 0) (omega z) s) (there_both (possible r i t) (sure r i t) high (pos 1)))))
        (λ s. rw (p, s, possible_hope p, never_sure s, hope_adds (pos 0) (omega z) p) (there_power (possible r i t) high)))
        (λ p.
        by_cases (surely r t)
        (λ s. rw (p, s, sure_hope p, sure_adds high (omega (z, b.height)) s) (there (sure r i t) high (pos 1)))
        (λ s. rw (p, s, sure_hope p, never_sure s) (sym part.none)))

  -- ---- any task, and all of them
  module _ (r : ℕ) (i : ℤ) where
    events_adds : (t : Task) → Bounded t → sum_of (up_to f i) (events_of r t) ≡ v (hope r i t) (sure_one r i t)
    unfolding events_of sum_of hope
    events_adds t b =
        by_cases (has t.set r) (λ g. rw g (task_adds r i t b g))
        (λ g.
        let s = false_in (sure r i t) (λ e. clash (has t.set r) (only_has t.set r (sure_only r i t e)) g) in
        let p = false_in (possible r i t) (λ e. clash (has t.set r) (possible_is r i t e).among g) in
        by_cases (lt_z (pos 0) t.height.high.0) (λ e. rw (g, s, p, e) (sym part.none)) (λ e. rw (g, s, e) (sym part.none)))

    keys_adds : {ts : List Task} → Each Bounded ts → sum_of (up_to f i) (keys_of r ts) ≡ v (total r ts i) (sum_of (sure_one r i) ts)
    unfolding keys_of total sum_of
    keys_adds nothing = sym part.none
    keys_adds (also {x = t} {xs = ts} b bs) =
        sum_append (up_to f i) (events_of r t) (keys_of r ts)
        ∙ rw (events_adds t b, keys_adds bs) (part.both (hope r i t) (sure_one r i t) (total r ts i) (sum_of (sure_one r i) ts))

pub powers : Part power_of (λ p u. p)
powers = record { key = key_power; none = refl; back = λ p u. refl; both = λ p u q w. refl }

pub sures : Part sure_of (λ p u. u)
sures = record { key = key_sure; none = refl; back = λ p u. refl; both = λ p u q w. refl }

module _ (r : ℕ) (i : ℤ) where
  pub keys_power : (ts : List Task) → Each Bounded ts → sum_of (up_to power_of i) (keys_of r ts) ≡ total r ts i
  keys_power ts = keys_adds power_of (λ p u. p) powers r i

  pub keys_sure : (ts : List Task) → Each Bounded ts → sum_of (up_to sure_of i) (keys_of r ts) ≡ sum_of (sure_one r i) ts
  keys_sure ts = keys_adds sure_of (λ p u. u) sures r i

  -- some task is sure where the number of sure tasks is positive
  pub some_sure : (ts : List Task) → any (sure r i) ts ≡ lt_z (pos 0) (sum_of (sure_one r i) ts)
  some_sure ts = any_ones (sure r i) ts
