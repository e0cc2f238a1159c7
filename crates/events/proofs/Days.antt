-- The days of a resource's events: a test of every event's day is a test of the days between which each task has a hope, and of those
-- between which it is sure.
use mathlib.Core.Path.{◌≡◌, refl, sym, ◌∙◌}
use mathlib.Core.Bool.{Bool, true, false}
use mathlib.Core.List.{List}
use Prim.Native.Nat.{ℕ}
use lib.IntN.{ℤ, pos, neg_ℤ}
use Rattle.integers.specs.Tests.{and, implies, all}
use Rattle.integers.specs.Lists.{Each, In}
use Rattle.integers.specs.Lists.Each.{nothing, also}
use Rattle.integers.proofs.Z.{z}
use Rattle.integers.proofs.Tests.{by_cases, and_first, and_second, and_follows, implies_out, all_append}
use Rattle.integers.proofs.Lists.{each_in, each_all}
use Rattle.plan.specs.declared.Task.{Task}
use Rattle.plan.specs.Sets.{has}
use Rattle.plan.specs.Tasks.{Bounded}
use Rattle.plan.proofs.Sets.{only_has}
use Rattle.events.specs.Keys.{day_of}
use Rattle.events.specs.Events.{ChangeFits, change, change_keys, hopeful, surely, fixed, hope_over, sure_over, task_keys, events_of, keys_of}
use Rattle.events.proofs.Keys.{key_day}
use Rattle.events.proofs.Fits.{hope_fits, sure_fits}
use Rattle.events.proofs.Spans.{fixed_is, surely_is}

and_true : (a : Bool) → and a true ≡ a
and_true true = refl
and_true false = refl

module _ (q : ℤ → Bool) where
  abbrev pub on_days : List ℕ → Bool
  on_days ks = all (λ k. q (day_of k)) ks

  pub change_days : (a b p u : ℤ) → ChangeFits (change a b p u) → on_days (change_keys (change a b p u)) ≡ and (q a) (q b)
  unfolding all change_keys
  change_days a b p u f = simp (key_day a p u f.first, key_day b (neg_ℤ p) (neg_ℤ u) f.last, and_true)

  -- both days of the hope, both of the sure span
  abbrev hope_passes : Task → Bool
  hope_passes t = and (q t.origin.low.0) (q t.end.high.0)

  abbrev sure_passes : Task → Bool
  sure_passes t = and (q t.origin.high.0) (q t.end.low.0)

  abbrev pub spans_pass : ℕ → Task → Bool
  spans_pass r t = implies (has t.set r) (and (implies (hopeful t) (hope_passes t)) (implies (surely r t) (sure_passes t)))

  module _ (r : ℕ) where
    task_days : (t : Task) → Bounded t → on_days (task_keys r t) ≡ and (implies (hopeful t) (hope_passes t)) (implies (surely r t) (sure_passes t))
    unfolding task_keys all
    task_days t b =
        let hope : (u : ℤ) → _ → on_days (hope_over t u) ≡ hope_passes t =
        λ u w. change_days t.origin.low.0 t.end.high.0 t.height.high.0 u (hope_fits t b u w) in
        let certain : (p : ℤ) → _ → on_days (sure_over t p) ≡ sure_passes t =
        λ p w. change_days t.origin.high.0 t.end.low.0 p (pos 1) (sure_fits t b p w) in
        by_cases (hopeful t)
        (λ p.
        by_cases (surely r t)
        (λ s.
        by_cases (fixed t)
        (λ w. let d = fixed_is t b w in rw (p, s, w, hope (pos 1) (omega z), d.0, d.1) (and_follows (sure_passes t) (sure_passes t) (λ h. h)))
        (λ w. rw (p, s, w, all_append (λ k. q (day_of k)) (hope_over t (pos 0)) (sure_over t (pos 0)), hope (pos 0) (omega z), certain (pos 0) (omega z))))
        (λ s. rw (p, s, hope (pos 0) (omega z)) (sym (and_true (hope_passes t)))))
        (λ p.
        by_cases (surely r t)
        (λ s. rw (p, s, certain t.height.high.0 (omega (z, b.height))))
        (λ s. rw (p, s)))

    events_days : (t : Task) → Bounded t → on_days (events_of r t) ≡ spans_pass r t
    unfolding events_of all
    events_days t b = by_cases (has t.set r) (λ g. rw g (task_days t b)) (λ g. rw g)

    pub keys_days : {ts : List Task} → Each Bounded ts → on_days (keys_of r ts) ≡ all (spans_pass r) ts
    unfolding keys_of all
    keys_days nothing = refl
    keys_days (also {x = t} {xs = ts} b bs) = rw (all_append (λ k. q (day_of k)) (events_of r t) (keys_of r ts), events_days t b, keys_days bs)

    -- so what passes of every event's day passes of a sure task's
    pub sure_days : {t : Task} {ts : List Task} → Each Bounded ts → on_days (keys_of r ts) ≡ true → In t ts → surely r t ≡ true
        → (q t.origin.high.0 ≡ true) × (q t.end.low.0 ≡ true)
    sure_days {t} {ts} bs h k s =
        let e = each_in (each_all (spans_pass r) ts (sym (keys_days bs) ∙ h)) k in
        let g = only_has t.set r (surely_is t r s).alone in
        let both = implies_out (has t.set r) (and (implies (hopeful t) (hope_passes t)) (implies (surely r t) (sure_passes t))) e g in
        let pass = implies_out (surely r t) (sure_passes t) (and_second (implies (hopeful t) (hope_passes t)) (implies (surely r t) (sure_passes t)) both) s in
        (and_first (q t.origin.high.0) (q t.end.low.0) pass, and_second (q t.origin.high.0) (q t.end.low.0) pass)
