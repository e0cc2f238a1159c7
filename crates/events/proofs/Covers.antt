-- The extremes of a resource's tasks reach as far as each of them, are days, and hold every event's day.
use mathlib.Core.Path.{◌≡◌, ◌∙◌}
use mathlib.Core.Bool.{true}
use mathlib.Core.List.{List, [], ◌∷◌}
use Prim.Native.Nat.{ℕ}
use lib.Signed.{◌≤ℤ◌}
use Rattle.integers.specs.Hull.{Range, range, within}
use Rattle.integers.specs.Lists.{Each, In}
use Rattle.integers.specs.Lists.In.{head, tail}
use Rattle.integers.proofs.Z.{z, maxz, minz}
use Rattle.integers.proofs.Tests.{by_cases, and_in, implies_in}
use Rattle.integers.proofs.Lists.{each_in, all_members}
use Rattle.integers.proofs.Hull.{within_in}
use Rattle.plan.specs.declared.Task.{Task}
use Rattle.plan.specs.Sets.{has}
use Rattle.plan.specs.Tasks.{Bounded}
use Rattle.stretches.specs.Asks.{bar_of, lift_of}
use Rattle.events.specs.declared.Extremes.{Extremes}
use Rattle.events.specs.Events.{hopeful, surely, keys_of}
use Rattle.events.specs.Extremes.{with_task, joined, extremes_of}
use Rattle.events.proofs.Spans.{hopeful_is, surely_is}
use Rattle.events.proofs.Days.{on_days, keys_days}

pub record Covers (e : Extremes) (t : Task) : Type 0 where
  pub low : e.low.0 ≤ℤ t.origin.low.0
  pub high : t.end.high.0 ≤ℤ e.high.0
  pub bar : bar_of t ≤ℤ e.bar.0
  pub lift : lift_of t ≤ℤ e.lift.0

-- the second reaches as far as the first
pub record Over (d e : Extremes) : Type 0 where
  pub low : e.low.0 ≤ℤ d.low.0
  pub high : d.high.0 ≤ℤ e.high.0
  pub bar : d.bar.0 ≤ℤ e.bar.0
  pub lift : d.lift.0 ≤ℤ e.lift.0

module _ (r : ℕ) where
  module _ (e : Extremes) (t : Task) where
    joined_over : Over e (joined r e t)
    unfolding joined with_task
    joined_over =
        by_cases (has t.set r)
        (λ g.
        rw g
        (omega (z, minz e.low.0 t.origin.low.0, maxz e.high.0 t.end.high.0, maxz e.bar.0 (bar_of t), maxz e.lift.0 (lift_of t))))
        (λ g. rw g (omega z))

    joined_covers : has t.set r ≡ true → Covers (joined r e t) t
    unfolding joined with_task
    joined_covers g =
        rw g
        (omega (z, minz e.low.0 t.origin.low.0, maxz e.high.0 t.end.high.0, maxz e.bar.0 (bar_of t), maxz e.lift.0 (lift_of t)))

  pub extremes_over : (e : Extremes) (ts : List Task) → Over e (extremes_of r e ts)
  unfolding extremes_of
  extremes_over e [] = omega z
  extremes_over e (t ∷ ts) = let p = joined_over e t in let q = extremes_over (joined r e t) ts in omega z

  pub extremes_cover : {t : Task} (e : Extremes) {ts : List Task} → In t ts → has t.set r ≡ true → Covers (extremes_of r e ts) t
  unfolding extremes_of
  extremes_cover {t} e (head {xs = ts}) g = let p = joined_covers e t g in let q = extremes_over (joined r e t) ts in omega z
  extremes_cover e (tail {y = u} k) g = extremes_cover (joined r e u) k g

  abbrev pub reach_of : Extremes → Range
  reach_of e = range e.low.0 e.high.0

  pub keys_within : (e : Extremes) (ts : List Task) → Each Bounded ts → on_days (within (reach_of (extremes_of r e ts))) (keys_of r ts) ≡ true
  keys_within e ts bs =
      let x = reach_of (extremes_of r e ts) in
      keys_days (within x) r bs
      ∙ all_members _ ts
      (λ t k.
      let b = each_in bs k in
      implies_in (has t.set r) _
      (λ g.
      let c = extremes_cover e k g in
      and_in _ _
      (implies_in (hopeful t) _
      (λ h.
      let d = hopeful_is t h in
      and_in _ _ (within_in x t.origin.low.0 (omega (z, c, d))) (within_in x t.end.high.0 (omega (z, c, d)))))
      (implies_in (surely r t) _
      (λ h.
      let d = surely_is t r h in
      and_in _ _ (within_in x t.origin.high.0 (omega (z, c, d, b.origin, b.end))) (within_in x t.end.low.0 (omega (z, c, d, b.origin, b.end)))))))
