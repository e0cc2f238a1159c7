-- A part of the stretches that holds every possible day of a task tells as much of it as all of them.
use mathlib.Core.Path.{◌≡◌, sym, ap, ◌∙◌, subst}
use mathlib.Core.Bool.{true, false}
use mathlib.Core.List.{List, [], ◌∷◌}
use Prim.Native.Nat.{ℕ, zero, suc, ◌+◌, ◌-◌, ◌≤◌, ◌<◌}
use native.Mathlib.Omega.{arith}
use lib.ListN.{length, take, drop, get_or, length-take, length-drop}
use lib.Seq.{get_or-take, get_or-drop}
use lib.IntN.{ℤ}
use lib.Signed.{◌≤ℤ◌}
use Rattle.std.specs.Prelude.{Ok}
use Rattle.integers.specs.Tests.{any}
use Rattle.integers.proofs.Z.{z}
use Rattle.integers.proofs.Tests.{clash, by_cases, false_in}
use Rattle.integers.proofs.Lists.{any_place, in_at, in_any}
use Rattle.plan.specs.declared.Task.{Task}
use Rattle.rules.specs.Frame.{Floor}
use Rattle.rules.specs.Step.{possible, narrowed, listed_days}
use Rattle.rules.proofs.Live.{Live}
use Rattle.rules.proofs.TaskDay.{possible_is}
use Rattle.stretches.specs.declared.Stretch.{Stretch}
use Rattle.stretches.specs.View.{no_stretch, on_day}
use Rattle.stretches.specs.Tells.{Quiet, Exact, Uncut, Ordered, Tells}
use Rattle.stretches.proofs.View.{on_out}
use Rattle.searches.specs.Searches.{Begun}
use Rattle.searches.proofs.Order.{below_cases, ordered_rest, begun_past}
use Rattle.narrow.specs.Ready.{possible_days}
use Rattle.narrow.specs.Window.{Over, Ahead, Met}
use Rattle.narrow.proofs.NarrowedTask.{quiet_page, quiet_off}

-- ---- a part in order
pub ordered_take : (n : ℕ) (ss : List Stretch) → Ordered ss → Ordered (take n ss)
unfolding Ordered
ordered_take zero ss h = tt
ordered_take (suc n) [] h = tt
ordered_take (suc n) (s ∷ []) h = only n
  where
    only : (n : ℕ) → Ordered (s ∷ take n [])
    only zero = h
    only (suc n) = h
ordered_take (suc zero) (s ∷ u ∷ ss) h = h.0
ordered_take (suc (suc n)) (s ∷ u ∷ ss) h = (h.0, h.1, ordered_take (suc n) (u ∷ ss) h.2)

ordered_drop : (n : ℕ) (ss : List Stretch) → Ordered ss → Ordered (drop n ss)
ordered_drop zero ss h = h
ordered_drop (suc n) [] h = h
ordered_drop (suc n) (s ∷ ss) h = ordered_drop n ss (ordered_rest s ss h)

-- of the first b, all but the last of those that begin before day d are over by then
pub over_part : (ss : List Stretch) (b n : ℕ) (d : ℤ) → Ordered ss → n ≤ length (take b ss) → Begun (take b ss) d n n → Over ss d (n - 1)
over_part ss b n d o m g k l h =
    let i : k < length (take b ss) = omega arith in
    subst (λ (s : Stretch). s.to.0 ≤ℤ d) (get_or-take b ss k no_stretch (omega (arith, length-take b ss))) (begun_past (take b ss) d (ordered_take b ss o) n m g k l i)

-- ---- the stretches outside a .. b - 1 hold no possible day of the task
module _ (r : ℕ) (limit : Floor) (ts : List Task) (t : Task) (live : Live t) (ss : List Stretch) (tells : Tells r limit ts t ss)
    (a b : ℕ) (over : Over ss t.origin.low.0 a) (ahead : Ahead ss t.end.high.0 b) where
  -- so a day on which every stretch is one of those is quiet
  quiet_outside : (i : ℤ) → ((k : ℕ) → k < length ss → on_day i (get_or ss k no_stretch) ≡ true → a ≤ k → k < b → ⊥) → Quiet r limit ts t i
  quiet_outside i f =
      by_cases (any (on_day i) ss)
      (λ g.
      let p = any_place (on_day i) no_stretch ss g in
      let x = on_out (get_or ss p.at no_stretch) i p.holds in
      quiet_off r limit ts t live i
      (false_in (possible r i t)
      (λ h.
      let y = possible_is r i t h in
      below_cases p.at a
      (λ c. let e = over p.at c p.inside in omega z)
      (λ c. below_cases p.at b (f p.at p.inside p.holds c) (λ d. let e = ahead p.at d p.inside in omega z)))))
      (λ g. tells.quiet i g)

  part_tells : Tells r limit ts t (drop a (take b ss))
  part_tells =
      record {
        ordered = ordered_drop a (take b ss) (ordered_take b ss tells.ordered);
        exact = λ k l. subst (λ (s : Stretch). Exact r limit ts s) (sym (same k l)) (tells.exact (a + k) (inside k l));
        uncut = λ k l. subst (λ (s : Stretch). Uncut r t s) (sym (same k l)) (tells.uncut (a + k) (inside k l));
        quiet = λ i h. quiet_outside i (outside i h);
      }
    where
      size : length (drop a (take b ss)) ≡ length (take b ss) - a
      size = length-drop a (take b ss)

      inside : (k : ℕ) → k < length (drop a (take b ss)) → a + k < length ss
      inside k l = omega (arith, size, length-take b ss)

      same : (k : ℕ) → k < length (drop a (take b ss)) → get_or (drop a (take b ss)) k no_stretch ≡ get_or ss (a + k) no_stretch
      same k l = get_or-drop a (take b ss) k no_stretch ∙ get_or-take b ss (a + k) no_stretch (omega (arith, size, length-take b ss))

      outside : (i : ℤ) → any (on_day i) (drop a (take b ss)) ≡ false → (k : ℕ) → k < length ss → on_day i (get_or ss k no_stretch) ≡ true → a ≤ k → k < b → ⊥
      outside i h k l o c d =
          let e : a + (k - a) ≡ k = omega arith in
          let j : k - a < length (drop a (take b ss)) = omega (arith, size, length-take b ss) in
          clash (any (on_day i) (drop a (take b ss)))
          (in_any (on_day i) (in_at no_stretch (k - a) (drop a (take b ss)) j)
          (subst (λ (s : Stretch). on_day i s ≡ true) (sym (same (k - a) j ∙ ap (λ (n : ℕ). get_or ss n no_stretch) e)) o))
          h

-- so those that can meet its possible days tell of it what all tell
pub met_tells : (r : ℕ) (limit : Floor) (ts : List Task) (t : Task) → Live t → (ss us : List Stretch) → Tells r limit ts t ss → Met ss (possible_days t) us → Tells r limit ts t us
met_tells r limit ts t live ss us tells m = rw m.are (part_tells r limit ts t live ss tells m.from m.to m.over m.ahead)

-- no stretch is left: no rule touches the task
pub none_page : (r : ℕ) (limit : Floor) (ts : List Task) (t : Task) → Live t → (ss : List Stretch) → Tells r limit ts t ss → length ss ≡ 0 → Ok t ≡ narrowed r limit ts (listed_days ts) t
none_page r limit ts t live ss tells e =
    quiet_page r limit ts t live
    (λ i. tells.quiet i (false_in (any (on_day i) ss) (λ g. let p = any_place (on_day i) no_stretch ss g in let l = p.inside in absurd (omega arith))))
