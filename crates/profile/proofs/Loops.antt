-- What one turn of the sweep keeps: the stretches written, joined to those that the keys left will make, are the answer.
use mathlib.Core.Path.{◌≡◌, ◌∙◌}
use mathlib.Core.List.{List, [], ◌∷◌, ◌++◌}
use Prim.Native.Nat.{ℕ, ◌+◌, ◌*◌, ◌≤◌, ◌<◌}
use native.Mathlib.Numerals.{add-one}
use native.Mathlib.Omega.{arith}
use lib.IntN.{ℤ, ◌+ℤ◌, nat_abs}
use lib.ListN.{length, take, drop, get_or, drop_of_length-le}
use lib.Seq.{drop-cons}
use mir.Syntax.{w64}
use mir.Val.{SFits}
use Rattle.integers.proofs.Z.{z, +z}
use Rattle.integers.proofs.Tests.{if-case}
use Rattle.integers.proofs.Sums.{Near}
use Rattle.plan.specs.Powers.{power_high}
use Rattle.plan.specs.Tasks.{most_tasks}
use Rattle.stretches.specs.declared.Stretch.{Stretch}
use Rattle.events.specs.declared.Extremes.{Extremes}
use Rattle.events.specs.Keys.{power_field, count_field, day_of, power_of, sure_of}
use Rattle.events.specs.Laid.{Laid}
use Rattle.events.proofs.Keys.{power_near, sure_near}
use Rattle.events.proofs.Laid.{laid_more}
use Rattle.profile.specs.declared.Level.{Level}
use Rattle.profile.specs.Lent.{most_events, most_more}
use Rattle.profile.specs.Sweep.{changed, stretch_in, worth, worthy, swept}

pub worthy_few : (e : Extremes) (t : Stretch) → length (worthy e t) ≤ 1
worthy_few e t = if-case (λ l. length l ≤ 1) (worth e t) (t ∷ []) [] (λ _. omega arith) (λ _. omega arith)

module _ (e : Extremes) (ks : List ℕ) (j : ℕ) where
  -- the stretch up to key j behind those before it
  pub swept_more : j < length ks → (k l : List Stretch) (n m : ℕ) (a : ℤ) (v : Level) →
      Laid k l n m (worthy e (stretch_in a (day_of (get_or ks j 0)) v)) →
      take m l ++ swept e (day_of (get_or ks j 0)) (changed v (get_or ks j 0)) (drop (j + 1) ks) ≡ take n k ++ swept e a v (drop j ks)
  unfolding swept
  swept_more h k l n m a v p =
      laid_more k l n m (worthy e (stretch_in a (day_of (get_or ks j 0)) v)) (swept e (day_of (get_or ks j 0)) (changed v (get_or ks j 0)) (drop (j + 1) ks)) p
      ∙ rw (add-one, drop-cons ks j 0 h)

  pub swept_end : length ks ≤ j → (k l : List Stretch) (n m : ℕ) (a : ℤ) (v : Level) →
      Laid k l n m (worthy e (stretch_in a e.high.0 v)) →
      take m l ≡ take n k ++ swept e a v (drop j ks)
  unfolding swept
  swept_end h k l n m a v p = p.front ∙ rw (drop_of_length-le ks h)

-- ---- the sums stay small
pub record Small (j : ℕ) (v : Level) : Type 0 where
  pub slack : Near (nat_abs power_high + j * power_field) v.slack.0
  pub sure : Near (j * count_field) v.sure.0

module _ (j : ℕ) (v : Level) (k : ℕ) (s : Small j v) where
  pub small_fits : j < most_events most_tasks most_more → SFits w64 (v.slack.0 +ℤ power_of k) × SFits w64 (v.sure.0 +ℤ sure_of k)
  small_fits h = omega (z, power_near k, sure_near k, s.slack, s.sure, +z v.slack.0 (power_of k), +z v.sure.0 (sure_of k))

  pub small_more : Small (j + 1) (changed v k)
  unfolding changed
  small_more = omega (z, power_near k, sure_near k, s.slack, s.sure, +z v.slack.0 (power_of k), +z v.sure.0 (sure_of k))
