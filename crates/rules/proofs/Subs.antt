-- A task, or a list of tasks, whose sets and ranges lie inside another's.
use mathlib.Core.Path.{◌≡◌, refl, ap}
use Prim.Native.Nat.{suc}
use mathlib.Core.List.{List, [], ◌∷◌, map}
use lib.ListN.{length}
use Rattle.integers.specs.Hull.{Range, Sub}
use Rattle.integers.proofs.Z.{z, ~z}
use Rattle.plan.specs.declared.Task.{Task}
use Rattle.plan.specs.Days.{days_of}
use Rattle.plan.specs.Powers.{powers_of, negated_powers}
use Rattle.rules.specs.Step.{negated}
use Rattle.rules.specs.Keeps.{SubTask, Subs}
use Rattle.rules.specs.Keeps.Subs.{no_subs, more_subs}

pub sub_self : (t : Task) → SubTask t t
sub_self t = record { set = λ k e. e; origin = omega z; duration = omega z; end = omega z; height = omega z }

pub subs_self : (ts : List Task) → Subs ts ts
subs_self [] = no_subs
subs_self (t ∷ ts) = more_subs (sub_self t) (subs_self ts)

range_trans : (a b c : Range) → Sub a b → Sub b c → Sub a c
range_trans a b c h g = omega z

pub sub_trans : (u v t : Task) → SubTask u v → SubTask v t → SubTask u t
sub_trans u v t h g =
    record {
      set = λ k e. g.set k (h.set k e);
      origin = range_trans (days_of u.origin) (days_of v.origin) (days_of t.origin) h.origin g.origin;
      duration = range_trans (days_of u.duration) (days_of v.duration) (days_of t.duration) h.duration g.duration;
      end = range_trans (days_of u.end) (days_of v.end) (days_of t.end) h.end g.end;
      height = range_trans (powers_of u.height) (powers_of v.height) (powers_of t.height) h.height g.height;
    }

pub subs_trans : {us vs ts : List Task} → Subs us vs → Subs vs ts → Subs us ts
subs_trans no_subs no_subs = no_subs
subs_trans (more_subs {u} {t = v} h f) (more_subs {t} g k) = more_subs (sub_trans u v t h g) (subs_trans f k)

pub subs_length : {us ts : List Task} → Subs us ts → length us ≡ length ts
subs_length no_subs = refl
subs_length (more_subs h f) = ap suc (subs_length f)

-- ---- negated
sub_back : (t u : Task) → SubTask u (negated t) → SubTask (negated u) t
unfolding negated negated_powers
sub_back t u h =
    let e = h.height in
    record {
      set = h.set;
      origin = h.origin;
      duration = h.duration;
      end = h.end;
      height = omega (z, ~z t.height.low.0, ~z t.height.high.0, ~z u.height.low.0, ~z u.height.high.0);
    }

pub subs_back : (ts us : List Task) → Subs us (map negated ts) → Subs (map negated us) ts
subs_back [] us no_subs = no_subs
subs_back (t ∷ ts) us (more_subs {u} {us = vs} h f) = more_subs (sub_back t u h) (subs_back ts vs f)
