-- What a step can make of a task's set: it stays as it was, becomes r alone, or loses r.
use Rattle.std.specs.Prelude.{Ok, Err}
use Rattle.plan.specs.Refusals.{Narrowed}
use mathlib.Core.Path.{◌≡◌, refl, ◌∙◌, subst}
use mathlib.Core.Bool.{Bool, true, false}
use mathlib.Core.List.{List}
use Prim.Native.Nat.{ℕ, ◌^◌}
use lib.Dec.{eqb}
use lib.IntN.{ℤ}
use Rattle.integers.specs.Tests.{and, any}
use Rattle.integers.specs.Hull.{Range, Left, left}
use Rattle.integers.specs.Hull.Left.{Nothing, Some}
use Rattle.integers.proofs.Tests.{clash, false_in, if-case}
use Rattle.plan.specs.declared.Task.{Task}
use Rattle.plan.specs.declared.Value.{Value}
use Rattle.plan.specs.declared.Value.TheVariants.{Origin, Duration, End, Height, Set}
use Rattle.plan.specs.Days.{days_of}
use Rattle.plan.specs.Powers.{powers_of}
use Rattle.plan.specs.Sets.{has, only}
use Rattle.plan.proofs.Sets.{only_in, without_out}
use Rattle.rules.specs.Frame.{Floor}
use Rattle.rules.specs.Step.{or_ran_out, running, needed, barred, keeps_origin, keeps_duration, keeps_end, keeps_height, needed_set, kept_set, narrowed}

-- what is kept has this set
abbrev SetIs : ℕ → Narrowed → Type 0
SetIs s (Err v) = Unit {0}
SetIs s (Ok u) = u.set ≡ s

left_set : (s : ℕ) (v : Value) (l : Left) (k : Range → Narrowed) → ((x : Range) → SetIs s (k x)) → SetIs s (or_ran_out v l k)
left_set s v Nothing k f = tt
left_set s v (Some x) k f = f x

module _ (r : ℕ) (limit : Floor) (ts : List Task) (days : List ℤ) (t : Task) where
  narrowed_set : SetIs (kept_set r limit ts days t) (narrowed r limit ts days t)
  unfolding narrowed
  narrowed_set =
      let s = kept_set r limit ts days t in
      left_set s Origin (left (keeps_origin r limit ts days t) (days_of t.origin)) _ λ o.
      left_set s Duration (left (keeps_duration r limit ts days t) (days_of t.duration)) _ λ d.
      left_set s End (left (keeps_end r limit ts days t) (days_of t.end)) _ λ e.
      left_set s Height (left (keeps_height r limit ts days t) (powers_of t.height)) _ λ h.
      if-case (SetIs s) (eqb s 0) (Err Set) _ (λ q. tt) (λ q. refl)

  pub kept_set_is : (u : Task) → narrowed r limit ts days t ≡ Ok u → u.set ≡ kept_set r limit ts days t
  kept_set_is u e = subst (SetIs (kept_set r limit ts days t)) e narrowed_set

  -- r is still in the set, beside another resource: no need spoke, and no bar took r
  module _ (h : has (kept_set r limit ts days t) r ≡ true) (o : only (kept_set r limit ts days t) r ≡ false) where
    abbrev bars : Bool
    bars = any (λ i. and (barred r limit ts t i) (running r i t)) days

    abbrev needs : Bool
    needs = any (needed r limit ts t) days

    pub no_bar_spoke : bars ≡ false
    unfolding kept_set
    no_bar_spoke = false_in bars (λ e. without_out (needed_set r limit ts days t) r (rw e at h))

    needed_set_is : kept_set r limit ts days t ≡ needed_set r limit ts days t
    unfolding kept_set
    needed_set_is = rw no_bar_spoke

    pub no_need_spoke : needs ≡ false
    unfolding needed_set
    no_need_spoke =
        false_in needs
        (λ e.
        let s : needed_set r limit ts days t ≡ 2 ^ r = rw e in
        clash (only (kept_set r limit ts days t) r) (only_in (kept_set r limit ts days t) r (needed_set_is ∙ s)) o)

    pub set_stayed : kept_set r limit ts days t ≡ t.set
    unfolding needed_set
    set_stayed = needed_set_is ∙ rw no_need_spoke
