-- The passes of settling, counted on: one pass more is one pass more, and one fewer is left to make.
use Rattle.std.specs.Prelude.{Some, None}
use Rattle.plan.specs.Refusals.{accepted}
use mathlib.Core.Path.{◌≡◌, sym, ap, ◌∙◌, subst}
use mathlib.Core.Bool.{Bool, true, false, not}
use mathlib.Core.List.{List}
use Prim.Native.Nat.{ℕ, suc, ◌+◌, ◌-◌, ◌≤◌, ◌<◌}
use native.Mathlib.Omega.{arith}
use Rattle.plan.specs.declared.Sense.TheVariants.{AtLeast}
use Rattle.plan.specs.declared.Task.{Task}
use Rattle.rules.specs.Frame.{Frame}
use Rattle.rules.specs.Settle.{pass, same_tasks, settle_within}
use Rattle.rules.specs.Settle.Settled.{Refused, After, Unsettled}
use Rattle.rules.specs.Calls.{check}
use Rattle.rules.proofs.Keeps.{Sound}
use Rattle.rules.specs.Keeps.{Keeps}
use Rattle.rules.proofs.Passes.{pass_sound}
use Rattle.rules.proofs.Ends.{within_refused, within_last, within_more}
use Rattle.rules.proofs.Within.{plus_passes, plus_none, plus_more}
use Rattle.idle.specs.declared.Passed.{Passed}
use Rattle.idle.specs.Mask.{lively_places, Idle, Took}
use Rattle.idle.proofs.Resting.{lively_idle}

-- ---- settling under way: so many passes of the most are done, and those that are left, on the list as it is now, give the answer
pub record Settles (most : ℕ) (f : Frame) (ts us : List Task) (mask passes : ℕ) : Type 0 where
  pub accepted : check f us ≡ accepted
  pub idle : Idle mask f us
  pub few : passes ≤ most
  pub rest : settle_within most f ts ≡ plus_passes passes (settle_within (most - passes) f us)

module _ (most : ℕ) (f : Frame) (least : f.sense ≡ AtLeast) (ts : List Task) where
  -- at first the resources of lively tasks may change something
  pub settles_start : check f ts ≡ accepted → Settles most f ts ts (lively_places 0 ts) 0
  settles_start a =
      let e : most - 0 ≡ most = omega arith in
      record {
        accepted = a;
        idle = lively_idle f least ts a;
        few = omega arith;
        rest = sym (plus_none (settle_within (most - 0) f ts) ∙ ap (λ (n : ℕ). settle_within n f ts) e);
      }

  module _ (us : List Task) (mask passes : ℕ) (s : Settles most f ts us mask passes) where
    -- no pass is left to make
    pub settles_end : most ≤ passes → settle_within most f ts ≡ Unsettled us
    unfolding settle_within
    settles_end l =
        let e : most - passes ≡ 0 = omega arith in
        s.rest ∙ ap (λ (n : ℕ). plus_passes passes (settle_within n f us)) e

    -- a pass of those that are left
    module _ (left : passes < most) (vs : List Task) where
      fewer : most - passes ≡ suc (most - (passes + 1))
      fewer = omega arith

      goes : settle_within most f ts ≡ plus_passes passes (settle_within (suc (most - (passes + 1))) f us)
      goes = s.rest ∙ ap (λ (n : ℕ). plus_passes passes (settle_within n f us)) fewer

      -- it found no plan
      pub settles_none : Took (pass f) f false us None vs → settle_within most f ts ≡ Refused
      settles_none t = goes ∙ ap (plus_passes passes) (within_refused f (most - (passes + 1)) us (sym t.outcome))

      module _ (p : Passed) (t : Took (pass f) f false us (Some p) vs) where
        told : (b : Bool) → p.changed ≡ b → same_tasks us vs ≡ not b
        told b h = not_not (same_tasks us vs) b (sym t.noted.changed ∙ h)
          where
            not_not : (x b : Bool) → not x ≡ b → x ≡ not b
            not_not true b h = ap not h
            not_not false b h = ap not h

        -- it changed nothing
        pub settles_last : p.changed ≡ false → settle_within most f ts ≡ After (passes + 1) vs
        settles_last h = goes ∙ ap (plus_passes passes) (within_last f (most - (passes + 1)) us vs (sym t.outcome) (told false h))

        -- it changed something
        pub settles_more : p.changed ≡ true → Settles most f ts vs p.mask (passes + 1)
        settles_more h =
            let kept : Keeps f us vs = subst (Sound f us) (sym t.outcome) (pass_sound f us s.accepted) in
            record {
              accepted = kept.accepted;
              idle = t.noted.idle;
              few = omega arith;
              rest =
                  goes ∙ ap (plus_passes passes) (within_more f (most - (passes + 1)) us vs (sym t.outcome) (told true h))
                  ∙ plus_more passes (settle_within (most - (passes + 1)) f vs);
            }
