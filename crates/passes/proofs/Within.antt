-- What settling answers, and what a pass left, taken from the result that settling makes of it.
use Rattle.std.specs.Prelude.{Option, Some, None, Ok, Err}
use Rattle.std.specs.Option.{ok_or}
use mathlib.Core.Path.{◌≡◌, refl, sym, ap, ◌∙◌, subst}
use mathlib.Core.Bool.{Bool}
use mathlib.Core.List.{List}
use Prim.Native.Nat.{ℕ}
use Rattle.plan.specs.declared.Call.TheVariants.{Within}
use Rattle.plan.specs.declared.Refusal.{Refusal}
use Rattle.plan.specs.declared.Refusal.TheVariants.{NoPlan}
use Rattle.plan.specs.declared.Task.{Task}
use Rattle.plan.specs.Refusals.{accepted}
use Rattle.rules.specs.Frame.{Frame}
use Rattle.rules.specs.Balance.{Outcome}
use Rattle.rules.specs.Settle.{Settled, settle_within}
use Rattle.rules.specs.Calls.{check, settled, call_of}
use Rattle.rules.proofs.Calls.{call_answered}
use Rattle.idle.specs.declared.Passed.{Passed}
use Rattle.idle.specs.Mask.{Took}

module _ {taken : List Task → Outcome} {f : Frame} {before : Bool} {ts us : List Task} where
  pub took_some : (o : Option Passed) → Took taken f before ts o us → (p : Passed) → ok_or o NoPlan ≡ Ok p → Took taken f before ts (Some p) us
  took_some None t p h = absurd (cc)
  took_some (Some q) t p h = let same : q ≡ p = cc in subst (λ (x : Passed). Took taken f before ts (Some x) us) same t

  pub took_none : (o : Option Passed) → Took taken f before ts o us → {r : Refusal} → ok_or o NoPlan ≡ Err r → Took taken f before ts None us
  took_none None t h = t
  took_none (Some q) t h = absurd (cc)

-- settled, as the call that may make so many passes answers
pub within_answers : (most : ℕ) (f : Frame) (ts : List Task) → check f ts ≡ accepted → (x : Settled) → settle_within most f ts ≡ x → settled ts x ≡ call_of (Within most) f ts
within_answers most f ts a x e = ap (settled ts) (sym e) ∙ sym (call_answered (Within most) f ts a refl)
