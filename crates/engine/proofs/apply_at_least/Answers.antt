-- Each call by its own function: what it leaves is what the page gives.
use mathlib.Core.Path.{sym, ap, ◌∙◌}
use Prim.Native.Nat.{ℕ, ◌^◌}
use native.Mathlib.Omega.{arith}
use Rattle.std.proofs.Common.{rules}
use Rattle.integers.proofs.Lists.{each_so}
use Rattle.plan.specs.declared.Call.{Call}
use Rattle.plan.specs.declared.Sense.TheVariants.{AtLeast}
use Rattle.rules.specs.Frame.{framed}
use Rattle.rules.specs.Balance.{balance}
use Rattle.rules.specs.Step.{resource_step}
use Rattle.rules.specs.Settle.{pass}
use Rattle.rules.specs.Calls.{done, call_of}
use Rattle.rules.proofs.PassTheorems.{call_within}
use Rattle.rules.proofs.Bounds.{rooms_most}
use Rattle.rules.proofs.Checks.{accepts}
use Rattle.idle.proofs.Mask.{all_idle}
use Rattle.engine.proofs.Calls.{left_answers, answers}
use Rattle.engine.proofs.apply_at_least.Goals as goal

pub balance-requires : goal.balance-requires
balance-requires c =
    each_so (λ t k. k.ranges) (accepts (framed AtLeast c.args.resources.now c.args.bands.now) c.args.tasks.now c.requires.1.accepted).tasks

pub resource_step-requires-clause-idle : goal.resource_step-requires-clause-idle
resource_step-requires-clause-idle c =
    all_idle (framed AtLeast c.args.resources.now c.args.bands.now) c.args.tasks.now c.requires.1.accepted

pub pass-requires-clause-idle : goal.pass-requires-clause-idle
pass-requires-clause-idle c = all_idle (framed AtLeast c.args.resources.now c.args.bands.now) c.args.tasks.now c.requires.1.accepted

pub returns-in-Check-clause-answered : goal.returns-in-Check-clause-answered
returns-in-Check-clause-answered c =
    answers c.args.c c.args.resources.now c.args.bands.now c.args.tasks.now c.requires.1.accepted c.requires.0 c.in-Check.is

pub returns-in-Balance-clause-answered : goal.returns-in-Balance-clause-answered
returns-in-Balance-clause-answered c =
    let ts = c.args.tasks.now in
    left_answers (λ x n q. search rules) c.balance.result c.map.result c.ok_or.result c.map.ensures.cases c.ok_or.ensures.value ts c.balance.new.tasks
    (balance ts) c.balance.ensures.after
    ∙ answers c.args.c c.args.resources.now c.args.bands.now ts c.requires.1.accepted c.requires.0 c.in-Balance.is

pub returns-in-Step-clause-answered : goal.returns-in-Step-clause-answered
returns-in-Step-clause-answered c =
    let f = framed AtLeast c.args.resources.now c.args.bands.now in
    let ts = c.args.tasks.now in
    let s = c.resource_step in
    left_answers (λ x n q. search rules) s.result c.map-in-Step.result c.ok_or-in-Step.result c.map-in-Step.ensures.cases c.ok_or-in-Step.ensures.value ts
    s.new.tasks (resource_step f c.in-Step.place ts) s.ensures.took.outcome
    ∙ answers c.args.c c.args.resources.now c.args.bands.now ts c.requires.1.accepted c.requires.0 c.in-Step.is

pub returns-in-Pass-clause-answered : goal.returns-in-Pass-clause-answered
returns-in-Pass-clause-answered c =
    let f = framed AtLeast c.args.resources.now c.args.bands.now in
    let ts = c.args.tasks.now in
    let s = c.pass in
    left_answers (λ x n q. search rules) s.result c.map-in-Pass.result c.ok_or-in-Pass.result c.map-in-Pass.ensures.cases c.ok_or-in-Pass.ensures.value ts
    s.new.tasks (pass f ts) s.ensures.took.outcome
    ∙ answers c.args.c c.args.resources.now c.args.bands.now ts c.requires.1.accepted c.requires.0 c.in-Pass.is

pub returns-in-Settle-clause-answered : goal.returns-in-Settle-clause-answered
returns-in-Settle-clause-answered c =
    let f = framed AtLeast c.args.resources.now c.args.bands.now in
    let ts = c.args.tasks.now in
    let few = rooms_most f ts c.requires.1.accepted in
    c.settle.ensures.answered ∙ call_within f ts (2 ^ 32) (omega arith) ∙ ap (λ (x : Call). call_of x f ts) (sym c.in-Settle.is)

pub returns-in-MostPasses-clause-answered : goal.returns-in-MostPasses-clause-answered
returns-in-MostPasses-clause-answered c =
    ap (λ (n : ℕ). done n c.args.tasks.now) c.most_passes.ensures
    ∙ answers c.args.c c.args.resources.now c.args.bands.now c.args.tasks.now c.requires.1.accepted c.requires.0 c.in-MostPasses.is
