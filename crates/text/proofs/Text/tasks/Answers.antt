-- The lines still to come, put into the list as it is now, give the list with all of them.
use native.Mathlib.Omega.{arith}
use mathlib.Core.Path.{◌∙◌}
use Rattle.text.proofs.Texts.{lines_go_on, lines_end}
use Rattle.text.proofs.Text.tasks.Goals as goal

pub loop-i-preserved : goal.loop-i-preserved
loop-i-preserved c = let t = c.args.self.now in
    (c.task.ensures.same ∙ c.loop-i.invariant.0, lines_go_on c.args.tasks.now t.out.now t.len _ c.loop-i.invariant.1 c.loop-i-test.true c.task.ensures.put)

pub returns : goal.returns
returns c = let t = c.args.self.now in
    let i = c.loop-i.invariant in
    record { put = lines_end c.args.tasks.now t.out.now t.len i.1 (omega (arith, c.loop-i-test.false)); same = i.0; long = i.1.room }
