-- Passes until one changes nothing, at most so many. The invariant: so many passes of the most are done, and settling the list as it is now within
-- those that are left gives the rest.
use Rattle.std.specs.Prelude.{Err}
use native.Mathlib.Omega.{arith}
use borrow.Author.Tests.{not-false}
use mathlib.Core.Path.{◌≡◌, refl, sym, ◌∙◌}
use Rattle.std.proofs.Common.{rules}
use Rattle.integers.proofs.Tests.{not_out}
use Rattle.plan.specs.declared.Refusal.TheVariants.{NoPlan}
use Rattle.plan.specs.declared.Sense.TheVariants.{AtLeast}
use Rattle.rules.specs.Frame.{framed}
use Rattle.idle.proofs.Settles.{settles_start, settles_end, settles_none, settles_last, settles_more}
use Rattle.passes.proofs.Ready.{kept_on}
use Rattle.passes.proofs.Within.{took_some, took_none, within_answers}
use Rattle.passes.proofs.settle.Goals as goal

pub loop-passes-init : goal.loop-passes-init
loop-passes-init c =
    let f = framed AtLeast c.args.resources.now c.args.bands.now in
    record {
      size = refl;
      kept = record { keys = refl; stretches = refl };
      settles = rw c.lively_places-mask.ensures (settles_start c.args.most f refl c.args.tasks.now c.requires.accepted);
    }

pub returns-in_err-p-clause-answered : goal.returns-in_err-p-clause-answered
returns-in_err-p-clause-answered c =
    let f = framed AtLeast c.args.resources.now c.args.bands.now in
    let ts = c.args.tasks.now in
    let l = c.loop-passes in
    let e : c.from_residual.result ≡ Err NoPlan = search rules in
    let took = took_none c.pass.result c.pass.ensures.took (sym c.ok_or.ensures.value ∙ c.in_err-p.was) in
    rw e
    (within_answers c.args.most f ts c.requires.accepted _
    (settles_none c.args.most f refl ts l.tasks l.mask l.passes l.invariant.settles (omega arith) c.pass.new.tasks took))

pub returns-then-not-p-clause-answered : goal.returns-then-not-p-clause-answered
returns-then-not-p-clause-answered c =
    let f = framed AtLeast c.args.resources.now c.args.bands.now in
    let ts = c.args.tasks.now in
    let l = c.loop-passes in
    let p = c.in_ok-p.p in
    let took = took_some c.pass.result c.pass.ensures.took p (sym c.ok_or.ensures.value ∙ c.in_ok-p.was) in
    within_answers c.args.most f ts c.requires.accepted _
    (settles_last c.args.most f refl ts l.tasks l.mask l.passes l.invariant.settles (omega arith) c.pass.new.tasks p took (not_out p.changed c.if-not-p.true))

pub loop-passes-preserved : goal.loop-passes-preserved
loop-passes-preserved c =
    let f = framed AtLeast c.args.resources.now c.args.bands.now in
    let l = c.loop-passes in
    let p = c.in_ok-p.p in
    let took = took_some c.pass.result c.pass.ensures.took p (sym c.ok_or.ensures.value ∙ c.in_ok-p.was) in
    record {
      size = c.pass.auto.tasks ∙ l.invariant.size;
      kept = kept_on l.invariant.kept c.pass.ensures.kept;
      settles =
          settles_more c.args.most f refl c.args.tasks.now l.tasks l.mask l.passes l.invariant.settles (omega arith) c.pass.new.tasks p took
          (not-false p.changed c.if-not-p.false);
    }

pub returns-clause-answered : goal.returns-clause-answered
returns-clause-answered c =
    let f = framed AtLeast c.args.resources.now c.args.bands.now in
    let ts = c.args.tasks.now in
    let l = c.loop-passes in
    within_answers c.args.most f ts c.requires.accepted _
    (settles_end c.args.most f refl ts l.tasks l.mask l.passes l.invariant.settles (omega arith))
