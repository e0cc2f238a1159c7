-- The checks, the room, then the file.
use mathlib.Core.Path.{sym, ◌∙◌}
use Rattle.std.proofs.lemmas.Result.{err_from_is_err_and}
use Rattle.rules.specs.Frame.{framed}
use Rattle.rules.proofs.Checks.{accepts}
use Rattle.format.specs.Writing.{write_call}
use Rattle.format.proofs.Files.{length_written}
use Rattle.file.proofs.write.Goals as goal

pub room_for-requires : goal.room_for-requires
room_for-requires c =
    let a = c.args in
    let plan = accepts (framed a.sense a.resources.now a.bands.now) a.tasks.now (sym (c.check.ensures a.sense) ∙ c.in_ok-check.was) in
    (plan.most, plan.few_bands, plan.few)

pub returns-in_err-room_for : goal.returns-in_err-room_for
unfolding write_call
returns-in_err-room_for c =
    let a = c.args in
    let p = err_from_is_err_and c.from_residual-in_err-room_for.result c.from_residual-in_err-room_for.ensures.1 in
    rw (
      p.1,
      p.2,
      sym (c.check.ensures a.sense) ∙ c.in_ok-check.was,
      length_written (framed a.sense a.resources.now a.bands.now) a.tasks.now,
      sym c.room_for.ensures ∙ c.in_err-room_for.was,
    )

pub returns : goal.returns
unfolding write_call
returns c =
    let a = c.args in
    let long = length_written (framed a.sense a.resources.now a.bands.now) a.tasks.now in
    rw (
      c.put_plan.ensures,
      c.file_length.ensures.counted,
      sym (c.check.ensures a.sense) ∙ c.in_ok-check.was,
      long,
      sym c.room_for.ensures ∙ c.in_ok-room_for.was,
    )
    (rw long)
