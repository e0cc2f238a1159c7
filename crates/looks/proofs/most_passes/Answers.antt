-- The tasks passed the checks.
use Rattle.looks.proofs.Looked.{tasks_entered}
use Rattle.looks.proofs.most_passes.Goals as goal

pub most_passes-requires : goal.most_passes-requires
most_passes-requires c = tasks_entered c.args.file.now c.read_tasks.new.tasks c.in_ok-n.n c.in_ok-n.ensures
