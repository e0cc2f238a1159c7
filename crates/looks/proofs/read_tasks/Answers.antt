-- The header counts no more than our lists have places for.
use Rattle.std.proofs.Common.{sym, arith}
use Rattle.format.proofs.Files.{header_few}
use Rattle.looks.proofs.Looked.{tasks_are}
use Rattle.looks.proofs.read_tasks.Goals as goal

pub read_rest-requires : goal.read_rest-requires
read_rest-requires c =
    let few = header_few c.args.file.now (sym c.in_ok-h.ensures) in
    (few.resources, omega (arith, few.tasks, c.requires))

pub returns : goal.returns
returns c =
    let few = header_few c.args.file.now (sym c.in_ok-h.ensures) in
    tasks_are c.args.file.now c.read_rest.new.tasks c.in_ok-h.h _ c.in_ok-h.ensures c.in_ok-read_rest.ensures.read (omega (arith, few.tasks, c.requires, c.read_rest.auto.tasks))
