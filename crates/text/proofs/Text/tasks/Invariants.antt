use mathlib.Core.Path.{◌≡◌}
use Rattle.text.proofs.Texts.{Lines}
use Rattle.text.proofs.Text.tasks.Given as goal

abbrev pub invariant-loop-i : goal.invariant-loop-i
invariant-loop-i l =
    (l.self.out.ghost_name ≡ l.initial.self.out.ghost_name) × Lines l.tasks l.initial.self.out.now l.initial.self.len l.i l.self.len l.self.out.now
