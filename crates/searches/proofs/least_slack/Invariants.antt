use Rattle.std.proofs.Common.{◌≡◌, drop}
use mathlib.Core.List.{foldl}
use Rattle.plan.specs.declared.Power.{Power}
use Rattle.stretches.specs.declared.Stretch.{Stretch}
use Rattle.searches.specs.declared.Days.{Days}
use Rattle.searches.proofs.LeastSlack.{lowered}
use Rattle.searches.proofs.least_slack.Given as goal

abbrev lower : Days → Power → Stretch → Power
lower w x s = lowered w s x

abbrev pub invariant-loop-s : goal.invariant-loop-s
invariant-loop-s l = foldl (lower l.w) l.x (drop l.s-index l.stretches) ≡ foldl (lower l.w) l.initial.x l.stretches
