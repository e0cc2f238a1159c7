use Rattle.std.proofs.Common.{◌≡◌, drop}
use mathlib.Core.List.{foldl}
use Rattle.plan.specs.declared.Power.{Power}
use Rattle.stretches.specs.declared.Stretch.{Stretch}
use Rattle.searches.specs.declared.Days.{Days}
use Rattle.searches.specs.Searches.{needed_part, BothIn, days_in}
use Rattle.searches.proofs.NeededDays.{no_days, joined}
use Rattle.searches.proofs.needed_days.Given as goal

abbrev join : Days → Power → Days → Stretch → Days
join w h r s = joined (needed_part w h s) r

abbrev pub invariant-loop-s : goal.invariant-loop-s
invariant-loop-s l =
    BothIn (days_in l.w) (days_in l.r) × (foldl (join l.w l.h) l.r (drop l.s-index l.stretches) ≡ foldl (join l.w l.h) (no_days l.w) l.stretches)
