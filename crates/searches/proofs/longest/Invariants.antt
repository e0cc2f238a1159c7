use Rattle.std.proofs.Common.{◌≡◌, drop}
use mathlib.Core.List.{foldl}
use lib.IntN.{ℤ}
use Rattle.stretches.specs.declared.Stretch.{Stretch}
use Rattle.searches.specs.declared.Reach.{Reach}
use Rattle.searches.specs.Searches.{barred_part}
use Rattle.searches.proofs.Durations.{shorter}
use Rattle.searches.proofs.longest.Given as goal

abbrev cut : Reach → ℤ → ℤ → Stretch → ℤ
cut x half r s = shorter x.days half (barred_part x s) r

abbrev pub invariant-loop-s : goal.invariant-loop-s
invariant-loop-s l = foldl (cut l.x l.half.0) l.r.0 (drop l.s-index l.stretches) ≡ foldl (cut l.x l.half.0) l.initial.r.0 l.stretches
