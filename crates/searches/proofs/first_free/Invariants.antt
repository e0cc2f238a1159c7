use Rattle.std.proofs.Common.{◌≡◌, drop}
use Rattle.integers.specs.Ends.{Within}
use Rattle.searches.specs.Searches.{near_ends}
use Rattle.searches.proofs.FirstFree.{first_from}
use Rattle.searches.proofs.first_free.Given as goal

-- what is left of the search, from the value that it has come to, gives what the whole search gives
abbrev pub invariant-loop-s : goal.invariant-loop-s
invariant-loop-s l = Within near_ends l.v.0 × (first_from l.x l.d.0 (drop l.s-index l.stretches) l.v.0 ≡ first_from l.x l.d.0 l.stretches l.initial.v.0)
