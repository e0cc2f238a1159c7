use Rattle.std.proofs.Common.{◌≡◌}
use Rattle.std.specs.Slice.Iter.{iter_rest}
use Rattle.std.specs.Iterator.Adapters.{rev_source}
use Rattle.integers.specs.Ends.{Within}
use Rattle.stretches.specs.Tells.{Ordered}
use Rattle.searches.specs.Searches.{near_ends}
use Rattle.searches.proofs.LastFree.{last_of}
use Rattle.searches.proofs.last_free.Given as goal

-- the search over what is left, from the value that it has come to, gives what the whole search gives
abbrev pub invariant-loop-s : goal.invariant-loop-s
invariant-loop-s l =
    let left = iter_rest (rev_source l.s-iterator) in
    Within near_ends l.v.0 × (Ordered l.stretches → Ordered left) × (last_of l.x l.d.0 left l.v.0 ≡ last_of l.x l.d.0 l.stretches l.initial.v.0)
