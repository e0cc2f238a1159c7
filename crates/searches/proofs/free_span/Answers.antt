-- A task of no days is never hit; else the first free value, and the last unless the first lies past the range.
use Rattle.std.proofs.Common.{rules, ◌≡◌, true}
use lib.Signed.{lt_z}
use Rattle.integers.proofs.Z.{z}
use Rattle.searches.proofs.FreeSpan.{freed_past, freed_both}
use Rattle.searches.proofs.free_span.Goals as goal

pub returns-then-lt : goal.returns-then-lt
returns-then-lt c =
    let f = c.first_free-low in
    let e : lt_z c.args.s.high.0 f.result.0 ≡ true = search rules in
    (record { low = f.ensures.0; high = c.requires.2.high }, λ o q h. freed_past q c.args.d.0 c.args.s f.result (f.ensures.1 o q h) (omega z))

pub returns : goal.returns
returns c =
    let f = c.first_free-low in
    let l = c.last_free in
    (record { low = f.ensures.0; high = l.ensures.0 }, λ o q h. freed_both q c.args.d.0 c.args.s f.result (f.ensures.1 o q h) l.result (l.ensures.1 o q h))
