-- Every search is that of the days on which the page bars the task or needs it.
use Rattle.std.proofs.Common.{refl, ap}
use Rattle.integers.proofs.Z.{z}
use Rattle.plan.specs.declared.Task.{Task}
use Rattle.rules.specs.Step.{shut}
use Rattle.searches.specs.Searches.{barred_part, Told, Dated}
use Rattle.narrow.proofs.ToldDays.{bars_told}
use Rattle.narrow.proofs.Close.{Kept, needs_close}
use Rattle.narrow.proofs.NarrowedTask.{only_page}
use Rattle.narrow.proofs.Here.barred.Goals as goal

pub free_span-origin-requires : goal.free_span-origin-requires
free_span-origin-requires c =
    let p = c.args.self in
    let n = c.joined-u.ensures in
    let reached : Dated c.reach_of-x.result.days = rw c.reach_of-x.ensures (omega (z, p.ready.fits.origin, p.ready.fits.end, p.day)) in
    let close : Kept c.joined-u.result = rw c.joined-u.ensures.is (needs_close c.args.self.t p.ready.fits n.days n.among c.args.self.r) in
    (reached, omega (z, p.ready.fits.duration), close.origin)

pub ends_after-requires : goal.ends_after-requires
ends_after-requires c =
    let p = c.args.self in
    let n = c.joined-u.ensures in
    let reached : Dated c.reach_of-x.result.days = rw c.reach_of-x.ensures (omega (z, p.ready.fits.origin, p.ready.fits.end, p.day)) in
    let close : Kept c.joined-u.result = rw c.joined-u.ensures.is (needs_close c.args.self.t p.ready.fits n.days n.among c.args.self.r) in
    (reached, omega (z, p.ready.fits.duration), close.end, c.free_span-origin.ensures.0)

pub returns : goal.returns
returns c = λ alone limit ts known.
    let t = c.args.self.t in
    let r = c.args.self.r in
    let ss = c.args.self.stretches.now in
    let fits = c.args.self.ready.fits in
    let order = known.tells.ordered in
    let q = shut r limit ts t in
    let x = c.reach_of-x in
    let told : Told (barred_part x.result) ss q = rw x.ensures (bars_told r limit ts t ss fits known alone) in
    let s = c.joined-u.ensures in
    let u = c.joined-u in
    let o = c.free_span-origin in
    let e = c.ends_after in
    let l = c.longest in
    only_page r limit ts t ss fits known s.days s.found alone
    (record { set = u.result.set; origin = o.result; duration = record { low = t.duration.low; high = l.result }; end = e.result; height = c.lifted.result })
    (record {
      set = ap (λ (v : Task). v.set) u.ensures.is;
      origin = rw u.ensures.is at (o.ensures.1 order q told);
      end = rw u.ensures.is at (e.ensures order q told (o.ensures.1 order q told));
      least = refl;
      longest = rw x.ensures at (l.ensures q told);
      height = c.lifted.ensures;
    })
