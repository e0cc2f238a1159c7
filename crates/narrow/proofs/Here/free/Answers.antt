-- No day is barred, so every value that needs leave is free.
use Rattle.std.proofs.Common.{◌≡◌, true, refl, ap, ◌∙◌}
use lib.IntN.{ℤ}
use Rattle.plan.specs.declared.Task.{Task}
use Rattle.rules.specs.Step.{shut}
use Rattle.searches.proofs.FreeSpan.{freed_none}
use Rattle.searches.proofs.Durations.{longest_none}
use Rattle.narrow.specs.Ready.{possible_days}
use Rattle.narrow.proofs.ToldDays.{bars_told, free_told}
use Rattle.narrow.proofs.NarrowedTask.{only_page, needs_duration}
use Rattle.narrow.proofs.Here.free.Goals as goal

pub returns : goal.returns
returns c = λ alone free limit ts known.
    let t = c.args.self.t in
    let r = c.args.self.r in
    let ss = c.args.self.stretches.now in
    let fits = c.args.self.ready.fits in
    let q = shut r limit ts t in
    let d = t.duration.low.0 in
    let s = c.joined.ensures in
    let u = c.joined in
    let never : (i : ℤ) → q i ≡ true → ⊥ = free_told t ss q (bars_told r limit ts t ss fits known alone) free in
    let same : u.result.duration ≡ t.duration = ap (λ (v : Task). v.duration) u.ensures.is ∙ needs_duration r s.days t in
    only_page r limit ts t ss fits known s.days s.found alone
    (record { set = u.result.set; origin = u.result.origin; duration = u.result.duration; end = u.result.end; height = c.lifted.result })
    (record {
      set = ap (λ (v : Task). v.set) u.ensures.is;
      origin = rw u.ensures.is (freed_none q d _ never);
      end = rw u.ensures.is (freed_none q d _ never);
      least = rw same refl;
      longest = rw same (longest_none q (possible_days t) t.duration.high.0 never);
      height = c.lifted.ensures;
    })
