-- Balance loses no choice with origin + duration = end.
use Rattle.std.specs.Prelude.{Ok}
use mathlib.Core.Path.{◌≡◌}
use mathlib.Core.List.{List}
use lib.IntN.{◌+ℤ◌, ◌-ℤ◌}
use Rattle.integers.proofs.Z.{z, +z, -z, maxz, minz, lt_z_out}
use Rattle.plan.specs.declared.Task.{Task}
use Rattle.plan.specs.Days.{cut_below, cut_above, cut_to}
use Rattle.rules.specs.Allowed.{Choice}
use Rattle.rules.specs.Balance.{cuts, unless_empty, balanced, balance}
use Rattle.rules.proofs.Inside.{Inside, Fit, for_inside, for_joined}
use Rattle.rules.proofs.Stays.{TaskStays, PlanStays, each_stays}

cuts_inside : (t : Task) (c : Choice) → Inside t c → c.origin +ℤ c.duration ≡ c.end → Inside (cuts t) c
unfolding cuts cut_to cut_above cut_below
cuts_inside t c h j =
    let ol = t.origin.low.0 in
    let oh = t.origin.high.0 in
    let dl = t.duration.low.0 in
    let dh = t.duration.high.0 in
    let el = t.end.low.0 in
    let eh = t.end.high.0 in
    let o = h.origin in
    let d = h.duration in
    let e = h.end in
    let s = +z c.origin c.duration in
    record {
      set = h.set;
      origin = omega (z, -z el dh, -z eh dl, maxz ol (el -ℤ dh), minz oh (eh -ℤ dl));
      duration = omega (z, -z el oh, -z eh ol, maxz dl (el -ℤ oh), minz dh (eh -ℤ ol));
      end = omega (z, +z ol dl, +z oh dh, maxz el (ol +ℤ dl), minz eh (oh +ℤ dh));
      height = h.height;
    }

unless_stays : (t : Task) (c : Choice) → Inside t c → unless_empty t ≡ Ok t
unfolding unless_empty
unless_stays t c h =
    let o = h.origin in
    let d = h.duration in
    let e = h.end in
    rw (
      lt_z_out t.origin.high.0 t.origin.low.0 (omega z),
      lt_z_out t.duration.high.0 t.duration.low.0 (omega z),
      lt_z_out t.end.high.0 t.end.low.0 (omega z),
    )

balanced_stays : (t : Task) (c : Choice) → Inside t c → c.origin +ℤ c.duration ≡ c.end → TaskStays c (balanced t)
unfolding balanced
balanced_stays t c h j =
    let i = cuts_inside t c h j in
    record { task = cuts t; is = unless_stays (cuts t) c i; inside = i }

pub balance_stays : (ts : List Task) (cs : List Choice) → Fit ts cs → PlanStays cs (balance ts)
unfolding balance
balance_stays ts cs f = each_stays balanced f (λ t c k. balanced_stays t c (for_inside f k) (for_joined f k))
