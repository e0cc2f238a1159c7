-- Of few none is left out; of many, those that are over and those that are ahead.
use Rattle.std.proofs.Common.{rules, ◌≡◌, ◌-◌, sym, arith, length, take, drop}
use lib.ListN.{length-drop}
use lib.Seq.{take_all}
use Rattle.narrow.proofs.Window.{ordered_take, over_part}
use Rattle.narrow.proofs.met.Goals as goal

pub returns-then-stretches-lt-WORTH_A_SEARCH : goal.returns-then-stretches-lt-WORTH_A_SEARCH
returns-then-stretches-lt-WORTH_A_SEARCH c =
    let ss = c.args.stretches.now in
    λ o. record {
      from = 0;
      to = length ss;
      over = λ k m l. absurd (omega arith);
      ahead = λ k m l. absurd (omega arith);
      are = sym (take_all (length ss) ss (omega arith));
    }

pub returns : goal.returns
returns c =
    let ss = c.args.stretches.now in
    let b = c.begun-ahead in
    let n = c.begun in
    let part = take b.result ss in
    let e : c.saturating_sub-over.result ≡ n.result - 1 = search rules in
    λ o. record {
      from = n.result - 1;
      to = b.result;
      over = over_part ss b.result n.result c.args.days.from.0 o n.ensures.0 (n.ensures.1 (ordered_take b.result ss o));
      ahead = (b.ensures.1 o).after;
      are = rw e (take_all (length part - (n.result - 1)) (drop (n.result - 1) part) (omega (arith, length-drop (n.result - 1) part)));
    }
