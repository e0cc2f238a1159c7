-- `profile::put_stretches`: events, bands and stretches, joined by one law.
use native.Mathlib.Omega.{arith}
use mathlib.Core.Path.{sym, ◌∙◌, subst}
use lib.ListN.{take}
use lib.Seq.{length-take-le}
use Rattle.profile.specs.Promise.{FirstShort}
use Rattle.profile.proofs.Promise.{profiled, first_none, first_some, first_inside, first_is}
use Rattle.profile.proofs.put_stretches.Goals as goal

pub returns-in-Some : goal.returns-in-Some
returns-in-Some c =
    let w = c.sweep_events-n in
    let l = c.put_floor-l in
    let q = c.collect-c in
    let asks = c.requires.asks in
    let laid = rw q.ensures.laid.front at l.ensures.laid.front in
    let swept = rw (c.neg.ensures, l.ensures.start_value) at w.ensures in
    let ss = take w.result w.new.stretches in
    let first = sym c.in-Some.is ∙ c.first_short.ensures in
    let inside = rw (length-take-le w.result w.new.stretches w.ensures.few) at (first_inside ss c.in-Some.first first) in (
      w.ensures.few,
      rw (first_some ss c.in-Some.first first)
          at (profiled _ _ _ _ _ _ _ _ _ asks.banded asks.limited c.requires.each q.ensures.extremes_value laid swept),
      omega (arith, inside),
      subst (FirstShort ss) (omega arith) (first_is ss c.in-Some.first first),
    )

pub returns-in-None : goal.returns-in-None
returns-in-None c =
    let w = c.sweep_events-n in
    let l = c.put_floor-l in
    let q = c.collect-c in
    let asks = c.requires.asks in
    let laid = rw q.ensures.laid.front at l.ensures.laid.front in
    let swept = rw (c.neg.ensures, l.ensures.start_value) at w.ensures in (
      w.ensures.few,
      rw (first_none (take w.result w.new.stretches) (sym c.in-None.is ∙ c.first_short.ensures))
          at (profiled _ _ _ _ _ _ _ _ _ asks.banded asks.limited c.requires.each q.ensures.extremes_value laid swept),
    )
