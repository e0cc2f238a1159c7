-- The promise: the stretches swept from a resource's sorted events tell each of its tasks what the page says of its days.
use native.Mathlib.Omega.{arith}
use mathlib.Core.Path.{◌≡◌, sym, ◌∙◌}
use mathlib.Core.Bool.{Bool, true, false, not}
use mathlib.Core.List.{List, ◌++◌}
use Prim.Native.Nat.{ℕ, ◌≤◌, ◌<◌}
use lib.Dec.{ltb}
use lib.IntN.{ℤ, pos, neg_ℤ, ◌+ℤ◌, ◌-ℤ◌, +ℤ_idl}
use lib.ListN.{length, take, get_or}
use lib.Seq.{length-take-le, get_or-take}
use lib.Signed.{◌≤ℤ◌, ◌<ℤ◌, le_z, lt_z}
use borrow.Author.Tests.{ltb-true, ltb-false}
use Rattle.std.specs.Prelude.{Some, None}
use Rattle.std.specs.List.{list_any, position, position_or_len}
use Rattle.std.proofs.lemmas.List.{get_or_default}
use Rattle.std.proofs.lemmas.Grind.{common_steps}
use Rattle.std.proofs.lemmas.List.Folds.{Any-from_list_any, list_any_at}
use Rattle.std.proofs.lemmas.List.Quantifiers.{position-Some}
use Rattle.std.proofs.lemmas.List.Sums.{fails_before_first}
use Rattle.integers.specs.Tests.{and, any}
use Rattle.integers.specs.Lists.{Each, In}
use Rattle.integers.specs.Hull.{within}
use Rattle.integers.specs.Ends.{Within}
use Rattle.integers.specs.Sums.{sum_of}
use Rattle.integers.proofs.Z.{z, +z, -z, ~z, le_z_in, le_z_out, lt_z_in, lt_z_out}
use Rattle.integers.proofs.Tests.{clash, by_cases, false_in, and_first, and_in, or_left, same_test, not_out, all_append, any_out, not_any}
use Rattle.integers.proofs.Lists.{Place, any_place, each_in, each_at, each_so, each_all}
use Rattle.integers.proofs.Hull.{within_is}
use Rattle.integers.proofs.Sums.{sum_append}
use Rattle.plan.specs.declared.Band.{Band}
use Rattle.plan.specs.declared.Kind.{Kind}
use Rattle.plan.specs.declared.Task.{Task}
use Rattle.plan.specs.Powers.{power_ends}
use Rattle.plan.specs.Sets.{only}
use Rattle.plan.specs.Tasks.{Bounded}
use Rattle.plan.proofs.Sets.{only_has}
use Rattle.rules.specs.Frame.{limit_from, Floor, floor}
use Rattle.rules.specs.Rises.{Banded}
use Rattle.rules.specs.Step.{running, total, counts, shortfall, listed_days}
use Rattle.rules.proofs.Days.{between}
use Rattle.rules.proofs.TaskDay.{possible_is, sure_in}
use Rattle.rules.proofs.Counted.{Counted, counted, begun_by_lem, begun_only, ends_after_lem, unended_only}
use Rattle.sorting.specs.Order.{Sorted}
use Rattle.sorting.proofs.Every.{every}
use Rattle.stretches.specs.declared.Stretch.{Stretch}
use Rattle.stretches.specs.View.{no_stretch, on_day}
use Rattle.stretches.specs.Tells.{slack_on, tight_on, Quiet, Exact, Uncut, Tells}
use Rattle.stretches.proofs.View.{on_out, on_in}
use Rattle.events.specs.declared.Extremes.{Extremes}
use Rattle.events.specs.Keys.{day_of, power_of, sure_of}
use Rattle.events.specs.Events.{surely, keys_of}
use Rattle.events.specs.Extremes.{extremes_of, no_extremes}
use Rattle.events.proofs.Spans.{surely_in}
use Rattle.events.proofs.Adds.{up_to, sure_one, keys_power, keys_sure}
use Rattle.events.proofs.Days.{on_days, sure_days}
use Rattle.events.proofs.Covers.{reach_of, extremes_over, extremes_cover, keys_within}
use Rattle.levels.specs.Levels.{band_keys}
use Rattle.held.specs.Held.{held_keys}
use Rattle.profile.specs.declared.Level.{Level}
use Rattle.profile.specs.Sweep.{level, tight_in, swept_from, Sweeps}
use Rattle.profile.specs.Promise.{FirstShort, Profile, falls_short}
use Rattle.profile.proofs.Calm.{calm_quiet}
use Rattle.profile.proofs.Turns.{Turns, floor_turns}
use Rattle.profile.proofs.Spread.{level_on, apart, Says, Spread, chain_ordered, chain_rises, swept_spread}

-- ---- a day that cuts no stretch
module _ (d i : ℤ) (u : Stretch) (e : apart u d ≡ true) (on : on_day i u ≡ true) where
  behind : le_z d u.from.0 ≡ false → u.to.0 ≤ℤ d
  behind g = let w = sym (or_left (le_z d u.from.0) (le_z u.to.0 d) g) ∙ e in omega z

  same_first : le_z d i ≡ le_z d u.from.0
  same_first =
      let o = on_out u i on in
      by_cases (le_z d u.from.0)
      (λ g. rw g (le_z_in d i (omega z)))
      (λ g. let w = behind g in rw g (le_z_out d i (omega z)))

  same_last : lt_z i d ≡ lt_z u.from.0 d
  same_last =
      let o = on_out u i on in
      by_cases (le_z d u.from.0)
      (λ g. rw (lt_z_out i d (omega z), lt_z_out u.from.0 d (omega z)))
      (λ g. let w = behind g in rw (lt_z_in i d (omega z), lt_z_in u.from.0 d (omega z)))

-- a task that is only here runs on all days of the stretch or on none, where its sure span cuts none
same_run : (r : ℕ) (t : Task) (u : Stretch) → only t.set r ≡ true →
    (surely r t ≡ true → (apart u t.origin.high.0 ≡ true) × (apart u t.end.low.0 ≡ true)) →
    (i : ℤ) → on_day i u ≡ true → running r i t ≡ running r u.from.0 t
unfolding running
same_run r t u o days i on =
    let never : surely r t ≡ false → (j : ℤ) → running r j t ≡ false =
    λ q j. false_in (running r j t) (λ w. clash (surely r t) (surely_in t r j (sure_in r j t o w)) q) in
    by_cases (surely r t)
    (λ q. rw (same_first t.origin.high.0 i u (days q).0 on, same_last t.end.low.0 i u (days q).1 on))
    (λ q. never q i ∙ sym (never q u.from.0))

-- ---- a day falls short where the slack that is tight is negative
short_tight : (r : ℕ) (limit : Floor) (ts : List Task) (i : ℤ) → shortfall r limit ts i ≡ lt_z (tight_on r limit ts i) (pos 0)
unfolding shortfall tight_on slack_on
short_tight r limit ts i =
    let x = total r ts i in
    let y = limit.on i in
    by_cases (counts r limit ts i)
    (λ c.
    rw c
    (same_test (lt_z x y) (lt_z (x -ℤ y) (pos 0)) (λ e. lt_z_in (x -ℤ y) (pos 0) (omega (z, -z x y))) (λ e. lt_z_in x y (omega (z, -z x y)))))
    (λ c. rw c)

-- ---- the promise, for tasks within their ends, changes that give each day its limit, and the keys of both in rising order
module _ (r : ℕ) (limit : Floor) (x : ℤ) (cs : List ℕ) (ts : List Task) (bs : Each Bounded ts)
    (turns : Turns r ts (reach_of r (extremes_of r no_extremes ts)) limit x cs) (ls : List ℕ) (s : Sorted (keys_of r ts ++ cs) ls) where
  abbrev here : Extremes
  here = extremes_of r no_extremes ts

  abbrev start : Level
  start = level (neg_ℤ x) (pos 0)

  abbrev told : List Stretch
  told = swept_from here (neg_ℤ x) ls

  abbrev SaysHere : Stretch → Type 0
  SaysHere u = Says (level_on start ls) ls here.low.0 here.high.0 u

  -- a test of every key's day says the same of the keys in either order
  sorted_days : (q : ℤ → Bool) → on_days q ls ≡ and (on_days q (keys_of r ts)) (on_days q cs)
  sorted_days q = every (λ k. q (day_of k)) (keys_of r ts ++ cs) ls s.sums ∙ all_append (λ k. q (day_of k)) (keys_of r ts) cs

  spread : Spread here here.low.0 (level_on start ls) ls told
  spread =
      let reach = reach_of r here in
      let both = and_in _ _ (keys_within r no_extremes ts bs) turns.days in
      let days : Each (λ k. Within reach (day_of k)) ls =
      each_so (λ k h. within_is reach (day_of k) h) (each_all (λ k. within reach (day_of k)) ls (sorted_days (within reach) ∙ both)) in
      swept_spread here here.low.0 start 0 s.rises (each_so (λ k h. h.least) days) (each_so (λ k h. h.most) days)

  told_at : (q : ℕ) → q < length told → SaysHere (get_or told q no_stretch)
  told_at q h = each_at no_stretch q spread.told h

  -- the levels are the page's slack, and its slack where a day counts
  module _ (i : ℤ) (from : here.low.0 ≤ℤ i) (to : i <ℤ here.high.0) where
    slack_is : (level_on start ls i).slack.0 ≡ slack_on r limit ts i
    unfolding level_on slack_on
    slack_is =
        let t = total r ts i in
        let c = sum_of (up_to power_of i) cs in
        rw (s.sums (up_to power_of i), sum_append (up_to power_of i) (keys_of r ts) cs, keys_power r i ts bs)
        (omega (z, turns.adds i from to, ~z x, ~z (limit.on i), +z (neg_ℤ x) c, +z t c, +z (neg_ℤ x) (t +ℤ c), -z t (limit.on i)))

    counts_here : lt_z (pos 0) (level_on start ls i).sure.0 ≡ counts r limit ts i
    unfolding level_on
    counts_here =
        let u = sum_of (sure_one r i) ts +ℤ sum_of (up_to sure_of i) cs in
        rw (s.sums (up_to sure_of i), sum_append (up_to sure_of i) (keys_of r ts) cs, keys_sure r i ts bs, +ℤ_idl u) (turns.counted i)

    tight_is : tight_in (level_on start ls i) ≡ tight_on r limit ts i
    unfolding tight_in tight_on
    tight_is = rw (counts_here, slack_is)

  exact : (u : Stretch) → SaysHere u → Exact r limit ts u
  exact u t =
      record {
        slack = λ i e. let o = on_out u i e in t.slack i e ∙ slack_is i (omega (z, t.first)) (omega (z, t.last));
        tight = λ i e. let o = on_out u i e in t.tight i e ∙ tight_is i (omega (z, t.first)) (omega (z, t.last));
      }

  -- a sure task's first and last day are among the events' days, and those lie in no stretch
  uncut : {t : Task} → In t ts → (u : Stretch) → SaysHere u → Uncut r t u
  uncut {t} k u w =
      let whole = and_first _ _ (sym (sorted_days (apart u)) ∙ w.whole) in
      let days = sure_days (apart u) r bs whole k in
      record { same = λ o i e. same_run r t u o days i e }

  -- ---- a day in no stretch
  calm : (i : ℤ) → any (on_day i) told ≡ false → here.low.0 ≤ℤ i → i <ℤ here.high.0 → (here.bar.0 ≤ℤ slack_on r limit ts i) × (here.lift.0 ≤ℤ tight_on r limit ts i)
  calm i off from to = let g = spread.calm i from to off in (rw (slack_is i from to) at g.bar, rw (tight_is i from to) at g.lift)

  module _ {t : Task} (k : In t ts) (i : ℤ) (off : any (on_day i) told ≡ false) where
    quiet : Quiet r limit ts t i
    quiet =
        calm_quiet r limit ts (each_in bs k) i k
        (λ p.
        let d = possible_is r i t p in
        let c = extremes_cover r no_extremes k d.among in
        let g = calm i off (omega (z, c.low)) (omega (z, c.high)) in
        (omega (z, c.bar, g.0), omega (z, c.lift, g.1)))

  pub tells : {t : Task} → In t ts → Tells r limit ts t told
  tells {t} k =
      record {
        ordered = chain_ordered here.low.0 told spread.chain;
        exact = λ q h. exact (get_or told q no_stretch) (told_at q h);
        uncut = λ q h. uncut k (get_or told q no_stretch) (told_at q h);
        quiet = λ i off. quiet k i off;
      }

  -- ---- shortfall
  -- a day falls short where it counts: between two tasks that have only r, so within the reach of all, though none may be possible then
  short_counted : (i : ℤ) → shortfall r limit ts i ≡ true → Counted r ts i
  unfolding shortfall
  short_counted i e = counted r limit ts i (and_first (counts r limit ts i) (lt_z (total r ts i) (limit.on i)) e)

  tight_short : (i : ℤ) → shortfall r limit ts i ≡ true → tight_on r limit ts i <ℤ pos 0
  tight_short i e = let h = sym (short_tight r limit ts i) ∙ e in omega z

  -- a shortfall on any day is one on a listed day
  short_listed : (i : ℤ) → shortfall r limit ts i ≡ true → any (shortfall r limit ts) (listed_days ts) ≡ true
  short_listed i e =
      let c = short_counted i e in
      let b = begun_by_lem r i c.first c.has_begun in
      let g = ends_after_lem r i c.last c.goes_on_lem in
      let o = (each_in bs c.first_in).origin in
      let f = (each_in bs c.last_in).end in
      by_cases (any (shortfall r limit ts) (listed_days ts)) (λ a. a)
      (λ a.
      let n =
      between r (λ d. not (shortfall r limit ts d)) c.first c.last ts c.first_in c.last_in (not_any (shortfall r limit ts) (listed_days ts) a) i
      (omega z) (omega z) in
      clash (shortfall r limit ts i) e (not_out (shortfall r limit ts i) n))

  -- and it lies in a stretch, which is tight
  short_place : (i : ℤ) → shortfall r limit ts i ≡ true → Place (on_day i) no_stretch told
  short_place i e =
      let c = short_counted i e in
      let t = tight_short i e in
      let o = (extremes_over r no_extremes ts).lift in
      let b = begun_by_lem r i c.first c.has_begun in
      let g = ends_after_lem r i c.last c.goes_on_lem in
      let x = extremes_cover r no_extremes c.first_in (only_has c.first.set r (begun_only r i c.first c.has_begun)) in
      let y = extremes_cover r no_extremes c.last_in (only_has c.last.set r (unended_only r i c.last c.goes_on_lem)) in
      by_cases (any (on_day i) told) (any_place (on_day i) no_stretch told)
      (λ a.
      absurd
      (let l =
      (calm i a (omega (z, x.low, (each_in bs c.first_in).origin)) (omega (z, y.high, (each_in bs c.last_in).end))).1 in
      omega z))

  tight_at : (q : ℕ) → q < length told → (i : ℤ) → on_day i (get_or told q no_stretch) ≡ true → (get_or told q no_stretch).tight.0 ≡ tight_on r limit ts i
  tight_at q h i on = (exact (get_or told q no_stretch) (told_at q h)).tight i on

  abbrev first_day_lem : ℕ → ℤ
  first_day_lem k = (get_or told k no_stretch).from.0

  on_first_day : (k : ℕ) → k < length told → on_day (first_day_lem k) (get_or told k no_stretch) ≡ true
  on_first_day k h = on_in (get_or told k no_stretch) (first_day_lem k) (omega z) (told_at k h).filled

  -- the first day of a stretch that falls short is a day of shortfall
  short_there : (k : ℕ) → k < length told → (get_or told k no_stretch).tight.0 <ℤ pos 0 → shortfall r limit ts (first_day_lem k) ≡ true
  short_there k h l =
      let e = tight_at k h (first_day_lem k) (on_first_day k h) in
      short_tight r limit ts (first_day_lem k) ∙ lt_z_in (tight_on r limit ts (first_day_lem k)) (pos 0) (omega z)

  -- some stretch falls short where some day does
  short_is : list_any falls_short told ≡ any (shortfall r limit ts) (listed_days ts)
  short_is =
      same_test (list_any falls_short told) (any (shortfall r limit ts) (listed_days ts))
      (λ e.
      let p = Any-from_list_any falls_short told e in
      let n : (get_or told p.0 no_stretch) ≡ p.1 = get_or_default told p.0 no_stretch p.1 p.2 ∙ p.3 in
      let f : (get_or told p.0 no_stretch).tight.0 <ℤ pos 0 = rw n (omega (z, p.4)) in
      short_listed (first_day_lem p.0) (short_there p.0 p.2 f))
      (λ a.
      let d = any_out (shortfall r limit ts) (listed_days ts) a in
      let p = short_place d.0 d.1 in
      let t = tight_at p.at p.inside d.0 p.holds in
      let l = tight_short d.0 d.1 in
      list_any_at falls_short told p.at no_stretch p.inside (lt_z_in (get_or told p.at no_stretch).tight.0 (pos 0) (omega z)))

  module _ (k : ℕ) (w : FirstShort told k) where
    -- a day of shortfall lies in no stretch before the first that falls short
    short_after : (i : ℤ) (e : shortfall r limit ts i ≡ true) → k ≤ (short_place i e).at
    short_after i e =
        let p = short_place i e in
        let t = tight_at p.at p.inside i p.holds in
        let l = tight_short i e in
        by_cases (ltb p.at k) (λ g. absurd (let b = w.before p.at (ltb-true p.at k g) in omega z)) (ltb-false p.at k)

    -- no earlier day is one
    short_first : (i : ℤ) → i <ℤ first_day_lem k → shortfall r limit ts i ≡ false
    short_first i l =
        false_in (shortfall r limit ts i) λ e.
        let p = short_place i e in
        let a = on_out (get_or told p.at no_stretch) i p.holds in
        let b = chain_rises here.low.0 told spread.chain k p.at (short_after i e) p.inside in
        omega z

  pub profile_of : Profile r limit ts told (list_any falls_short told)
  profile_of =
      record {
        short_is = short_is;
        day = λ k w h. record { holds = short_there k h (w.there h); first = short_first k w };
        tells = tells;
      }

-- ---- the first that falls short
-- none is: no stretch falls short
pub first_none : (ss : List Stretch) → None ≡ position falls_short ss → list_any falls_short ss ≡ false
first_none ss o =
    false_in (list_any falls_short ss) λ e.
    let p = Any-from_list_any falls_short ss e in
    let n : (get_or ss p.0 no_stretch) ≡ p.1 = get_or_default ss p.0 no_stretch p.1 p.2 ∙ p.3 in
    let f : falls_short (get_or ss p.0 no_stretch) ≡ true = rw n p.4 in
    let b : length ss ≤ position_or_len falls_short ss = grind (arith, common_steps) in
    clash (falls_short (get_or ss p.0 no_stretch)) f (fails_before_first falls_short ss p.0 no_stretch (omega (arith, b, p.2)))

-- one is: it falls short, and none before it
module _ (ss : List Stretch) (k : ℕ) (o : Some k ≡ position falls_short ss) where
  pub first_inside : k < length ss
  first_inside = (position-Some falls_short ss k no_stretch (sym o)).0

  pub first_some : list_any falls_short ss ≡ true
  first_some = let p = position-Some falls_short ss k no_stretch (sym o) in list_any_at falls_short ss k no_stretch p.0 p.1

  pub first_is : FirstShort ss k
  first_is =
      let p = position-Some falls_short ss k no_stretch (sym o) in
      record {
        within = omega (arith, p.0);
        before = λ q h. let b = p.2 q h in omega z;
        there = λ h. let b = p.1 in omega z;
      }

-- the first short of all the stretches, found among the first n
pub first_in : (ss : List Stretch) (n k : ℕ) → n ≤ length ss → k ≤ n →
    ((q : ℕ) → q < k → pos 0 ≤ℤ (get_or ss q no_stretch).tight.0) →
    (k < n → (get_or ss k no_stretch).tight.0 <ℤ pos 0) →
    FirstShort (take n ss) k
first_in ss n k h l before there =
    let e = length-take-le n ss h in
    record {
      within = omega (arith, e);
      before = λ q g. rw (get_or-take n ss q no_stretch (omega arith)) (before q g);
      there = λ g. let i : k < n = omega (arith, e) in rw (get_or-take n ss k no_stretch i) (there i);
    }

-- ---- as the code has them: the events, then the changes in the first keys; the stretches in the first places
pub profiled : (r : ℕ) (k : Kind) (x : ℤ) (bs : List Band) (ts : List Task) (e : Extremes) (ks : List ℕ) (ss : List Stretch) (m : ℕ) →
    Banded r bs → Within power_ends x → Each Bounded ts →
    e ≡ extremes_of r no_extremes ts →
    ks ≡ keys_of r ts ++ (held_keys r k ts ++ band_keys r e.low.0 e.high.0 x bs) →
    Sweeps e (neg_ℤ (limit_from r x bs e.low.0)) ks ss m →
    Profile r (floor k (limit_from r x bs)) ts (take m ss) (list_any falls_short (take m ss))
profiled r k x bs ts e ks ss m b w fit q p sweeps =
    let here = extremes_of r no_extremes ts in
    let cs = held_keys r k ts ++ band_keys r here.low.0 here.high.0 x bs in
    let start = limit_from r x bs here.low.0 in
    let swept : Sweeps here (neg_ℤ start) (keys_of r ts ++ cs) ss m = rw (p, q) at sweeps in
    rw (sym swept.are) at (profile_of r (floor k (limit_from r x bs)) start cs ts fit (floor_turns r k x bs ts b w fit) swept.keys swept.sorted)
