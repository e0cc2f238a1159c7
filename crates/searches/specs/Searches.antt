-- What the searches over stretches give, for any test of days that the stretches tell.
use Rattle.std.specs.Prelude.{◌≡◌, Bool, true, false, not, Option, None, Some, List, ℕ, ◌≤◌, ◌<◌, ℤ, pos, ◌+ℤ◌, ◌-ℤ◌, length, get_or, ◌≤ℤ◌, ◌<ℤ◌}
use Rattle.std.proofs.Math.IntN.{pred_ℤ}
use Rattle.std.specs.Int.Signed.{le_z, lt_z}
use Rattle.integers.specs.Tests.{if, and, any}
use Rattle.integers.specs.Whole.{larger, smaller}
use Rattle.integers.specs.Hull.{Range, range}
use Rattle.integers.specs.Ends.{Within, InEnds}
use Rattle.plan.specs.declared.Day.{Day}
use Rattle.plan.specs.declared.Power.{Power}
use Rattle.plan.specs.declared.Span.{Span}
use Rattle.plan.specs.Days.{day, day_low, day_high, day_ends, duration_high, duration_ends}
use Rattle.stretches.specs.declared.Stretch.{Stretch}
use Rattle.stretches.specs.View.{no_stretch, on_day}
use Rattle.stretches.specs.Tells.{Ordered}
use Rattle.searches.specs.declared.Days.{Days}
use Rattle.searches.specs.declared.Reach.{Reach}

-- ---- a stretch's part: those of its days that are among a task's and that a rule hits, if any
-- day i is one of from .. to - 1
unfoldable pub holds : Days → ℤ → Bool
holds w i = and (le_z w.from.0 i) (lt_z i w.to.0)

-- the days of w that are the stretch's too
abbrev pub shared : Days → Stretch → Days
shared w s = record { from = day (larger s.from.0 w.from.0); to = day (smaller s.to.0 w.to.0) }

-- there is one
abbrev pub meets : Days → Stretch → Bool
meets w s = lt_z (shared w s).from.0 (shared w s).to.0

abbrev pub part_of : Days → Stretch → Bool → Option Days
part_of w s b = if (and b (meets w s)) (Some (shared w s)) None

-- barred: too little slack, and the stretch is none of the task's sure days
abbrev pub barred_part : Reach → Stretch → Option Days
barred_part x s = part_of x.days s (and (lt_z s.slack.0 x.bar.0) (not (holds x.sure s.from.0)))

-- needed: less to spare than a height of h gives
abbrev pub needed_part : Days → Power → Stretch → Option Days
needed_part w h s = part_of w s (lt_z s.tight.0 h.0)

-- a part has a day, and its days are among w's
pub record Among (w p : Days) : Type 0 where
  pub first : w.from.0 ≤ℤ p.from.0
  pub full : p.from.0 <ℤ p.to.0
  pub last : p.to.0 ≤ℤ w.to.0

-- day i is one of the part's
unfoldable pub on_part : ℤ → Option Days → Bool
on_part i None = false
on_part i (Some p) = holds p i

-- the days of the parts
unfoldable pub hit_days : (Stretch → Option Days) → List Stretch → ℤ → Bool
hit_days part ss i = any (λ s. on_part i (part s)) ss

-- the stretches tell the test q: the days that pass it are those
abbrev pub Told : (Stretch → Option Days) → List Stretch → (ℤ → Bool) → Type 0
Told part ss q = (i : ℤ) → q i ≡ hit_days part ss i

-- WHAT A SEARCH PROMISES: P of every test of days that the stretches tell
abbrev pub ForTests : (Stretch → Option Days) → List Stretch → ((ℤ → Bool) → Type 0) → Type 0
ForTests part ss P = (q : ℤ → Bool) → Told part ss q → P q

-- of the days barred to a task, where the stretches stand in order
abbrev pub ForBars : Reach → List Stretch → ((ℤ → Bool) → Type 0) → Type 0
ForBars x ss P = Ordered ss → ForTests (barred_part x) ss P

-- ---- free values: no day of v .. v + d - 1 passes q
pub record Hit (q : ℤ → Bool) (d v : ℤ) : Type 0 where
  pub day : ℤ
  pub late : v ≤ℤ day
  pub early : day <ℤ (v +ℤ d)
  pub bad : q day ≡ true

-- r is the first value from a on that is free
pub record FirstFree (q : ℤ → Bool) (d a r : ℤ) : Type 0 where
  pub least : a ≤ℤ r
  pub before : (v : ℤ) → a ≤ℤ v → v <ℤ r → Hit q d v
  pub free : Hit q d r → ⊥

-- r is the last value up to b that is free
pub record LastFree (q : ℤ → Bool) (d b r : ℤ) : Type 0 where
  pub most : r ≤ℤ b
  pub after : (v : ℤ) → r <ℤ v → v ≤ℤ b → Hit q d v
  pub free : Hit q d r → ⊥

-- out runs from the first to the last free value of s; its low end is above its high end where there is none
pub record Freed (q : ℤ → Bool) (d : ℤ) (s out : Span Day) : Type 0 where
  pub least : s.low.0 ≤ℤ out.low.0
  pub most : out.high.0 ≤ℤ s.high.0
  pub before : (v : ℤ) → s.low.0 ≤ℤ v → v ≤ℤ s.high.0 → v <ℤ out.low.0 → Hit q d v
  pub after : (v : ℤ) → s.low.0 ≤ℤ v → v ≤ℤ s.high.0 → out.high.0 <ℤ v → Hit q d v
  pub free_low : out.low.0 ≤ℤ out.high.0 → Hit q d out.low.0 → ⊥
  pub free_high : out.low.0 ≤ℤ out.high.0 → Hit q d out.high.0 → ⊥

-- a range d days earlier: an end less a duration is an origin
abbrev pub earlier : ℤ → Span Day → Span Day
earlier d s = record { low = day (s.low.0 -ℤ d); high = day (s.high.0 -ℤ d) }

-- the same of ends
abbrev pub FreedEnds : (ℤ → Bool) → ℤ → Span Day → Span Day → Type 0
FreedEnds q d s out = Freed q d (earlier d s) (earlier d out)

abbrev pub later : ℤ → Span Day → Span Day
later d s = record { low = day (s.low.0 +ℤ d); high = day (s.high.0 +ℤ d) }

-- ---- durations: among the days w a duration of more days than this covers day i
abbrev pub room : Days → ℤ → ℤ
room w i = larger (i -ℤ w.from.0) ((w.to.0 -ℤ i) -ℤ pos 1)

-- v covers some day that passes q wherever it lies
pub record TooLong (q : ℤ → Bool) (w : Days) (v : ℤ) : Type 0 where
  pub day : ℤ
  pub bad : q day ≡ true
  pub over : room w day <ℤ v

-- r is the longest duration up to m that is not too long
pub record Longest (q : ℤ → Bool) (w : Days) (m r : ℤ) : Type 0 where
  pub most : r ≤ℤ m
  pub cut : (v : ℤ) → r <ℤ v → v ≤ℤ m → TooLong q w v
  pub kept : (v : ℤ) → v ≤ℤ r → TooLong q w v → ⊥

-- ---- needs: s runs from the first day that passes q to past the last; where there is none it is w the other way round
pub record Needed (q : ℤ → Bool) (w s : Days) : Type 0 where
  pub between : (i : ℤ) → q i ≡ true → (s.from.0 ≤ℤ i) × (i <ℤ s.to.0)
  pub first : s.from.0 <ℤ w.to.0 → q s.from.0 ≡ true
  pub last : w.from.0 <ℤ s.to.0 → q (pred_ℤ s.to.0) ≡ true

-- ---- slack: some day of w stands in a stretch of slack x
pub record Slack (ss : List Stretch) (w : Days) (x : ℤ) : Type 0 where
  pub at : ℕ
  pub inside : at < length ss
  pub day : ℤ
  pub among : holds w day ≡ true
  pub on : on_day day (get_or ss at no_stretch) ≡ true
  pub is : (get_or ss at no_stretch).slack.0 ≡ x

-- x is the least slack on the days of w, up to m
pub record Least (ss : List Stretch) (w : Days) (m x : ℤ) : Type 0 where
  pub most : x ≤ℤ m
  pub met : x <ℤ m → Slack ss w x
  pub under : (y : ℤ) → Slack ss w y → x ≤ℤ y

-- ---- order: the first low stretches begin before day d, and those from high on do not
pub record Begun (ss : List Stretch) (d : ℤ) (low high : ℕ) : Type 0 where
  pub before : (k : ℕ) → k < low → k < length ss → (get_or ss k no_stretch).from.0 <ℤ d
  pub after : (k : ℕ) → high ≤ k → k < length ss → d ≤ℤ (get_or ss k no_stretch).from.0

-- where they stand in order, n of them begin before it
abbrev pub BegunCount : List Stretch → ℤ → ℕ → Type 0
BegunCount ss d n = Ordered ss → Begun ss d n n

-- ---- what the code asks: how far its numbers reach, from the ends of days and of durations
-- from where to where a search may lead: twice as far as any day
abbrev pub near_ends : Range
near_ends = range (day_low +ℤ day_low) (day_high +ℤ day_high)

-- an end that a need has moved: a duration past any day
abbrev pub close_ends : Range
close_ends = range (day_low -ℤ duration_high) (day_high +ℤ duration_high)

-- both ends of s lie within e, whichever is the higher
pub record BothIn (e s : Range) : Type 0 where
  pub low : Within e s.low
  pub high : Within e s.high

abbrev pub days_in : Days → Range
days_in w = range w.from.0 w.to.0

-- days within their ends, the first not past the last
abbrev pub Dated : Days → Type 0
Dated w = InEnds day_ends (days_in w)

-- a number of days within its ends
abbrev pub Short : ℤ → Type 0
Short d = Within duration_ends d

-- half as many days as w has, rounded down
pub record Half (w : Days) (h : ℤ) : Type 0 where
  pub under : (h +ℤ h) ≤ℤ (w.to.0 -ℤ w.from.0)
  pub over : (w.to.0 -ℤ w.from.0) ≤ℤ ((h +ℤ h) +ℤ pos 1)
