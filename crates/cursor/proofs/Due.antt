-- What is due, told from what the reader hands out: one law for every mark.
use Rattle.std.specs.Prelude.{Err}
use Rattle.plan.specs.Refusals.{Checked, accepted}
use mathlib.Core.Path.{◌≡◌, refl, sym, ap, subst, ◌∙◌}
use mathlib.Core.Bool.{true, false}
use mathlib.Core.List.{List, [], ◌∷◌}
use Prim.Native.Nat.{ℕ, ◌+◌, ◌≤◌, ◌<◌}
use native.Mathlib.Nat.{not-suc-le-zero, le_of_suc-le-suc}
use native.Mathlib.Omega.{arith}
use lib.Dec.{eqb, ltb}
use lib.ListN.{length, get_or, drop_of_length-le}
use borrow.Author.Tests.{eqb-true, le-ltb, ltb-true, ltb-false}
use Rattle.std.specs.Prelude.{Some}
use Rattle.std.specs.List.{find}
use denote.Enum.Bare.{sameb, true_same, false_same}
use Rattle.format.specs.contracts.Mark.{the_type}
use Rattle.integers.specs.Tests.{if, or}
use Rattle.integers.proofs.Tests.{clash, by_cases, and_first, and_second, and_off}
use Rattle.plan.specs.declared.Refusal.TheVariants.{WrongMark, CutShort}
use Rattle.plan.specs.declared.Resource.{Resource}
use Rattle.plan.specs.declared.Kind.{Kind}
use Rattle.plan.specs.declared.Kind.TheVariants.{Plain, Held}
use Rattle.plan.specs.declared.Band.{Band}
use Rattle.plan.specs.declared.Task.{Task}
use Rattle.rules.specs.Calls.{refuse_if}
use Rattle.format.specs.declared.Mark.{Mark}
use Rattle.format.specs.declared.Mark.TheVariants.{PL, RS, RH, LB, TK}
use Rattle.format.specs.declared.Header.{Header}
use Rattle.format.specs.Format.{mark, mark_size, marked, in_place_of, due_in, kind_mark, kind_from, resource_mark, size, numbers_in, header_from, resource_from, band_from, task_from}
use Rattle.format.specs.Reading.{due}
use Rattle.format.proofs.Records.{due_is, due_alone}
use Rattle.cursor.specs.declared.Record.{Record}
use Rattle.cursor.specs.Handed.{record_in, record_of, standing, handed, record_at, past_in, same_mark, stands_for, not_due}

-- ---- past the end of a file there is nothing
pub rest_none : (file : List ℕ) (at : ℕ) → length file ≤ at → Record.Ended ≡ record_at file at
unfolding record_at handed
rest_none file at h = rw (drop_of_length-le file h)

-- ---- the mark that stands there
pairs_same : (bs : List ℕ) (k : Mark) → marked k bs ≡ true → (get_or bs 0 0 ≡ get_or (mark k) 0 0) × (get_or bs 1 0 ≡ get_or (mark k) 1 0)
unfolding marked
pairs_same bs k m =
    let s = eqb (get_or bs 0 0) (get_or (mark k) 0 0) in
    let t = eqb (get_or bs 1 0) (get_or (mark k) 1 0) in
    (eqb-true (get_or bs 0 0) (get_or (mark k) 0 0) (and_first s t m), eqb-true (get_or bs 1 0) (get_or (mark k) 1 0) (and_second s t m))

-- where one mark stands, another does if it is the same
pub stands : (j k : Mark) (bs : List ℕ) → marked j bs ≡ true → marked k bs ≡ same_mark j k
unfolding marked
stands j k bs m = let p = pairs_same bs j m in rw (p.0, p.1)

self : (k : Mark) → same_mark k k ≡ true
unfolding marked
self PL = refl
self RS = refl
self RH = refl
self LB = refl
self TK = refl

found : (k : Mark) (bs : List ℕ) → marked k bs ≡ true → standing bs ≡ k
unfolding standing marked
found PL bs m = rw m
found RS bs m = rw (stands RS PL bs m, m)
found RH bs m = rw (stands RH PL bs m, stands RH RS bs m, m)
found LB bs m = rw (stands LB PL bs m, stands LB RS bs m, stands LB RH bs m, m)
found TK bs m = rw (stands TK PL bs m, stands TK RS bs m, stands TK RH bs m, stands TK LB bs m)

-- marks that are the same are one
one_mark : (j k : Mark) → same_mark j k ≡ true → j ≡ k
one_mark j k s = sym (found j (mark j) (self j)) ∙ found k (mark j) s

-- where a mark stands, the one that is due does, or the one in its place, if it stands for it
pub stands_for_lem : (j k : Mark) (bs : List ℕ) → marked j bs ≡ true → marked (due_in k bs) bs ≡ stands_for j k
unfolding due_in
stands_for_lem j k bs m =
    rw (stands j (in_place_of k) bs m) (stands j (if (same_mark j (in_place_of k)) (in_place_of k) k) bs m)

-- a mark stands for another by the one in its place, or by itself
pub place_stands : (j k : Mark) → same_mark j (in_place_of k) ≡ true → stands_for j k ≡ true
unfolding due_in
place_stands j k e = rw e e

pub own_stands : (j k : Mark) → same_mark j (in_place_of k) ≡ false → stands_for j k ≡ same_mark j k
unfolding due_in
own_stands j k e = rw e

-- the test of two marks in code is that one
same_told : (j k : Mark) → sameb the_type j k ≡ same_mark j k
same_told j k =
    by_cases (same_mark j k)
    (λ e. true_same the_type j k (one_mark j k e) ∙ sym e)
    (λ e. false_same the_type tt j k (λ g. clash (same_mark j k) (ap (same_mark j) (sym g) ∙ self j) e) ∙ sym e)

-- both as the code tests them
pub stands_either : (j k : Mark) → stands_for j k ≡ or (sameb the_type j (in_place_of k)) (sameb the_type j k)
stands_either j k =
    rw (same_told j (in_place_of k), same_told j k)
    (by_cases (same_mark j (in_place_of k)) (λ e. place_stands j k e ∙ rw e) (λ e. own_stands j k e ∙ rw e))

pub handed_marked : (k : Mark) (at : ℕ) (bs : List ℕ) → mark_size ≤ length bs → marked k bs ≡ true → handed at bs ≡ record_of k at bs
unfolding handed
handed_marked k at bs h m = rw (le-ltb (length bs) mark_size h, found k bs m, m)

-- told by a test of the mark alone: fewer than two bytes hold none, since a mark's second byte is not 0
second_some : (k : Mark) → eqb 0 (get_or (mark k) 1 0) ≡ false
second_some PL = refl
second_some RS = refl
second_some RH = refl
second_some LB = refl
second_some TK = refl

short_unmarked : (k : Mark) (bs : List ℕ) → length bs < mark_size → marked k bs ≡ false
unfolding marked
short_unmarked k [] h = rw (second_some k) (and_off (eqb 0 (get_or (mark k) 0 0)))
short_unmarked k (a ∷ []) h = rw (second_some k) (and_off (eqb a (get_or (mark k) 0 0)))
short_unmarked k (a ∷ b ∷ bs) h = absurd (not-suc-le-zero (le_of_suc-le-suc (le_of_suc-le-suc h)))

pub mark_told : (k : Mark) (bs : List ℕ) → if (ltb (length bs) mark_size) false (marked k bs) ≡ marked k bs
mark_told k bs =
    by_cases (ltb (length bs) mark_size) (λ e. rw (e, short_unmarked k bs (ltb-true (length bs) mark_size e))) (λ e. rw e)

pub handed_due : (k : Mark) (at : ℕ) (bs : List ℕ) → marked k bs ≡ true → handed at bs ≡ record_of k at bs
handed_due k at bs m =
    by_cases (ltb (length bs) mark_size)
    (λ e. clash (marked k bs) m (sym (mark_told k bs) ∙ rw e))
    (λ e. handed_marked k at bs (ltb-false (length bs) mark_size e) m)

-- the first of some marks that stands there
first_stands : (bs : List ℕ) (js : List Mark) {k : Mark} → find (λ j. marked j bs) js ≡ Some k → marked k bs ≡ true
first_stands bs [] e = cc
first_stands bs (j ∷ js) {k} e =
    by_cases (marked j bs)
    (λ t. let some : Some j ≡ Some k = rw t at e in let same : j ≡ k = cc in rw same at t)
    (λ f. first_stands bs js (rw f at e))

pub handed_first : (k : Mark) (at : ℕ) (bs : List ℕ) (js : List Mark) → find (λ j. marked j bs) js ≡ Some k → handed at bs ≡ record_of k at bs
handed_first k at bs js e = handed_due k at bs (first_stands bs js e)

whole_record : (k : Mark) (at : ℕ) (bs : List ℕ) → size k ≤ length bs → record_of k at bs ≡ record_in k at bs
whole_record k at bs h = rw (le-ltb (length bs) (size k) h)

-- a resource's record, under the mark of either kind
abbrev ResourceTold : ℕ → List ℕ → Mark → Type 0
ResourceTold at bs k =
    record_of k at bs ≡ if (ltb (length bs) (size RS)) (Record.CutShort k) (Record.Resource (resource_from k (numbers_in RS bs)) (at + size RS))

kind_told : (x : Kind) (at : ℕ) (bs : List ℕ) → ResourceTold at bs (kind_mark x)
unfolding numbers_in
kind_told Plain at bs = refl
kind_told Held at bs = refl

pub resource_told : (k : Mark) → kind_mark (kind_from k) ≡ k → (at : ℕ) (bs : List ℕ) → ResourceTold at bs k
resource_told k e at bs = subst (ResourceTold at bs) e (kind_told (kind_from k) at bs)

-- ---- "each caller takes the record it is due and turns every other answer into the refusal"
-- a whole record under such a mark
abbrev whole_due : Mark → ℕ → Mark → Checked
whole_due k at j = if (stands_for j k) accepted (Err (WrongMark at))

abbrev as_due : Mark → ℕ → Record → Checked
as_due k at (Record.Plan h c) = whole_due k at PL
as_due k at (Record.Resource q c) = whole_due k at (resource_mark q)
as_due k at (Record.Band b c) = whole_due k at LB
as_due k at (Record.Task t c) = whole_due k at TK
as_due k at (Record.CutShort j) = Err (if (stands_for j k) (CutShort at) (WrongMark at))
as_due k at Record.NoMark = Err (WrongMark at)
as_due k at Record.Ended = Err (CutShort at)

module _ (k : Mark) (at : ℕ) (bs : List ℕ) where
  whole_due_lem : (j : Mark) → as_due k at (record_in j at bs) ≡ whole_due k at j
  unfolding resource_from
  whole_due_lem PL = refl
  whole_due_lem RS = refl
  whole_due_lem RH = refl
  whole_due_lem LB = refl
  whole_due_lem TK = refl

  -- the mark that is due stands there, or the one in its place
  own : (j : Mark) → stands_for j k ≡ true → as_due k at (record_of j at bs) ≡ refuse_if (ltb (length bs) (size j)) (CutShort at)
  own j s = by_cases (ltb (length bs) (size j)) (λ e. rw (e, s)) (λ e. rw (e, whole_due_lem j, s))

  other : (j : Mark) → stands_for j k ≡ false → as_due k at (record_of j at bs) ≡ Err (WrongMark at)
  other j s = by_cases (ltb (length bs) (size j)) (λ e. rw (e, s)) (λ e. rw (e, whole_due_lem j, s))

  -- another mark stands there, or none
  wrong : ltb (length bs) mark_size ≡ false → marked (due_in k bs) bs ≡ false → as_due k at (handed at bs) ≡ Err (WrongMark at)
  unfolding handed
  wrong e n =
      by_cases (marked (standing bs) bs)
      (λ m. rw (e, m) (other (standing bs) (sym (stands_for_lem (standing bs) k bs m) ∙ n)))
      (λ m. rw (e, m))

  ended : ltb (length bs) mark_size ≡ true → handed at bs ≡ Record.Ended
  unfolding handed
  ended e = rw e

  due_handed : due (due_in k bs) at bs ≡ as_due k at (handed at bs)
  unfolding due
  due_handed =
      let j = due_in k bs in
      by_cases (ltb (length bs) mark_size) (λ e. rw e (sym (ap (as_due k at) (ended e))))
      (λ e. by_cases (marked j bs)
      (λ m.
      let s = sym (stands_for_lem j k bs m) ∙ m in
      rw (e, m) (sym (ap (as_due k at) (handed_marked j at bs (ltb-false (length bs) mark_size e) m) ∙ own j s)))
      (λ m. rw (e, m) (sym (wrong e m))))

pub whole_handed : (k : Mark) (at : ℕ) (bs : List ℕ) → due k at bs ≡ accepted → handed at bs ≡ record_in k at bs
whole_handed k at bs d =
    let w = due_is k at bs d in
    handed_marked k at bs (omega (arith, w.whole)) w.begins ∙ whole_record k at bs w.whole

-- the place past a whole record
pub past_whole : (k : Mark) (at : ℕ) (bs : List ℕ) → past_in at (record_in k at bs) ≡ at + size k
past_whole PL at bs = refl
past_whole RS at bs = refl
past_whole RH at bs = refl
past_whole LB at bs = refl
past_whole TK at bs = refl

-- ---- an answer that is not the record due, told from its place among the answers
-- the place of the answer that holds a mark's record
abbrev tag : Mark → ℕ
tag PL = 0
tag RS = 1
tag RH = 1
tag LB = 2
tag TK = 3

place_tag : (k : Mark) → tag (in_place_of k) ≡ tag k
place_tag PL = refl
place_tag RS = refl
place_tag RH = refl
place_tag LB = refl
place_tag TK = refl

same_tag : (j k : Mark) → stands_for j k ≡ true → tag j ≡ tag k
unfolding due_in
same_tag j k s =
    ap tag (one_mark j (due_in k (mark j)) s)
    ∙ by_cases (marked (in_place_of k) (mark j)) (λ e. rw e (place_tag k)) (λ e. rw e)

abbrev tag_of : Record → ℕ
tag_of (Record.Plan h c) = 0
tag_of (Record.Resource q c) = 1
tag_of (Record.Band b c) = 2
tag_of (Record.Task t c) = 3
tag_of (Record.CutShort k) = 4
tag_of Record.NoMark = 5
tag_of Record.Ended = 6

-- an answer that holds no whole record of such a mark
abbrev pub Other : Mark → Record → Type 0
Other PL r = (h : Header) (c : ℕ) → r ≡ Record.Plan h c → ⊥
Other RS r = (q : Resource) (c : ℕ) → r ≡ Record.Resource q c → ⊥
Other RH r = (q : Resource) (c : ℕ) → r ≡ Record.Resource q c → ⊥
Other LB r = (b : Band) (c : ℕ) → r ≡ Record.Band b c → ⊥
Other TK r = (t : Task) (c : ℕ) → r ≡ Record.Task t c → ⊥

other_tag : (k : Mark) (r : Record) → Other k r → tag_of r ≡ tag k → ⊥
other_tag PL (Record.Plan h c) n e = n h c refl
other_tag RS (Record.Resource q c) n e = n q c refl
other_tag RH (Record.Resource q c) n e = n q c refl
other_tag LB (Record.Band b c) n e = n b c refl
other_tag TK (Record.Task t c) n e = n t c refl
other_tag k r n e = omega arith

kind_tag : (x : Kind) → tag (kind_mark x) ≡ 1
kind_tag Plain = refl
kind_tag Held = refl

module _ (k : Mark) (at : ℕ) where
  apart : (j : Mark) → (tag j ≡ tag k → ⊥) → whole_due k at j ≡ Err (WrongMark at)
  apart j n = by_cases (stands_for j k) (λ s. absurd (n (same_tag j k s))) (λ s. rw s)

  not_mine : (r : Record) → (tag_of r ≡ tag k → ⊥) → as_due k at r ≡ Err (not_due k at r)
  not_mine (Record.Plan h c) n = apart PL n
  not_mine (Record.Resource q c) n = apart (resource_mark q) (λ e. n (sym (kind_tag q.kind) ∙ e))
  not_mine (Record.Band b c) n = apart LB n
  not_mine (Record.Task t c) n = apart TK n
  not_mine (Record.CutShort j) n = refl
  not_mine Record.NoMark n = refl
  not_mine Record.Ended n = refl

-- every answer but a whole record leaves the place
pub stays_there : (at : ℕ) (r : Record) → Other PL r → Other RS r → Other LB r → Other TK r → at ≡ past_in at r
stays_there at (Record.Plan h x) a b c d = absurd (a h x refl)
stays_there at (Record.Resource q x) a b c d = absurd (b q x refl)
stays_there at (Record.Band y x) a b c d = absurd (c y x refl)
stays_there at (Record.Task t x) a b c d = absurd (d t x refl)
stays_there at (Record.CutShort k) a b c d = refl
stays_there at Record.NoMark a b c d = refl
stays_there at Record.Ended a b c d = refl

-- ---- an answer taken, and an answer refused
kind_due : (x : Kind) (at : ℕ) → whole_due RS at (kind_mark x) ≡ accepted
unfolding due_in marked
kind_due Plain at = refl
kind_due Held at = refl

-- a resource's record where one is due: the mark that stands there tells its kind
pub resource_in : (at : ℕ) (bs : List ℕ) → record_in (due_in RS bs) at bs ≡ Record.Resource (resource_from (due_in RS bs) (numbers_in RS bs)) (at + size RS)
unfolding due_in numbers_in
resource_in at bs = by_cases (marked RH bs) (λ e. rw e) (λ e. rw e)

-- the record of a mark that has none in its place
pub alone_in : (k : Mark) (at : ℕ) (bs : List ℕ) → in_place_of k ≡ k → record_in (due_in k bs) at bs ≡ record_in k at bs
alone_in k at bs h = ap (λ (j : Mark). record_in j at bs) (due_alone k bs h)

module _ (at : ℕ) (bs : List ℕ) {r : Record} (e : r ≡ handed at bs) where
  taken : (k : Mark) → as_due k at r ≡ accepted → (due (due_in k bs) at bs ≡ accepted) × (r ≡ record_in (due_in k bs) at bs)
  taken k a = let d = due_handed k at bs ∙ ap (as_due k at) (sym e) ∙ a in (d, e ∙ whole_handed (due_in k bs) at bs d)

  pub plan_taken : {h : Header} {c : ℕ} → r ≡ Record.Plan h c → (due (due_in PL bs) at bs ≡ accepted) × (h ≡ header_from (numbers_in PL bs)) × (c ≡ at + size PL)
  unfolding due_in marked
  plan_taken {c} g = let w = taken PL (ap (as_due PL at) g) in let x = sym g ∙ w.1 ∙ alone_in PL at bs refl in let e : c ≡ at + size PL = cc in (w.0, cc, e)

  pub resource_taken : {q : Resource} {c : ℕ} → r ≡ Record.Resource q c → (due (due_in RS bs) at bs ≡ accepted) × (q ≡ resource_from (due_in RS bs) (numbers_in RS bs)) × (c ≡ at + size RS)
  resource_taken {q} {c} g = let w = taken RS (ap (as_due RS at) g ∙ kind_due q.kind at) in let x = sym g ∙ w.1 ∙ resource_in at bs in let e : c ≡ at + size RS = cc in (w.0, cc, e)

  pub band_taken : {b : Band} {c : ℕ} → r ≡ Record.Band b c → (due (due_in LB bs) at bs ≡ accepted) × (b ≡ band_from (numbers_in LB bs)) × (c ≡ at + size LB)
  unfolding due_in marked
  band_taken {c} g = let w = taken LB (ap (as_due LB at) g) in let x = sym g ∙ w.1 ∙ alone_in LB at bs refl in let e : c ≡ at + size LB = cc in (w.0, cc, e)

  pub task_taken : {t : Task} {c : ℕ} → r ≡ Record.Task t c → (due (due_in TK bs) at bs ≡ accepted) × (t ≡ task_from (numbers_in TK bs)) × (c ≡ at + size TK)
  unfolding due_in marked
  task_taken {c} g = let w = taken TK (ap (as_due TK at) g) in let x = sym g ∙ w.1 ∙ alone_in TK at bs refl in let e : c ≡ at + size TK = cc in (w.0, cc, e)

  pub refused : (k : Mark) → Other k r → due (due_in k bs) at bs ≡ Err (not_due k at r)
  refused k n = due_handed k at bs ∙ ap (as_due k at) (sym e) ∙ not_mine k at r (other_tag k r n)
