-- Laws of records: a record's numbers from its bytes and back, for any table of widths; and the records of a list, one after another, for
-- any layout.
use Rattle.plan.specs.Refusals.{accepted}
use mathlib.Core.Path.{◌≡◌, refl, sym, ap, ◌∙◌, subst}
use mathlib.Core.Bool.{Bool, true, false, not}
use mathlib.Core.List.{List, [], ◌∷◌, ◌++◌, append_assoc}
use Prim.Native.Nat.{ℕ, zero, suc, ◌+◌, ◌*◌, ◌≤◌, ◌<◌}
use native.Mathlib.Omega.{arith}
use native.Mathlib.Nat.{not-suc-le-zero, le_of_suc-le-suc, suc-mul, zero-mul, add_comm}
use lib.Dec.{eqb, ltb}
use lib.ListN.{length, get_or, take, drop, length-append, length-drop}
use lib.Seq.{length-take-le, take_at, drop_at, drop-drop, take-add}
use borrow.Author.Tests.{ltb-false, le-ltb, eqb-true, not-false}
use Rattle.integers.specs.Lists.{Each}
use Rattle.integers.specs.Lists.Each.{nothing, also}
use Rattle.integers.proofs.Tests.{by_cases, and_first, and_second}
use Rattle.plan.specs.declared.Refusal.{Refusal}
use Rattle.plan.specs.declared.Refusal.TheVariants.{WrongMark, CutShort}
use Rattle.rules.specs.Calls.{or_else, refuse_if}
use Rattle.rules.proofs.Checks.{past, past_all}
use Rattle.format.specs.declared.Mark.{Mark}
use Rattle.format.specs.declared.Mark.TheVariants.{PL, RS, RH, LB, TK}
use Rattle.format.specs.Numbers.{bytes_of, number_of, number_at, Byte}
use Rattle.format.specs.Format.{Layout, mark, mark_size, marked, in_place_of, due_in, widths, total, size, field_bytes, record_bytes, fields_in, numbers_in}
use Rattle.format.specs.Writing.{records_bytes}
use Rattle.format.specs.Reading.{due, each_due, records_in}
use Rattle.format.proofs.Numbers.{beyond, length_bytes, number_bytes, bytes_number, number_small, bytes_drop, bytes_take}
use Rattle.format.proofs.Stores.{length_mark}

-- ---- fields
-- as many numbers as widths, each held by its width
pub data Held : List ℕ → List ℕ → Type 0 where
  none : Held [] []
  more : {w n : ℕ} {ws ns : List ℕ} → n < beyond w → Held ws ns → Held (w ∷ ws) (n ∷ ns)

length_fields : (ws ns : List ℕ) → length ns ≡ length ws → length (field_bytes ws ns) ≡ total ws
unfolding field_bytes
length_fields [] ns h = refl
length_fields (w ∷ ws) [] h = absurd (omega arith)
length_fields (w ∷ ws) (n ∷ ns) h =
    length-append (bytes_of w n) (field_bytes ws ns) ∙ omega (arith, length_bytes w n, length_fields ws ns (omega arith))

fields_read : {ws ns : List ℕ} → Held ws ns → (rest : List ℕ) → fields_in ws (field_bytes ws ns ++ rest) ≡ ns
unfolding field_bytes fields_in
fields_read none rest = refl
fields_read (more {w} {n} {ws} {ns} h r) rest =
    rw (
      append_assoc (bytes_of w n) (field_bytes ws ns) rest,
      take_at (bytes_of w n) (field_bytes ws ns ++ rest) w (length_bytes w n),
      drop_at (bytes_of w n) (field_bytes ws ns ++ rest) w (length_bytes w n),
      number_bytes w n h,
      fields_read r rest,
    )

module _ (w : ℕ) (bs : List ℕ) (h : w ≤ length bs) (a : Each Byte bs) where
  field_held : number_of (take w bs) < beyond w
  field_held =
      subst (λ (k : ℕ). number_of (take w bs) < beyond k) (length-take-le w bs h) (number_small (bytes_take w a))

  field_written : bytes_of w (number_of (take w bs)) ≡ take w bs
  field_written =
      subst (λ (k : ℕ). bytes_of k (number_of (take w bs)) ≡ take w bs) (length-take-le w bs h) (bytes_number (bytes_take w a))

fields_held : (ws bs : List ℕ) → total ws ≤ length bs → Each Byte bs → Held ws (fields_in ws bs)
unfolding fields_in
fields_held [] bs h a = none
fields_held (w ∷ ws) bs h a =
    more (field_held w bs (omega arith) a) (fields_held ws (drop w bs) (omega (arith, length-drop w bs)) (bytes_drop w a))

fields_written : (ws bs : List ℕ) → total ws ≤ length bs → Each Byte bs → field_bytes ws (fields_in ws bs) ≡ take (total ws) bs
unfolding field_bytes fields_in
fields_written [] bs h a = refl
fields_written (w ∷ ws) bs h a =
    rw (field_written w bs (omega arith) a, fields_written ws (drop w bs) (omega (arith, length-drop w bs)) (bytes_drop w a), take-add w (total ws) bs)

-- where each field of a record stands, counted from its first byte: the widths added up
abbrev pub placed : List ℕ → List ℕ → ℕ → List ℕ
placed bs [] o = []
placed bs (w ∷ ws) o = number_at bs w o ∷ placed bs ws (o + w)

fields_placed : (bs ws : List ℕ) (o : ℕ) → fields_in ws (drop o bs) ≡ placed bs ws o
unfolding fields_in
fields_placed bs [] o = refl
fields_placed bs (w ∷ ws) o = rw (drop-drop w o bs, fields_placed bs ws (o + w))

pub numbers_placed : (k : Mark) (bs : List ℕ) → numbers_in k bs ≡ placed bs (widths k) mark_size
unfolding numbers_in
numbers_placed k bs = fields_placed bs (widths k) mark_size

-- ---- one record
pub own_mark : (k : Mark) (ns rest : List ℕ) → marked k (record_bytes k ns ++ rest) ≡ true
unfolding marked record_bytes
own_mark PL ns rest = refl
own_mark RS ns rest = refl
own_mark RH ns rest = refl
own_mark LB ns rest = refl
own_mark TK ns rest = refl

mark_pair : (k : Mark) → get_or (mark k) 0 0 ∷ get_or (mark k) 1 0 ∷ [] ≡ mark k
mark_pair PL = refl
mark_pair RS = refl
mark_pair RH = refl
mark_pair LB = refl
mark_pair TK = refl

marked_two : (bs : List ℕ) (k : Mark) → mark_size ≤ length bs → marked k bs ≡ true → take mark_size bs ≡ mark k
unfolding marked
marked_two [] k l m = absurd (not-suc-le-zero l)
marked_two (a ∷ []) k l m = absurd (not-suc-le-zero (le_of_suc-le-suc l))
marked_two (a ∷ b ∷ bs) k l m =
    let s = eqb a (get_or (mark k) 0 0) in
    let t = eqb b (get_or (mark k) 1 0) in
    let p : a ≡ get_or (mark k) 0 0 = eqb-true a (get_or (mark k) 0 0) (and_first s t m) in
    let q : b ≡ get_or (mark k) 1 0 = eqb-true b (get_or (mark k) 1 0) (and_second s t m) in
    rw (p, q) (mark_pair k)

pub length_record : (k : Mark) (ns : List ℕ) → length ns ≡ length (widths k) → length (record_bytes k ns) ≡ size k
unfolding record_bytes
length_record k ns h =
    length-append (mark k) (field_bytes (widths k) ns) ∙ omega (arith, length_mark k, length_fields (widths k) ns h)

pub held_length : {ws ns : List ℕ} → Held ws ns → length ns ≡ length ws
held_length none = refl
held_length (more h r) = ap suc (held_length r)

module _ (k : Mark) {ns : List ℕ} (h : Held (widths k) ns) (rest : List ℕ) where
  pub record_read : numbers_in k (record_bytes k ns ++ rest) ≡ ns
  unfolding record_bytes numbers_in
  record_read =
      rw (
        append_assoc (mark k) (field_bytes (widths k) ns) rest,
        drop_at (mark k) (field_bytes (widths k) ns ++ rest) mark_size (length_mark k),
        fields_read h rest,
      )

  pub record_due : (at : ℕ) → due k at (record_bytes k ns ++ rest) ≡ accepted
  unfolding due
  record_due at =
      let bs = record_bytes k ns ++ rest in
      let n : size k ≤ length bs = omega (arith, length-append (record_bytes k ns) rest, length_record k ns (held_length h)) in
      simp (le-ltb (length bs) mark_size (omega arith), le-ltb (length bs) (size k) n, own_mark k ns rest)

pub unrefused : (t : Bool) (f : Refusal) → refuse_if t f ≡ accepted → t ≡ false
unrefused true f h = cc
unrefused false f h = refl

-- a record that is due: it begins with its mark, and it is whole
pub record Due (k : Mark) (bs : List ℕ) : Type 0 where
  pub whole : size k ≤ length bs
  pub begins : marked k bs ≡ true

pub due_is : (k : Mark) (at : ℕ) (bs : List ℕ) → due k at bs ≡ accepted → Due k bs
unfolding due
due_is k at bs h =
    let short = ltb (length bs) (size k) in
    let a = past (ltb (length bs) mark_size) (CutShort at) (or_else (refuse_if (not (marked k bs)) (WrongMark at)) (refuse_if short (CutShort at))) h in
    let b = past (not (marked k bs)) (WrongMark at) (refuse_if short (CutShort at)) a.1 in
    record { whole = ltb-false (length bs) (size k) (unrefused short (CutShort at) b.1); begins = not-false (marked k bs) b.0 }

pub due_in_lem : (k : Mark) (at : ℕ) (bs : List ℕ) → Due k bs → due k at bs ≡ accepted
unfolding due
due_in_lem k at bs d =
    let w = d.whole in
    simp (le-ltb (length bs) mark_size (omega arith), le-ltb (length bs) (size k) d.whole, d.begins)

module _ (k : Mark) {bs : List ℕ} (d : Due k bs) (a : Each Byte bs) where
  pub record_held : Held (widths k) (numbers_in k bs)
  unfolding numbers_in
  record_held = fields_held (widths k) (drop mark_size bs) (omega (arith, length-drop mark_size bs, d.whole)) (bytes_drop mark_size a)

  pub record_written : record_bytes k (numbers_in k bs) ≡ take (size k) bs
  unfolding record_bytes numbers_in
  record_written =
      rw (
        ← marked_two bs k (omega (arith, d.whole)) d.begins,
        fields_written (widths k) (drop mark_size bs) (omega (arith, length-drop mark_size bs, d.whole)) (bytes_drop mark_size a),
        take-add mark_size (total (widths k)) bs,
      )

-- ---- a mark that is due, or the one in its place
-- "same layout"
place_widths : (k : Mark) → widths (in_place_of k) ≡ widths k
place_widths PL = refl
place_widths RS = refl
place_widths RH = refl
place_widths LB = refl
place_widths TK = refl

due_widths : (k : Mark) (bs : List ℕ) → widths (due_in k bs) ≡ widths k
unfolding due_in
due_widths k bs = by_cases (marked (in_place_of k) bs) (λ e. rw e (place_widths k)) (λ e. rw e)

pub due_size : (k : Mark) (bs : List ℕ) → size (due_in k bs) ≡ size k
due_size k bs = ap (λ (ws : List ℕ). mark_size + total ws) (due_widths k bs)

-- a mark that has none in its place
pub due_alone : (k : Mark) (bs : List ℕ) → in_place_of k ≡ k → due_in k bs ≡ k
unfolding due_in
due_alone k bs h = by_cases (marked (in_place_of k) bs) (λ e. rw e h) (λ e. rw e)

-- two marks of one layout have the same numbers
numbers_wide : (j k : Mark) (bs : List ℕ) → widths j ≡ widths k → numbers_in j bs ≡ numbers_in k bs
unfolding numbers_in
numbers_wide j k bs e = rw e

module _ (k : Mark) {bs : List ℕ} (d : Due (due_in k bs) bs) (a : Each Byte bs) where
  due_held : Held (widths k) (numbers_in k bs)
  unfolding numbers_in
  due_held = subst (λ (ws : List ℕ). Held ws (fields_in ws (drop mark_size bs))) (due_widths k bs) (record_held (due_in k bs) d a)

  due_written : record_bytes (due_in k bs) (numbers_in k bs) ≡ take (size k) bs
  due_written =
      ap (record_bytes (due_in k bs)) (sym (numbers_wide (due_in k bs) k bs (due_widths k bs)))
      ∙ record_written (due_in k bs) d a
      ∙ ap (λ (n : ℕ). take n bs) (due_size k bs)

-- ---- the records of a list, one after another
-- an element is written with the mark that is due or the one in its place, and, if P holds of it, with numbers that its record holds; what is
-- read there is the element
pub record Lawful {A : Type 0} (l : Layout A) (P : A → Type 0) : Type 0 where
  pub stands : (x : A) (ns rest : List ℕ) → due_in l.due (record_bytes (l.mark x) ns ++ rest) ≡ l.mark x
  pub again : (bs ns : List ℕ) → l.mark (l.from (due_in l.due bs) ns) ≡ due_in l.due bs
  pub long : (x : A) → length (l.numbers x) ≡ length (widths l.due)
  pub held : (x : A) → P x → Held (widths l.due) (l.numbers x)
  pub back : (x : A) → P x → l.from (l.mark x) (l.numbers x) ≡ x
  pub forth : (k : Mark) (ns : List ℕ) → Held (widths l.due) ns → l.numbers (l.from k ns) ≡ ns

module _ {A : Type 0} {l : Layout A} {P : A → Type 0} (w : Lawful l P) where
  pub mark_widths : (x : A) → widths (l.mark x) ≡ widths l.due
  mark_widths x = ap widths (sym (w.stands x [] [])) ∙ due_widths l.due (record_bytes (l.mark x) [] ++ [])

  pub length_one : (x : A) → length (record_bytes (l.mark x) (l.numbers x)) ≡ size l.due
  length_one x =
      length_record (l.mark x) (l.numbers x) (w.long x ∙ ap length (sym (mark_widths x)))
      ∙ ap (λ (ws : List ℕ). mark_size + total ws) (mark_widths x)

  pub length_records : (xs : List A) → length (records_bytes l xs) ≡ length xs * size l.due
  unfolding records_bytes
  length_records [] = sym (zero-mul (size l.due))
  length_records (x ∷ xs) =
      length-append (record_bytes (l.mark x) (l.numbers x)) (records_bytes l xs)
      ∙ rw (length_one x, length_records xs) (sym (suc-mul (length xs) (size l.due) ∙ add_comm (length xs * size l.due) (size l.due)))

  -- a list written and read
  pub records_back : {xs : List A} → Each P xs → (rest : List ℕ) (at : ℕ) → (each_due l.due (length xs) at (records_bytes l xs ++ rest) ≡ accepted) × (records_in l (length xs) (records_bytes l xs ++ rest) ≡ xs)
  unfolding records_bytes each_due records_in
  records_back nothing rest at = (refl, refl)
  records_back (also {x} {xs} p ps) rest at =
      let j = l.mark x in
      let k = l.due in
      let ns = l.numbers x in
      let later = records_bytes l xs ++ rest in
      let h = subst (λ (ws : List ℕ). Held ws ns) (sym (mark_widths x)) (w.held x p) in
      let split : (record_bytes j ns ++ records_bytes l xs) ++ rest ≡ record_bytes j ns ++ later = append_assoc (record_bytes j ns) (records_bytes l xs) rest in
      let past : drop (size k) (record_bytes j ns ++ later) ≡ later = drop_at (record_bytes j ns) later (size k) (length_one x) in
      let read : numbers_in k (record_bytes j ns ++ later) ≡ ns = sym (numbers_wide j k (record_bytes j ns ++ later) (mark_widths x)) ∙ record_read j h later in
      let r = records_back ps rest (at + size k) in
      (rw (split, w.stands x ns later, record_due j h later at, past) r.0, rw (split, w.stands x ns later, read, past, w.back x p, r.1))

  -- and read and written
  module _ (Q : A → Type 0) (f : (k : Mark) (ns : List ℕ) → Held (widths l.due) ns → Q (l.from k ns)) where
    pub records_written : (n at : ℕ) (bs : List ℕ) → each_due l.due n at bs ≡ accepted → Each Byte bs → (records_bytes l (records_in l n bs) ≡ take (n * size l.due) bs) × Each Q (records_in l n bs)
    unfolding each_due records_in records_bytes
    records_written zero at bs h a = (rw (zero-mul (size l.due)), nothing)
    records_written (suc n) at bs h a =
        let k = l.due in
        let j = due_in k bs in
        let e = past_all (due j at bs) (each_due k n (at + size k) (drop (size k) bs)) h in
        let d = due_is j at bs e.0 in
        let held = due_held k d a in
        let r = records_written n (at + size k) (drop (size k) bs) e.1 (bytes_drop (size k) a) in (
          rw (
            w.again bs (numbers_in k bs),
            w.forth j (numbers_in k bs) held,
            due_written k d a,
            r.0,
            suc-mul n (size k),
            add_comm (n * size k) (size k),
            take-add (size k) (n * size k) bs,
          ),
          also (f j (numbers_in k bs) held) r.1,
        )

pub length_in : {A : Type 0} (l : Layout A) (n : ℕ) (bs : List ℕ) → length (records_in l n bs) ≡ n
unfolding records_in
length_in l zero bs = refl
length_in l (suc n) bs = ap suc (length_in l n (drop (size l.due) bs))
