-- Runs of stores: one run after another is one run, a run from the first place is a list laid over another, and a record is stored field
-- after field.
use mathlib.Core.Path.{◌≡◌, refl, sym, ◌∙◌}
use mathlib.Core.List.{List, [], ◌∷◌, ◌++◌, append_assoc}
use Prim.Native.Nat.{ℕ, suc, ◌+◌, ◌/◌, ◌≤◌}
use native.Mathlib.Omega.{arith}
use native.Mathlib.Nat.{zero-add, add-zero, add-suc, suc-add, add_assoc}
use lib.ListN.{length, take, drop, set}
use lib.Seq.{drop-drop, sets, sets-eq, take_at}
use borrow.Rule.Slice.PartMut.{put_mid}
use Rattle.format.specs.declared.Mark.{Mark}
use Rattle.format.specs.declared.Mark.TheVariants.{PL, RS, RH, LB, TK}
use Rattle.format.specs.Numbers.{bytes_of}
use Rattle.format.specs.Format.{mark, mark_size, widths, record_bytes, field_bytes}
use Rattle.format.specs.Writing.{laid}
use Rattle.format.proofs.Numbers.{beyond, length_bytes, bytes_split}

module _ {A : Type 0} where
  pub sets_append : (l : List A) (i : ℕ) (a b : List A) → sets l i (a ++ b) ≡ sets (sets l i a) (i + length a) b
  sets_append l i [] b = rw (add-zero i)
  sets_append l i (x ∷ a) b = rw (sets_append (set l i x) (suc i) a b, add-suc i (length a), suc-add i (length a))

  pub sets_laid : (xs ds : List A) → length xs ≤ length ds → sets ds 0 xs ≡ laid xs ds
  sets_laid xs ds h = sets-eq xs ds 0 (rw (zero-add (length xs)) h) ∙ rw (zero-add (length xs))

  pub sets_taken : (n : ℕ) (xs ds : List A) → length xs ≡ n → n ≤ length ds → take n (sets ds 0 xs) ≡ xs
  sets_taken n xs ds e h = rw (sets_laid xs ds (omega arith)) (take_at xs (drop (length xs) ds) n e)

-- so many places of a list, written by others: a run of stores
pub mid_stored : {A : Type 0} (at : ℕ) (l vs : List A) (k : ℕ) → length vs ≡ k → at + k ≤ length l → put_mid at k l vs ≡ sets l at vs
mid_stored at l vs k e h =
    rw (drop-drop k at l, ← e) (sym (sets-eq vs l at (omega arith) ∙ append_assoc (take at l) vs (drop (at + length vs) l)))

-- a number's low bytes stored, then its high bytes
pub put_parts : (m k : ℕ) (l : List ℕ) (at x : ℕ) → sets l at (bytes_of (m + k) x) ≡ sets (sets l at (bytes_of m x)) (at + m) (bytes_of k (x / beyond m))
put_parts m k l at x =
    rw (bytes_split m k x, sets_append l at (bytes_of m x) (bytes_of k (x / beyond m)), length_bytes m x)

-- ---- a record, field after field: o counts from its first byte
abbrev pub stored : List ℕ → ℕ → ℕ → List ℕ → List ℕ → List ℕ
stored l at o [] ns = l
stored l at o (w ∷ ws) [] = l
stored l at o (w ∷ ws) (n ∷ ns) = stored (sets l (at + o) (bytes_of w n)) at (o + w) ws ns

fields_stored : (l : List ℕ) (at o : ℕ) (ws ns : List ℕ) → sets l (at + o) (field_bytes ws ns) ≡ stored l at o ws ns
unfolding field_bytes
fields_stored l at o [] ns = refl
fields_stored l at o (w ∷ ws) [] = refl
fields_stored l at o (w ∷ ws) (n ∷ ns) =
    rw (sets_append l (at + o) (bytes_of w n) (field_bytes ws ns), length_bytes w n, add_assoc at o w)
    (fields_stored (sets l (at + o) (bytes_of w n)) at (o + w) ws ns)

pub length_mark : (k : Mark) → length (mark k) ≡ mark_size
length_mark PL = refl
length_mark RS = refl
length_mark RH = refl
length_mark LB = refl
length_mark TK = refl

pub record_stored : (k : Mark) (l : List ℕ) (at : ℕ) (ns : List ℕ) → sets l at (record_bytes k ns) ≡ stored (sets l at (mark k)) at mark_size (widths k) ns
unfolding record_bytes
record_stored k l at ns =
    rw (sets_append l at (mark k) (field_bytes (widths k) ns), length_mark k) (fields_stored (sets l at (mark k)) at mark_size (widths k) ns)
