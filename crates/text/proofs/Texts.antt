-- Texts one after another; digits one by one; the lines of tasks, half of them put.
use mathlib.Core.Path.{◌≡◌, refl, sym, ap, subst, ◌∙◌}
use mathlib.Core.Bool.{true, false}
use mathlib.Core.List.{List, [], ◌∷◌, ◌++◌}
use Prim.Native.Nat.{ℕ, suc, ◌+◌, ◌-◌, ◌*◌, ◌/◌, ◌%◌, ◌≤◌, ◌<◌}
use native.Mathlib.Omega.{arith}
use native.Mathlib.Nat.{add-zero}
use native.Mathlib.Numerals.{add-one}
use lib.IntN.{ℤ, pos, negsuc, nat_abs}
use lib.Signed.{lt_z}
use lib.Dec.{ltb}
use borrow.Author.Tests.{lt-ltb, le-ltb}
use Rattle.integers.specs.Hull.{Range}
use Rattle.integers.proofs.Z.{z}
use lib.ListN.{length, get_or, drop, length-append, drop_of_length-le}
use lib.Seq.{sets, length-sets, drop-cons}
use Rattle.plan.specs.declared.Task.{Task}
use Rattle.format.specs.Writing.{laid}
use Rattle.format.proofs.Stores.{sets_append, sets_laid}
use Rattle.text.specs.declared.Text.{Text}
use Rattle.text.specs.Text.{Put, digit_of, minus, last_digits, digits, signed, most_signed, space, range_text, most_range, task_line, most_task_line, task_lines}
use Rattle.text.specs.Puts.{Puts}

-- ---- texts
pub put_then : {out middle later : List ℕ} {at past end : ℕ} {a b : List ℕ} {m k : ℕ} → Put out at a m middle past → Put middle past b k later end → Put out at (a ++ b) (m + k) later end
put_then {out} {middle} {later} {at} {past} {end} {a} {b} p q =
    record {
      stored = q.stored ∙ rw (p.stored, p.ends) (sym (sets_append out at a b));
      ends = omega (arith, p.ends, q.ends, length-append a b);
      short = omega (arith, p.short, q.short, length-append a b);
    }

pub put_wider : {out later : List ℕ} {at past : ℕ} {a : List ℕ} {m k : ℕ} → m ≤ k → Put out at a m later past → Put out at a k later past
put_wider h p = record { stored = p.stored; ends = p.ends; short = omega arith }

pub put_is : {out later : List ℕ} {at past : ℕ} {a b : List ℕ} {m : ℕ} → a ≡ b → Put out at a m later past → Put out at b m later past
put_is {out} {later} {at} {past} {a} {b} {m} e p = subst (λ (x : List ℕ). Put out at x m later past) e p

-- a word copied to the first places
pub put_copied : (word out : List ℕ) {later : List ℕ} {past : ℕ} → length word ≤ length out → (past ≡ length word) × (later ≡ laid word out) → Put out 0 word (length word) later past
put_copied word out h e = record { stored = e.1 ∙ sym (sets_laid word out h); ends = omega (arith, e.0); short = omega arith }

-- the same behind what a Text holds
module _ {t u : Text} {a : List ℕ} {m : ℕ} (p : Puts t a m u) where
  pub puts_then : {v : Text} {b : List ℕ} {k : ℕ} → Puts u b k v → Puts t (a ++ b) (m + k) v
  puts_then q = record { put = put_then p.put q.put; same = q.same ∙ p.same; long = q.long ∙ p.long }

  pub puts_is : {b : List ℕ} → a ≡ b → Puts t b m u
  puts_is e = record { put = put_is e p.put; same = p.same; long = p.long }

  pub puts_wider : {k : ℕ} → m ≤ k → Puts t a k u
  puts_wider h = record { put = put_wider h p.put; same = p.same; long = p.long }

-- ---- digits
pub put_no_digits : (out : List ℕ) (at most n : ℕ) → most ≡ 0 → Put out at (last_digits most n) most out at
unfolding last_digits
put_no_digits out at most n e = rw e (record { stored = refl; ends = omega arith; short = omega arith })

pub puts_no_digits : (t : Text) (most n : ℕ) → most ≡ 0 → Puts t (last_digits most n) most t
puts_no_digits t most n e = record { put = put_no_digits t.out.now t.len most n e; same = refl; long = refl }

module _ (most n : ℕ) (h : (most ≡ 0) → ⊥) where
  some : most ≡ suc (most - 1)
  some = omega arith

  digits_one : ltb n 10 ≡ true → last_digits most n ≡ digit_of n ∷ []
  unfolding last_digits
  digits_one e = ap (λ (k : ℕ). last_digits k n) some ∙ rw e

  digits_more : ltb n 10 ≡ false → last_digits most n ≡ last_digits (most - 1) (n / 10) ++ (digit_of (n % 10) ∷ [])
  unfolding last_digits
  digits_more e = ap (λ (k : ℕ). last_digits k n) some ∙ rw e

module _ {out : List ℕ} {at most n : ℕ} where
  pub put_one_digit : {later : List ℕ} {past d : ℕ} → ((most ≡ 0) → ⊥) → n < 10 → d ≡ digit_of n → Put out at (d ∷ []) 1 later past → Put out at (last_digits most n) most later past
  put_one_digit h g e p =
      put_wider (omega arith) (put_is (ap (λ (x : ℕ). x ∷ []) e ∙ sym (digits_one most n h (lt-ltb n 10 g))) p)

  pub put_more_digits : {middle later : List ℕ} {last past d : ℕ} → ((most ≡ 0) → ⊥) → 10 ≤ n → d ≡ digit_of (n % 10) → Put out at (last_digits (most - 1) (n / 10)) (most - 1) middle last → Put middle last (d ∷ []) 1 later past → Put out at (last_digits most n) most later past
  put_more_digits h g e p q =
      put_wider (omega arith) (put_is (ap (λ (x : ℕ). last_digits (most - 1) (n / 10) ++ (x ∷ [])) e ∙ sym (digits_more most n h (le-ltb n 10 g))) (put_then p q))

module _ {t u : Text} {most n d : ℕ} (h : (most ≡ 0) → ⊥) where
  pub puts_one_digit : n < 10 → d ≡ digit_of n → Puts t (d ∷ []) 1 u → Puts t (last_digits most n) most u
  puts_one_digit g e p = record { put = put_one_digit h g e p.put; same = p.same; long = p.long }

  pub puts_more_digits : {v : Text} → 10 ≤ n → d ≡ digit_of (n % 10) → Puts t (last_digits (most - 1) (n / 10)) (most - 1) u → Puts u (d ∷ []) 1 v → Puts t (last_digits most n) most v
  puts_more_digits g e p q = record { put = put_more_digits h g e p.put q.put; same = q.same ∙ p.same; long = q.long ∙ p.long }

-- ---- signed numbers
pub signed_below : (x : ℤ) → lt_z x (pos 0) ≡ true → signed x ≡ minus ++ digits (nat_abs x)
unfolding signed
signed_below (pos n) t = absurd (omega (z, t))
signed_below (negsuc n) t = rw add-one

pub signed_not_below : (x : ℤ) → lt_z x (pos 0) ≡ false → signed x ≡ digits (nat_abs x)
unfolding signed
signed_not_below (pos n) t = refl
signed_not_below (negsuc n) t = absurd (omega (z, t))

pub put_range : (s : Range) {out middle later : List ℕ} {at past end : ℕ} {x y : ℤ} → Put out at (space ++ signed x) (1 + most_signed) middle past → Put middle past (space ++ signed y) (1 + most_signed) later end → x ≡ s.low → y ≡ s.high → Put out at (range_text s) most_range later end
unfolding range_text
put_range s p q e g = put_is (rw (e, g)) (put_then p q)

pub puts_range : (s : Range) {t u v : Text} {x y : ℤ} → Puts t (space ++ signed x) (1 + most_signed) u → Puts u (space ++ signed y) (1 + most_signed) v → x ≡ s.low → y ≡ s.high → Puts t (range_text s) most_range v
puts_range s p q e g = record { put = put_range s p.put q.put e g; same = q.same ∙ p.same; long = q.long ∙ p.long }

-- ---- lines
module _ (ts : List Task) (out : List ℕ) (from : ℕ) where
  -- i lines are put: what is still to come, put into the list as it is now, gives the list with all of them
  pub record Lines (i at : ℕ) (now : List ℕ) : Type 0 where
    pub upto : i ≤ length ts
    pub room : length now ≡ length out
    pub near : at ≤ from + i * most_task_line
    pub still : sets now at (task_lines i (drop i ts)) ≡ sets out from (task_lines 0 ts)
    pub count : at + length (task_lines i (drop i ts)) ≡ from + length (task_lines 0 ts)

  module _ (d : Task) {i at past : ℕ} {now later : List ℕ} (r : Lines i at now) (h : i < length ts) (p : Put now at (task_line i (get_or ts i d)) most_task_line later past) where
    step : task_lines i (drop i ts) ≡ task_line i (get_or ts i d) ++ task_lines (suc i) (drop (suc i) ts)
    unfolding task_lines
    step = ap (task_lines i) (drop-cons ts i d h)

    all : Put now at (task_line i (get_or ts i d) ++ task_lines (suc i) (drop (suc i) ts)) (most_task_line + length (task_lines (suc i) (drop (suc i) ts))) (sets later past (task_lines (suc i) (drop (suc i) ts))) (past + length (task_lines (suc i) (drop (suc i) ts)))
    all = put_then p (record { stored = refl; ends = refl; short = omega arith })

    pub lines_go_on : Lines (i + 1) past later
    lines_go_on =
        rw (add-one i) (record {
          upto = omega arith;
          room = ap length p.stored ∙ length-sets now at (task_line i (get_or ts i d)) ∙ r.room;
          near = omega (arith, p.ends, p.short, r.near);
          still = all.stored ∙ ap (sets now at) (sym step) ∙ r.still;
          count = all.ends ∙ ap (λ (x : List ℕ). at + length x) (sym step) ∙ r.count;
        })

  pub lines_end : {i at : ℕ} {now : List ℕ} → Lines i at now → length ts ≤ i → Put out from (task_lines 0 ts) (length ts * most_task_line) now at
  unfolding task_lines
  lines_end {i} {at} {now} r h =
      let none : task_lines i (drop i ts) ≡ [] = ap (task_lines i) (drop_of_length-le ts h) in
      let c : at + length (task_lines i (drop i ts)) ≡ at = ap (λ (x : List ℕ). at + length x) none ∙ add-zero at in
      record {
        stored = ap (sets now at) (sym none) ∙ r.still;
        ends = sym c ∙ r.count;
        short = omega (arith, r.count, r.near, r.upto);
      }
