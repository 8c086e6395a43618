-- What a number says of the set that it holds, and an array of the list. The code's operations are the set's, digit by digit.
-- Assumes nothing.
use mathlib.Core.Bool.{Bool, true, false, not, ◌&&◌, ◌||◌}
use mathlib.Core.List.{List, map}
use mathlib.Core.Path.{◌≡◌, refl, sym, ap, ◌∙◌}
use Prim.Native.Nat.{ℕ, ◌*◌, ◌%◌, ◌^◌, ◌<◌, ◌≤◌}
use native.Mathlib.Nat.{mod-eq_of_lt, zero-div}
use native.Mathlib.Omega.{arith}
use lib.Dec.{eqb, ltb}
use lib.Bits.{bit_and, bit_or, bit_xor}
use lib.ListN.{length, get_or, length-map, length-take}
use lib.Seq.{get_or-take}
use borrow.Author.Tests.{eqb-true, lt-ltb, ltb-false}
use Rattle.intervals.proofs.Bits.{bit_or_lem, bit_power, bit_without, power, same_bits}
use Rattle.intervals.specs.Stored.{bit, listed, members}
use Rattle.intervals.specs.Interval.{Set, insert, remove, replace}
use Rattle.intervals.specs.declared.IntervalList.{IntervalList}
use Rattle.intervals.specs.declared.IntervalSet.{IntervalSet}

-- the members after the code's operations
module _ (n i : ℕ) (h : i < 23) (k : ℕ) where
  pub insert-at : (ltb k 32 && bit (bit_or n ((1 * 2 ^ i) % 2 ^ 32)) k) ≡ (eqb i k || ltb k 32 && bit n k)
  insert-at = ap (λ (x : ℕ). ltb k 32 && bit (bit_or n x) k) (power 32 i (omega arith))
      ∙ ap (λ (b : Bool). ltb k 32 && b) (bit_or_lem n (2 ^ i) k ∙ ap (λ (b : Bool). bit n k || b) (bit_power i k))
      ∙ go (ltb k 32) (eqb i k) refl refl (bit n k)
    where
      go : (t e : Bool) → ltb k 32 ≡ t → eqb i k ≡ e → (b : Bool) → (t && (b || e)) ≡ (e || t && b)
      go true true p q true = refl
      go true true p q false = refl
      go true false p q true = refl
      go true false p q false = refl
      go false true p q b =
          let g : 32 ≤ k = ltb-false k 32 p in
          let f : i ≡ k = eqb-true i k q in
          absurd (omega arith)
      go false false p q b = refl

  pub remove-at : (ltb k 32 && bit (bit_xor n (bit_and n ((1 * 2 ^ i) % 2 ^ 32))) k) ≡ (not (eqb i k) && (ltb k 32 && bit n k))
  remove-at = ap (λ (x : ℕ). ltb k 32 && bit (bit_xor n (bit_and n x)) k) (power 32 i (omega arith))
      ∙ ap (λ (b : Bool). ltb k 32 && b) (bit_without n (2 ^ i) k ∙ ap (λ (b : Bool). not b && bit n k) (bit_power i k))
      ∙ go (ltb k 32) (eqb i k) (bit n k)
    where
      go : (t e b : Bool) → (t && (not e && b)) ≡ (not e && (t && b))
      go true e b = refl
      go false true b = refl
      go false false b = refl

-- the number 0 has no members
pub none-at : (k : ℕ) → (ltb k 32 && bit 0 k) ≡ false
unfolding bit
none-at k = ap (λ (x : ℕ). ltb k 32 && eqb (x % 2) 1) (zero-div (2 ^ k)) ∙ go (ltb k 32)
  where
    go : (t : Bool) → (t && false) ≡ false
    go true = refl
    go false = refl

-- numbers of w digits that are the same digit by digit are equal
pub same_number : (w a b : ℕ) → a < 2 ^ w → b < 2 ^ w → ((k : ℕ) → k < w → bit a k ≡ bit b k) → a ≡ b
same_number w a b p q f = sym (mod-eq_of_lt p) ∙ same_bits a b w f ∙ mod-eq_of_lt q

-- a member below 32 is a digit
pub member_at : (s : IntervalSet) (k : ℕ) → k < 32 → members s k ≡ bit s.bits k
unfolding members
member_at s k h = ap (λ (t : Bool). t && bit s.bits k) (lt-ltb k 32 h)

-- the length that owning an array field tells, said of the field
pub sized {ℓ} : {A : Type ℓ} (l : List A) (n : ℕ) → length (map (λ (v : A). v) l) ≡ n → length l ≡ n
sized l n e = sym (length-map l (λ v. v)) ∙ e

-- a set in which `target` is replaced: with it as a member, and without
module _ (s : Set) (target dest : ℕ) where
  pub replace_in : s target ≡ true → insert (remove s target) dest ≡ replace s target dest
  unfolding insert remove replace
  replace_in e x k = go (eqb dest k) x
    where
      go : (d : Bool) → (d || not (eqb target k) && s k) ≡ (d && s target || not (eqb target k) && s k)
      go true = rw e
      go false = refl

  pub replace_out : s target ≡ false → s ≡ replace s target dest
  unfolding replace
  replace_out e x k = go (eqb dest k) (eqb target k) refl x
    where
      go : (d t : Bool) → eqb target k ≡ t → s k ≡ (d && s target || not t && s k)
      go true true p = ap s (sym (eqb-true target k p)) ∙ rw e
      go false true p = ap s (sym (eqb-true target k p)) ∙ e
      go true false p = rw e
      go false false p = refl

-- the numbers that a list takes stand in its array
pub listed_at : (l : IntervalList) (k : ℕ) → k < length (listed l) → get_or (listed l) k 0 ≡ get_or l.numbers k 0
unfolding listed
listed_at l k h = get_or-take l.len l.numbers k 0 (let e = length-take l.len l.numbers in omega arith)
