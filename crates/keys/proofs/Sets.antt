-- The code's operations on two numbers are the set's, digit by digit.
-- Assumes nothing.
use mathlib.Core.Bool.{Bool, true, false, not, cond, ◌&&◌, ◌||◌, or-false, or-true}
use mathlib.Core.Path.{◌≡◌, refl, ap, ap₂, ◌∙◌}
use Prim.Native.Nat.{ℕ, ◌-◌, ◌*◌, ◌%◌, ◌^◌, ◌<◌, ◌≤◌}
use native.Mathlib.Nat.{zero-div}
use native.Mathlib.Omega.{arith}
use lib.Bits.{bit_and, bit_or, bit_xor}
use lib.Dec.{eqb, ltb}
use borrow.Author.Tests.{eqb-true, eqb-false, eq-eqb, ne_eqb, ltb-true, ltb-false}
use Rattle.intervals.specs.Stored.{bit}
use Rattle.intervals.proofs.Bits.{bit_or_lem, bit_power, bit_without, power}

-- a member of the two numbers
abbrev pub has : ℕ → ℕ → ℕ → Bool
has low high k = ltb k 128 && cond (ltb k 64) (bit low k) (bit high (k - 64))

-- `or` with a power of two
or_power : (n i k : ℕ) → i < 64 → bit (bit_or n ((1 * 2 ^ i) % 2 ^ 64)) k ≡ (bit n k || eqb i k)
or_power n i k h = ap (λ (x : ℕ). bit (bit_or n x) k) (power 64 i h) ∙ bit_or_lem n (2 ^ i) k ∙ ap (λ (b : Bool). bit n k || b) (bit_power i k)

same_shift : (i k : ℕ) → 64 ≤ i → 64 ≤ k → eqb (i - 64) (k - 64) ≡ eqb i k
same_shift i k h g = go (eqb i k) refl
  where
    go : (e : Bool) → eqb i k ≡ e → eqb (i - 64) (k - 64) ≡ e
    go true p = let q : i ≡ k = eqb-true i k p in eq-eqb (i - 64) (k - 64) (omega arith)
    go false p = ne_eqb (i - 64) (k - 64) (λ q. eqb-false i k p (omega arith))

module _ (low high i : ℕ) (k : ℕ) where
  pub insert-low : i < 64 → has (bit_or low ((1 * 2 ^ i) % 2 ^ 64)) high k ≡ (eqb i k || has low high k)
  insert-low h =
      ap (λ (x : Bool). ltb k 128 && cond (ltb k 64) x (bit high (k - 64))) (or_power low i k h)
      ∙ go (ltb k 128) (ltb k 64) (eqb i k) refl refl refl (bit low k) (bit high (k - 64))
    where
      go : (t u e : Bool) → ltb k 128 ≡ t → ltb k 64 ≡ u → eqb i k ≡ e → (a b : Bool) → (t && cond u (a || e) b) ≡ (e || t && cond u a b)
      go true true true p q r a b = or-true a
      go true true false p q r a b = or-false a
      go true false true p q r a b = let x : i ≡ k = eqb-true i k r in let y : 64 ≤ k = ltb-false k 64 q in absurd (omega arith)
      go true false false p q r a b = refl
      go false u true p q r a b = let x : i ≡ k = eqb-true i k r in let y : 128 ≤ k = ltb-false k 128 p in absurd (omega arith)
      go false u false p q r a b = refl

  pub insert-high : 64 ≤ i → i < 128 → has low (bit_or high ((1 * 2 ^ (i - 64)) % 2 ^ 64)) k ≡ (eqb i k || has low high k)
  insert-high g h =
      ap (λ (x : Bool). ltb k 128 && cond (ltb k 64) (bit low k) x) (or_power high (i - 64) (k - 64) (omega arith))
      ∙ go (ltb k 128) (ltb k 64) (eqb i k) refl refl refl (bit low k) (bit high (k - 64))
    where
      go : (t u e : Bool) → ltb k 128 ≡ t → ltb k 64 ≡ u → eqb i k ≡ e → (a b : Bool)
          → (t && cond u a (b || eqb (i - 64) (k - 64))) ≡ (e || t && cond u a b)
      go true true true p q r a b = let x : i ≡ k = eqb-true i k r in let y : k < 64 = ltb-true k 64 q in absurd (omega arith)
      go true true false p q r a b = refl
      go true false true p q r a b = ap (λ (x : Bool). b || x) (same_shift i k g (ltb-false k 64 q) ∙ r) ∙ or-true b
      go true false false p q r a b = ap (λ (x : Bool). b || x) (same_shift i k g (ltb-false k 64 q) ∙ r) ∙ or-false b
      go false u true p q r a b = let x : i ≡ k = eqb-true i k r in let y : 128 ≤ k = ltb-false k 128 p in absurd (omega arith)
      go false u false p q r a b = refl

-- without the digits that both have
module _ (low high low' high' k : ℕ) where
  pub without_at : has (bit_xor low (bit_and low low')) (bit_xor high (bit_and high high')) k ≡ (not (has low' high' k) && has low high k)
  without_at =
      ap₂ (λ (x y : Bool). ltb k 128 && cond (ltb k 64) x y) (bit_without low low' k) (bit_without high high' (k - 64))
      ∙ go (ltb k 128) (ltb k 64) (bit low k) (bit low' k) (bit high (k - 64)) (bit high' (k - 64))
    where
      go : (t u a a' b b' : Bool) → (t && cond u (not a' && a) (not b' && b)) ≡ (not (t && cond u a' b') && (t && cond u a b))
      go true true a a' b b' = refl
      go true false a a' b b' = refl
      go false u a a' b b' = refl

-- the numbers 0 and 0 have no members
bit-none : (k : ℕ) → bit 0 k ≡ false
unfolding bit
bit-none k = ap (λ (x : ℕ). eqb (x % 2) 1) (zero-div (2 ^ k))

pub none-at : (k : ℕ) → has 0 0 k ≡ false
none-at k = ap₂ (λ (x y : Bool). ltb k 128 && cond (ltb k 64) x y) (bit-none k) (bit-none (k - 64)) ∙ go (ltb k 128) (ltb k 64)
  where
    go : (t u : Bool) → (t && cond u false false) ≡ false
    go true true = refl
    go true false = refl
    go false u = refl
