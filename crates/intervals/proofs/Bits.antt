-- The binary digits of a number under the code's operations. A shift brings a digit to the lowest place, where `or`, `and` and `xor` of two
-- digits are computed; numbers that agree in their n low digits are equal modulo 2 ^ n.
-- Assumes nothing.
use mathlib.Core.Bool.{Bool, true, false, not, ◌&&◌, ◌||◌}
use mathlib.Core.Path.{◌≡◌, refl, sym, ap, ap₂, ◌∙◌, subst}
use Prim.Native.Nat.{ℕ, zero, suc, ◌+◌, ◌-◌, ◌*◌, ◌/◌, ◌%◌, ◌^◌, ◌<◌, ◌≤◌}
use native.Mathlib.Nat.{one-mul, div-eq_of_lt, lt_of_lt_of_le, mod-one}
use native.Mathlib.Omega.{arith}
use lib.Bits.{bit_and, bit_or, bit_xor, and_shr, or_shr, xor_shr, and_mod, or_mod, xor_mod, shifted_even}
use lib.Dec.{eqb, ltb, T}
use lib.Pow.{field, mod-mod-pow, mod-pow-add, pow-add, pow-lt, pow_mono, shl_exact, shl-shr}
use borrow.Author.Tests.{eqb-true, eqb-false, ltb-true, ltb-false}
use Rattle.intervals.specs.Stored.{bit}

-- a remainder by 2 is 0 or 1
by_digit : (P : ℕ → Type 0) → P 0 → P 1 → (n : ℕ) → P (n % 2)
by_digit P p q n = go (n % 2) (omega arith)
  where
    go : (d : ℕ) → d < 2 → P d
    go zero h = p
    go (suc zero) h = q
    go (suc (suc d)) h = absurd (omega arith)

-- two digits
module _ (m n : ℕ) where
  or_digit : eqb (bit_or (m % 2) (n % 2)) 1 ≡ (eqb (m % 2) 1 || eqb (n % 2) 1)
  or_digit =
      by_digit (λ x. eqb (bit_or x (n % 2)) 1 ≡ (eqb x 1 || eqb (n % 2) 1)) (by_digit (λ y. eqb (bit_or 0 y) 1 ≡ eqb y 1) refl refl n) (by_digit (λ y. eqb (bit_or 1 y) 1 ≡ true) refl refl n) m

  and_digit : eqb (bit_and (m % 2) (n % 2)) 1 ≡ (eqb (m % 2) 1 && eqb (n % 2) 1)
  and_digit =
      by_digit (λ x. eqb (bit_and x (n % 2)) 1 ≡ (eqb x 1 && eqb (n % 2) 1)) (by_digit (λ y. eqb (bit_and 0 y) 1 ≡ false) refl refl n) (by_digit (λ y. eqb (bit_and 1 y) 1 ≡ eqb y 1) refl refl n) m

  -- without the digits that both have
  drop_digit : eqb (bit_xor (m % 2) (bit_and (m % 2) (n % 2))) 1 ≡ (not (eqb (n % 2) 1) && eqb (m % 2) 1)
  drop_digit =
      by_digit (λ y. eqb (bit_xor (m % 2) (bit_and (m % 2) y)) 1 ≡ (not (eqb y 1) && eqb (m % 2) 1)) (by_digit (λ x. eqb (bit_xor x (bit_and x 0)) 1 ≡ eqb x 1) refl refl m) (by_digit (λ x. eqb (bit_xor x (bit_and x 1)) 1 ≡ false) refl refl m) n

  same_digit : eqb (m % 2) 1 ≡ eqb (n % 2) 1 → m % 2 ≡ n % 2
  same_digit =
      by_digit (λ x. eqb x 1 ≡ eqb (n % 2) 1 → x ≡ n % 2) (by_digit (λ y. eqb 0 1 ≡ eqb y 1 → 0 ≡ y) (λ e. refl) (λ e. absurd (subst T (sym e) tt)) n) (by_digit (λ y. eqb 1 1 ≡ eqb y 1 → 1 ≡ y) (λ e. absurd (subst T e tt)) (λ e. refl) n) m

-- the digits of `or`, and of a number without those that both have
module _ (a b k : ℕ) where
  pub bit_or_lem : bit (bit_or a b) k ≡ (bit a k || bit b k)
  unfolding bit
  bit_or_lem = ap (λ (x : ℕ). eqb (x % 2) 1) (or_shr a b k) ∙ ap (λ (x : ℕ). eqb x 1) (or_mod (a / 2 ^ k) (b / 2 ^ k) 1) ∙ or_digit (a / 2 ^ k) (b / 2 ^ k)

  pub bit_without : bit (bit_xor a (bit_and a b)) k ≡ (not (bit b k) && bit a k)
  unfolding bit
  bit_without =
      let p = a / 2 ^ k in
      let q = b / 2 ^ k in
      ap (λ (x : ℕ). eqb (x % 2) 1) (xor_shr a (bit_and a b) k ∙ ap (bit_xor p) (and_shr a b k))
      ∙ ap (λ (x : ℕ). eqb x 1) (xor_mod p (bit_and p q) 1 ∙ ap (bit_xor (p % 2)) (and_mod p q 1))
      ∙ drop_digit p q

-- a power of two has one digit
power_same : (k : ℕ) → 2 ^ k / 2 ^ k % 2 ≡ 1
power_same k = ap (λ (x : ℕ). x / 2 ^ k % 2) (sym (one-mul (2 ^ k))) ∙ ap (λ (x : ℕ). x % 2) (shl-shr 1 k)

power_below : (i k : ℕ) → i < k → 2 ^ i / 2 ^ k % 2 ≡ 0
power_below i k h = ap (λ (x : ℕ). x % 2) (div-eq_of_lt (pow-lt h))

power_above : (j k : ℕ) → 2 ^ (suc j + k) / 2 ^ k % 2 ≡ 0
power_above j k =
    ap (λ (x : ℕ). x / 2 ^ k % 2) (pow-add 2 (suc j) k) ∙ ap (λ (x : ℕ). x % 2) (shl-shr (2 ^ suc j) k ∙ sym (one-mul (2 ^ suc j)))
    ∙ shifted_even 1 j

power_other : (i k : ℕ) → (i ≡ k → ⊥) → 2 ^ i / 2 ^ k % 2 ≡ 0
power_other i k n = go (ltb i k) refl
  where
    go : (t : Bool) → ltb i k ≡ t → 2 ^ i / 2 ^ k % 2 ≡ 0
    go true e = power_below i k (ltb-true i k e)
    go false e =
        let h : k ≤ i = ltb-false i k e in
        let p : suc (i - suc k) + k ≡ i = omega arith in
        ap (λ (x : ℕ). 2 ^ x / 2 ^ k % 2) (sym p) ∙ power_above (i - suc k) k

pub bit_power : (i k : ℕ) → bit (2 ^ i) k ≡ eqb i k
unfolding bit
bit_power i k = go (eqb i k) refl
  where
    go : (t : Bool) → eqb i k ≡ t → eqb (2 ^ i / 2 ^ k % 2) 1 ≡ t
    go true e = ap (λ (x : ℕ). eqb (2 ^ x / 2 ^ k % 2) 1) (eqb-true i k e) ∙ ap (λ (x : ℕ). eqb x 1) (power_same k)
    go false e = ap (λ (x : ℕ). eqb x 1) (power_other i k (eqb-false i k e))

-- the code's power, which the machine cuts to w digits
pub power : (w i : ℕ) → i < w → (1 * 2 ^ i) % 2 ^ w ≡ 2 ^ i
power w i h = shl_exact {a = 1} 1 i w (omega arith) (omega arith) ∙ one-mul (2 ^ i)

-- a remainder by 2 ^ n has the n low digits, and no digit above them
pub bit-low : (a n k : ℕ) → k < n → bit (a % 2 ^ n) k ≡ bit a k
unfolding bit
bit-low a n k h =
    let j = n - suc k in
    let e : j + 1 + k ≡ n = omega arith in
    ap (λ (x : ℕ). eqb (a % 2 ^ x / 2 ^ k % 2) 1) (sym e) ∙ ap (λ (x : ℕ). eqb (x % 2) 1) (field a (j + 1) k) ∙ ap (λ (x : ℕ). eqb x 1) (mod-mod-pow (a / 2 ^ k) j 1)

pub bit_above : (a n k : ℕ) → a < 2 ^ n → n ≤ k → bit a k ≡ false
unfolding bit
bit_above a n k h l = ap (λ (x : ℕ). eqb (x % 2) 1) (div-eq_of_lt (lt_of_lt_of_le h (pow_mono l)))

top_same : (a b n : ℕ) → bit a n ≡ bit b n → a / 2 ^ n % 2 ≡ b / 2 ^ n % 2
unfolding bit
top_same a b n e = same_digit (a / 2 ^ n) (b / 2 ^ n) e

pub same_bits : (a b n : ℕ) → ((k : ℕ) → k < n → bit a k ≡ bit b k) → a % 2 ^ n ≡ b % 2 ^ n
same_bits a b zero f = mod-one a ∙ sym (mod-one b)
same_bits a b (suc n) f =
    let e : suc n ≡ 1 + n = omega arith in
    let r : a % 2 ^ n ≡ b % 2 ^ n = same_bits a b n (λ k h. f k (omega arith)) in
    ap (λ (x : ℕ). a % 2 ^ x) e ∙ mod-pow-add a 1 n ∙ ap₂ (λ (x y : ℕ). x * 2 ^ n + y) (top_same a b n (f n (omega arith))) r
    ∙ sym (ap (λ (x : ℕ). b % 2 ^ x) e ∙ mod-pow-add b 1 n)
