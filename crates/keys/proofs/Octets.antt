-- The digits of a number of eight bytes, and of a byte of it; the keys that 16 bytes hold, and the bytes of a set of keys.
-- Assumes nothing.
use mathlib.Core.Bool.{Bool, true, false, cond, ◌&&◌}
use mathlib.Core.List.{List}
use mathlib.Core.Path.{◌≡◌, refl, sym, ap, ap₂, subst, ◌∙◌}
use Prim.Native.Nat.{ℕ, zero, suc, ◌+◌, ◌-◌, ◌*◌, ◌/◌, ◌%◌, ◌^◌, ◌<◌, ◌≤◌}
use native.Mathlib.Nat.{div-one, mul-le-mul_right, pow-suc}
use native.Mathlib.Omega.{arith}
use lib.Dec.{eqb, ltb}
use lib.ListN.{get_or, length}
use Rattle.std.specs.Int.{byte_at, byte_worth, bytes_low_first, sum_through, to_le_bytes, w64}
use lib.Pow.{high, low, pow-add, shr-shr}
use borrow.Author.Tests.{ltb-true, ltb-false}
use Rattle.intervals.proofs.Bits.{bit-low}
use Rattle.intervals.proofs.Store.{same_number}
use Rattle.intervals.proofs.Whole.{digits-at, digits_low}
use Rattle.intervals.specs.Interval.{Set}
use Rattle.intervals.specs.Stored.{bit, digits}
use Rattle.keys.proofs.Places.{high-at, low-at}
use Rattle.keys.specs.Stored.{byte_of, bytes_from, keys_bytes, keys_in, members}
use Rattle.keys.specs.declared.Keys.{Keys}

-- a shift brings a digit down
bit_shift : (n k j : ℕ) → bit (n / 2 ^ k) j ≡ bit n (k + j)
unfolding bit
bit_shift n k j = ap (λ (x : ℕ). eqb (x % 2) 1) (shr-shr n k j)

-- m digits below a number
module _ (w b m : ℕ) (h : b < 2 ^ m) (j : ℕ) where
  joined-low : j < m → bit (w * 2 ^ m + b) j ≡ bit b j
  joined-low l = sym (bit-low (w * 2 ^ m + b) m j l) ∙ ap (λ (x : ℕ). bit x j) (low w m h)

  joined-high : bit (w * 2 ^ m + b) (m + j) ≡ bit w j
  joined-high = sym (bit_shift (w * 2 ^ m + b) m j) ∙ ap (λ (x : ℕ). bit x j) (high w m h)

-- a power of 256 as one of 2
power_as : (i : ℕ) → 256 ^ i ≡ 2 ^ (8 * i)
power_as zero = refl
power_as (suc i) =
    let e : 8 * suc i ≡ 8 * i + 8 = omega arith in
    pow-suc 256 i ∙ ap (λ (x : ℕ). x * 256) (power_as i) ∙ sym (pow-add 2 (8 * i) 8) ∙ ap (λ (x : ℕ). 2 ^ x) (sym e)

worth_as : (i b : ℕ) → byte_worth i b ≡ b * 2 ^ (8 * i)
worth_as zero b = let e : b ≡ b * 1 = omega arith in e
worth_as (suc i) b = ap (λ (x : ℕ). b * x) (power_as (suc i))

-- the number of the first bytes of a list, the lowest first
module _ (bs : List ℕ) (small : (i : ℕ) → get_or bs i 0 < 256) where
  abbrev number : ℕ → ℕ
  number k = sum_through (λ i. byte_worth i (get_or bs i 0)) k

  number-next : (k : ℕ) → number (suc k) ≡ get_or bs (suc k) 0 * 2 ^ (8 * suc k) + number k
  number-next k = let e = worth_as (suc k) (get_or bs (suc k) 0) in omega (arith, e)

  number-small : (k : ℕ) → number k < 2 ^ (8 * suc k)
  number-small zero = small 0
  number-small (suc k) =
      let e : 8 * suc (suc k) ≡ 8 * suc k + 8 = omega arith in
      let f : 2 ^ (8 * suc (suc k)) ≡ 2 ^ (8 * suc k) * 256 = ap (λ (x : ℕ). 2 ^ x) e ∙ pow-add 2 (8 * suc k) 8 in
      let n = number-next k in
      let s = mul-le-mul_right (2 ^ (8 * suc k)) (let l : get_or bs (suc k) 0 ≤ 255 = omega (arith, small (suc k)) in l) in
      let r = number-small k in
      omega arith

  pub number-bits : (k j : ℕ) → j < 8 * suc k → bit (number k) j ≡ bit (get_or bs (j / 8) 0) (j % 8)
  number-bits zero j h =
      let d : 0 ≡ j / 8 = omega arith in
      let m : j ≡ j % 8 = omega arith in
      ap₂ (λ (x y : ℕ). bit (get_or bs x 0) y) d m
  number-bits (suc k) j h = by (ltb j (8 * suc k)) refl (number-bits k j)
    where
      by : (t : Bool) → ltb j (8 * suc k) ≡ t → (j < 8 * suc k → bit (number k) j ≡ bit (get_or bs (j / 8) 0) (j % 8))
          → bit (number (suc k)) j ≡ bit (get_or bs (j / 8) 0) (j % 8)
      by true e f =
          let l : j < 8 * suc k = ltb-true j (8 * suc k) e in
          ap (λ (x : ℕ). bit x j) (number-next k) ∙ joined-low (get_or bs (suc k) 0) (number k) (8 * suc k) (number-small k) j l ∙ f l
      by false e f =
          let l : 8 * suc k ≤ j = ltb-false j (8 * suc k) e in
          let i = j - 8 * suc k in
          let a : j ≡ 8 * suc k + i = omega arith in
          let d : suc k ≡ j / 8 = omega arith in
          let m : i ≡ j % 8 = omega arith in
          ap (λ (x : ℕ). bit x j) (number-next k)
          ∙ ap (bit (get_or bs (suc k) 0 * 2 ^ (8 * suc k) + number k)) a
          ∙ joined-high (get_or bs (suc k) 0) (number k) (8 * suc k) (number-small k) i
          ∙ ap₂ (λ (x y : ℕ). bit (get_or bs x 0) y) d m

-- the two numbers of 16 bytes have the keys that these hold
pub keys_told : (bs : List ℕ) (s : Keys) → ((j : ℕ) → j < 64 → bit s.low j ≡ bit (get_or bs (0 + j / 8) 0) (j % 8))
    → ((j : ℕ) → j < 64 → bit s.high j ≡ bit (get_or bs (8 + j / 8) 0) (j % 8)) → (k : ℕ) → members s k ≡ keys_in bs k
unfolding members keys_in
keys_told bs s f g k = by (ltb k 128) (ltb k 64) refl refl
  where
    by : (t u : Bool) → ltb k 128 ≡ t → ltb k 64 ≡ u
        → (t && cond u (bit s.low k) (bit s.high (k - 64))) ≡ (t && bit (get_or bs (k / 8) 0) (k % 8))
    by false u p q = refl
    by true true p q =
        let d : 0 + k / 8 ≡ k / 8 = omega arith in
        f k (ltb-true k 64 q) ∙ ap (λ (x : ℕ). bit (get_or bs x 0) (k % 8)) d
    by true false p q =
        let a : k < 128 = ltb-true k 128 p in
        let b : 64 ≤ k = ltb-false k 64 q in
        let d : 8 + (k - 64) / 8 ≡ k / 8 = omega arith in
        let m : (k - 64) % 8 ≡ k % 8 = omega arith in
        g (k - 64) (omega arith) ∙ ap₂ (λ (x y : ℕ). bit (get_or bs x 0) y) d m

-- the i-th byte of a number
byte_as : (i n : ℕ) → byte_at i n ≡ n / 2 ^ (8 * i) % 256
byte_as zero n = ap (λ (x : ℕ). x % 256) (sym (div-one n))
byte_as (suc i) n = ap (λ (x : ℕ). n / x % 256) (power_as (suc i))

byte_of_number : (k i j n : ℕ) → j < k → get_or (bytes_low_first i k n) j 0 ≡ byte_at (i + j) n
byte_of_number zero i j n h = absurd (omega arith)
byte_of_number (suc k) i zero n h = let e : i ≡ i + 0 = omega arith in ap (λ (x : ℕ). byte_at x n) e
byte_of_number (suc k) i (suc j) n h =
    let e : suc i + j ≡ i + suc j = omega arith in
    byte_of_number k (suc i) j n (omega arith) ∙ ap (λ (x : ℕ). byte_at x n) e

-- the i-th of a number's eight bytes: below 256, with the digits from there on
pub record ByteAt (n i b : ℕ) : Type 0 where
  pub small : b < 256
  pub bits : (j : ℕ) → j < 8 → bit b j ≡ bit n (8 * i + j)

pub number_byte : (n i : ℕ) → i < 8 → ByteAt n i (get_or (to_le_bytes w64 n) i 0)
number_byte n i h =
    let e : get_or (to_le_bytes w64 n) i 0 ≡ n / 2 ^ (8 * i) % 256 = byte_of_number 8 0 i n h ∙ ap (λ (x : ℕ). byte_at x n) (let z : 0 + i ≡ i = omega arith in z) ∙ byte_as i n in
    subst (ByteAt n i) (sym e)
    (record { small = omega arith; bits = λ j l. bit-low (n / 2 ^ (8 * i)) 8 j l ∙ bit_shift n (8 * i) j })

-- a byte whose digits are a set's is the set's
byte_told : (s : Set) (i b : ℕ) → b < 256 → ((j : ℕ) → j < 8 → bit b j ≡ s (8 * i + j)) → b ≡ byte_of s i
unfolding byte_of
byte_told s i b h f =
    let t : Set = λ j. s (8 * i + j) in
    same_number 8 b (digits 8 t) h (digits_low 8 t) (λ j l. f j l ∙ sym (digits-at 8 t j l))

module _ (s : Keys) (i b : ℕ) (h : b < 256) where
  pub byte_low : i < 8 → ((j : ℕ) → j < 8 → bit b j ≡ bit s.low (8 * i + j)) → b ≡ byte_of (members s) i
  byte_low l f =
      byte_told (members s) i b h
      (λ j k.
      let e : 0 + (8 * i + j) ≡ 8 * i + j = omega arith in
      f j k ∙ sym (low-at s (8 * i + j) (omega arith)) ∙ ap (members s) e)

  pub byte_high : 8 ≤ i → i < 16 → ((j : ℕ) → j < 8 → bit b j ≡ bit s.high (8 * (i - 8) + j)) → b ≡ byte_of (members s) i
  byte_high m l f =
      byte_told (members s) i b h
      (λ j k.
      let e : 64 + (8 * (i - 8) + j) ≡ 8 * i + j = omega arith in
      f j k ∙ sym (high-at s (8 * (i - 8) + j) (omega arith)) ∙ ap (members s) e)

-- the bytes of a set: how many, and which
bytes-length : (n i : ℕ) (s : Set) → length (bytes_from n i s) ≡ n
bytes-length zero i s = refl
bytes-length (suc n) i s = ap suc (bytes-length n (suc i) s)

bytes-at : (n i j : ℕ) (s : Set) → j < n → get_or (bytes_from n i s) j 0 ≡ byte_of s (i + j)
bytes-at zero i j s h = absurd (omega (arith, h))
bytes-at (suc n) i zero s h = let e : i ≡ i + 0 = omega arith in ap (byte_of s) e
bytes-at (suc n) i (suc j) s h =
    let e : suc i + j ≡ i + suc j = omega arith in
    bytes-at n (suc i) j s (omega (arith, h)) ∙ ap (byte_of s) e

module _ (s : Set) where
  pub keys_length : length (keys_bytes s) ≡ 16
  keys_length = bytes-length 16 0 s

  pub keys-at : (j : ℕ) → j < 16 → get_or (keys_bytes s) j 0 ≡ byte_of s j
  keys-at j h = let e : 0 + j ≡ j = omega arith in bytes-at 16 0 j s h ∙ ap (byte_of s) e

  byte_bit : (i j : ℕ) → j < 8 → bit (byte_of s i) j ≡ s (8 * i + j)
  unfolding byte_of
  byte_bit i j h = digits-at 8 (λ j. s (8 * i + j)) j h

  -- a set without a member above 127 is found again in its bytes
  pub keys-back : ((j : ℕ) → 128 ≤ j → s j ≡ false) → keys_in (keys_bytes s) ≡ s
  unfolding keys_in
  keys-back f x k = by (ltb k 128) refl x
    where
      by : (t : Bool) → ltb k 128 ≡ t → (t && bit (get_or (keys_bytes s) (k / 8) 0) (k % 8)) ≡ s k
      by true p =
          let h : k < 128 = ltb-true k 128 p in
          let e : 8 * (k / 8) + k % 8 ≡ k = omega arith in
          ap (λ (b : ℕ). bit b (k % 8)) (keys-at (k / 8) (omega arith)) ∙ byte_bit (k / 8) (k % 8) (omega arith) ∙ ap s e
      by false p = sym (f k (ltb-false k 128 p))
