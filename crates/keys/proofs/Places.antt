-- The places of a number's digits: how many there are, the first of them, and that they are a set's members in ascending order.
-- Assumes nothing.
use mathlib.Core.Bool.{Bool, cond, ◌&&◌}
use mathlib.Core.List.{List, [], ◌∷◌, ◌++◌, append_assoc}
use mathlib.Core.Path.{◌≡◌, refl, sym, ap, ap₂, ◌∙◌}
use Prim.Native.Nat.{ℕ, zero, suc, ◌+◌, ◌-◌, ◌*◌, ◌/◌, ◌%◌, ◌^◌, ◌<◌, ◌≤◌}
use native.Mathlib.Nat.{div-div-eq-div-mul, div-one, pow-suc, pow-succ'}
use native.Mathlib.Omega.{arith}
use lib.Count.{ones, ones_step, count_trailing_zeros, under}
use lib.Dec.{eqb, ltb}
use lib.ListN.{length, length-append}
use borrow.Author.Tests.{lt-ltb, le-ltb}
use Rattle.intervals.specs.Stored.{bit}
use Rattle.intervals.specs.Interval.{Set}
use Rattle.keys.specs.Keys.{ascending, up_from}
use Rattle.keys.specs.Stored.{places, members}
use Rattle.keys.specs.declared.Keys.{Keys}

by_digit : (P : ℕ → Type 0) → P 0 → P 1 → (r : ℕ) → r < 2 → P r
by_digit P p q zero h = p
by_digit P p q (suc zero) h = q
by_digit P p q (suc (suc r)) h = absurd (omega arith)

half : (w n : ℕ) → n < 2 ^ suc w → n / 2 < 2 ^ w
half w n h =
    let e : 2 ^ suc w ≡ 2 ^ w * 2 = pow-suc 2 w in
    omega arith

below_one : (n : ℕ) → n < 2 ^ 0 → n ≡ 0
below_one n h = omega arith

head_length : (r k : ℕ) → r < 2 → length (cond (eqb r 1) (k ∷ []) []) ≡ r
head_length r k h = by_digit (λ (x : ℕ). length (cond (eqb x 1) (k ∷ []) []) ≡ x) refl refl r h

-- as many places as places that are a 1
pub places_count : (w k n : ℕ) → n < 2 ^ w → length (places w k n) ≡ ones n
unfolding places ones
places_count zero k n h = ap ones (sym (below_one n h))
places_count (suc w) k n h =
    length-append (cond (eqb (n % 2) 1) (k ∷ []) []) (places w (suc k) (n / 2))
    ∙ ap₂ ◌+◌ (head_length (n % 2) k (omega arith)) (places_count w (suc k) (n / 2) (half w n h))
    ∙ sym (ones_step n)

-- no digit of 0 is a 1
pub places-none : (w k : ℕ) → places w k 0 ≡ []
unfolding places
places-none zero k = refl
places-none (suc w) k = places-none w (suc k)

-- the lowest digit apart
module _ (w k n : ℕ) where
  even_places : n % 2 ≡ 0 → places (suc w) k n ≡ places w (suc k) (n / 2)
  unfolding places
  even_places e = ap (λ (r : ℕ). cond (eqb r 1) (k ∷ []) [] ++ places w (suc k) (n / 2)) e

  odd_places : n % 2 ≡ 1 → places (suc w) k n ≡ k ∷ places w (suc k) (n / 2)
  unfolding places
  odd_places e = ap (λ (r : ℕ). cond (eqb r 1) (k ∷ []) [] ++ places w (suc k) (n / 2)) e

-- t is the first place of n's, and the others are those of the number without it
pub record FirstAt (t w k n : ℕ) : Type 0 where
  pub place : t < w
  pub small : 2 ^ t ≤ n
  pub list : places w k n ≡ (k + t) ∷ places w k (n - 2 ^ t)

pub first : (w k n : ℕ) → 0 < n → n < 2 ^ w → FirstAt (count_trailing_zeros w n) w k n
unfolding count_trailing_zeros
first zero k n p h = absurd (omega (arith, below_one n h))
first (suc w) k n p h = go (n % 2) refl (omega arith) (λ q. first w (suc k) (n / 2) q (half w n h))
  where
    go : (r : ℕ) → n % 2 ≡ r → r < 2 → (0 < n / 2 → FirstAt (count_trailing_zeros w (n / 2)) w (suc k) (n / 2))
        → FirstAt (under r (count_trailing_zeros w (n / 2))) (suc w) k n
    go zero e l ih =
        let t = count_trailing_zeros w (n / 2) in
        let f = ih (omega arith) in
        let d : 2 ^ suc t ≡ 2 ^ t * 2 = pow-suc 2 t in
        let u : 2 ^ t ≤ n / 2 = f.small in
        let v : (n - 2 ^ suc t) % 2 ≡ 0 = omega arith in
        let x : (n - 2 ^ suc t) / 2 ≡ n / 2 - 2 ^ t = omega arith in
        let y : suc k + t ≡ k + suc t = omega arith in
        record {
          place = omega (arith, f.place);
          small = omega arith;
          list = even_places w k n e ∙ f.list ∙ ap₂ (λ (i m : ℕ). i ∷ places w (suc k) m) y (sym x)
              ∙ ap (λ (l : List ℕ). (k + suc t) ∷ l) (sym (even_places w k (n - 2 ^ suc t) v));
        }
    go (suc zero) e l ih =
        let v : (n - 1) % 2 ≡ 0 = omega arith in
        let x : (n - 1) / 2 ≡ n / 2 = omega arith in
        let y : k ≡ k + 0 = omega arith in
        record {
          place = omega arith;
          small = p;
          list = odd_places w k n e ∙ ap₂ (λ (i m : ℕ). i ∷ places w (suc k) m) y (sym x)
              ∙ ap (λ (l : List ℕ). (k + 0) ∷ l) (sym (even_places w k (n - 1) v));
        }
    go (suc (suc r)) e l ih = absurd (omega arith)

-- the places of a half
bit-zero : (n : ℕ) → bit n 0 ≡ eqb (n % 2) 1
unfolding bit
bit-zero n = ap (λ (x : ℕ). eqb (x % 2) 1) (div-one n)

bit-suc : (n j : ℕ) → bit n (suc j) ≡ bit (n / 2) j
unfolding bit
bit-suc n j = ap (λ (x : ℕ). eqb (n / x % 2) 1) (pow-succ' 2 j) ∙ ap (λ (x : ℕ). eqb (x % 2) 1) (sym (div-div-eq-div-mul n 2 (2 ^ j)))

-- the places are a set's members among as many numbers, if the set agrees with the places
places_up : (w k n : ℕ) (s : Set) → ((j : ℕ) → j < w → s (k + j) ≡ bit n j) → places w k n ≡ up_from k w s
unfolding places up_from
places_up zero k n s f = refl
places_up (suc w) k n s f =
    let e : k + 0 ≡ k = omega arith in
    let r : places w (suc k) (n / 2) ≡ up_from (suc k) w s =
    places_up w (suc k) (n / 2) s
    (λ j h.
    let a : suc k + j ≡ k + suc j = omega arith in
    ap s a ∙ f (suc j) (omega arith) ∙ bit-suc n j)
    in
    ap₂ (λ (b : Bool) (l : List ℕ). cond b (k ∷ []) [] ++ l) (sym (bit-zero n) ∙ sym (f 0 (omega arith)) ∙ ap s e) r

-- a stretch in two
up_split : (m k n j t : ℕ) (s : Set) → t ≡ m + n → j ≡ k + m → up_from k t s ≡ up_from k m s ++ up_from j n s
unfolding up_from
up_split zero k n j t s e f = ap₂ (λ (a b : ℕ). up_from a b s) (let x : k ≡ j = omega arith in x) (let x : t ≡ n = omega arith in x)
up_split (suc m) k n j zero s e f = absurd (omega arith)
up_split (suc m) k n j (suc t) s e f =
    ap (λ (l : List ℕ). cond (s k) (k ∷ []) [] ++ l) (up_split m (suc k) n j t s (omega arith) (omega arith))
    ∙ sym (append_assoc (cond (s k) (k ∷ []) []) (up_from (suc k) m s) (up_from j n s))

module _ (s : Keys) where
  pub low-at : (j : ℕ) → j < 64 → members s (0 + j) ≡ bit s.low j
  unfolding members
  low-at j h =
      let e : 0 + j ≡ j = omega arith in
      ap (λ (i : ℕ). ltb i 128 && cond (ltb i 64) (bit s.low i) (bit s.high (i - 64))) e
      ∙ ap₂ (λ (a b : Bool). a && cond b (bit s.low j) (bit s.high (j - 64))) (lt-ltb j 128 (omega arith)) (lt-ltb j 64 h)

  pub high-at : (j : ℕ) → j < 64 → members s (64 + j) ≡ bit s.high j
  unfolding members
  high-at j h =
      let e : 64 + j - 64 ≡ j = omega arith in
      ap₂ (λ (a b : Bool). a && cond b (bit s.low (64 + j)) (bit s.high (64 + j - 64))) (lt-ltb (64 + j) 128 (omega arith))
      (le-ltb (64 + j) 64 (omega arith))
      ∙ ap (bit s.high) e

  -- the two numbers' places are the set's members in ascending order
  pub places-ascending : places 64 0 s.low ++ places 64 64 s.high ≡ ascending (members s)
  unfolding ascending
  places-ascending =
      ap₂ (λ (a b : List ℕ). a ++ b) (places_up 64 0 s.low (members s) low-at) (places_up 64 64 s.high (members s) high-at)
      ∙ sym (up_split 64 0 64 64 128 (members s) (omega arith) (omega arith))

  pub places_lengths : length (places 64 0 s.low) + length (places 64 64 s.high) ≡ length (ascending (members s))
  places_lengths = sym (length-append (places 64 0 s.low) (places 64 64 s.high)) ∙ ap length places-ascending
