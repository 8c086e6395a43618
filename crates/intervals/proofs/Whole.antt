-- A set and a list are found again from the code's, and the code's from them. The number that `digits` makes of a set has the set's digits,
-- one place at a time from the top; a number of 32 digits is the one that its digits make.
-- Assumes nothing.
use mathlib.Core.Bool.{Bool, true, false, not, cond, ◌&&◌}
use mathlib.Core.List.{List, [], ◌∷◌, ◌++◌}
use mathlib.Core.Path.{◌≡◌, refl, sym, ap, ◌∙◌, subst}
use Prim.Native.Nat.{ℕ, zero, suc, ◌+◌, ◌-◌, ◌*◌, ◌%◌, ◌^◌, ◌<◌, ◌≤◌}
use native.Mathlib.Nat.{mod-lt, one-mul, two-pow-succ, zero-mul}
use native.Mathlib.Omega.{arith}
use lib.Dec.{T, eqb, ltb}
use lib.ListN.{drop, length, length-set, set, length-replicate, replicate, replicate-append-replicate, take, take-append-drop}
use lib.Pow.{high, low, pow_pos}
use lib.Seq.{drop-append_seam, drop-drop, drop-set-lt, length-take-le, take-suc-set, take-append-add, take-append_seam, take_at, take-take}
use borrow.Author.Tests.{le-ltb, lt-ltb, ltb-true, ltb-false}
use Rattle.std.proofs.Common.{length-take}
use Rattle.intervals.proofs.Bits.{bit_above, bit-low}
use Rattle.intervals.proofs.Store.{member_at, same_number}
use Rattle.intervals.specs.Stored.{bit, digits, list_of, listed, members, none_from, outside, set_of, within}
use Rattle.intervals.specs.Interval.{Set, empty}
use Rattle.intervals.specs.declared.IntervalList.{IntervalList}
use Rattle.intervals.specs.declared.IntervalSet.{IntervalSet}

-- the top digit
top : (b : Bool) (n : ℕ) → cond b (2 ^ n) 0 ≡ cond b 1 0 * 2 ^ n
top true n = sym (one-mul (2 ^ n))
top false n = sym (zero-mul (2 ^ n))

pub digits_low : (n : ℕ) (s : Set) → digits n s < 2 ^ n
unfolding digits
digits_low zero s = omega arith
digits_low (suc n) s = go (s n) (digits_low n s)
  where
    go : (b : Bool) → digits n s < 2 ^ n → cond b (2 ^ n) 0 + digits n s < 2 ^ suc n
    go true h = omega (arith, two-pow-succ n)
    go false h = omega (arith, two-pow-succ n)

pub digits-at : (n : ℕ) (s : Set) (k : ℕ) → k < n → bit (digits n s) k ≡ s k
unfolding digits bit
digits-at zero s k h = absurd (omega arith)
digits-at (suc n) s k h = ap (λ (x : ℕ). bit (x + digits n s) k) (top (s n) n) ∙ go (ltb k n) refl (digits-at n s k)
  where
    one : (b : Bool) → eqb (cond b 1 0 % 2) 1 ≡ b
    one true = refl
    one false = refl

    go : (t : Bool) → ltb k n ≡ t → (k < n → bit (digits n s) k ≡ s k) → bit (cond (s n) 1 0 * 2 ^ n + digits n s) k ≡ s k
    go true e r =
        let l : k < n = ltb-true k n e in
        sym (bit-low _ n k l) ∙ ap (λ (x : ℕ). bit x k) (low (cond (s n) 1 0) n (digits_low n s)) ∙ r l
    go false e r =
        let l : n ≤ k = ltb-false k n e in
        let q : k ≡ n = omega arith in
        ap (λ (j : ℕ). bit (cond (s n) 1 0 * 2 ^ n + digits n s) j) q
        ∙ ap (λ (x : ℕ). eqb (x % 2) 1) (high (cond (s n) 1 0) n (digits_low n s))
        ∙ one (s n)
        ∙ ap s (sym q)

pub set-whole : (s : IntervalSet) → s.bits < 2 ^ 32 → set_of (members s) ≡ s
unfolding set_of
set-whole s h =
    let e : digits 32 (members s) ≡ s.bits =
    same_number 32 _ _ (digits_low 32 (members s)) h (λ k l. digits-at 32 (members s) k l ∙ member_at s k l)
    in
    λ i. record { bits = e i }

-- no member from 32 on
pub members_narrow : (s : IntervalSet) (j : ℕ) → 32 ≤ j → members s j ≡ false
unfolding members
members_narrow s j h = ap (λ (t : Bool). t && bit s.bits j) (le-ltb j 32 h)

pub set_back : (s : Set) → ((j : ℕ) → 32 ≤ j → s j ≡ false) → members (set_of s) ≡ s
unfolding set_of
set_back s n i k = go (ltb k 32) refl i
  where
    go : (t : Bool) → ltb k 32 ≡ t → members (set_of s) k ≡ s k
    go true e =
        let l : k < 32 = ltb-true k 32 e in
        member_at (set_of s) k l ∙ digits-at 32 s k l
    go false e =
        let l : 32 ≤ k = ltb-false k 32 e in
        members_narrow (set_of s) k l ∙ sym (n k l)

-- the empty set has no member
pub empty-none : (j : ℕ) → empty j ≡ false
empty-none j = refl

pub list_back : (d : List ℕ) → length d ≤ 23 → listed (list_of d) ≡ d
unfolding listed list_of
list_back d h = take-take (length d) 23 (d ++ replicate 23 0) h ∙ take-append_seam d (replicate 23 0)

zeros : (m : ℕ) → m ≤ 23 → take {A = ℕ} m (replicate 23 0) ≡ replicate m 0
zeros m h =
    let e : m + (23 - m) ≡ 23 = omega arith in
    ap (λ (n : ℕ). take {A = ℕ} m (replicate n 0)) (sym e)
    ∙ ap (take m) (sym (replicate-append-replicate m (23 - m) 0))
    ∙ take_at (replicate m 0) (replicate (23 - m) 0) m (length-replicate m 0)

-- a list with zeros behind its numbers
pub list-whole : (l : IntervalList) → l.len ≤ 23 → length l.numbers ≡ 23 → drop l.len l.numbers ≡ replicate (23 - l.len) 0
    → list_of (listed l) ≡ l
unfolding listed list_of
list-whole l h w z =
    let n = l.len in
    let d = take n l.numbers in
    let e : length d ≡ n = length-take-le n l.numbers (omega arith) in
    let f : 23 ≡ length d + (23 - n) = omega arith in
    let v : take 23 (d ++ replicate 23 0) ≡ l.numbers =
    ap (λ (m : ℕ). take m (d ++ replicate 23 0)) f
    ∙ take-append-add d (replicate 23 0) (23 - n)
    ∙ ap (λ (q : List ℕ). d ++ q) (zeros (23 - n) (omega arith) ∙ sym z)
    ∙ take-append-drop n l.numbers
    in
    λ i. record { numbers = v i; len = e i }

-- and the other way: behind the numbers of such a list are zeros
zeros-back : (l : IntervalList) → l.len ≤ 23 → length l.numbers ≡ 23 → l ≡ list_of (listed l)
    → drop l.len l.numbers ≡ replicate (23 - l.len) 0
unfolding listed list_of
zeros-back l h w e =
    let n = l.len in
    let d = take n l.numbers in
    let f : length d ≡ n = length-take-le n l.numbers (omega arith) in
    let k : 23 ≡ length d + (23 - n) = omega arith in
    let v : l.numbers ≡ d ++ replicate (23 - n) 0 =
    ap (λ (m : IntervalList). m.numbers) e
    ∙ ap (λ (m : ℕ). take m (d ++ replicate 23 0)) k
    ∙ take-append-add d (replicate 23 0) (23 - n)
    ∙ ap (λ (q : List ℕ). d ++ q) (zeros (23 - n) (omega arith))
    in
    ap (drop n) v ∙ ap (λ (m : ℕ). drop m (d ++ replicate (23 - n) 0)) (sym f) ∙ drop-append_seam d (replicate (23 - n) 0)

-- a store behind the numbers takes one of the zeros there
zeros_behind : (v : List ℕ) (n y : ℕ) → n < 23 → drop n v ≡ replicate (23 - n) 0 → drop (n + 1) (set v n y) ≡ replicate (23 - (n + 1)) 0
zeros_behind v n y h z =
    let e : 23 - n ≡ suc (23 - (n + 1)) = omega arith in
    drop-set-lt (n + 1) v n y (omega arith) ∙ sym (drop-drop 1 n v) ∙ ap (drop 1) (z ∙ ap (λ (m : ℕ). replicate m 0) e)

-- fewer numbers than 23 leave room
pub has_room : (l : IntervalList) → length l.numbers ≡ 23 → length (listed l) < 23 → l.len < 23
unfolding listed
has_room l w h = let e = length-take l.len l.numbers in omega (arith, w, h, e)

-- one more number
unfoldable pub added : IntervalList → ℕ → IntervalList
added l y = record { numbers = set l.numbers l.len y; len = l.len + 1 }

pub added_lists : (l : IntervalList) (y : ℕ) → l.len < 23 → length l.numbers ≡ 23 → listed (added l y) ≡ listed l ++ (y ∷ [])
unfolding listed added
added_lists l y h w =
    let e : l.len + 1 ≡ suc l.len = omega arith in
    rw e (take-suc-set l.numbers l.len y (omega arith))

pub added_whole : (l : IntervalList) (y : ℕ) → l.len < 23 → length l.numbers ≡ 23 → l ≡ list_of (listed l)
    → added l y ≡ list_of (listed (added l y))
unfolding added
added_whole l y h w e =
    let z = zeros_behind l.numbers l.len y h (zeros-back l (omega arith) w e) in
    sym (list-whole (added l y) (omega arith) (simp length-set w) z)

-- none of the n numbers from k on
module _ (s : Set) where
  pub none-says : (n k : ℕ) → none_from k n s ≡ true → (j : ℕ) → k ≤ j → j < k + n → s j ≡ false
  none-says zero k e j a b = absurd (omega arith)
  none-says (suc n) k e j a b = go (ltb k j) refl (s k) refl (λ f. none-says n (suc k) f j)
    where
      rest : Bool → Bool
      rest x = not x && none_from (suc k) n s

      go : (t : Bool) → ltb k j ≡ t → (x : Bool) → s k ≡ x → (rest false ≡ true → k < j → j < suc k + n → s j ≡ false) → s j ≡ false
      go t p true q r = absurd (subst T (sym e ∙ ap rest q) tt)
      go true p false q r = r (sym (ap rest q) ∙ e) (ltb-true k j p) (omega arith)
      go false p false q r =
          let l : j ≤ k = ltb-false k j p in
          let f : j ≡ k = omega arith in
          ap s f ∙ q

  pub none_of : (n k : ℕ) → ((j : ℕ) → k ≤ j → j < k + n → s j ≡ false) → none_from k n s ≡ true
  none_of zero k f = refl
  none_of (suc n) k f =
      ap (λ (b : Bool). not b && none_from (suc k) n s) (f k (omega arith) (omega arith))
      ∙ none_of n (suc k) (λ j a b. f j (omega arith) (omega arith))

-- a number below 2 ^ 23 has no digit from 23 on, and one of 32 digits that has none is below
pub within-at : (s : IntervalSet) → s.bits < 2 ^ 32 → ltb s.bits (2 ^ 23) ≡ within (members s)
unfolding within
within-at s h = go (ltb s.bits (2 ^ 23)) refl (within (members s)) refl
  where
    above : s.bits < 2 ^ 23 → (j : ℕ) → 23 ≤ j → j < 23 + outside → members s j ≡ false
    above l j a b = member_at s j (omega arith) ∙ bit_above s.bits 23 j l a

    below : within (members s) ≡ true → (k : ℕ) → k < 32 → (t : Bool) → ltb k 23 ≡ t → bit s.bits k ≡ bit (s.bits % 2 ^ 23) k
    below e k l true p = sym (bit-low s.bits 23 k (ltb-true k 23 p))
    below e k l false p =
        let g : 23 ≤ k = ltb-false k 23 p in
        sym (member_at s k l) ∙ none-says (members s) outside 23 e k g (omega arith)
        ∙ sym (bit_above (s.bits % 2 ^ 23) 23 k (mod-lt s.bits (pow_pos 23)) g)

    small : within (members s) ≡ true → s.bits < 2 ^ 23
    small e =
        let l : s.bits % 2 ^ 23 < 2 ^ 23 = mod-lt s.bits (pow_pos 23) in
        let q : s.bits ≡ s.bits % 2 ^ 23 = same_number 32 _ _ h (omega arith) (λ k l. below e k l (ltb k 23) refl) in
        omega arith

    go : (t : Bool) → ltb s.bits (2 ^ 23) ≡ t → (w : Bool) → within (members s) ≡ w → t ≡ w
    go true p w q = sym (none_of (members s) outside 23 (above (ltb-true s.bits (2 ^ 23) p))) ∙ q
    go false p true q = sym p ∙ lt-ltb s.bits (2 ^ 23) (small q)
    go false p false q = refl
