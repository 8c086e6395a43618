-- A character and its plain form: the same digit, a letter where it is one, a scalar value where it is one. A digit's plain form is 48 to
-- 57, every other character is its own.
-- Assumes nothing.
use mathlib.Core.Bool.{Bool, true, false, ◌&&◌, and_assoc, true≢false}
use mathlib.Core.List.{List, [], ◌∷◌, ◌++◌, map}
use mathlib.Core.Path.{◌≡◌, refl, sym, ap, ap₂, ◌∙◌}
use Prim.Native.Nat.{ℕ, ◌+◌, ◌/◌, ◌≤◌, ◌<◌}
use native.Mathlib.Decide.{dec_le}
use native.Mathlib.Nat.{add-sub_cancel_left}
use native.Mathlib.Omega.{arith}
use lib.Dec.{T, eqb}
use lib.ListN.{length, length-append}
use borrow.Author.Tests.{eqb-true, ne_eqb, le-leb, lt-leb, ltb-true}
use mir.Facts.{and_yes, yes_and}
use Rattle.lexer.proofs.Heads.{letter-low, no_digit, not_raised}
use Rattle.lexer.specs.Lexer.{digit_of, is_digit}
use Rattle.lexer.specs.Words.{is_letter}
use Rattle.reader.specs.Reader.{is_blank}
use Rattle.theorems.specs.Raised.{plain_char}
use Rattle.utf8.proofs.Laws.{Row, one, two, three, four, row, encode-length, low_scalar}
use Rattle.utf8.specs.Utf8.{is_scalar, all_scalar, encode, encode_all}

-- letters stand from 65 to 122
below_letters : (c : ℕ) → c < 65 → is_letter c ≡ false
unfolding is_letter
below_letters c h = rw (lt-leb 65 c h, lt-leb 97 c (omega arith))

letter-from : (c : ℕ) → is_letter c ≡ true → 65 ≤ c
letter-from c e = elim (dec_le 65 c) [ yes h ↦ h | no h ↦ absurd (true≢false (sym e ∙ below_letters c (omega arith))) ]

-- no letter is a digit: it is above the plain ones and below the raised ones
digit_between : (c : ℕ) → 58 ≤ c → c ≤ 122 → digit_of c ≡ 10
unfolding digit_of
digit_between c l h = rw (le-leb 48 c (omega arith), lt-leb c 57 l) (not_raised c (omega arith))

pub letter_no_digit : (c : ℕ) → is_letter c ≡ true → is_digit c ≡ false
letter_no_digit c e =
    let l = letter-from c e in
    let h = letter-low c e in
    let d = digit_between c (omega arith) (omega arith) in
    no_digit c refl (omega arith)

-- a plain digit is itself
digit_plain : (d : ℕ) → d < 10 → digit_of (48 + d) ≡ d
unfolding digit_of
digit_plain d h = rw (le-leb 48 (48 + d) (omega arith), le-leb (48 + d) 57 (omega arith)) (add-sub_cancel_left 48 d)

-- a digit, and any other character
data Form (c : ℕ) : Type 0 where
  digit : digit_of c < 10 → plain_char c ≡ 48 + digit_of c → Form c
  other : plain_char c ≡ c → Form c

form : (c : ℕ) → Form c
unfolding plain_char
form c = go (is_digit c) refl
  where
    go : (b : Bool) → is_digit c ≡ b → Form c
    go true e = digit (ltb-true (digit_of c) 10 e) (rw e)
    go false e = other (rw e)

pub plain_digit : (c : ℕ) → digit_of (plain_char c) ≡ digit_of c
plain_digit c = go (form c)
  where
    go : Form c → digit_of (plain_char c) ≡ digit_of c
    go (digit h p) = ap digit_of p ∙ digit_plain (digit_of c) h
    go (other p) = ap digit_of p

pub plain-is_digit : (c : ℕ) → is_digit (plain_char c) ≡ is_digit c
plain-is_digit c = rw plain_digit

pub plain_other : (c : ℕ) → is_digit c ≡ false → plain_char c ≡ c
unfolding plain_char
plain_other c e = rw e

pub plain-letter : (c : ℕ) → is_letter c ≡ true → plain_char c ≡ c
plain-letter c e = plain_other c (letter_no_digit c e)

pub plain_no_letter : (c : ℕ) → is_letter c ≡ false → is_letter (plain_char c) ≡ false
plain_no_letter c e = go (form c)
  where
    go : Form c → is_letter (plain_char c) ≡ false
    go (digit h p) = ap is_letter p ∙ below_letters (48 + digit_of c) (omega arith)
    go (other p) = ap is_letter p ∙ e

pub plain_scalar : (c : ℕ) → T (is_scalar c) → T (is_scalar (plain_char c))
plain_scalar c t = go (form c)
  where
    go : Form c → T (is_scalar (plain_char c))
    go (digit h p) = low_scalar (plain_char c) (omega arith)
    go (other p) = rw p t

pub plain-scalars : (cs : List ℕ) → T (all_scalar cs) → T (all_scalar (map plain_char cs))
plain-scalars [] t = tt
plain-scalars (c ∷ cs) t =
    let b = and_yes (is_scalar c) (all_scalar cs) t in
    yes_and (is_scalar (plain_char c)) (all_scalar (map plain_char cs)) (plain_scalar c b.0) (plain-scalars cs b.1)

-- the plain form has no more bytes: that of a digit has one
pub plain-width : (c : ℕ) → length (encode (plain_char c)) ≤ length (encode c)
plain-width c = go (form c)
  where
    low : (d : ℕ) → Row d → d < 128 → length (encode d) ≡ 1
    low d (one h p) l = ap length p
    low d (two h m p) l = absurd (omega arith)
    low d (three h m p) l = absurd (omega arith)
    low d (four h p) l = absurd (omega arith)

    go : Form c → length (encode (plain_char c)) ≤ length (encode c)
    go (digit h p) = omega (arith, low (plain_char c) (row (plain_char c)) (omega arith), encode-length c)
    go (other p) = rw p (omega arith)

-- a character other than the space has no space for its first byte
not-blank : (c : ℕ) → eqb c 32 ≡ false → is_blank (encode c) ≡ false
unfolding is_blank
not-blank c e = go (row c)
  where
    go : Row c → is_blank (encode c) ≡ false
    go (one h p) = rw (p, e)
    go (two h m p) = rw (p, ne_eqb (192 + c / 64) 32 (λ x. omega arith))
    go (three h m p) = rw (p, ne_eqb (224 + c / 4096) 32 (λ x. omega arith))
    go (four h p) = rw (p, ne_eqb (240 + c / 262144) 32 (λ x. omega arith))

-- a text is blank where its plain form is
plain_char-blank : (c : ℕ) → is_blank (encode (plain_char c)) ≡ is_blank (encode c)
unfolding digit_of
plain_char-blank c = go (form c) (eqb c 32) refl
  where
    go : Form c → (b : Bool) → eqb c 32 ≡ b → is_blank (encode (plain_char c)) ≡ is_blank (encode c)
    go (other p) b e = ap (λ d. is_blank (encode d)) p
    go (digit h p) true e = absurd (omega (arith, ap digit_of (eqb-true c 32 e)))
    go (digit h p) false e = not-blank (plain_char c) (rw p (ne_eqb (48 + digit_of c) 32 (λ x. omega arith))) ∙ sym (not-blank c e)

blank_append : (s t : List ℕ) → is_blank (s ++ t) ≡ (is_blank s && is_blank t)
unfolding is_blank
blank_append [] t = refl
blank_append (b ∷ s) t = ap (λ x. eqb b 32 && x) (blank_append s t) ∙ sym (and_assoc (eqb b 32) (is_blank s) (is_blank t))

pub plain-blank : (cs : List ℕ) → is_blank (encode_all (map plain_char cs)) ≡ is_blank (encode_all cs)
plain-blank [] = refl
plain-blank (c ∷ cs) =
    blank_append (encode (plain_char c)) (encode_all (map plain_char cs)) ∙ ap₂ ◌&&◌ (plain_char-blank c) (plain-blank cs)
    ∙ sym (blank_append (encode c) (encode_all cs))

pub plain-short : (cs : List ℕ) → length (encode_all (map plain_char cs)) ≤ length (encode_all cs)
plain-short [] = omega arith
plain-short (c ∷ cs) =
    let l = length-append (encode c) (encode_all cs) in
    let m = length-append (encode (plain_char c)) (encode_all (map plain_char cs)) in
    omega (arith, plain-width c, plain-short cs)
