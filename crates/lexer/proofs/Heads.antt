-- What a text begins with: a letter goes by one byte, since it is a byte below 128 and a character that begins with another byte is 128 or
-- more; a letter begins a run, whose word is the head; and how many bytes a head has.
-- Assumes nothing.
use mathlib.Core.Bool.{Bool, true, false, ◌&&◌, cond}
use mathlib.Core.List.{List, [], ◌∷◌, ◌++◌}
use mathlib.Core.Path.{◌≡◌, refl, sym, ap, ◌∙◌, subst}
use Prim.Native.Nat.{ℕ, suc, ◌+◌, ◌*◌, ◌-◌, ◌≤◌, ◌<◌}
use native.Mathlib.Decide.{dec_le}
use native.Mathlib.Omega.{arith}
use lib.Dec.{T, eqb, leb, ltb}
use lib.ListN.{length, get_or, drop, length-drop}
use borrow.Author.Tests.{le-leb, lt-leb, lt-ltb, le-ltb, ne_eqb, eqb-true, eqb-false, leb-true}
use Rattle.intervals.specs.Interval.{elem}
use Rattle.std.specs.Prelude.{Option, Some, None}
use Rattle.utf8.specs.Utf8.{char_of}
use Rattle.utf8.specs.declared.Found.TheVariants as utf8
use Rattle.utf8.specs.declared.Found.{Found}
use Rattle.lexer.specs.Lexer.{raised_numerals, place_in, is_digit, digit_of, two_digits, one_digit, number_head, number_by, word_head, sign_head, sign_of, head_by, head_of, size_of}
use Rattle.lexer.specs.State.{other_than, digit_in_or, bytes_in_or, digit_found}
use Rattle.lexer.specs.Words.{is_letter, run_end, word_by_ends, words}
use Rattle.lexer.specs.declared.Head.TheVariants as head
use Rattle.lexer.specs.declared.Head.{Head}
use Rattle.lexer.specs.declared.Match.{Match}
use Rattle.lexer.proofs.Runs.{run_within, run_letter, run_other, ends-within}
use Rattle.utf8.proofs.Laws.{Row, one, two, three, four, row, char_of-sound, one_found, found-size, found_within}

-- a character that begins with a byte from 128 on is 128 or more
found-high : (s : List ℕ) (c n : ℕ) → char_of s ≡ utf8.Char c n → 128 ≤ get_or s 0 0 → 128 ≤ c
found-high s c n e h = go (row c)
  where
    go : Row c → 128 ≤ c
    go (one l p) =
        let b = (char_of-sound s c n e).bytes ∙ ap (λ (t : List ℕ). t ++ drop n s) p in
        let z : get_or s 0 0 ≡ c = ap (λ (t : List ℕ). get_or t 0 0) b in
        omega arith
    go (two l g p) = l
    go (three l g p) = omega arith
    go (four l p) = omega arith

-- no character from 123 on is a letter
pub letter-high : (c : ℕ) → 123 ≤ c → is_letter c ≡ false
unfolding is_letter
letter-high c h = rw (le-leb 65 c (omega arith), lt-leb c 90 (omega arith), le-leb 97 c (omega arith), lt-leb c 122 h)

pub letter-low : (c : ℕ) → is_letter c ≡ true → c < 123
letter-low c e = elim (dec_le 123 c) [ yes h ↦ absurd (subst T (sym e ∙ letter-high c h) tt) | no h ↦ omega arith ]

-- a letter begins a run, and what stands there is the run's word
pub letter_head : (s : List ℕ) → 0 < run_end s → head_of s ≡ word_head (word_by_ends s)
unfolding head_of run_end
letter_head [] h = absurd (omega arith)
letter_head (b ∷ s) h =
    let e = run_letter b s h in
    rw (one_found (b ∷ s) (omega arith) (omega (arith, letter-low b e)), e)

-- where no run begins, the character is no letter
pub no_letter : (s : List ℕ) (c n : ℕ) → char_of s ≡ utf8.Char c n → 0 < length s → run_end s ≡ 0 → is_letter c ≡ false
no_letter [] c n e l z = absurd (omega arith)
no_letter (b ∷ s) c n e l z = elim (dec_le 128 b) [
  | yes h ↦ letter-high c (omega (arith, found-high (b ∷ s) c n e h))
  | no h ↦ let f = one_found (b ∷ s) l (omega arith) in let g : b ≡ c = cc in rw g at (run_other b s z)
]

-- the word of a run lies within it
pub word-within : (s : List ℕ) → 0 < run_end s → size_of (word_head (word_by_ends s)) ≤ run_end s
word-within s h = go (eqb (word_by_ends s).len 0)
  where
    go : (x : Bool) → size_of (cond x (head.Word 21 1) (head.Word (word_by_ends s).kind (word_by_ends s).len)) ≤ run_end s
    go true = h
    go false = ends-within words (run_end s) s

-- a raised numeral is U+00B2 or above
pub not_raised : (c : ℕ) → c < 0xB2 → place_in raised_numerals c ≡ 10
not_raised c h =
    rw (
      off 0x2070 (omega arith),
      off 0xB9 (omega arith),
      off 0xB2 (omega arith),
      off 0xB3 (omega arith),
      off 0x2074 (omega arith),
      off 0x2075 (omega arith),
      off 0x2076 (omega arith),
      off 0x2077 (omega arith),
      off 0x2078 (omega arith),
      off 0x2079 (omega arith),
    )
  where
    off : (d : ℕ) → 0xB2 ≤ d → eqb c d ≡ false
    off d l = ne_eqb c d (λ e. omega arith)

-- a digit is below 10, and what is none is 10
module _ (c : ℕ) {d : ℕ} (e : d ≡ digit_of c) where
  pub is_digit_lem : d < 10 → is_digit c ≡ true
  is_digit_lem h = ap (λ x. ltb x 10) (sym e) ∙ lt-ltb d 10 h

  pub no_digit : 10 ≤ d → is_digit c ≡ false
  no_digit h = ap (λ x. ltb x 10) (sym e) ∙ le-ltb d 10 h

-- one digit alone makes no number of two
lone : (d : ℕ) → elem (10 * d + 10) two_digits ≡ false
lone d = rw (ne_eqb (10 * d + 10) 11 (λ e. omega arith), ne_eqb (10 * d + 10) 13 (λ e. omega arith))

-- a digit is at most 9, and 10 stands for none
digit_small : (c : ℕ) → digit_of c ≤ 10
unfolding digit_of
digit_small c = go (leb 48 c) (leb c 57) refl
  where
    place_small : (l : List ℕ) → place_in l c ≤ length l
    place_small [] = omega arith
    place_small (d ∷ l) = at (eqb c d) (place_small l)
      where
        at : (b : Bool) → place_in l c ≤ length l → cond b 0 (suc (place_in l c)) ≤ suc (length l)
        at true h = omega arith
        at false h = omega arith

    go : (x y : Bool) → leb c 57 ≡ y → cond (x && y) (c - 48) (place_in raised_numerals c) ≤ 10
    go true true e = omega (arith, leb-true c 57 e)
    go true false e = place_small raised_numerals
    go false y e = place_small raised_numerals

-- the digit that was found is that of the character
pub digit_some : (c : ℕ) {d : ℕ} → Some d ≡ other_than 10 (digit_of c) → (d ≡ digit_of c) × (d < 10)
digit_some c {d} e = go (eqb (digit_of c) 10) refl e
  where
    go : (b : Bool) → eqb (digit_of c) 10 ≡ b → Some d ≡ cond b None (Some (digit_of c)) → (d ≡ digit_of c) × (d < 10)
    go true h f = absurd (cc)
    go false h f = let g : d ≡ digit_of c = cc in (g, omega (arith, g, digit_small c, eqb-false _ _ h))

-- the digit behind another: its size, and the number that the two begin with
module _ {r : Option (ℕ × ℕ)} where
  pub behind_small : (s : List ℕ) → r ≡ digit_found (char_of s) → length s ≤ 256 → (digit_in_or r ≤ 10) × (bytes_in_or r ≤ 256)
  behind_small s e h = rw e (go (char_of s) refl)
    where
      with : (c n : ℕ) → n ≤ 256 → (b : Bool)
          → (digit_in_or (cond b None (Some (digit_of c, n))) ≤ 10) × (bytes_in_or (cond b None (Some (digit_of c, n))) ≤ 256)
      with c n l true = (omega arith, omega arith)
      with c n l false = (digit_small c, l)

      go : (f : Found) → char_of s ≡ f → (digit_in_or (digit_found f) ≤ 10) × (bytes_in_or (digit_found f) ≤ 256)
      go (utf8.Char c n) q = with c n (omega (arith, found_within s c n q)) (eqb (digit_of c) 10)
      go utf8.Bad q = (omega arith, omega arith)
      go utf8.End q = (omega arith, omega arith)

  pub behind_head : (d n : ℕ) (f : Found) → r ≡ digit_found f → number_head d n (digit_in_or r) (bytes_in_or r) ≡ number_by d n f
  behind_head d n (utf8.Char c m) e = rw e (go (eqb (digit_of c) 10) refl)
    where
      go : (b : Bool) → eqb (digit_of c) 10 ≡ b
          → (let q = cond {A = Option (ℕ × ℕ)} b None (Some (digit_of c, m)) in number_head d n (digit_in_or q) (bytes_in_or q) ≡ number_head d n (digit_of c) m)
      go true h = rw (eqb-true _ _ h, lone d)
      go false h = refl
  behind_head d n utf8.Bad e = rw e
  behind_head d n utf8.End e = rw e

-- the length of a head's token, 0 for none
abbrev pub length_of : Head → ℕ
length_of head.Space = 0
length_of (head.Sign k n) = 1
length_of (head.Word k n) = n
length_of (head.Number k l n) = l
length_of (head.Digit n) = 1

-- a head of a text that is not empty has a byte at least, and lies within the text; its token is no longer than its bytes
pub record Sized (h : Head) (s : List ℕ) : Type 0 where
  pub some : 1 ≤ size_of h
  pub within : size_of h ≤ length s
  pub short : length_of h ≤ size_of h

word_sized : (s : List ℕ) (m : Match) → 0 < length s → m.len ≤ length s → Sized (word_head m) s
word_sized s m l h = go (eqb m.len 0) refl
  where
    go : (b : Bool) → eqb m.len 0 ≡ b → Sized (cond b (head.Word 21 1) (head.Word m.kind m.len)) s
    go true e = record { some = omega arith; within = omega arith; short = omega arith }
    go false e = let n = eqb-false m.len 0 e in record { some = omega arith; within = h; short = omega arith }

sign_sized : (s : List ℕ) (c n : ℕ) → 1 ≤ n → n ≤ length s → Sized (sign_head c n) s
sign_sized s c n l h = go (eqb (sign_of c) 0)
  where
    go : (b : Bool) → Sized (cond b (head.Word 21 n) (head.Sign (sign_of c) n)) s
    go true = record { some = l; within = h; short = omega arith }
    go false = record { some = l; within = h; short = l }

number_sized : (s : List ℕ) (d n : ℕ) → 1 ≤ n → n ≤ length s → Sized (number_by d n (char_of (drop n s))) s
number_sized s d n l h = go (char_of (drop n s)) refl
  where
    one_digit_lem : (b : Bool) → Sized (cond b (head.Number (32 + d) 1 n) (head.Digit n)) s
    one_digit_lem true = record { some = l; within = h; short = l }
    one_digit_lem false = record { some = l; within = h; short = l }

    two_digits_lem : (e m : ℕ) (a : Bool) → 1 ≤ m → n + m ≤ length s
        → Sized (cond a (head.Number (32 + (10 * d + e)) 2 (n + m)) (cond (elem d one_digit) (head.Number (32 + d) 1 n) (head.Digit n))) s
    two_digits_lem e m true k b = record { some = omega arith; within = b; short = omega arith }
    two_digits_lem e m false k b = one_digit_lem (elem d one_digit)

    go : (f : Found) → char_of (drop n s) ≡ f → Sized (number_by d n f) s
    go (utf8.Char c m) e =
        let k : length (drop n s) ≡ length s - n = length-drop n s in
        let w : m ≤ length (drop n s) = found_within (drop n s) c m e in
        two_digits_lem (digit_of c) m (elem (10 * d + digit_of c) two_digits) (found-size (drop n s) c m e) (omega arith)
    go utf8.Bad e = rw (lone d) (one_digit_lem (elem d one_digit))
    go utf8.End e = rw (lone d) (one_digit_lem (elem d one_digit))

pub head_sized : (s : List ℕ) → 0 < length s → Sized (head_of s) s
unfolding head_of
head_sized s l = go (char_of s) refl
  where
    by : (a b c : Bool) (k n : ℕ) → 1 ≤ n → n ≤ length s → Sized
        (cond a (word_head (word_by_ends s)) (cond b (number_by (digit_of k) n (char_of (drop n s))) (cond c head.Space (sign_head k n))))
        s
    by true b c k n x y = word_sized s (word_by_ends s) l (omega (arith, ends-within words (run_end s) s, run_within s))
    by false true c k n x y = number_sized s (digit_of k) n x y
    by false false true k n x y = record { some = omega arith; within = l; short = omega arith }
    by false false false k n x y = sign_sized s k n x y

    go : (f : Found) → char_of s ≡ f → Sized (head_by f s) s
    go (utf8.Char c n) e = by (is_letter c) (is_digit c) (eqb c 32) c n (found-size s c n e) (found_within s c n e)
    go utf8.Bad e = record { some = omega arith; within = l; short = omega arith }
    go utf8.End e = record { some = omega arith; within = l; short = omega arith }
