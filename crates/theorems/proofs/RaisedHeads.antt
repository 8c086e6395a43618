-- What a text and its plain form begin with: the same head, but for the bytes of a digit and of a number, and on both sides the bytes of
-- as many characters. A word is that of the letter run, a number goes by the digits, any other character is its own plain form.
-- Assumes nothing.
use mathlib.Core.Bool.{Bool, true, false, cond, true≢false}
use mathlib.Core.List.{List, [], ◌∷◌, ◌++◌, map}
use mathlib.Core.Path.{◌≡◌, refl, sym, ap, ◌∙◌}
use Prim.Native.Nat.{ℕ, suc, ◌+◌, ◌*◌, ◌-◌, ◌≤◌, ◌<◌}
use native.Mathlib.Omega.{arith}
use lib.Dec.{T, eqb, ltb}
use lib.ListN.{length-append}
use lib.Seq.{drop-append_seam}
use borrow.Author.Tests.{eqb-true, le-ltb}
use mir.Facts.{and_yes}
use Rattle.intervals.specs.Interval.{elem}
use Rattle.lexer.proofs.Heads.{head_sized, letter_head, word-within}
use Rattle.lexer.proofs.Runs.{run_within}
use Rattle.lexer.specs.Lexer.{bytes_in, digit_in, digit_of, head_by, head_of, illegal, is_digit, number_by, number_head, one_digit, sign_head, sign_of, size_of, two_digits, word_head}
use Rattle.lexer.specs.Words.{is_letter, run_end, word_by_ends}
use Rattle.lexer.specs.declared.Head.TheVariants.{Space, Sign, Word, Number, Digit}
use Rattle.lexer.specs.declared.Head.{Head}
use Rattle.theorems.proofs.RaisedCharacters.{letter_no_digit, plain_digit, plain-is_digit, plain_no_letter, plain_other, plain_scalar, plain-scalars}
use Rattle.theorems.proofs.RaisedRuns.{bytes, first_bytes, letter_run, run_alike, run_bytes, word_alike}
use Rattle.theorems.specs.Raised.{plain_char, width}
use Rattle.positions.proofs.Pairs.{is_modifier}
use Rattle.note.specs.Note.{letter_of}
use Rattle.token.specs.Token.{type_of}
use Rattle.token.specs.declared.TokenType.TheVariants as type
use Rattle.utf8.proofs.Laws.{char_of-encode}
use Rattle.utf8.specs.Utf8.{is_scalar, all_scalar, char_of, encode, encode_all}
use Rattle.utf8.specs.declared.Found.TheVariants as utf8

-- a head with other bytes, where its token does not go by them
abbrev pub resized : Head → ℕ → Head
resized Space m = Space
resized (Sign k n) m = Sign k n
resized (Word k n) m = Word k n
resized (Number k l n) m = Number k l m
resized (Digit n) m = Digit m

resized_own : (x : Head) → x ≡ resized x (size_of x)
resized_own Space = refl
resized_own (Sign k n) = refl
resized_own (Word k n) = refl
resized_own (Number k l n) = refl
resized_own (Digit n) = refl

-- x is the head of a text, y that of its plain form, each with the bytes of one character and `more`
pub record Alike (cs : List ℕ) (x y : Head) : Type 0 where
  pub more : ℕ
  pub same : y ≡ resized x (size_of y)
  pub own_size : size_of x ≡ bytes (suc more) cs
  pub plain_size : size_of y ≡ bytes (suc more) (map plain_char cs)

-- a text's head by its first character
module _ (c : ℕ) (r : List ℕ) (t : T (is_scalar c)) where
  head_by_lem : head_of (encode c ++ r) ≡ head_by (utf8.Char c (width c)) (encode c ++ r)
  unfolding head_of
  head_by_lem = rw (char_of-encode c r t)

  digit_begins : is_letter c ≡ false → is_digit c ≡ true → head_of (encode c ++ r) ≡ number_by (digit_of c) (width c) (char_of r)
  digit_begins e d = head_by_lem ∙ rw (e, d, drop-append_seam (encode c) r)

  other_begins : is_letter c ≡ false → is_digit c ≡ false → head_of (encode c ++ r) ≡ cond (eqb c 32) Space (sign_head c (width c))
  other_begins e d = head_by_lem ∙ rw (e, d)

-- a space or a sign is one character
other_size : (c : ℕ) → size_of (cond (eqb c 32) Space (sign_head c (width c))) ≡ width c
unfolding encode
other_size c = go (eqb c 32) (eqb (sign_of c) 0) refl
  where
    go : (a b : Bool) → eqb c 32 ≡ a → size_of (cond a Space (cond b (Word illegal (width c)) (Sign (sign_of c) (width c)))) ≡ width c
    go true b e = rw (eqb-true c 32 e)
    go false true e = refl
    go false false e = refl

-- one head on both sides
same_alike : (cs : List ℕ) (x y : Head) (n : ℕ) → y ≡ x → size_of x ≡ bytes (suc n) cs → size_of x ≡ bytes (suc n) (map plain_char cs)
    → Alike cs x y
same_alike cs x y n e o p = rw e (record { more = n; same = resized_own x; own_size = o; plain_size = p })

-- the digit that a text begins with, if any, and the bytes of its first character
next_digit : (cs : List ℕ) → T (all_scalar cs) → digit_in (char_of (encode_all (map plain_char cs))) ≡ digit_in (char_of (encode_all cs))
next_digit [] t = refl
next_digit (c ∷ cs) t =
    let s = (and_yes (is_scalar c) (all_scalar cs) t).0 in
    rw (char_of-encode c (encode_all cs) s, char_of-encode (plain_char c) (encode_all (map plain_char cs)) (plain_scalar c s)) (plain_digit c)

next-bytes : (cs : List ℕ) → T (all_scalar cs) → bytes_in (char_of (encode_all cs)) ≡ bytes 1 cs
unfolding char_of
next-bytes [] t = refl
next-bytes (c ∷ cs) t =
    ap bytes_in (char_of-encode c (encode_all cs) (and_yes (is_scalar c) (all_scalar cs) t).0) ∙ sym (first_bytes c cs)

alike_if : {cs : List ℕ} {x x' y y' : Head} (b : Bool) → Alike cs x y → Alike cs x' y' → Alike cs (cond b x x') (cond b y y')
alike_if true a a' = a
alike_if false a a' = a'

-- the number that the digits d and e make, by the bytes of the first two characters
number_alike : (d e c : ℕ) (cs : List ℕ)
    → Alike (c ∷ cs) (number_head d (width c) e (bytes 1 cs)) (number_head d (width (plain_char c)) e (bytes 1 (map plain_char cs)))
number_alike d e c cs =
    let own = sym (first_bytes c cs) in
    let plain = sym (first_bytes (plain_char c) (map plain_char cs)) in
    alike_if (elem (10 * d + e) two_digits) (record { more = 1; same = refl; own_size = rw length-append; plain_size = rw length-append })
    (alike_if (elem d one_digit) (record { more = 0; same = refl; own_size = own; plain_size = plain })
    (record { more = 0; same = refl; own_size = own; plain_size = plain }))

-- the three kinds of characters
module _ (c : ℕ) (cs : List ℕ) where
  letter_alike : is_letter c ≡ true → Alike (c ∷ cs) (head_of (encode_all (c ∷ cs))) (head_of (encode_all (map plain_char (c ∷ cs))))
  letter_alike e =
      let s = encode_all (c ∷ cs) in
      let s' = encode_all (map plain_char (c ∷ cs)) in
      let r : 0 < run_end s = omega (arith, letter_run c (encode_all cs) e) in
      let x = letter_head s r in
      let y = letter_head s' (omega (arith, run_alike (c ∷ cs))) in
      let some = (head_sized s (omega (arith, run_within s))).some in
      let within : size_of (head_of s) ≤ run_end s = rw x (word-within s r) in
      let n : suc (size_of (head_of s) - 1) ≡ size_of (head_of s) = omega arith in
      same_alike (c ∷ cs) (head_of s) (head_of s') (size_of (head_of s) - 1) (y ∙ ap word_head (word_alike (c ∷ cs)) ∙ sym x)
      (sym (run_bytes _ (c ∷ cs) (omega arith) ∙ n))
      (sym (run_bytes _ (map plain_char (c ∷ cs)) (omega (arith, run_alike (c ∷ cs))) ∙ n))

  other_alike : T (is_scalar c) → is_letter c ≡ false → is_digit c ≡ false
      → Alike (c ∷ cs) (head_of (encode_all (c ∷ cs))) (head_of (encode_all (map plain_char (c ∷ cs))))
  other_alike t e d =
      let p = plain_other c d in
      let x = other_begins c (encode_all cs) t e d in
      let y = other_begins c (encode_all (map plain_char cs)) t e d in
      let n : size_of (head_of (encode_all (c ∷ cs))) ≡ width c = ap size_of x ∙ other_size c in
      same_alike (c ∷ cs) _ _ 0 (ap (λ k. head_of (encode k ++ encode_all (map plain_char cs))) p ∙ y ∙ sym x)
      (n ∙ sym (first_bytes c cs))
      (n ∙ ap width (sym p) ∙ sym (first_bytes (plain_char c) (map plain_char cs)))

  digit_alike : T (is_scalar c) → is_letter c ≡ false → is_digit c ≡ true → T (all_scalar cs)
      → Alike (c ∷ cs) (head_of (encode_all (c ∷ cs))) (head_of (encode_all (map plain_char (c ∷ cs))))
  digit_alike t e d u =
      let p = plain-is_digit c ∙ d in
      let ds = encode_all (map plain_char cs) in
      rw (
        digit_begins c (encode_all cs) t e d,
        digit_begins (plain_char c) ds (plain_scalar c t) (plain_no_letter c e) p,
        plain_digit c,
        next_digit cs u,
        next-bytes cs u,
        next-bytes (map plain_char cs) (plain-scalars cs u),
      ) (number_alike (digit_of c) (digit_in (char_of (encode_all cs))) c cs)

-- what a text begins with is what its plain form begins with
pub heads_alike : (c : ℕ) (cs : List ℕ) → T (all_scalar (c ∷ cs))
    → Alike (c ∷ cs) (head_of (encode_all (c ∷ cs))) (head_of (encode_all (map plain_char (c ∷ cs))))
heads_alike c cs t = go (is_letter c) (is_digit c) refl refl (and_yes (is_scalar c) (all_scalar cs) t)
  where
    go : (a b : Bool) → is_letter c ≡ a → is_digit c ≡ b → T (is_scalar c) × T (all_scalar cs)
        → Alike (c ∷ cs) (head_of (encode_all (c ∷ cs))) (head_of (encode_all (map plain_char (c ∷ cs))))
    go true b e d s = letter_alike c cs e
    go false true e d s = digit_alike c cs s.0 e d s.1
    go false false e d s = other_alike c cs s.0 e d

-- what a head says of whether its text begins with a digit (d): a sign and a word begin with none; and a number is no sharp and no flat
pub data Begun (d : Bool) : Head → Type 0 where
  a_space : Begun d Space
  a_sign : {k n : ℕ} → d ≡ false → Begun d (Sign k n)
  a_word : {k n : ℕ} → d ≡ false → Begun d (Word k n)
  a_number : {k l n : ℕ} → is_modifier (type_of k) ≡ false → Begun d (Number k l n)
  a_digit : {n : ℕ} → Begun d (Digit n)

begun_if : {d : Bool} {x y : Head} (b : Bool) → Begun d x → Begun d y → Begun d (cond b x y)
begun_if true s t = s
begun_if false s t = t

number_no_modifier : (n : ℕ) → is_modifier (type_of (32 + n)) ≡ false
unfolding type_of
number_no_modifier n = rw (le-ltb (32 + n) 32 (omega arith)) (go (ltb (32 + n) 64) (ltb (32 + n) 71))
  where
    go : (a b : Bool)
        → is_modifier (cond a (type.Extension (32 + n - 32)) (cond b (type.Note (letter_of (32 + n - 64))) type.Illegal)) ≡ false
    go true b = refl
    go false true = refl
    go false false = refl

pub head_begun : (c : ℕ) (cs : List ℕ) → T (all_scalar (c ∷ cs)) → Begun (is_digit c) (head_of (encode_all (c ∷ cs)))
head_begun c cs t = go (is_letter c) (is_digit c) refl refl (and_yes (is_scalar c) (all_scalar cs) t).0
  where
    s : List ℕ
    s = encode_all (c ∷ cs)

    go : (a b : Bool) → is_letter c ≡ a → is_digit c ≡ b → T (is_scalar c) → Begun b (head_of s)
    go true true e d t = absurd (true≢false (sym d ∙ letter_no_digit c e))
    go true false e d t =
        rw (letter_head s (omega (arith, letter_run c (encode_all cs) e)))
        (begun_if (eqb (word_by_ends s).len 0) (a_word refl) (a_word refl))
    go false true e d t =
        let x = digit_in (char_of (encode_all cs)) in
        rw (digit_begins c (encode_all cs) t e d)
        (begun_if (elem (10 * digit_of c + x) two_digits) (a_number (number_no_modifier (10 * digit_of c + x)))
        (begun_if (elem (digit_of c) one_digit) (a_number (number_no_modifier (digit_of c))) a_digit))
    go false false e d t =
        rw (other_begins c (encode_all cs) t e d)
        (begun_if (eqb c 32) a_space (begun_if (eqb (sign_of c) 0) (a_word refl) (a_sign refl)))
