-- Letter runs, the same in a text and in its plain form: a letter is one byte and its own plain form, and where the run ends in the one it
-- ends in the other. So the two begin with the same words of up to so many letters (`begins_alike`), and have the same word.
-- Assumes nothing.
use mathlib.Core.Bool.{Bool, true, false, ◌&&◌, cond}
use mathlib.Core.List.{List, [], ◌∷◌, ◌++◌, map}
use mathlib.Core.Path.{◌≡◌, refl, sym, ap, ap₂, ◌∙◌}
use Prim.Native.Nat.{ℕ, zero, suc, ◌+◌, ◌≤◌, ◌<◌}
use native.Mathlib.Nat.{add-zero}
use native.Mathlib.Omega.{arith}
use lib.Dec.{eqb}
use lib.ListN.{length, length-append, take}
use borrow.Author.Tests.{eqb-true}
use Rattle.lexer.proofs.Heads.{letter-high, letter-low}
use Rattle.lexer.proofs.Runs.{run_stop, run_turn}
use Rattle.lexer.specs.Words.{Word, words, match, is_letter, run_end, word_to, by_ends, or_shorter, word_by_ends}
use Rattle.theorems.proofs.RaisedCharacters.{plain-letter, plain_no_letter}
use Rattle.theorems.specs.Raised.{plain_char, width}
use Rattle.utf8.proofs.Laws.{Row, one, two, three, four, row}
use Rattle.utf8.specs.Utf8.{begins, encode, encode_all}

-- how many bytes the first n characters have
abbrev pub bytes : ℕ → List ℕ → ℕ
bytes n cs = length (encode_all (take n cs))

-- one character, and one more
pub more_bytes : (n c : ℕ) (cs : List ℕ) → bytes (suc n) (c ∷ cs) ≡ width c + bytes n cs
more_bytes n c cs = rw length-append

pub first_bytes : (c : ℕ) (cs : List ℕ) → bytes 1 (c ∷ cs) ≡ width c
first_bytes c cs = more_bytes 0 c cs ∙ add-zero (width c)

-- a letter is one byte
letter_byte_lem : (c : ℕ) → is_letter c ≡ true → encode c ≡ c ∷ []
letter_byte_lem c e = go (row c)
  where
    go : Row c → encode c ≡ c ∷ []
    go (one h p) = p
    go (two l h p) = absurd (omega (arith, letter-low c e))
    go (three l h p) = absurd (omega (arith, letter-low c e))
    go (four l p) = absurd (omega (arith, letter-low c e))

-- a letter begins a run, any other character none
pub letter_run : (c : ℕ) (r : List ℕ) → is_letter c ≡ true → run_end (encode c ++ r) ≡ suc (run_end r)
letter_run c r e = rw (letter_byte_lem c e) (run_turn (c ∷ r) 0 (omega arith) e)

no_run : (c : ℕ) (r : List ℕ) → is_letter c ≡ false → run_end (encode c ++ r) ≡ 0
no_run c r e = go (row c)
  where
    first : (b : ℕ) (s : List ℕ) → is_letter b ≡ false → run_end (b ∷ s) ≡ 0
    first b s f = run_stop (b ∷ s) 0 (omega arith) f

    go : Row c → run_end (encode c ++ r) ≡ 0
    go (one h p) = rw p (first c r e)
    go (two l h p) = rw p (first _ _ (letter-high _ (omega arith)))
    go (three l h p) = rw p (first _ _ (letter-high _ (omega arith)))
    go (four l p) = rw p (first _ _ (letter-high _ (omega arith)))

-- where a run begins, a letter stands
starts_run : (c : ℕ) (r : List ℕ) → 0 < run_end (encode c ++ r) → is_letter c ≡ true
starts_run c r h = go (is_letter c) refl
  where
    go : (b : Bool) → is_letter c ≡ b → b ≡ true
    go true e = refl
    go false e = absurd (omega (arith, no_run c r e))

-- the first letters of a run are as many bytes
pub run_bytes : (n : ℕ) (cs : List ℕ) → n ≤ run_end (encode_all cs) → bytes n cs ≡ n
unfolding run_end
run_bytes zero cs h = refl
run_bytes (suc n) [] h = absurd (omega arith)
run_bytes (suc n) (c ∷ cs) h =
    let e = starts_run c (encode_all cs) (omega arith) in
    let l = letter_run c (encode_all cs) e in
    rw (letter_byte_lem c e) (ap suc (run_bytes n cs (omega arith)))

pub run_alike : (cs : List ℕ) → run_end (encode_all (map plain_char cs)) ≡ run_end (encode_all cs)
run_alike [] = refl
run_alike (c ∷ cs) = go (is_letter c) refl (run_alike cs)
  where
    go : (b : Bool) → is_letter c ≡ b → run_end (encode_all (map plain_char cs)) ≡ run_end (encode_all cs)
        → run_end (encode_all (map plain_char (c ∷ cs))) ≡ run_end (encode_all (c ∷ cs))
    go true e h = rw (plain-letter c e) (letter_run c _ e ∙ ap suc h ∙ sym (letter_run c _ e))
    go false e h = no_run (plain_char c) _ (plain_no_letter c e) ∙ sym (no_run c _ e)

begins_alike : (w cs : List ℕ) → length w ≤ run_end (encode_all cs) → begins w (encode_all (map plain_char cs)) ≡ begins w (encode_all cs)
begins_alike [] cs h = refl
begins_alike (x ∷ w) [] h = refl
begins_alike (x ∷ w) (c ∷ cs) h =
    let e = starts_run c (encode_all cs) (omega arith) in
    let l = letter_run c (encode_all cs) e in
    rw (plain-letter c e, letter_byte_lem c e) (ap (λ b. eqb x c && b) (begins_alike w cs (omega arith)))

-- two texts that begin with the same words of up to n letters
module _ (n : ℕ) (s t : List ℕ) (f : (w : List ℕ) → length w ≤ n → begins w s ≡ begins w t) where
  -- have the same word up to each end, and so by all ends
  to_alike : (ws : List Word) (k : ℕ) → k ≤ n → word_to ws k s ≡ word_to ws k t
  unfolding word_to
  to_alike [] k h = refl
  to_alike (w ∷ ws) k h = ap₂ (λ b m. cond b (match k w.kind) m) (go (eqb (length w.text) k) refl) (to_alike ws k h)
    where
      go : (b : Bool) → eqb (length w.text) k ≡ b → (b && begins w.text s) ≡ (b && begins w.text t)
      go true e = let l = eqb-true (length w.text) k e in f w.text (omega arith)
      go false e = refl

  ends_alike : (ws : List Word) (k : ℕ) → k ≤ n → by_ends ws k s ≡ by_ends ws k t
  unfolding by_ends
  ends_alike ws zero h = refl
  ends_alike ws (suc k) h = ap₂ or_shorter (to_alike ws (suc k) h) (ends_alike ws k (omega arith))

pub word_alike : (cs : List ℕ) → word_by_ends (encode_all (map plain_char cs)) ≡ word_by_ends (encode_all cs)
word_alike cs =
    ap (λ n. by_ends words n (encode_all (map plain_char cs))) (run_alike cs)
    ∙ ends_alike (run_end (encode_all cs)) _ _ (λ w. begins_alike w cs) words (run_end (encode_all cs)) (omega arith)
