-- The word that trying every end of a letter run finds is the longest that the rest of the text begins with: a word has letters only, so
-- that none ends behind the run, and ten ends are enough (`ends_limited`). Word by word of a list, both ways keep the same one: a word in
-- front is found by its end unless a later one is longer (`ends_on`), and the longest takes a later one only where it is longer
-- (`longer_of_three`). So of two words of one length both keep the earlier.
-- Assumes nothing.
use mathlib.Core.Bool.{Bool, true, false, ◌&&◌, cond, and-true, and-false}
use mathlib.Core.List.{List, [], ◌∷◌}
use mathlib.Core.Path.{◌≡◌, refl, sym, ◌∙◌}
use Prim.Native.Nat.{ℕ, zero, suc, ◌≤◌}
use native.Mathlib.Omega.{arith}
use lib.Dec.{T, eqb, ltb, leb}
use lib.ListN.{length}
use borrow.Author.Tests.{lt-ltb, le-ltb, le-leb, lt-leb, ne_eqb, eqb-true, eqb-false, ltb-true, ltb-false, leb-true, leb-false}
use Rattle.utf8.specs.Utf8.{begins}
use Rattle.lexer.specs.Words.{Word, words, match, no_match, word_to, or_shorter, by_ends, word_by_ends}
use Rattle.lexer.specs.declared.Match.{Match}
use Rattle.lexer.proofs.Runs.{fits, fits_first, fits_rest, words_fit, word_len, ends-within, ends_limited}

-- w in place of m, where the text begins with w and w is longer
abbrev pub better : List ℕ → Word → Match → Match
better s w m = cond (ltb m.len (length w.text) && begins w.text s) (match (length w.text) w.kind) m

unfoldable pub longest_of : List Word → List ℕ → Match → Match
longest_of [] s m = m
longest_of (w ∷ ws) s m = longest_of ws s (better s w m)

-- the longest word that a text begins with
abbrev pub longest : List ℕ → Match
longest s = longest_of words s no_match

-- w, or m where m is longer
abbrev or_longer : Word → Match → Match
or_longer w m = cond (leb m.len (length w.text)) (match (length w.text) w.kind) m

-- m, or n where n is longer
abbrev longer_of : Match → Match → Match
longer_of m n = cond (ltb m.len n.len) n m

ends-none : (n : ℕ) (s : List ℕ) → by_ends [] n s ≡ no_match
unfolding by_ends word_to
ends-none zero s = refl
ends-none (suc n) s = ends-none n s

-- what is found with no letter is none
ends-empty : (ws : List Word) (n : ℕ) (s : List ℕ) → (by_ends ws n s).len ≡ 0 → by_ends ws n s ≡ no_match
unfolding by_ends
ends-empty ws zero s h = refl
ends-empty ws (suc n) s h = go (eqb (word_to ws (suc n) s).len 0) refl h (ends-empty ws n s)
  where
    go : (x : Bool) → eqb (word_to ws (suc n) s).len 0 ≡ x → (cond x (by_ends ws n s) (word_to ws (suc n) s)).len ≡ 0
        → ((by_ends ws n s).len ≡ 0 → by_ends ws n s ≡ no_match) → cond x (by_ends ws n s) (word_to ws (suc n) s) ≡ no_match
    go true e h ih = ih h
    go false e h ih = absurd (eqb-false (word_to ws (suc n) s).len 0 e h)

module _ (w : Word) (ws : List Word) (s : List ℕ) where
  -- a word that the text does not begin with is found at no end
  ends_off : begins w.text s ≡ false → (n : ℕ) → by_ends (w ∷ ws) n s ≡ by_ends ws n s
  unfolding by_ends word_to
  ends_off b zero = refl
  ends_off b (suc n) = rw (b, and-false (eqb (length w.text) (suc n)), ends_off b n)

  -- one that it begins with is found, but for a longer one of the other words
  ends_on : begins w.text s ≡ true → (n : ℕ) → 1 ≤ length w.text → length w.text ≤ n
      → by_ends (w ∷ ws) n s ≡ or_longer w (by_ends ws n s)
  unfolding by_ends word_to
  ends_on b zero l h = absurd (omega arith)
  ends_on b (suc n) l h = go (eqb (length w.text) (suc n)) refl (ends_on b n l)
    where
      -- a longer one at this end
      longer : (x : Bool) → eqb (word_to ws (suc n) s).len 0 ≡ x → length w.text ≤ n
          → cond x (or_longer w (by_ends ws n s)) (word_to ws (suc n) s) ≡ or_longer w (cond x (by_ends ws n s) (word_to ws (suc n) s))
      longer true e g = refl
      longer false e g = rw (lt-leb (word_to ws (suc n) s).len (length w.text) (omega (arith, word_len ws (suc n) s e)))

      -- the word ends here, or before
      go : (x : Bool) → eqb (length w.text) (suc n) ≡ x
          → (length w.text ≤ n → by_ends (w ∷ ws) n s ≡ or_longer w (by_ends ws n s))
          → or_shorter (cond (x && begins w.text s) (match (suc n) w.kind) (word_to ws (suc n) s)) (by_ends (w ∷ ws) n s)
          ≡ or_longer w (by_ends ws (suc n) s)
      go true e ih =
          let q = eqb-true (length w.text) (suc n) e in
          let k : (by_ends ws (suc n) s).len ≤ length w.text = omega (arith, ends-within ws (suc n) s) in
          rw (b, ne_eqb (suc n) 0 (λ z. omega arith), le-leb (by_ends ws (suc n) s).len (length w.text) k, q)
      go false e ih =
          let d = eqb-false (length w.text) (suc n) e in
          let g : length w.text ≤ n = omega arith in
          rw (ih g) (longer (eqb (word_to ws (suc n) s).len 0) refl g)

-- the longer of m and w, and the longer of that and e
longer_of_three : (w : Word) (m e : Match)
    → longer_of (cond (ltb m.len (length w.text)) (match (length w.text) w.kind) m) e ≡ longer_of m (or_longer w e)
longer_of_three w m e = go (ltb m.len (length w.text)) (leb e.len (length w.text)) refl refl
  where
    go : (x y : Bool) → ltb m.len (length w.text) ≡ x → leb e.len (length w.text) ≡ y
        → longer_of (cond x (match (length w.text) w.kind) m) e ≡ longer_of m (cond y (match (length w.text) w.kind) e)
    go true true p q = rw (p, le-ltb (length w.text) e.len (leb-true _ _ q))
    go true false p q =
        let l = leb-false e.len (length w.text) q in
        rw (lt-ltb (length w.text) e.len l, lt-ltb m.len e.len (omega (arith, ltb-true m.len (length w.text) p)))
    go false true p q =
        let l = leb-true e.len (length w.text) q in
        rw (p, le-ltb m.len e.len (omega (arith, ltb-false m.len (length w.text) p)))
    go false false p q = refl

-- the longest of a list beside m is the longer of m and what the list's ends find
longest_ends : (ws : List Word) → T (fits ws) → (s : List ℕ) (m : Match) → longest_of ws s m ≡ longer_of m (by_ends ws 10 s)
unfolding longest_of
longest_ends [] t s m = rw (ends-none 10 s, le-ltb m.len 0 (omega arith))
longest_ends (w ∷ ws) t s m = longest_ends ws (fits_rest w ws t) s (better s w m) ∙ go (begins w.text s) refl
  where
    go : (x : Bool) → begins w.text s ≡ x
        → longer_of (cond (ltb m.len (length w.text) && x) (match (length w.text) w.kind) m) (by_ends ws 10 s)
        ≡ longer_of m (by_ends (w ∷ ws) 10 s)
    go true e =
        let f = fits_first w ws t in
        rw (ends_on w ws s e 10 f.some f.short, and-true) (longer_of_three w m (by_ends ws 10 s))
    go false e = rw (ends_off w ws s e 10, and-false)

pub longest_by_ends : (s : List ℕ) → word_by_ends s ≡ longest s
longest_by_ends s =
    ends_limited s ∙ go (ltb 0 (by_ends words 10 s).len) refl ∙ sym (longest_ends words words_fit s no_match)
  where
    go : (x : Bool) → ltb 0 (by_ends words 10 s).len ≡ x → by_ends words 10 s ≡ cond x (by_ends words 10 s) no_match
    go true e = refl
    go false e = let h = ltb-false 0 (by_ends words 10 s).len e in ends-empty words 10 s (omega arith)
