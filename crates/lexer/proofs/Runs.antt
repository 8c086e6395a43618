-- Letter runs. A word is its own letter run (`fits`, computed over the word list), and a text that begins with it has a run at least as
-- long. So no word ends behind the run of a text, and none behind ten letters: trying every end of the run finds what trying the first
-- ten finds (`ends_limited`), since an end at which no word ends can be skipped (`skip`).
-- Assumes nothing.
use mathlib.Core.Bool.{Bool, true, false, not, ◌&&◌, cond, true≢false, false≢true, and-false}
use mathlib.Core.List.{List, [], ◌∷◌}
use mathlib.Core.Path.{◌≡◌, refl, sym, ap, ◌∙◌}
use Prim.Native.Nat.{ℕ, zero, suc, ◌+◌, ◌-◌, ◌≤◌, ◌<◌}
use native.Mathlib.Decide.{dec_le}
use native.Mathlib.Nat.{add-zero, add-suc}
use native.Mathlib.Numerals.{add-one}
use native.Mathlib.Omega.{arith}
use lib.Dec.{T, eqb, leb, ltb, leb→le, eqb→eq}
use lib.ListN.{length, get_or, drop, drop_of_length-le}
use lib.Seq.{drop-cons}
use borrow.Author.Tests.{eqb-true, ltb-false, ne_eqb}
use mir.Facts.{and_yes}
use Rattle.std.specs.Prelude.{Option, Some, None, unwrap_or}
use Rattle.std.specs.List.{position_or_len}
use Rattle.std.proofs.lemmas.List.Recursion.{is_position_or_len}
use Rattle.utf8.specs.Utf8.{begins}
use Rattle.lexer.specs.State.{word_at}
use Rattle.lexer.specs.Words.{Word, word, words, match, no_match, is_letter, run_end, word_to, by_ends, word_by_ends}

run_none : (b : ℕ) (s : List ℕ) → is_letter b ≡ false → run_end (b ∷ s) ≡ 0
unfolding run_end
run_none b s e = rw e

run_more : (b : ℕ) (s : List ℕ) → is_letter b ≡ true → run_end (b ∷ s) ≡ suc (run_end s)
unfolding run_end
run_more b s e = rw e

pub run_letter : (b : ℕ) (s : List ℕ) → 0 < run_end (b ∷ s) → is_letter b ≡ true
run_letter b s h = go (is_letter b) refl
  where
    go : (x : Bool) → is_letter b ≡ x → x ≡ true
    go true e = refl
    go false e = absurd (omega (arith, run_none b s e))

pub run_other : (b : ℕ) (s : List ℕ) → run_end (b ∷ s) ≡ 0 → is_letter b ≡ false
run_other b s h = go (is_letter b) refl
  where
    go : (x : Bool) → is_letter b ≡ x → x ≡ false
    go true e = absurd (omega (arith, run_more b s e))
    go false e = refl

pub run_within : (s : List ℕ) → run_end s ≤ length s
unfolding run_end
run_within [] = omega arith
run_within (b ∷ s) = go (is_letter b) (run_within s)
  where
    go : (x : Bool) → run_end s ≤ length s → cond x (suc (run_end s)) 0 ≤ suc (length s)
    go true h = omega arith
    go false h = omega arith

-- the run at a place: the text has ended, no letter stands there, or one
pub run_done : (s : List ℕ) (i : ℕ) → length s ≤ i → run_end (drop i s) ≡ 0
unfolding run_end
run_done s i h = rw (drop_of_length-le s h)

module _ (s : List ℕ) (i : ℕ) (h : i < length s) where
  pub run_stop : is_letter (get_or s i 0) ≡ false → run_end (drop i s) ≡ 0
  run_stop e = rw (drop-cons s i 0 h) (run_none (get_or s i 0) (drop (suc i) s) e)

  pub run_turn : is_letter (get_or s i 0) ≡ true → run_end (drop i s) ≡ suc (run_end (drop (i + 1) s))
  run_turn e = rw (drop-cons s i 0 h, add-one i) (run_more (get_or s i 0) (drop (suc i) s) e)

-- a run ends at the first that is no letter
run_position : (s : List ℕ) → run_end s ≡ position_or_len (λ b. not (is_letter b)) s
unfolding run_end
run_position s = is_position_or_len run_end (λ b. not (is_letter b)) refl (λ b t. go (is_letter b) (run_end t)) s
  where
    go : (x : Bool) (n : ℕ) → cond x (suc n) 0 ≡ cond (not x) 0 (1 + n)
    go true n = omega arith
    go false n = refl

pub run_found : (s : List ℕ) (r : Option ℕ)
    → (let n = position_or_len (λ b. not (is_letter b)) s in r ≡ cond (ltb n (length s)) (Some n) None)
    → unwrap_or r (length s) ≡ run_end s
run_found s r e = rw e (go (ltb n (length s)) refl)
  where
    n : ℕ
    n = position_or_len (λ b. not (is_letter b)) s

    go : (x : Bool) → ltb n (length s) ≡ x → unwrap_or (cond x (Some n) None) (length s) ≡ run_end s
    go true h = sym (run_position s)
    go false h = omega (arith, ltb-false _ _ h, run_position s, run_within s)

-- behind letters of a run the rest of it stands
pub run_drop : (n : ℕ) (s : List ℕ) → n ≤ run_end s → run_end s ≡ n + run_end (drop n s)
unfolding run_end
run_drop zero s h = omega arith
run_drop (suc n) [] h = absurd (omega arith)
run_drop (suc n) (b ∷ s) h =
    let m : run_end (b ∷ s) ≡ suc (run_end s) = run_more b s (run_letter b s (omega arith)) in
    omega (arith, run_drop n s (omega arith))

-- a text that begins with another has a letter run at least as long
run_begins : (p s : List ℕ) → begins p s ≡ true → run_end p ≤ run_end s
unfolding run_end
run_begins [] s e = omega arith
run_begins (x ∷ p) [] e = absurd (false≢true e)
run_begins (x ∷ p) (y ∷ s) e = go (eqb x y) (is_letter x) refl refl e (run_begins p s)
  where
    go : (a b : Bool) → eqb x y ≡ a → is_letter x ≡ b → (a && begins p s) ≡ true → (begins p s ≡ true → run_end p ≤ run_end s)
        → run_end (x ∷ p) ≤ run_end (y ∷ s)
    go true true q l e ih =
        let i : is_letter y ≡ true = ap is_letter (sym (eqb-true x y q)) ∙ l in
        omega (arith, ih e, run_more x p l, run_more y s i)
    go true false q l e ih = omega (arith, run_none x p l)
    go false b q l e ih = absurd (false≢true e)

-- a word is its own letter run, of one to ten letters
pub record Fits (w : Word) : Type 0 where
  pub letters : run_end w.text ≡ length w.text
  pub some : 1 ≤ length w.text
  pub short : length w.text ≤ 10

-- as a test
abbrev fit : Word → Bool
fit w = eqb (run_end w.text) (length w.text) && (leb 1 (length w.text) && leb (length w.text) 10)

unfoldable pub fits : List Word → Bool
fits [] = true
fits (w ∷ ws) = fit w && fits ws

module _ (w : Word) (ws : List Word) (t : T (fits (w ∷ ws))) where
  pub fits_first : Fits w
  unfolding fits
  fits_first =
      let n = length w.text in
      let f = and_yes (eqb (run_end w.text) n) (leb 1 n && leb n 10) (and_yes (fit w) (fits ws) t).0 in
      let g = and_yes (leb 1 n) (leb n 10) f.1 in
      record { letters = eqb→eq _ _ f.0; some = leb→le _ _ g.0; short = leb→le _ _ g.1 }

  pub fits_rest : T (fits ws)
  unfolding fits
  fits_rest = (and_yes (fit w) (fits ws) t).1

-- a word that a text begins with lies within its letter run
pub begins_fits : (w : Word) → Fits w → (s : List ℕ) → begins w.text s ≡ true → length w.text ≤ run_end s
begins_fits w f s e = omega (arith, run_begins w.text s e)

fits_at : (ws : List Word) → T (fits ws) → (i : ℕ) → i < length ws → Fits (get_or ws i (word [] 0))
fits_at [] t i h = absurd (omega arith)
fits_at (w ∷ ws) t zero h = fits_first w ws t
fits_at (w ∷ ws) t (suc i) h = fits_at ws (fits_rest w ws t) i (omega arith)

-- every word of the list fits, by computation
pub words_fit : T (fits words)
unfolding words fits run_end is_letter
words_fit = tt

pub words_count : length words ≡ 55
unfolding words
words_count = refl

pub word_fits : (i : ℕ) → i < 55 → Fits (word_at i)
word_fits i h = fits_at words words_fit i (omega (arith, words_count))

-- no word ends behind the letter run, nor behind ten letters
no_word : (ws : List Word) → T (fits ws) → (k : ℕ) (s : List ℕ) → (k ≤ run_end s → k ≤ 10 → ⊥) → word_to ws k s ≡ no_match
unfolding word_to
no_word [] t k s h = refl
no_word (w ∷ ws) t k s h = rw off (no_word ws (fits_rest w ws t) k s h)
  where
    go : (b : Bool) → begins w.text s ≡ b → (eqb (length w.text) k && b) ≡ false
    go true e =
        let f = fits_first w ws t in
        let r = begins_fits w f s e in
        rw (ne_eqb (length w.text) k (λ q. h (omega arith) (omega arith)))
    go false e = and-false (eqb (length w.text) k)

    off : (eqb (length w.text) k && begins w.text s) ≡ false
    off = go (begins w.text s) refl

-- a word that is found at an end has so many letters
pub word_len : (ws : List Word) (k : ℕ) (s : List ℕ) → eqb (word_to ws k s).len 0 ≡ false → (word_to ws k s).len ≡ k
unfolding word_to
word_len [] k s e = absurd (true≢false e)
word_len (w ∷ ws) k s e = go (eqb (length w.text) k && begins w.text s) e (word_len ws k s)
  where
    go : (b : Bool) → eqb (cond b (match k w.kind) (word_to ws k s)).len 0 ≡ false
        → (eqb (word_to ws k s).len 0 ≡ false → (word_to ws k s).len ≡ k)
        → (cond b (match k w.kind) (word_to ws k s)).len ≡ k
    go true e ih = refl
    go false e ih = ih e

pub ends-within : (ws : List Word) (n : ℕ) (s : List ℕ) → (by_ends ws n s).len ≤ n
unfolding by_ends
ends-within ws zero s = omega arith
ends-within ws (suc n) s = go (eqb (word_to ws (suc n) s).len 0) refl (ends-within ws n s)
  where
    go : (b : Bool) → eqb (word_to ws (suc n) s).len 0 ≡ b → (by_ends ws n s).len ≤ n
        → (cond b (by_ends ws n s) (word_to ws (suc n) s)).len ≤ suc n
    go true e h = omega arith
    go false e h = omega (arith, word_len ws (suc n) s e)

-- ends at which no word ends can be skipped
skip : (n d : ℕ) (s : List ℕ) → ((k : ℕ) → n < k → word_to words k s ≡ no_match) → by_ends words (n + d) s ≡ by_ends words n s
unfolding by_ends
skip n zero s f = rw add-zero
skip n (suc d) s f = rw (add-suc, f (suc (n + d)) (omega arith)) (skip n d s f)

pub ends_limited : (s : List ℕ) → word_by_ends s ≡ by_ends words 10 s
ends_limited s = elim (dec_le 10 (run_end s)) [
  | yes h ↦
      let e : 10 + (run_end s - 10) ≡ run_end s = omega arith in
      rw e at (skip 10 (run_end s - 10) s (λ k l. no_word words words_fit k s (λ x y. omega arith)))
  | no h ↦
      let e : run_end s + (10 - run_end s) ≡ 10 = omega arith in
      sym (rw e at (skip (run_end s) (10 - run_end s) s (λ k l. no_word words words_fit k s (λ x y. omega arith))))
]
