-- The word list: the table holds it row by row, and a word stands at a place of a text if it stands in the part that no word passes.
-- Assumes nothing.
use mathlib.Core.Bool.{Bool, true, false, ◌&&◌}
use mathlib.Core.List.{List, [], ◌∷◌, zip_with}
use mathlib.Core.Path.{◌≡◌, refl, ap, ◌∙◌}
use Prim.Native.Nat.{ℕ, zero, suc, ◌≤◌, ◌<◌, min}
use native.Mathlib.Omega.{arith}
use lib.Dec.{eqb}
use lib.Seq.{take_at}
use lib.ListN.{length, get_or, take}
use Rattle.std.specs.Cmp.Lexicographic.{pointwise}
use Rattle.utf8.specs.Utf8.{begins}
use Rattle.lexer.specs.State.{longest_word, nexts_from, next_places, row, row_at, word_at, word_rows}
use Rattle.lexer.specs.Words.{Word, word, words, run_end}
use Rattle.lexer.specs.declared.Row.{Row}
use Rattle.lexer.proofs.Chains.{longest_is}
use Rattle.lexer.proofs.Runs.{begins_fits, word_fits, words_count}

at_zip : {A : Type 0} (f : Word → ℕ → A) (l : List Word) (ns : List ℕ) (i : ℕ) (d : Word) (e : A) → i < length l → i < length ns → get_or (zip_with f l ns) i e ≡ f (get_or l i d) (get_or ns i 0)
unfolding zip_with
at_zip f [] ns i d e h k = absurd (omega arith)
at_zip f (w ∷ l) [] i d e h k = absurd (omega arith)
at_zip f (w ∷ l) (n ∷ ns) zero d e h k = refl
at_zip f (w ∷ l) (n ∷ ns) (suc i) d e h k = at_zip f l ns i d e (omega arith) (omega arith)

-- as many next places as words, by computation
nexts_count : length next_places ≡ 55
unfolding words nexts_from
nexts_count = refl

pub row-is : (i : ℕ) → i < 55 → (d : Row) → get_or word_rows i d ≡ row_at i
row-is i h d = at_zip row words next_places i (word [] 0) d (omega (arith, words_count)) (omega (arith, nexts_count))

-- what comparing the first letters says
compared : (p s : List ℕ) → pointwise eqb p (take (length p) s) ≡ begins p s
compared [] s = refl
compared (x ∷ p) [] = refl
compared (x ∷ p) (y ∷ s) = ap (λ (b : Bool). eqb x y && b) (compared p s)

-- a text begins with p where a first part of it does, if p is no longer than that
within_front : (p s : List ℕ) (m : ℕ) → (begins p s ≡ true → length p ≤ m) → begins p (take m s) ≡ begins p s
within_front [] s m h = refl
within_front (x ∷ p) [] zero h = refl
within_front (x ∷ p) [] (suc m) h = refl
within_front (x ∷ p) (y ∷ s) zero h = go (eqb x y && begins p s) h
  where
    go : (b : Bool) → (b ≡ true → suc (length p) ≤ 0) → false ≡ b
    go true f = absurd (omega (arith, f refl))
    go false f = refl
within_front (x ∷ p) (y ∷ s) (suc m) h = go (eqb x y) h (within_front p s m)
  where
    go : (b : Bool) → ((b && begins p s) ≡ true → suc (length p) ≤ suc m) → ((begins p s ≡ true → length p ≤ m) → begins p (take m s) ≡ begins p s)
        → (b && begins p (take m s)) ≡ (b && begins p s)
    go true f ih = ih (λ e. omega (arith, f e))
    go false f ih = refl

-- a word stands in a text if it stands in the part up to the last end that is tried
pub stands_within : (i : ℕ) → i < 55 → (s : List ℕ) (m : ℕ) → m ≡ min (run_end s) longest_word
    → pointwise eqb (word_at i).text (take (length (word_at i).text) (take m s)) ≡ begins (word_at i).text s
stands_within i h s m e =
    let f = word_fits i h in
    compared (word_at i).text (take m s)
    ∙ within_front (word_at i).text s m (λ b. omega (arith, e, longest_is, f.short, begins_fits (word_at i) f s b))

-- the letters of a word come first in its row's text
pub row_letters : (i : ℕ) {r : Row} → r ≡ row_at i → {n : ℕ} → n ≡ r.1 → take n r.0 ≡ (word_at i).text
row_letters i e f = rw (f, e) (take_at (word_at i).text _ (length (word_at i).text) refl)
