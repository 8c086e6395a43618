-- The bars of a line: its first bar and those behind it, how many they are, and that they make up the line.
-- Assumes nothing.
use mathlib.Core.Bool.{Bool, true, false, cond}
use mathlib.Core.List.{List, [], ◌∷◌}
use mathlib.Core.Path.{◌≡◌, refl, ap, ◌∙◌}
use Prim.Native.Nat.{ℕ, suc, ◌≤◌, ◌<◌}
use native.Mathlib.Omega.{arith}
use lib.Dec.{eqb}
use lib.ListN.{length, drop}
use Rattle.bars.specs.Bars.{stroke, onto, bars_of, strokes, bar}

-- a bar before a `|`, and the bars behind it
pub split_here : (l : List ℕ) → length (bar l) < length l → bars_of l ≡ bar l ∷ bars_of (drop (suc (length (bar l))) l)
unfolding bar bars_of
split_here [] h = absurd (omega arith)
split_here (b ∷ l) h = turn (eqb b stroke) (split_here l) h
  where
    turn : (t : Bool) → (length (bar l) < length l → bars_of l ≡ bar l ∷ bars_of (drop (suc (length (bar l))) l))
        → length (cond t [] (b ∷ bar l)) < suc (length l)
        → cond t ([] ∷ bars_of l) (onto b (bars_of l)) ≡ cond t [] (b ∷ bar l) ∷ bars_of (drop (length (cond t [] (b ∷ bar l))) l)
    turn true ih g = refl
    turn false ih g = ap (onto b) (ih (omega (arith, g)))

-- the last bar
pub split-last : (l : List ℕ) → length l ≤ length (bar l) → bars_of l ≡ bar l ∷ []
unfolding bar bars_of
split-last [] h = refl
split-last (b ∷ l) h = turn (eqb b stroke) (split-last l) h
  where
    turn : (t : Bool) → (length l ≤ length (bar l) → bars_of l ≡ bar l ∷ [])
        → suc (length l) ≤ length (cond t [] (b ∷ bar l))
        → cond t ([] ∷ bars_of l) (onto b (bars_of l)) ≡ cond t [] (b ∷ bar l) ∷ []
    turn true ih g = absurd (omega (arith, g))
    turn false ih g = ap (onto b) (ih (omega (arith, g)))

pub length-onto : (b : ℕ) (bs : List (List ℕ)) → 0 < length bs → length (onto b bs) ≡ length bs
length-onto b [] h = absurd (omega (arith, h))
length-onto b (x ∷ xs) h = refl

-- "the bar count is one more than the count of `|`"
pub bar-count : (l : List ℕ) → length (bars_of l) ≡ suc (strokes l)
unfolding bars_of strokes
bar-count [] = refl
bar-count (b ∷ l) = turn (eqb b stroke) (bars_of l) (bar-count l)
  where
    turn : (t : Bool) (bs : List (List ℕ)) → length bs ≡ suc (strokes l)
        → length (cond t ([] ∷ bs) (onto b bs)) ≡ suc (cond t (suc (strokes l)) (strokes l))
    turn true bs h = ap suc h
    turn false bs h = length-onto b bs (omega (arith, h)) ∙ h

pub some-bar : (l : List ℕ) → 0 < length (bars_of l)
some-bar l = omega (arith, bar-count l)
