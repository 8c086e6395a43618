-- The bars of a song line: document 02, [1], in its order.
use Rattle.std.specs.Prelude.{cond, List, [], ◌∷◌, ℕ, ◌+◌, suc, eqb, ltb, length, drop}
use Rattle.bars.specs.declared.Found.{Found}
use Rattle.bars.specs.declared.Found.TheVariants.{TooLong, End, Bar}
use Rattle.bars.specs.declared.Place.{Place}

-- `|`
abbrev pub stroke : ℕ
stroke = 124

-- "A line is at most 4,096 bytes"
abbrev pub longest_line : ℕ
longest_line = 4096

-- a byte in front of the first bar
abbrev pub onto : ℕ → List (List ℕ) → List (List ℕ)
onto b [] = (b ∷ []) ∷ []
onto b (x ∷ xs) = (b ∷ x) ∷ xs

-- "bars are split at each `|`"; "An empty line has one empty bar."
unfoldable pub bars_of : List ℕ → List (List ℕ)
bars_of [] = [] ∷ []
bars_of (b ∷ l) = cond (eqb b stroke) ([] ∷ bars_of l) (onto b (bars_of l))

-- "the count of `|`"
unfoldable pub strokes : List ℕ → ℕ
strokes [] = 0
strokes (b ∷ l) = cond (eqb b stroke) (suc (strokes l)) (strokes l)

-- what stands before the first `|`, or all
unfoldable pub bar : List ℕ → List ℕ
bar [] = []
bar (b ∷ l) = cond (eqb b stroke) [] (b ∷ bar l)

-- "A reader may be handed in at any position: its bar runs from there to the next `|` or the line's end"
abbrev pub bar_at : List ℕ → ℕ → List ℕ
bar_at line p = bar (drop p line)

abbrev pub bar_end : List ℕ → ℕ → ℕ
bar_end line p = p + length (bar_at line p)

-- no bar, and "the reader stays where it is"; the paper does not say which part of the line goes with it: the empty one at its beginning
abbrev pub stayed : Found → ℕ → Place
stayed f p = record { found = f; from = 0; to = 0; next = p }

-- "8 when the line is too long, checked first at each step"; "above the line's length it says end and stays"; else the bar, and "the
-- reader moves one past that"
unfoldable pub place_at : List ℕ → ℕ → Place
place_at line p =
    cond (ltb longest_line (length line)) (stayed TooLong p)
    (cond (ltb (length line) p) (stayed End p)
    (record { found = Bar; from = p; to = bar_end line p; next = bar_end line p + 1 }))
