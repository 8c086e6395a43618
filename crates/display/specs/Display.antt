-- The display list (`set_intervals`): the members sorted by semitones, with the second or fourth that a sus shows in its place.
use Rattle.std.specs.Prelude.{cond, ◌&&◌, List, [], ◌∷◌, ℕ, eqb, leb}
use Rattle.intervals.specs.Interval.{Set, augmented_fourth, flat_ninth, major_second, minor_second, ninth, semitones, sharp_eleventh}
use Rattle.expression.specs.Expression.{on_sus}
use Rattle.expression.specs.declared.expression.Exp.{Exp}

-- the interval of the first Sus; k where there is none
abbrev pub sus_of : Exp → ℕ → ℕ
sus_of e k = on_sus k (λ x. x) e

abbrev pub first_sus : List Exp → ℕ
first_sus [] = 0
first_sus (e ∷ l) = sus_of e (first_sus l)

-- what the interval i is shown as, where the first Sus is of the interval k
abbrev pub shown : ℕ → ℕ → ℕ
shown k i =
    cond (eqb k minor_second && eqb i flat_ninth) minor_second
    (cond (eqb k major_second && eqb i ninth) major_second
    (cond (eqb k augmented_fourth && eqb i sharp_eleventh) augmented_fourth
    i))

-- an insertion sort by a key; equal keys keep their order
abbrev pub place : (ℕ → ℕ) → ℕ → List ℕ → List ℕ
place f x [] = x ∷ []
place f x (y ∷ l) = cond (leb (f x) (f y)) (x ∷ y ∷ l) (y ∷ place f x l)

abbrev pub sort_by : (ℕ → ℕ) → List ℕ → List ℕ
sort_by f [] = []
sort_by f (x ∷ l) = place f x (sort_by f l)

abbrev pub numbers : List ℕ
numbers = 0 ∷ 1 ∷ 2 ∷ 3 ∷ 4 ∷ 5 ∷ 6 ∷ 7 ∷ 8 ∷ 9 ∷ 10 ∷ 11 ∷ 12 ∷ 13 ∷ 14 ∷ 15 ∷ 16 ∷ 17 ∷ 18 ∷ 19 ∷ 20 ∷ 21 ∷ 22 ∷ []

-- the numbers in the order of the semitones of what they are shown as
unfoldable pub order : ℕ → List ℕ
order k = sort_by (λ i. semitones (shown k i)) numbers

-- the members among them, as they are shown
abbrev pub chosen : Set → (ℕ → ℕ) → List ℕ → List ℕ
chosen s f [] = []
chosen s f (i ∷ l) = cond (s i) (f i ∷ chosen s f l) (chosen s f l)

unfoldable pub display_of : ℕ → Set → List ℕ
display_of k s = chosen s (shown k) (order k)
