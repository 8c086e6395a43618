-- The intervals by number, their semitones, and sets of intervals as mathematics has them.
use Rattle.std.specs.Prelude.{Bool, false, not, ◌&&◌, ◌||◌, List, [], ◌∷◌, ℕ, eqb, get_or}

-- "Intervals are numbered 0 to 22 in the order of `Interval`."
abbrev pub unison : ℕ
unison = 0

abbrev pub minor_second : ℕ
minor_second = 1

abbrev pub major_second : ℕ
major_second = 2

abbrev pub minor_third : ℕ
minor_third = 3

abbrev pub major_third : ℕ
major_third = 4

abbrev pub perfect_fourth : ℕ
perfect_fourth = 5

abbrev pub augmented_fourth : ℕ
augmented_fourth = 6

abbrev pub diminished_fifth : ℕ
diminished_fifth = 7

abbrev pub perfect_fifth : ℕ
perfect_fifth = 8

abbrev pub augmented_fifth : ℕ
augmented_fifth = 9

abbrev pub minor_sixth : ℕ
minor_sixth = 10

abbrev pub major_sixth : ℕ
major_sixth = 11

abbrev pub diminished_seventh : ℕ
diminished_seventh = 12

abbrev pub minor_seventh : ℕ
minor_seventh = 13

abbrev pub major_seventh : ℕ
major_seventh = 14

abbrev pub octave : ℕ
octave = 15

abbrev pub flat_ninth : ℕ
flat_ninth = 16

abbrev pub ninth : ℕ
ninth = 17

abbrev pub sharp_ninth : ℕ
sharp_ninth = 18

abbrev pub eleventh : ℕ
eleventh = 19

abbrev pub sharp_eleventh : ℕ
sharp_eleventh = 20

abbrev pub flat_thirteenth : ℕ
flat_thirteenth = 21

abbrev pub thirteenth : ℕ
thirteenth = 22

-- "Each has its semitones by a fixed table of 23."
abbrev pub table : List ℕ
table = 0 ∷ 1 ∷ 2 ∷ 3 ∷ 4 ∷ 5 ∷ 6 ∷ 6 ∷ 7 ∷ 8 ∷ 8 ∷ 9 ∷ 9 ∷ 10 ∷ 11 ∷ 12 ∷ 13 ∷ 14 ∷ 15 ∷ 17 ∷ 18 ∷ 20 ∷ 21 ∷ []

abbrev pub semitones : ℕ → ℕ
semitones i = get_or table i 0

-- is a number one of a list's?
abbrev pub elem : ℕ → List ℕ → Bool
elem x [] = false
elem x (y ∷ ys) = eqb x y || elem x ys

-- A set is which numbers are its members. "Insert, remove, contains and subset are as in mathematics": contains is the set itself.
abbrev pub Set : Type 0
Set = ℕ → Bool

abbrev pub empty : Set
empty k = false

-- s ∪ {i}
unfoldable pub insert : Set → ℕ → Set
insert s i k = eqb i k || s k

-- s ∖ {i}
unfoldable pub remove : Set → ℕ → Set
remove s i k = not (eqb i k) && s k

-- (s ∖ {out}) ∪ {new}, whether or not `out` was a member
abbrev pub remove_then_add : Set → ℕ → ℕ → Set
remove_then_add s out new = insert (remove s out) new

-- { dest if i is target, else i : i ∈ s }
unfoldable pub replace : Set → ℕ → ℕ → Set
replace s target dest k = eqb dest k && s target || not (eqb target k) && s k
