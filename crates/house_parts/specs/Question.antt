-- "Has some accepted text exactly these four?", as a test: a root, no members outside the table, the 15 clauses of the set N and K,
-- validation's own test of the set, and the display list that N and K give; or no root and nothing else.
use Rattle.std.specs.Prelude.{Bool, true, false, not, cond, ◌&&◌, List, [], ◌∷◌, ℕ, ◌+◌, eqb}
use Rattle.chord.specs.Chord.{Four}
use Rattle.intervals.specs.Stored.{none_from, outside, within}
use Rattle.intervals.specs.Interval.{Set, unison, minor_second, minor_third, major_third, augmented_fourth, diminished_fifth, perfect_fifth, augmented_fifth, major_sixth, diminished_seventh, octave, flat_ninth, ninth, eleventh, sharp_eleventh, flat_thirteenth, thirteenth}
use Rattle.validator.specs.Validator.{set_valid}
use Rattle.house_parts.specs.House.{display_by, is_flat2, is_second, is_sharp4, is_some, is_sus, kind_in}
use Rattle.house_parts.specs.declared.kind.SusKind.{SusKind}

-- if a then b
infixr 20 ◌⇒◌
abbrev pub ◌⇒◌ : Bool → Bool → Bool
true ⇒ b = b
false ⇒ b = true

abbrev pub all : List Bool → Bool
all [] = true
all (b ∷ l) = b && all l

-- what every evaluation of the expressions of an accepted text gives, before its set is validated: 1; no b2, #4 and 8; not 5 with b5, #5,
-- b13 or bb7; with bb7 and #5 also b5; not 6 with 13; not 3 with 11; with a K no b3; and K b2 comes with b9, K 2 with 9, K #4 with #11
abbrev pub clauses : Set → SusKind → List Bool
clauses n k =
    n unison
    ∷ not (n minor_second)
    ∷ not (n augmented_fourth)
    ∷ not (n octave)
    ∷ not (n perfect_fifth && n diminished_fifth)
    ∷ not (n perfect_fifth && n augmented_fifth)
    ∷ not (n perfect_fifth && n flat_thirteenth)
    ∷ not (n perfect_fifth && n diminished_seventh)
    ∷ (n diminished_seventh && n augmented_fifth ⇒ n diminished_fifth)
    ∷ not (n major_sixth && n thirteenth)
    ∷ not (n major_third && n eleventh)
    ∷ (is_sus k ⇒ not (n minor_third))
    ∷ (is_flat2 k ⇒ n flat_ninth)
    ∷ (is_second k ⇒ n ninth)
    ∷ (is_sharp4 k ⇒ n sharp_eleventh)
    ∷ []

-- "display lists when they have the same members in the same order"
abbrev pub same_list : List ℕ → List ℕ → Bool
same_list [] [] = true
same_list [] (y ∷ m) = false
same_list (x ∷ l) [] = false
same_list (x ∷ l) (y ∷ m) = eqb x y && same_list l m

abbrev pub realizable_by : SusKind → Set → List ℕ → Bool
realizable_by k n d = all (clauses n k) && (set_valid n && same_list d (display_by k n))

-- no bass and no intervals
abbrev pub nothing_else : Four → Bool
nothing_else f = not (is_some f.bass) && (none_from 0 (23 + outside) f.normalized && same_list f.display [])

-- "the record without a root and with nothing else is the one" that the empty spelling comes from (document 02 [4]). Writer `Answers`
-- (`decided`) has that it is so of a record exactly when there is such a text.
abbrev pub realizable : Four → Bool
realizable f =
    cond (is_some f.root)
    (within f.normalized && realizable_by (kind_in f.normalized f.display) f.normalized f.display)
    (nothing_else f)
