-- Validation (validator.rs): "Validation runs all three checks and joins their errors."
use Rattle.std.specs.Prelude.{Bool, true, false, cond, not, ◌&&◌, ◌||◌, List, [], ◌∷◌, ◌++◌, ℕ, zero, suc, ◌+◌, ◌%◌, eqb, ltb, get_or}
use Rattle.intervals.specs.Interval.{elem, Set, empty, insert, semitones, minor_second, major_second, minor_third, major_third, perfect_fourth, diminished_fifth, perfect_fifth, augmented_fifth, minor_sixth, major_sixth, diminished_seventh, major_seventh, flat_ninth, ninth, sharp_ninth, eleventh, sharp_eleventh, flat_thirteenth, thirteenth}
use Rattle.expression.specs.Expression.{on_add, on_extension, on_omit}
use Rattle.expression.specs.declared.expression.Exp.TheVariants.{Power, Bass, Maj, Maj7, Minor, HalfDim, Dim, Dim7, Alt, Aug, Sus, Extension, Add, Omit, SlashBass}
use Rattle.expression.specs.declared.expression.Exp.{Exp}
use Rattle.expression.specs.declared.parser_error.ParserError.TheVariants.{DuplicateModifier, InconsistentExtension, DuplicateExtension, InvalidExtension, WrongExpressionTarget, ThreeConsecutiveSemitones}
use Rattle.expression.specs.declared.parser_error.ParserError.{ParserError}

-- the error, if b
abbrev pub only : Bool → ParserError → List ParserError
only b e = cond b (e ∷ []) []

-- what was found, or else r
abbrev pub or_else : List ParserError → List ParserError → List ParserError
or_else [] r = r
or_else (x ∷ xs) r = x ∷ xs

-- the first error, and all errors, of f i, f (i + 1), .., n in number
unfoldable pub first_from : (ℕ → List ParserError) → ℕ → ℕ → List ParserError
first_from f zero i = []
first_from f (suc n) i = or_else (f i) (first_from f n (suc i))

unfoldable pub all_from : (ℕ → List ParserError) → ℕ → ℕ → List ParserError
all_from f zero i = []
all_from f (suc n) i = f i ++ all_from f n (suc i)

-- `isvalid` of Add and of Omit: what they may name
abbrev pub add_targets : List ℕ
add_targets =
    major_second ∷ major_third ∷ perfect_fourth ∷ minor_sixth ∷ major_sixth ∷ major_seventh ∷ flat_ninth ∷ ninth ∷ sharp_ninth ∷ eleventh
    ∷ sharp_eleventh ∷ flat_thirteenth ∷ thirteenth ∷ []

abbrev pub omit_targets : List ℕ
omit_targets = major_third ∷ perfect_fifth ∷ []

-- `validate` of an expression
abbrev pub wrong_of : Exp → List ParserError
wrong_of e =
    on_add (on_omit [] (λ x p. only (not (elem x omit_targets)) (WrongExpressionTarget p)) e)
    (λ x p. only (not (elem x add_targets)) (WrongExpressionTarget p)) e

-- `validate_expressions`: the first wrong target
unfoldable pub first_wrong : List Exp → List ParserError
first_wrong [] = []
first_wrong (e ∷ l) = or_else (wrong_of e) (first_wrong l)

-- `priority`; Extension, Add and Omit may repeat, and have 15
abbrev pub priority_of : Exp → ℕ
priority_of Power = 0
priority_of Alt = 1
priority_of Bass = 2
priority_of Minor = 3
priority_of Dim7 = 4
priority_of Dim = 5
priority_of HalfDim = 6
priority_of (Sus x) = 7
priority_of Maj = 8
priority_of Maj7 = 9
priority_of (Extension x p) = 15
priority_of (Add x p) = 15
priority_of Aug = 12
priority_of (Omit x p) = 15
priority_of (SlashBass n) = 14

-- how many expressions have the priority p
unfoldable pub times_of : List Exp → ℕ → ℕ
times_of [] p = 0
times_of (e ∷ l) p = cond (eqb (priority_of e) p) 1 0 + times_of l p

abbrev pub repeated_at : (ℕ → ℕ) → ℕ → List ParserError
repeated_at counts p = only (ltb 1 (counts p)) (DuplicateModifier p)

-- "Where several kinds of expression repeat, .. the least `priority` is reported"
abbrev pub repeated : List Exp → List ParserError
repeated l = first_from (repeated_at (times_of l)) 15 0

abbrev pub expression_errors : List Exp → List ParserError
expression_errors l = or_else (first_wrong l) (repeated l)

-- `validate_extensions`: intervals that are no extensions, and semitones that an extension before has
abbrev pub bad_extensions : List ℕ
bad_extensions = minor_second ∷ major_second ∷ minor_third ∷ major_third ∷ diminished_seventh ∷ major_seventh ∷ []

abbrev pub fault_at : Set → ℕ → ℕ → List ParserError
fault_at seen x p = cond (elem x bad_extensions) (InvalidExtension p ∷ []) (only (seen (semitones x)) (DuplicateExtension p))

abbrev pub fault_of : Set → Exp → List ParserError
fault_of seen e = on_extension [] (fault_at seen) e

abbrev pub seeing : Set → Exp → Set
seeing seen e = on_extension seen (λ x p. insert seen (semitones x)) e

unfoldable pub extension_fault : Set → List Exp → List ParserError
extension_fault seen [] = []
extension_fault seen (e ∷ l) = or_else (fault_of seen e) (extension_fault (seeing seen e) l)

-- `has_inconsistent_extensions`: the pairs of INCOMPAT_SET, each with the interval that is reported, which is the first of the two
abbrev pub reported : List ℕ
reported = major_third ∷ perfect_fifth ∷ perfect_fifth ∷ major_sixth ∷ ninth ∷ ninth ∷ eleventh ∷ thirteenth ∷ []

abbrev pub others : List ℕ
others = minor_third ∷ diminished_fifth ∷ augmented_fifth ∷ minor_sixth ∷ flat_ninth ∷ sharp_ninth ∷ sharp_eleventh ∷ flat_thirteenth ∷ []

abbrev pub conflict_at : Set → ℕ → List ParserError
conflict_at s i = only (s (get_or reported i 0) && s (get_or others i 0)) (InconsistentExtension (get_or reported i 0))

abbrev pub extension_errors : List Exp → Set → List ParserError
extension_errors l s = or_else (extension_fault empty l) (all_from (conflict_at s) 8 0)

-- `validate_semitones`: is an interval below n in the set and in the class c of semitones?
abbrev pub present_below : ℕ → Set → ℕ → Bool
present_below zero s c = false
present_below (suc n) s c = (s n && eqb (semitones n % 12) c) || present_below n s c

-- is the class c present in the set?
abbrev pub present : Set → ℕ → Bool
present s = present_below 23 s

-- are the class c and the next two there, going round from 11 to 0?
abbrev pub three : (ℕ → Bool) → ℕ → Bool
three there c = there c && (there ((c + 1) % 12) && there ((c + 2) % 12))

-- the last interval below n that is in the set and in the class c; 23 where there is none
unfoldable pub last_below : ℕ → Set → ℕ → ℕ
last_below zero s c = 23
last_below (suc n) s c = cond (s n && eqb (semitones n % 12) c) n (last_below n s c)

-- where three are there, kind 10 with the last interval of each
abbrev pub neighbours_at : (ℕ → Bool) → (ℕ → ℕ) → ℕ → List ParserError
neighbours_at there last c = only (three there c) (ThreeConsecutiveSemitones (last c) (last ((c + 1) % 12)) (last ((c + 2) % 12)))

unfoldable pub semitone_errors : Set → List ParserError
semitone_errors s = all_from (neighbours_at (present s) (last_below 23 s)) 12 0

-- is nothing in the list?
abbrev pub is_nil : List ParserError → Bool
is_nil [] = true
is_nil (x ∷ l) = false

-- the checks that look at the set alone find nothing
unfoldable pub set_valid : Set → Bool
set_valid s = is_nil (all_from (conflict_at s) 8 0) && is_nil (semitone_errors s)

-- `validate`: the errors of the expressions l and of the set s that they make
unfoldable pub validation_of : List Exp → Set → List ParserError
validation_of l s = expression_errors l ++ (extension_errors l s ++ semitone_errors s)
