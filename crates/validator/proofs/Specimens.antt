-- Specimens of the paper and of the notes on its rules, by computation.
-- Assumes nothing.
use mathlib.Core.List.{[], ◌∷◌}
use mathlib.Core.Path.{◌≡◌, refl}
use Rattle.intervals.specs.Interval.{elem, insert}
use Rattle.expression.specs.ParserError.{all_numbers}
use Rattle.expression.specs.declared.expression.Exp.TheVariants.{Add, Aug, Extension, Maj7, Minor}
use Rattle.validator.specs.Validator.{all_from, times_of, extension_fault, first_from, first_wrong, last_below, semitone_errors, validation_of}

-- `C7Maj7`: 10 with 13 14 0
seventh_maj7 : all_numbers (validation_of (Extension 13 1 ∷ Maj7 ∷ []) (λ k. elem k (0 ∷ 4 ∷ 8 ∷ 13 ∷ 14 ∷ []))) ≡ 10 ∷ 13 ∷ 14 ∷ 0 ∷ []
unfolding validation_of first_wrong first_from times_of extension_fault insert all_from semitone_errors last_below
seventh_maj7 = refl

-- `Cadd7`: 7 at 4
add_seventh : all_numbers (validation_of (Add 13 4 ∷ []) (λ k. elem k (0 ∷ 4 ∷ 8 ∷ 13 ∷ []))) ≡ 7 ∷ 4 ∷ 0 ∷ 0 ∷ []
unfolding validation_of first_wrong first_from times_of extension_fault insert all_from semitone_errors last_below
add_seventh = refl

-- `Cmm`: 3 with 3
minor_twice : all_numbers (validation_of (Minor ∷ Minor ∷ []) (λ k. elem k (0 ∷ 3 ∷ 8 ∷ []))) ≡ 3 ∷ 3 ∷ 0 ∷ 0 ∷ []
unfolding validation_of first_wrong first_from times_of extension_fault insert all_from semitone_errors last_below
minor_twice = refl

-- `C,#5b6`: 5 at 4
sharp_five_flat_six : all_numbers (validation_of (Extension 9 3 ∷ Extension 10 4 ∷ []) (λ k. elem k (0 ∷ 4 ∷ 9 ∷ 10 ∷ []))) ≡ 5 ∷ 4 ∷ 0 ∷ 0 ∷ []
unfolding validation_of first_wrong first_from times_of extension_fault insert all_from semitone_errors last_below
sharp_five_flat_six = refl

-- `C++add5`: 7 at 6, which hides the repeated Aug, and 4 with 8
aug_twice_add_five : all_numbers (validation_of (Aug ∷ Aug ∷ Add 8 6 ∷ []) (λ k. elem k (0 ∷ 4 ∷ 8 ∷ 9 ∷ []))) ≡ 7 ∷ 6 ∷ 0 ∷ 0 ∷ 4 ∷ 8 ∷ 0 ∷ 0 ∷ []
unfolding validation_of first_wrong first_from times_of extension_fault insert all_from semitone_errors last_below
aug_twice_add_five = refl

-- kind 10 names the last interval of a class: #9, where b3 is in the set too
last_of_class : all_numbers (semitone_errors (λ k. elem k (0 ∷ 3 ∷ 7 ∷ 13 ∷ 16 ∷ 17 ∷ 18 ∷ []))) ≡ 10 ∷ 0 ∷ 16 ∷ 17 ∷ 10 ∷ 16 ∷ 17 ∷ 18 ∷ []
unfolding all_from semitone_errors last_below
last_of_class = refl
