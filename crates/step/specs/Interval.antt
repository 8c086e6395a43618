-- The interval of a number by its sign, as the Rust's `from_modifier_extension` has it.
use Rattle.std.specs.Prelude.{cond, Option, List, [], ◌∷◌, ℕ, eqb, ltb, get_or}
use Rattle.std.specs.declared.option.Option.TheVariants.{None, Some}
use Rattle.intervals.specs.Interval.{unison, minor_second, major_second, minor_third, major_third, perfect_fourth, augmented_fourth, diminished_fifth, perfect_fifth, augmented_fifth, minor_sixth, major_sixth, minor_seventh, octave, flat_ninth, ninth, sharp_ninth, eleventh, sharp_eleventh, flat_thirteenth, thirteenth}
use Rattle.note.specs.declared.RootModifier.TheVariants.{Natural, Sharp, Flat}
use Rattle.note.specs.declared.RootModifier.{RootModifier}

-- what stands for no interval
abbrev pub no_interval : ℕ
no_interval = 23

-- `from_modifier_extension`, by the number from 0 to 13: without a sign 1 2 3 4 5 6 7 8 9 11 13 have an interval,
abbrev pub natural : List ℕ
natural =
    no_interval
    ∷ unison
    ∷ major_second
    ∷ major_third
    ∷ perfect_fourth
    ∷ perfect_fifth
    ∷ major_sixth
    ∷ minor_seventh
    ∷ octave
    ∷ ninth
    ∷ no_interval
    ∷ eleventh
    ∷ no_interval
    ∷ thirteenth
    ∷ []

-- with a sharp 4 5 9 11,
abbrev pub sharp : List ℕ
sharp =
    no_interval
    ∷ no_interval
    ∷ no_interval
    ∷ no_interval
    ∷ augmented_fourth
    ∷ augmented_fifth
    ∷ no_interval
    ∷ no_interval
    ∷ no_interval
    ∷ sharp_ninth
    ∷ no_interval
    ∷ sharp_eleventh
    ∷ no_interval
    ∷ no_interval
    ∷ []

-- and with a flat 2 3 5 6 7 9 13
abbrev pub flat : List ℕ
flat =
    no_interval
    ∷ no_interval
    ∷ minor_second
    ∷ minor_third
    ∷ no_interval
    ∷ diminished_fifth
    ∷ minor_sixth
    ∷ minor_seventh
    ∷ no_interval
    ∷ flat_ninth
    ∷ no_interval
    ∷ no_interval
    ∷ no_interval
    ∷ flat_thirteenth
    ∷ []

-- its choice by the sign
abbrev pub intervals_by : RootModifier → List ℕ
intervals_by Natural = natural
intervals_by Sharp = sharp
intervals_by Flat = flat

-- `from_modifier_extension`: no number above 13 has an interval
abbrev pub interval_of : RootModifier → ℕ → ℕ
interval_of m n = cond (ltb n 14) (get_or (intervals_by m) n 0) no_interval

-- an interval, where there is one
abbrev pub found : ℕ → Option ℕ
found i = cond (eqb i no_interval) None (Some i)
