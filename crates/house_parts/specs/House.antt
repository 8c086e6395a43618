-- The house spelling on sets and expressions: the parts that the spelling of a set N and of K names, each with its condition.
use Rattle.std.specs.Prelude.{Bool, true, false, not, ◌&&◌, ◌||◌, cond, List, [], ◌∷◌, ℕ, eqb, get_or}
use Rattle.intervals.specs.Interval.{elem, Set, minor_second, major_second, minor_third, major_third, perfect_fourth, augmented_fourth, diminished_fifth, perfect_fifth, augmented_fifth, minor_sixth, major_sixth, diminished_seventh, minor_seventh, major_seventh, flat_ninth, ninth, sharp_ninth, eleventh, sharp_eleventh, flat_thirteenth, thirteenth}
use Rattle.note.specs.Note.{note_of}
use Rattle.note.specs.declared.Note.{Note}
use Rattle.std.specs.declared.option.Option.TheVariants as optional
use Rattle.note.specs.Note.{OptionalNote}
use Rattle.display.specs.Display.{display_of}
use Rattle.expression.specs.declared.expression.Exp.TheVariants.{Minor, Dim7, Sus, Extension, Add, Omit, SlashBass}
use Rattle.expression.specs.declared.expression.Exp.{Exp}
use Rattle.house_parts.specs.declared.kind.SusKind.TheVariants.{Plain, Flat2, Second, Sharp4}
use Rattle.house_parts.specs.declared.kind.SusKind.{SusKind}

-- which K it is
abbrev pub is_flat2 : SusKind → Bool
is_flat2 Plain = false
is_flat2 Flat2 = true
is_flat2 Second = false
is_flat2 Sharp4 = false

abbrev pub is_second : SusKind → Bool
is_second Plain = false
is_second Flat2 = false
is_second Second = true
is_second Sharp4 = false

abbrev pub is_sharp4 : SusKind → Bool
is_sharp4 Plain = false
is_sharp4 Flat2 = false
is_sharp4 Second = false
is_sharp4 Sharp4 = true

abbrev pub is_sus : SusKind → Bool
is_sus Plain = false
is_sus Flat2 = true
is_sus Second = true
is_sus Sharp4 = true

-- the K of a first Sus of the interval x (`first_sus`; 0 where there is none)
abbrev pub kind_of : ℕ → SusKind
kind_of x = cond (eqb x minor_second) Flat2 (cond (eqb x major_second) Second (cond (eqb x augmented_fourth) Sharp4 Plain))

-- the K of a record with the set n and the display list d: "K is the one of b2, 2, #4 that the display list shows for b9, 9, #11 in the
-- normalized set N, or none." It is shown for the high one where the high one is in N and absent from the display list.
abbrev pub kind_in : Set → List ℕ → SusKind
kind_in n d =
    cond (n flat_ninth && not (elem flat_ninth d)) Flat2
    (cond (n ninth && not (elem ninth d)) Second
    (cond (n sharp_eleventh && not (elem sharp_eleventh d)) Sharp4
    Plain))

-- a first Sus of each K; 0 is none
abbrev pub sus_by : SusKind → ℕ
sus_by Plain = 0
sus_by Flat2 = minor_second
sus_by Second = major_second
sus_by Sharp4 = augmented_fourth

-- the display list that a set has by K
abbrev pub display_by : SusKind → Set → List ℕ
display_by k s = display_of (sus_by k) s

-- an expression with the condition under which it is named
pub data Part : Type 0 where
  part : Bool → Exp → Part

abbrev pub condition : Part → Bool
condition (part c e) = c

abbrev pub condition_at : ℕ → List Part → Bool
condition_at i ps = condition (get_or ps i (part false Dim7))

abbrev pub given : Bool → Exp → List Exp → List Exp
given true e l = e ∷ l
given false e l = l

abbrev pub select : List Part → List Exp
select [] = []
select (part c e ∷ gs) = given c e (select gs)

-- "`omit3` if K is none and N either has no third or has both 3 and bb7"
abbrev pub omit3 : Set → SusKind → Bool
omit3 n k = not (is_sus k) && (not (n minor_third) && not (n major_third) || n major_third && n diminished_seventh)

-- "`omit5` if N has none of 5, b5, #5, and either lacks b13 or has bb7"
abbrev pub omit5 : Set → Bool
omit5 n = not (n perfect_fifth) && not (n diminished_fifth) && not (n augmented_fifth) && (not (n flat_thirteenth) || n diminished_seventh)

-- is there a note, and which; C where there is none
abbrev pub is_some : OptionalNote → Bool
is_some optional.None = false
is_some (optional.Some b) = true

abbrev pub note_or_c : OptionalNote → Note
note_or_c optional.None = note_of 0
note_or_c (optional.Some b) = b

-- "Written in order: .. `dim7` if N has bb7, else `m` if it has b3; then .. `b5` if N has it and not bb7; `#5` and `7` if N has them;
-- `susb2`, `sus2` or `sus#4` by K; `omit3` ..; `omit5` ..; `add` with each member of N among 2, 3 (only with K or bb7), 4, b6, 6, Maj7,
-- b9, 9, #9, 11, #11, b13, 13, ascending, less the one that K gave. Last, `/` and the bass." p says where a part stands in the text, by a
-- number that it has.
abbrev pub parts : (ℕ → ℕ) → OptionalNote → Set → SusKind → List Part
parts p b n k =
    part (n diminished_seventh) Dim7
    ∷ part (n minor_third && not (n diminished_seventh)) Minor
    ∷ part (n diminished_fifth && not (n diminished_seventh)) (Extension diminished_fifth (p 7))
    ∷ part (n augmented_fifth) (Extension augmented_fifth (p 9))
    ∷ part (n minor_seventh) (Extension minor_seventh (p 13))
    ∷ part (is_flat2 k) (Sus minor_second)
    ∷ part (is_second k) (Sus major_second)
    ∷ part (is_sharp4 k) (Sus augmented_fourth)
    ∷ part (omit3 n k) (Omit major_third (p 0))
    ∷ part (omit5 n) (Omit perfect_fifth (p 1))
    ∷ part (n major_second) (Add major_second (p 2))
    ∷ part (n major_third && (is_sus k || n diminished_seventh)) (Add major_third (p 4))
    ∷ part (n perfect_fourth) (Add perfect_fourth (p 5))
    ∷ part (n minor_sixth) (Add minor_sixth (p 10))
    ∷ part (n major_sixth) (Add major_sixth (p 11))
    ∷ part (n major_seventh) (Add major_seventh (p 14))
    ∷ part (n flat_ninth && not (is_flat2 k)) (Add flat_ninth (p 16))
    ∷ part (n ninth && not (is_second k)) (Add ninth (p 17))
    ∷ part (n sharp_ninth) (Add sharp_ninth (p 18))
    ∷ part (n eleventh) (Add eleventh (p 19))
    ∷ part (n sharp_eleventh && not (is_sharp4 k)) (Add sharp_eleventh (p 20))
    ∷ part (n flat_thirteenth) (Add flat_thirteenth (p 21))
    ∷ part (n thirteenth) (Add thirteenth (p 22))
    ∷ part (is_some b) (SlashBass (note_or_c b))
    ∷ []

abbrev pub spell_exps : (ℕ → ℕ) → OptionalNote → Set → SusKind → List Exp
spell_exps p b n k = select (parts p b n k)
