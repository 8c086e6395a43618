-- From expressions to intervals: the stages in the order and with the names of `Evaluator::evaluate`, up to `prune`. "The stages run as
-- `Evaluator::evaluate` lists them". Where the Rust pushes to `alts`, `omits` or `adds`, the list of what an expression pushes is given.
use Rattle.std.specs.Prelude.{Bool, true, false, ◌&&◌, ◌||◌, cond, List, [], ◌∷◌, ℕ, max, eqb, leb}
use Rattle.intervals.specs.Interval.{elem, Set, empty, insert, remove, remove_then_add, unison, minor_second, major_second, minor_third, major_third, perfect_fourth, augmented_fourth, diminished_fifth, perfect_fifth, augmented_fifth, minor_sixth, major_sixth, diminished_seventh, minor_seventh, major_seventh, flat_ninth, ninth, sharp_ninth, eleventh, sharp_eleventh, flat_thirteenth, thirteenth}
use Rattle.std.specs.declared.option.Option.TheVariants as optional
use Rattle.note.specs.Note.{OptionalNote}
use Rattle.expression.specs.Expression.{on_add, on_extension, on_omit, on_slash_bass, on_sus, on_word}
use Rattle.expression.specs.declared.expression.Exp.TheVariants.{Power, Bass, Maj, Maj7, Minor, HalfDim, Dim, Dim7, Alt, Aug}
use Rattle.expression.specs.declared.expression.Exp.{Exp}
use Rattle.evaluator.specs.declared.ast.BaseForm.TheVariants as form
use Rattle.evaluator.specs.declared.ast.BaseForm.{BaseForm}

-- a list from left to right, and one member of a list with a property
abbrev pub fold_left {ℓ κ} : {A : Type ℓ} {B : Type κ} → (B → A → B) → B → List A → B
fold_left f b [] = b
fold_left f b (a ∷ l) = fold_left f (f b a) l

abbrev pub any {ℓ} : {A : Type ℓ} → (A → Bool) → List A → Bool
any f [] = false
any f (a ∷ l) = f a || any f l

-- `seed_defaults`
abbrev pub seed : Set
seed = insert (insert (insert empty unison) major_third) perfect_fifth

-- `evaluate_expressions`: what an expression does to the set at once
abbrev pub direct : Set → Exp → Set
direct s e =
    on_extension
    (on_word s
    ((Bass, remove (remove s perfect_fifth) major_third)
    ∷ (Maj7, insert s major_seventh)
    ∷ (Alt, insert s minor_seventh)
    ∷ []) e)
    (λ x p. cond (elem x (major_sixth ∷ minor_sixth ∷ minor_seventh ∷ [])) (insert s x) s) e

-- what it pushes to `alts`
abbrev pub alterations : List ℕ
alterations =
    perfect_fourth ∷ augmented_fourth ∷ diminished_fifth ∷ augmented_fifth ∷ flat_ninth ∷ sharp_ninth ∷ sharp_eleventh ∷ flat_thirteenth
    ∷ minor_seventh ∷ []

abbrev pub alts_of : Exp → List ℕ
alts_of e =
    on_sus
    (on_extension
    (on_word []
    ((Alt, flat_ninth ∷ sharp_ninth ∷ sharp_eleventh ∷ flat_thirteenth ∷ [])
    ∷ (Aug, augmented_fifth ∷ [])
    ∷ []) e)
    (λ x p. cond (elem x alterations) (x ∷ []) []) e)
    (λ x. cond (eqb x augmented_fourth) (sharp_eleventh ∷ [])
    (cond (eqb x minor_second) (flat_ninth ∷ []) (cond (eqb x major_second) (ninth ∷ []) []))) e

-- to `omits`
abbrev pub omits_of : Exp → List ℕ
omits_of e = on_sus (on_omit (on_word [] ((Alt, perfect_fifth ∷ []) ∷ []) e) (λ x p. x ∷ []) e) (λ x. major_third ∷ []) e

-- to `adds`
abbrev pub adds_of : Exp → List ℕ
adds_of e = on_add [] (λ x p. x ∷ []) e

-- is it a Sus with the fourth, which becomes `sus`; is it Maj or Maj7, as `implied_seventh` asks
abbrev pub is_sus4 : Exp → Bool
is_sus4 e = on_sus false (λ x. eqb x perfect_fourth) e

abbrev pub is_maj : Exp → Bool
is_maj e = on_word false ((Maj, true) ∷ (Maj7, true) ∷ []) e

-- an extension 9, 11 or 13, else 0; the largest is `max_extension`
abbrev pub ext_of : Exp → ℕ
ext_of e = on_extension 0 (λ x p. cond (elem x (ninth ∷ eleventh ∷ thirteenth ∷ [])) x 0) e

-- the base form that it asks for
abbrev pub form_of : Exp → BaseForm
form_of e =
    on_word form.Major
    ((Power, form.Power) ∷ (Minor, form.Minor) ∷ (HalfDim, form.HalfDim) ∷ (Dim, form.Dim) ∷ (Dim7, form.Dim7) ∷ []) e

-- the slash bass that it sets
abbrev pub bass_of : OptionalNote → Exp → OptionalNote
bass_of b e = on_slash_bass b optional.Some e

-- `BaseForm::transition`: the form with the higher `priority` stays
abbrev pub priority : BaseForm → ℕ
priority form.Major = 0
priority form.HalfDim = 1
priority form.Minor = 2
priority form.Dim = 3
priority form.Dim7 = 4
priority form.Power = 5

abbrev pub transition : BaseForm → BaseForm → BaseForm
transition f g = cond (leb (priority g) (priority f)) f g

abbrev pub form_at : BaseForm → Exp → BaseForm
form_at f e = transition f (form_of e)

abbrev pub ext_at : ℕ → Exp → ℕ
ext_at n e = max n (ext_of e)

abbrev pub base_form : List Exp → BaseForm
base_form l = fold_left form_at form.Major l

abbrev pub max_ext : List Exp → ℕ
max_ext l = fold_left ext_at 0 l

-- `apply_base_form`
abbrev pub apply_form : BaseForm → Set → Set
apply_form form.Major s = s
apply_form form.Power s = remove s major_third
apply_form form.Minor s = remove_then_add s major_third minor_third
apply_form form.Dim s = remove_then_add (remove_then_add s major_third minor_third) perfect_fifth diminished_fifth
apply_form form.HalfDim s = insert (remove_then_add (remove_then_add s major_third minor_third) perfect_fifth diminished_fifth) minor_seventh
apply_form form.Dim7 s = insert (remove_then_add (remove_then_add s major_third minor_third) perfect_fifth diminished_fifth) diminished_seventh

-- `apply_sus`
abbrev pub remove_thirds : Set → Set
remove_thirds s = remove (remove s minor_third) major_third

abbrev pub apply_sus : Bool → Set → Set
apply_sus true s = insert (remove_thirds s) perfect_fourth
apply_sus false s = s

-- `apply_alterations`, one
abbrev pub alter : Set → ℕ → Set
alter s x = cond (elem x (diminished_fifth ∷ augmented_fifth ∷ flat_thirteenth ∷ [])) (remove_then_add s perfect_fifth x) (insert s x)

-- `implied_extensions`: x unless one of those that conflict with it by `EQUIVALENCE_MAP` is there
abbrev pub is_major : BaseForm → Bool
is_major form.Major = true
is_major form.Minor = false
is_major form.Dim = false
is_major form.HalfDim = false
is_major form.Dim7 = false
is_major form.Power = false

abbrev pub imply : ℕ → List ℕ → Set → Set
imply x conflicts s = cond (any s conflicts) s (insert s x)

abbrev pub imply9 : Set → Set
imply9 s = imply ninth (flat_ninth ∷ sharp_ninth ∷ []) s

abbrev pub imply11 : Set → Set
imply11 s = imply eleventh (sharp_eleventh ∷ []) s

abbrev pub imply7 : Bool → Set → Set
imply7 true s = insert s major_seventh
imply7 false s = imply minor_seventh (diminished_seventh ∷ []) s

abbrev pub implied13 : Bool → Set → Set
implied13 major s = cond major (insert s thirteenth) (imply11 (insert s thirteenth))

abbrev pub implied11 : Bool → Set → Set
implied11 major s = cond major (remove_then_add s major_third perfect_fourth) (insert s eleventh)

abbrev pub implied9 : Bool → Set → Set
implied9 maj s = cond (s major_sixth || s minor_sixth) (insert s ninth) (imply7 maj (insert s ninth))

abbrev pub implied : ℕ → Bool → Bool → Set → Set
implied ext major maj s =
    cond (eqb ext thirteenth) (imply7 maj (imply9 (implied13 major s)))
    (cond (eqb ext eleventh) (imply7 maj (imply9 (implied11 major s)))
    (cond (eqb ext ninth) (implied9 maj s)
    s))

-- `apply_omits`, one
abbrev pub omit : Set → ℕ → Set
omit s x = cond (eqb x perfect_fifth) (remove (remove (remove s perfect_fifth) augmented_fifth) diminished_fifth)
    (cond (eqb x major_third) (remove_thirds s) s)

-- `apply_adds`, one
abbrev pub add : Set → ℕ → Set
add s x = insert (cond (eqb x flat_thirteenth) (remove s perfect_fifth) s) x

-- `prune`
abbrev pub prune6 : Set → Set
prune6 s = cond (s major_sixth) (remove s thirteenth) s

abbrev pub prune11 : Set → Set
prune11 s = cond (s major_third && s eleventh) (remove_then_add s eleventh perfect_fourth) s

-- the stages over a list of expressions: alterations, omits and adds in the order in which they were pushed
abbrev pub alter_by : Set → Exp → Set
alter_by s e = fold_left alter s (alts_of e)

abbrev pub omit_by : Set → Exp → Set
omit_by s e = fold_left omit s (omits_of e)

abbrev pub add_by : Set → Exp → Set
add_by s e = fold_left add s (adds_of e)

-- the normalized set of a list of expressions
abbrev pub eval_set : List Exp → Set
eval_set l =
    prune11 (prune6
    (fold_left add_by
    (fold_left omit_by
    (implied (max_ext l) (is_major (base_form l)) (any is_maj l)
    (fold_left alter_by
    (apply_sus (any is_sus4 l)
    (apply_form (base_form l)
    (fold_left direct seed l)))
    l))
    l)
    l))

-- its slash bass: the last one
abbrev pub slash_bass : List Exp → OptionalNote
slash_bass l = fold_left bass_of optional.None l
