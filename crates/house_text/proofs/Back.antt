-- What is evaluated, spelled and evaluated again has the same K, the same slash bass and the same set. K and the bass of selected parts are
-- read off the conditions: at a written-out expression, a part that says nothing of them computes away.
-- Assumes nothing.
use mathlib.Core.Bool.{Bool, true, false, not, ◌&&◌, cond}
use mathlib.Core.List.{List, [], ◌∷◌}
use mathlib.Core.Path.{◌≡◌, refl, ◌∙◌, ap}
use Prim.Native.Nat.{ℕ, zero, suc, ◌<◌}
use lib.Dec.{T}
use Rattle.intervals.specs.Interval.{Set, minor_third, major_third}
use Rattle.std.specs.declared.option.Option.TheVariants as optional
use Rattle.note.specs.Note.{OptionalNote}
use Rattle.display.specs.Display.{first_sus, sus_of}
use Rattle.evaluator.specs.Evaluator.{bass_of, eval_set, slash_bass, fold_left}
use Rattle.expression.specs.declared.expression.Exp.TheVariants.{Power, Bass, Maj, Maj7, Minor, HalfDim, Dim, Dim7, Alt, Aug, Sus, Extension, Add, Omit, SlashBass}
use Rattle.expression.specs.declared.expression.Exp.{Exp}
use Rattle.house_parts.specs.House.{Part, part, is_some, kind_of, parts, select, spell_exps}
use Rattle.house_parts.specs.declared.kind.SusKind.TheVariants.{Plain, Flat2, Second, Sharp4}
use Rattle.house_parts.specs.declared.kind.SusKind.{SusKind}
use Rattle.house_text.proofs.Struct.{allowed}
use Rattle.house_text.proofs.Invariants.{struct}
use Rattle.house_text.proofs.Round.{table, round, round_at}

-- either way the same
both : {A : Type 0} (c : Bool) (a : A) → a ≡ cond c a a
both true a = refl
both false a = refl

abbrev is_zero : ℕ → Bool
is_zero zero = true
is_zero (suc x) = false

-- an expression that is no Sus: it leaves 0 as it is, and 1
abbrev silent : Exp → Bool
silent e = is_zero (sus_of e 0) && not (is_zero (sus_of e 1))

-- the first Sus among the selected parts
abbrev sus_parts : List Part → ℕ
sus_parts [] = 0
sus_parts (part c e ∷ gs) = cond (silent e) (sus_parts gs) (cond c (sus_of e (sus_parts gs)) (sus_parts gs))

-- a Sus does not, since no number is 0 and not 0
never : (x k : ℕ) → x ≡ cond (is_zero x && not (is_zero x)) k x
never zero k = refl
never (suc x) k = refl

-- an expression that is selected
sus-at : (e : Exp) (k : ℕ) → sus_of e k ≡ cond (silent e) k (sus_of e k)
sus-at Power k = refl
sus-at Bass k = refl
sus-at Maj k = refl
sus-at Maj7 k = refl
sus-at Minor k = refl
sus-at HalfDim k = refl
sus-at Dim k = refl
sus-at Dim7 k = refl
sus-at Alt k = refl
sus-at Aug k = refl
sus-at (Sus x) k = never x k
sus-at (Extension x p) k = refl
sus-at (Add x p) k = refl
sus-at (Omit x p) k = refl
sus-at (SlashBass n) k = refl

-- the first Sus of what is selected
sus-select : (gs : List Part) → first_sus (select gs) ≡ sus_parts gs
sus-select [] = refl
sus-select (part true e ∷ gs) = ap (sus_of e) (sus-select gs) ∙ sus-at e (sus_parts gs)
sus-select (part false e ∷ gs) = sus-select gs ∙ both (silent e) (sus_parts gs)

-- the spelled expressions have the K that was spelled
pub kind-back : (p : ℕ → ℕ) (b : OptionalNote) (n : Set) (k : SusKind) → kind_of (first_sus (spell_exps p b n k)) ≡ k
kind-back p b n Plain = ap kind_of (sus-select (parts p b n Plain))
kind-back p b n Flat2 = ap kind_of (sus-select (parts p b n Flat2))
kind-back p b n Second = ap kind_of (sus-select (parts p b n Second))
kind-back p b n Sharp4 = ap kind_of (sus-select (parts p b n Sharp4))

-- an expression that sets a slash bass
abbrev slashes : Exp → Bool
slashes e = is_some (bass_of optional.None e)

-- the slash bass of the selected parts, going on from b
abbrev bass_parts : OptionalNote → List Part → OptionalNote
bass_parts b [] = b
bass_parts b (part c e ∷ gs) = bass_parts (cond (slashes e) (cond c (bass_of b e) b) b) gs

-- an expression that is selected
bass-at : (b : OptionalNote) (e : Exp) → bass_of b e ≡ cond (slashes e) (bass_of b e) b
bass-at b Power = refl
bass-at b Bass = refl
bass-at b Maj = refl
bass-at b Maj7 = refl
bass-at b Minor = refl
bass-at b HalfDim = refl
bass-at b Dim = refl
bass-at b Dim7 = refl
bass-at b Alt = refl
bass-at b Aug = refl
bass-at b (Sus x) = refl
bass-at b (Extension x p) = refl
bass-at b (Add x p) = refl
bass-at b (Omit x p) = refl
bass-at b (SlashBass n) = refl

-- the slash bass of what is selected
bass-select : (gs : List Part) (b : OptionalNote) → fold_left bass_of b (select gs) ≡ bass_parts b gs
bass-select [] b = refl
bass-select (part true e ∷ gs) b = bass-select gs (bass_of b e) ∙ ap (λ (a : OptionalNote). bass_parts a gs) (bass-at b e)
bass-select (part false e ∷ gs) b = bass-select gs b ∙ ap (λ (a : OptionalNote). bass_parts a gs) (both (slashes e) b)

-- the spelled expressions have the slash bass that was spelled
pub bass-back : (p : ℕ → ℕ) (b : OptionalNote) (n : Set) (k : SusKind) → slash_bass (spell_exps p b n k) ≡ b
bass-back p optional.None n k = bass-select (parts p optional.None n k) optional.None
bass-back p (optional.Some a) n k = bass-select (parts p (optional.Some a) n k) optional.None

-- the set of allowed expressions, spelled with their K and evaluated again, where the two thirds are not both there
pub back : (p : ℕ → ℕ) (b : OptionalNote) (l : List Exp) → T (allowed l) → T (not (eval_set l minor_third && eval_set l major_third))
    → table (eval_set (spell_exps p b (eval_set l) (kind_of (first_sus l)))) ≡ table (eval_set l)
back p b l o v = round p b (eval_set l) (kind_of (first_sus l)) (struct l o) v

-- and at each member
pub back_at : (p : ℕ → ℕ) (b : OptionalNote) (l : List Exp) → T (allowed l) → T (not (eval_set l minor_third && eval_set l major_third))
    → (j : ℕ) → j < 23 → eval_set (spell_exps p b (eval_set l) (kind_of (first_sus l))) j ≡ eval_set l j
back_at p b l o v = round_at p b (eval_set l) (kind_of (first_sus l)) (struct l o) v
