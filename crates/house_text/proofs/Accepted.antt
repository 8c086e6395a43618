-- The spelled expressions of every N and K pass the checks that validation makes of expressions: no wrong target, no kind of expression twice,
-- no extension at fault. Each check is carried from the selected parts to their conditions, where the parts that it does not see compute
-- away; what is left is a law on a few members of N.
-- Assumes nothing.
use mathlib.Core.Bool.{Bool, true, false, ◌&&◌, ◌||◌, cond}
use mathlib.Core.List.{List, [], ◌∷◌}
use mathlib.Core.Path.{◌≡◌, refl, ap, ap₂}
use Prim.Native.Nat.{ℕ, zero, suc, ◌+◌, ◌≤◌}
use native.Mathlib.Omega.{arith}
use lib.Dec.{T, eqb, leb, leb→le}
use borrow.Author.Tests.{le-ltb}
use Rattle.intervals.specs.Interval.{elem, Set, empty, insert, semitones}
use Rattle.note.specs.Note.{OptionalNote}
use Rattle.expression.specs.declared.expression.Exp.TheVariants.{Power, Bass, Maj, Maj7, Minor, HalfDim, Dim, Dim7, Alt, Aug, Sus, Extension, Add, Omit, SlashBass}
use Rattle.expression.specs.declared.expression.Exp.{Exp}
use Rattle.expression.specs.declared.parser_error.ParserError.TheVariants.{DuplicateModifier, DuplicateExtension, InvalidExtension}
use Rattle.validator.specs.Validator.{bad_extensions, times_of, extension_fault, fault_of, first_from, first_wrong, is_nil, only, or_else, priority_of, repeated, repeated_at, seeing, wrong_of}
use Rattle.house_parts.specs.House.{Part, part, parts, select, spell_exps}
use Rattle.house_parts.specs.declared.kind.SusKind.TheVariants.{Plain, Flat2, Second, Sharp4}
use Rattle.house_parts.specs.declared.kind.SusKind.{SusKind}
use Rattle.house_text.proofs.Allowed.{nil}
use Rattle.house_parts.proofs.Bools.{and_left, and_right}

-- no part has a wrong target
abbrev right_parts : List Part → Bool
right_parts [] = true
right_parts (part c e ∷ gs) = is_nil (wrong_of e) && right_parts gs

-- then nothing that is selected has one
right_select : (gs : List Part) → T (right_parts gs) → first_wrong (select gs) ≡ []
unfolding first_wrong
right_select [] t = refl
right_select (part true e ∷ gs) t =
    ap₂ or_else (nil (wrong_of e) (and_left (is_nil (wrong_of e)) (right_parts gs) t)) (right_select gs (and_right (is_nil (wrong_of e)) (right_parts gs) t))
right_select (part false e ∷ gs) t = right_select gs (and_right (is_nil (wrong_of e)) (right_parts gs) t)

-- the spelled expressions name no wrong target
pub no_wrong : (p : ℕ → ℕ) (b : OptionalNote) (n : Set) (k : SusKind) → first_wrong (spell_exps p b n k) ≡ []
no_wrong p b n k = right_select (parts p b n k) tt

-- a Sus, of which there are three parts, with one of them selected at most
abbrev is_sus_exp : Exp → Bool
is_sus_exp e = eqb (priority_of e) 7

-- how many parts of the priority q there are at most: a Sus counts where its condition holds, any other part always
abbrev most_parts : List Part → ℕ → ℕ
most_parts [] q = 0
most_parts (part c e ∷ gs) q = cond (eqb (priority_of e) q) (cond (is_sus_exp e) (cond c 1 0) 1) 0 + most_parts gs q

-- a part that is selected counts, whether a Sus or not
count-one : (m u : Bool) → cond m 1 0 ≤ cond m (cond u 1 1) 0
count-one true true = omega arith
count-one true false = omega arith
count-one false u = omega arith

-- what is selected has no more
count_most : (gs : List Part) (q : ℕ) → times_of (select gs) q ≤ most_parts gs q
unfolding times_of
count_most [] q = omega arith
count_most (part true e ∷ gs) q =
    let r = count_most gs q in
    let o = count-one (eqb (priority_of e) q) (is_sus_exp e) in
    omega (arith, r, o)
count_most (part false e ∷ gs) q =
    let r = count_most gs q in
    omega (arith, r)

-- no number of the n from i on is above 1
abbrev few_from : (ℕ → ℕ) → ℕ → ℕ → Bool
few_from most zero i = true
few_from most (suc n) i = leb (most i) 1 && few_from most n (suc i)

-- then nothing is repeated
few-none : (counts most : ℕ → ℕ) → ((q : ℕ) → counts q ≤ most q) → (n i : ℕ) → T (few_from most n i) → first_from (repeated_at counts) n i ≡ []
unfolding first_from
few-none counts most h zero i t = refl
few-none counts most h (suc n) i t =
    let a = h i in
    let c = leb→le (most i) 1 (and_left (leb (most i) 1) (few_from most n (suc i)) t) in
    let d : counts i ≤ 1 = omega (arith, a, c) in
    ap₂ or_else (ap (λ (b : Bool). only b (DuplicateModifier i)) (le-ltb 1 (counts i) d)) (few-none counts most h n (suc i) (and_right (leb (most i) 1) (few_from most n (suc i)) t))

-- the parts have at most one of each priority below 15, whatever N is
few-parts : (p : ℕ → ℕ) (b : OptionalNote) (n : Set) (k : SusKind) → T (few_from (most_parts (parts p b n k)) 15 0)
few-parts p b n Plain = tt
few-parts p b n Flat2 = tt
few-parts p b n Second = tt
few-parts p b n Sharp4 = tt

-- the spelled expressions repeat no priority
pub no_repeat : (p : ℕ → ℕ) (b : OptionalNote) (n : Set) (k : SusKind) → repeated (spell_exps p b n k) ≡ []
no_repeat p b n k = few-none (times_of (spell_exps p b n k)) (most_parts (parts p b n k)) (count_most (parts p b n k)) 15 0 (few-parts p b n k)

-- no part is at fault, even where all parts before it are selected
abbrev clean_parts : Set → List Part → Bool
clean_parts seen [] = true
clean_parts seen (part c e ∷ gs) = is_nil (fault_of seen e) && clean_parts (seeing seen e) gs

abbrev Within : Set → Set → Type 0
Within s r = (j : ℕ) → T (s j) → T (r j)

-- an expression that is not at fault is not with fewer before it either
less_fault : (s r : Set) → Within s r → (e : Exp) → T (is_nil (fault_of r e)) → fault_of s e ≡ []
less_fault s r w Power t = refl
less_fault s r w Bass t = refl
less_fault s r w Maj t = refl
less_fault s r w Maj7 t = refl
less_fault s r w Minor t = refl
less_fault s r w HalfDim t = refl
less_fault s r w Dim t = refl
less_fault s r w Dim7 t = refl
less_fault s r w Alt t = refl
less_fault s r w Aug t = refl
less_fault s r w (Sus x) t = refl
less_fault s r w (Extension x p) t = go (elem x bad_extensions) (s (semitones x)) (r (semitones x)) (w (semitones x)) t
  where
    go : (bad a b : Bool) → (T a → T b) → T (is_nil (cond bad (InvalidExtension p ∷ []) (only b (DuplicateExtension p))))
        → cond bad (InvalidExtension p ∷ []) (only a (DuplicateExtension p)) ≡ []
    go true a b f u = absurd u
    go false false b f u = refl
    go false true true f u = absurd u
    go false true false f u = absurd (f tt)
less_fault s r w (Add x p) t = refl
less_fault s r w (Omit x p) t = refl
less_fault s r w (SlashBass n) t = refl

-- what either of two has
or_within : (c a b : Bool) → (T a → T b) → T (c || a) → T (c || b)
or_within true a b f t = tt
or_within false a b f t = f t

or_second : (c b : Bool) → T b → T (c || b)
or_second true b t = tt
or_second false b t = t

-- seeing the same expression, the sets stay one within the other
both_see : (s r : Set) → Within s r → (e : Exp) → Within (seeing s e) (seeing r e)
unfolding insert
both_see s r w Power = w
both_see s r w Bass = w
both_see s r w Maj = w
both_see s r w Maj7 = w
both_see s r w Minor = w
both_see s r w HalfDim = w
both_see s r w Dim = w
both_see s r w Dim7 = w
both_see s r w Alt = w
both_see s r w Aug = w
both_see s r w (Sus x) = w
both_see s r w (Extension x p) = λ j t. or_within (eqb (semitones x) j) (s j) (r j) (w j) t
both_see s r w (Add x p) = w
both_see s r w (Omit x p) = w
both_see s r w (SlashBass n) = w

-- and so where only the larger one sees it
one_sees : (s r : Set) → Within s r → (e : Exp) → Within s (seeing r e)
unfolding insert
one_sees s r w Power = w
one_sees s r w Bass = w
one_sees s r w Maj = w
one_sees s r w Maj7 = w
one_sees s r w Minor = w
one_sees s r w HalfDim = w
one_sees s r w Dim = w
one_sees s r w Dim7 = w
one_sees s r w Alt = w
one_sees s r w Aug = w
one_sees s r w (Sus x) = w
one_sees s r w (Extension x p) = λ j t. or_second (eqb (semitones x) j) (r j) (w j t)
one_sees s r w (Add x p) = w
one_sees s r w (Omit x p) = w
one_sees s r w (SlashBass n) = w

-- nothing that is selected is at fault
clean-select : (gs : List Part) (s r : Set) → Within s r → T (clean_parts r gs) → extension_fault s (select gs) ≡ []
unfolding extension_fault
clean-select [] s r w t = refl
clean-select (part true e ∷ gs) s r w t =
    ap₂ or_else (less_fault s r w e (and_left (is_nil (fault_of r e)) (clean_parts (seeing r e) gs) t))
    (clean-select gs (seeing s e) (seeing r e) (both_see s r w e) (and_right (is_nil (fault_of r e)) (clean_parts (seeing r e) gs) t))
clean-select (part false e ∷ gs) s r w t =
    clean-select gs s (seeing r e) (one_sees s r w e) (and_right (is_nil (fault_of r e)) (clean_parts (seeing r e) gs) t)

-- the spelled expressions have no extension at fault: b5, #5 and 7 have different semitones
pub no_fault : (p : ℕ → ℕ) (b : OptionalNote) (n : Set) (k : SusKind) → extension_fault empty (spell_exps p b n k) ≡ []
unfolding insert
no_fault p b n k = clean-select (parts p b n k) empty empty (λ j t. t) tt

-- the three together
pub spelled_valid : (p : ℕ → ℕ) (b : OptionalNote) (n : Set) (k : SusKind)
    → (first_wrong (spell_exps p b n k) ≡ []) × (repeated (spell_exps p b n k) ≡ []) × (extension_fault empty (spell_exps p b n k) ≡ [])
spelled_valid p b n k = (no_wrong p b n k, no_repeat p b n k, no_fault p b n k)
