-- Where the expressions are allowed: of what the parser gives, each is `Sound` (`expressions_sound` of the parser), and if validation found no
-- wrong target, each Add and Omit names what it may. One expression at a time, then the list.
-- Assumes nothing.
use mathlib.Core.Bool.{Bool, true, false, not}
use mathlib.Core.List.{List, [], ◌∷◌}
use mathlib.Core.Path.{◌≡◌, refl, sym, subst}
use Prim.Native.Nat.{ℕ}
use lib.Dec.{T, eqb, ltb, lt→ltb}
use Rattle.intervals.specs.Interval.{elem}
use Rattle.expression.specs.declared.expression.Exp.TheVariants.{Power, Bass, Maj, Maj7, Minor, HalfDim, Dim, Dim7, Alt, Aug, Sus, Extension, Add, Omit, SlashBass}
use Rattle.expression.specs.declared.expression.Exp.{Exp}
use Rattle.expression.specs.declared.parser_error.ParserError.TheVariants.{WrongExpressionTarget}
use Rattle.expression.specs.declared.parser_error.ParserError.{ParserError}
use Rattle.expression.specs.Bounds.{Sound}
use Rattle.validator.specs.Validator.{add_targets, first_wrong, is_nil, omit_targets, only, or_else, wrong_of}
use Rattle.house_parts.proofs.Bools.{both_pass}
use Rattle.house_text.proofs.Struct.{allowed, allows}

-- a list that passes the test has nothing
pub nil : (l : List ParserError) → T (is_nil l) → l ≡ []
nil [] t = refl
nil (x ∷ l) t = absurd t

-- no error, so the target is right
target_right : (b : Bool) (p : ℕ) → only (not b) (WrongExpressionTarget p) ≡ [] → T b
target_right true p e = tt
target_right false p e = absurd (subst (λ (l : List ParserError). T (is_nil l)) (sym e) tt)

-- nothing was found, neither first nor later
pub none_of : (a r : List ParserError) → or_else a r ≡ [] → (a ≡ []) × (r ≡ [])
none_of [] r e = (refl, e)
none_of (x ∷ a) r e = absurd (subst (λ (l : List ParserError). T (is_nil l)) (sym e) tt)

-- a sound expression without a wrong target is allowed
pub allows_of : (e : Exp) → Sound e → wrong_of e ≡ [] → T (allows e)
allows_of Power s w = tt
allows_of Bass s w = tt
allows_of Maj s w = tt
allows_of Maj7 s w = tt
allows_of Minor s w = tt
allows_of HalfDim s w = tt
allows_of Dim s w = tt
allows_of Dim7 s w = tt
allows_of Alt s w = tt
allows_of Aug s w = tt
allows_of (Sus x) s w = lt→ltb x 23 s
allows_of (Extension x p) s w = both_pass (ltb x 23) (not (eqb x 6)) (lt→ltb x 23 s.0) (subst (λ (b : Bool). T (not b)) (sym s.1) tt)
allows_of (Add x p) s w = both_pass (ltb x 23) (elem x add_targets) (lt→ltb x 23 s) (target_right (elem x add_targets) p w)
allows_of (Omit x p) s w = both_pass (ltb x 23) (elem x omit_targets) (lt→ltb x 23 s) (target_right (elem x omit_targets) p w)
allows_of (SlashBass n) s w = tt

-- and so of a list. Sounds says that each is sound; `λ e l s. s` is what the parser's `All Sound` gives for the next argument
pub allowed_of : (Sounds : List Exp → Type 0) → ((e : Exp) (l : List Exp) → Sounds (e ∷ l) → Sound e × Sounds l) → (l : List Exp) → Sounds l → first_wrong l ≡ [] → T (allowed l)
unfolding first_wrong
allowed_of Sounds next [] s w = tt
allowed_of Sounds next (e ∷ l) s w =
    let n = next e l s in
    let o = none_of (wrong_of e) (first_wrong l) w in
    both_pass (allows e) (allowed l) (allows_of e n.0 o.0) (allowed_of Sounds next l n.1 o.1)
