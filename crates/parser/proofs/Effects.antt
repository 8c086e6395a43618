-- The effect of a token: how much it gains, and that it fits the state, from the tokens ahead that the token asks for.
use mathlib.Core.Bool.{Bool, true, false, cond}
use mathlib.Core.List.{List}
use mathlib.Core.Path.{◌≡◌, refl, sym, ap, subst, ◌∙◌}
use Prim.Native.Nat.{ℕ, ◌+◌, ◌-◌, ◌≤◌}
use native.Mathlib.Omega.{arith}
use lib.ListN.{length, take, drop}
use Rattle.std.specs.Prelude.{Option}
use Rattle.std.specs.Option.{unwrap_or}
use Rattle.std.proofs.lemmas.List.{take_rest}
use Rattle.std.specs.declared.option.Option.TheVariants as optional
use Rattle.note.specs.Note.{OptionalNote}
use Rattle.note.specs.declared.RootModifier.TheVariants.{Sharp, Flat}
use Rattle.expression.specs.ParserError.{all_numbers, numbers_of}
use Rattle.expression.specs.declared.expression.Exp.{Exp}
use Rattle.step.proofs.Laws.{inside-small}
use Rattle.step.specs.Bounds.{Small, gains_count}
use Rattle.step.specs.Step.{add_step, aug_step, hyphen_step, inside_of, modifier_step, omit_step, slash_step, step_of, sus_step}
use Rattle.step.specs.declared.effect.Effect.{Effect}
use Rattle.step.specs.declared.effect.Gains.TheVariants.{None, One, Two}
use Rattle.step.specs.declared.effect.Gains.{Gains}
use Rattle.step.specs.declared.effect.Here.{Here}
use Rattle.step.specs.Effect.{OptionalError}
use Rattle.lookahead.specs.Next.{is_sign}
use Rattle.lookahead.specs.declared.Ahead.{Ahead}
use Rattle.lookahead.specs.declared.Next.{Next}
use Rattle.token.specs.Token.{at, type_of}
use Rattle.token.specs.declared.Token.{Token}
use Rattle.token.specs.declared.Bracket.TheVariants.{Opens, Closes, Ends, Other}
use Rattle.token.specs.declared.Bracket.{Bracket}
use Rattle.token.specs.declared.TokenType.TheVariants as type
use Rattle.token.specs.declared.TokenType.{TokenType}
use Rattle.parser.specs.Parser.{ahead_of, bracket_of, error_of, gains_of, itself, root_effect}
use Rattle.parser.specs.State.{Fits, Foreseen, Ready, bracket_by, effect_in, here_in, start}
use Rattle.parser.specs.declared.state.State.{State}

pub gains-length : (g : Gains) → length (gains_of g) ≡ gains_count g
gains-length None = refl
gains-length (One e) = refl
gains-length (Two e f) = refl

-- an effect has one error or none
pub error_most : (e : OptionalError) → length (error_of itself e) ≤ 1
error_most optional.None = omega arith
error_most (optional.Some e) = omega arith

-- its numbers
pub error_coded : (e : OptionalError) → all_numbers (error_of itself e) ≡ error_of numbers_of e
error_coded optional.None = refl
error_coded (optional.Some e) = refl

-- the effect of a token fits the state
fits_small : {h : Here} {e : Effect} {st : State} → Small h e → h.context ≡ st.context → h.count ≡ st.count → Fits st e
fits_small {h} {e} {st} s c d = record { gained = rw (← c) s.gained; counted = rw (← d) s.counted; taken = s.taken }

-- a token has the same effect before all tokens ahead that tell it what it asks for
told_step : (k : TokenType) (h : Here) (x y : Ahead) → Foreseen k y x → step_of k h x ≡ step_of k h y
told_step (type.Note l) h x y f = refl
told_step type.Sharp h x y f = ap (modifier_step Sharp h) f
told_step type.Flat h x y f = ap (modifier_step Flat h) f
told_step type.Aug h x y f = ap (aug_step h) f
told_step type.Dim h x y f = refl
told_step type.Dim7 h x y f = refl
told_step type.HalfDim h x y f = refl
told_step (type.Extension m) h x y f = refl
told_step type.Add h x y f = ap (add_step h) f
told_step type.Omit h x y f = ap (omit_step h) f
told_step type.Alt h x y f = refl
told_step type.Sus h x y f = ap (sus_step h) f
told_step type.Minor h x y f = refl
told_step type.Hyphen h x y f = ap (hyphen_step h) f
told_step type.Maj h x y f = refl
told_step type.Maj7 h x y f = refl
told_step type.Slash h x y f = ap (slash_step h) f
told_step type.LParent h x y f = refl
told_step type.RParent h x y f = refl
told_step type.Comma h x y f = refl
told_step type.Bass h x y f = refl
told_step type.Illegal h x y f = refl
told_step type.Eof h x y f = refl

-- between brackets too
told : (b : Bracket) (q : ℕ) (k : TokenType) (h : Here) (x y : Ahead) → Foreseen k y x → inside_of b q k h x ≡ inside_of b q k h y
told Opens q k h x y f = refl
told Closes q k h x y f = refl
told Ends q k h x y f = refl
told Other q k h x y f = told_step k h x y f

-- what the token step decides of the token at st, from the tokens behind it, is its effect, and fits the state
pub effect_at_lem : (ts : List Token) (xs : List Exp) (st : State) (inside : Option ℕ) {b : Bracket} {q : ℕ} {k : TokenType} {h : Here} (a : Ahead) {r : Effect}
    → b ≡ bracket_by inside (bracket_of (at ts st.at)) → q ≡ unwrap_or inside 0 → k ≡ type_of (at ts st.at).kind → h ≡ here_in (at ts st.at) xs st
    → Foreseen k (ahead_of (take (length ts - (st.at + 1)) (drop (st.at + 1) ts))) a → r ≡ inside_of b q k h a
    → (r ≡ effect_in ts xs st inside) × Fits st r
effect_at_lem ts xs st inside {b} {q} {k} {h} a {r} eb eq ek eh ea er =
    let rest = drop (st.at + 1) ts in
    let t = told b q k h a _ (subst (λ (l : List Token). Foreseen k (ahead_of l) a) (take_rest ts (st.at + 1)) ea) in
    let e : r ≡ effect_in ts xs st inside = er ∙ t ∙ (λ i. inside_of (eb i) (eq i) (ek i) (eh i) (ahead_of rest)) in
    let s = inside-small (bracket_by inside (bracket_of (at ts st.at))) (unwrap_or inside 0) (type_of (at ts st.at).kind) (here_in (at ts st.at) xs st) (ahead_of rest) in
    (e, subst (Fits st) (sym e) (fits_small s refl refl))

-- before the first token the bounds hold
pub ready-start : Ready start
ready-start = record { small = omega arith; few = omega arith; fewer = omega arith; bound = omega arith; errs = omega arith; exps = omega arith }

-- the effect of the root, which is the first token, fits that state
pub fits_root : (n : OptionalNote) (nx : Next) {e : Effect} → e ≡ root_effect n nx → Fits start e
fits_root n nx {e} h = subst (Fits start) (sym h) (by n)
  where
    sign : (b : Bool) → cond b 1 0 ≤ 2
    sign true = omega arith
    sign false = omega arith

    by : (m : OptionalNote) → Fits start (root_effect m nx)
    by (optional.Some m) = record { gained = omega arith; counted = omega arith; taken = sign (is_sign nx) }
    by optional.None = record { gained = omega arith; counted = omega arith; taken = omega arith }
