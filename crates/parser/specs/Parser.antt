-- From tokens to expressions: the root, the expressions and the errors of a list of tokens, in one walk over it.
use Rattle.std.specs.Prelude.{Bool, true, false, cond, List, [], ◌∷◌, ◌++◌, ℕ, zero, suc, eqb, ℤ, pos, drop}
use Rattle.intervals.specs.Interval.{major_sixth}
use Rattle.std.specs.declared.option.Option.TheVariants as optional
use Rattle.note.specs.Note.{OptionalNote}
use Rattle.expression.specs.Expression.{on_extension}
use Rattle.expression.specs.declared.expression.Exp.{Exp}
use Rattle.expression.specs.declared.parser_error.ParserError.TheVariants.{MissingRootNote}
use Rattle.expression.specs.declared.parser_error.ParserError.{ParserError}
use Rattle.lookahead.specs.Next.{is_sign, next_of, note_from, sign_in}
use Rattle.step.specs.Effect.{OptionalError}
use Rattle.step.specs.Step.{inside_of, step_of}
use Rattle.step.specs.declared.context.Context.TheVariants as context
use Rattle.step.specs.declared.context.Context.{Context}
use Rattle.step.specs.declared.effect.Effect.{Effect}
use Rattle.step.specs.declared.effect.Gains.TheVariants as gains
use Rattle.step.specs.declared.effect.Gains.{Gains}
use Rattle.step.specs.declared.effect.Here.{Here}
use Rattle.lookahead.specs.declared.Ahead.{Ahead}
use Rattle.lookahead.specs.declared.Next.{Next}
use Rattle.token.specs.Token.{at, bracket_kind, type_of}
use Rattle.token.specs.declared.Token.{Token}
use Rattle.token.specs.declared.Bracket.TheVariants.{Opens, Closes, Ends, Other}
use Rattle.token.specs.declared.Bracket.{Bracket}
use Rattle.token.specs.declared.TokenType.{TokenType}

-- what has been found so far, and how many of the tokens to come are taken already; E is what errors are kept as
pub record Parsing (E : Type 0) : Type 0 where
  pub skip : ℕ
  pub count : ℤ
  pub context : Context
  pub errs : List E
  pub exps : List Exp

abbrev pub skipping : {E : Type 0} → ℕ → Parsing E → Parsing E
skipping n s = record { skip = n; count = s.count; context = s.context; errs = s.errs; exps = s.exps }

abbrev pub blank : {E : Type 0} → Parsing E
blank = record { skip = 0; count = pos 0; context = context.None; errs = []; exps = [] }

abbrev pub gains_of : Gains → List Exp
gains_of gains.None = []
gains_of (gains.One e) = e ∷ []
gains_of (gains.Two e f) = e ∷ f ∷ []

-- is it the extension 6?
abbrev pub is_six : Exp → Bool
is_six e = on_extension false (λ i p. eqb i major_sixth) e

-- is the last one the extension 6? b is the answer where there is none
unfoldable pub last_six : Bool → List Exp → Bool
last_six b [] = b
last_six b (e ∷ es) = last_six (is_six e) es

abbrev pub here_of : {E : Type 0} → Token → Parsing E → Here
here_of t s = record { pos = t.pos; len = t.len; count = s.count; context = s.context; six = last_six false s.exps }

abbrev pub next_at : List Token → ℕ → Next
next_at ts i = next_of (type_of (at ts i).kind)

abbrev pub ahead_of : List Token → Ahead
ahead_of ts = record { first = next_at ts 0; second = next_at ts 1; third = next_at ts 2; pos = (at ts 0).pos; pos2 = (at ts 1).pos }

-- "A bracket reads tokens, and a token may open a bracket inside it": the open brackets are a list of their positions, innermost first
abbrev pub effect_at : List ℕ → TokenType → Here → Ahead → Effect
effect_at [] k h a = step_of k h a
effect_at (q ∷ qs) k h a = inside_of (bracket_kind k) q k h a

abbrev pub opens : Bracket → Bool
opens Opens = true
opens Closes = false
opens Ends = false
opens Other = false

abbrev pub ends : Bracket → Bool
ends Opens = false
ends Closes = true
ends Ends = true
ends Other = false

abbrev pub enter : Bracket → ℕ → List ℕ → List ℕ
enter b p stk = cond (opens b) (p ∷ stk) stk

abbrev pub leave : Bracket → List ℕ → List ℕ
leave b stk = cond (ends b) (drop 1 stk) stk

abbrev pub bracket_of : Token → Bracket
bracket_of t = bracket_kind (type_of t.kind)

-- the open brackets after the token t; as before, where t is taken already
abbrev pub stack_turn : ℕ → List ℕ → Token → List ℕ
stack_turn zero stk t = enter (bracket_of t) t.pos (leave (bracket_of t) stk)
stack_turn (suc n) stk t = stk

-- the root, with its sign
abbrev pub root_of : List Token → OptionalNote
root_of ts = note_from (next_at ts 0) (sign_in (next_at ts 1))

-- "The first token is consumed even when it is no note."
abbrev pub root_effect : OptionalNote → Next → Effect
root_effect (optional.Some n) nx =
    record { taken = cond (is_sign nx) 1 0; count = pos 0; context = context.None; gains = gains.None; error = optional.None }
root_effect optional.None nx =
    record { taken = 0; count = pos 0; context = context.None; gains = gains.None; error = optional.Some MissingRootNote }

-- the walk over the tokens. It never looks at the errors it has found, so what they are kept as is left open: `parse_of` keeps them as they
-- are, and the code as numbers
module _ {E : Type 0} (kept : ParserError → List E) where
  abbrev pub error_of : OptionalError → List E
  error_of optional.None = []
  error_of (optional.Some e) = kept e

  -- a token had the effect e
  abbrev pub applied : Effect → Parsing E → Parsing E
  applied e s =
      record {
        skip = e.taken;
        count = e.count;
        context = e.context;
        errs = s.errs ++ error_of e.error;
        exps = s.exps ++ gains_of e.gains;
      }

  -- what has been found after the token t, before the tokens ts; nothing more, where t is taken already
  abbrev pub token_turn : ℕ → List ℕ → Parsing E → Token → List Token → Parsing E
  token_turn zero stk s t ts = applied (effect_at stk (type_of t.kind) (here_of t s) (ahead_of ts)) s
  token_turn (suc n) stk s t ts = skipping n s

  unfoldable pub walk : List ℕ → Parsing E → List Token → Parsing E
  walk stk s [] = skipping 0 s
  walk stk s (t ∷ ts) = walk (stack_turn s.skip stk t) (token_turn s.skip stk s t ts) ts

  -- from the root on
  abbrev pub parse_by : List Token → Parsing E
  parse_by ts = walk [] (applied (root_effect (root_of ts) (next_at ts 1)) blank) (drop 1 ts)

-- an error by itself
abbrev pub itself : ParserError → List ParserError
itself e = e ∷ []

-- all that is found in the tokens, but for the root
abbrev pub parse_of : List Token → Parsing ParserError
parse_of = parse_by itself
