-- Bookkeeping of contracts between our own functions; no promise of an entry point rests on it.
-- The parser's state as values: what the code's struct and its lent arrays stand for, and what the code keeps true of them.
use Rattle.std.specs.Prelude.{false, Option, List, [], ◌∷◌, ◌++◌, ◌≡◌, ℕ, ◌+◌, ◌*◌, ◌≤◌, ◌<◌, pos, length, take, drop}
use Rattle.std.specs.Int.Signed.{mag}
use Rattle.std.specs.Option.{unwrap_or}
use Rattle.std.specs.declared.option.Option.TheVariants as optional
use Rattle.expression.specs.ParserError.{all_numbers, numbers_of}
use Rattle.expression.specs.declared.expression.Exp.{Exp}
use Rattle.step.specs.Bounds.{gains_count, sus_bit}
use Rattle.step.specs.Step.{inside_of}
use Rattle.step.specs.declared.context.Context.TheVariants as context
use Rattle.step.specs.declared.effect.Effect.{Effect}
use Rattle.step.specs.declared.effect.Here.{Here}
use Rattle.lookahead.specs.declared.Ahead.{Ahead}
use Rattle.token.specs.Token.{Ranged, at, bracket_kind, type_of}
use Rattle.token.specs.declared.Token.{Token}
use Rattle.token.specs.declared.Bracket.TheVariants.{Other}
use Rattle.token.specs.declared.Bracket.{Bracket}
use Rattle.token.specs.declared.TokenType.TheVariants as type
use Rattle.token.specs.declared.TokenType.{TokenType}
use Rattle.parser.specs.Parser.{Parsing, ahead_of, applied, bracket_of, enter, last_six, parse_of, root_of, skipping, walk}
use Rattle.parser.specs.declared.parser.ParseResult.{ParseResult}
use Rattle.parser.specs.declared.state.State.{State}

-- what has been found at st, where the lent lists hold es and xs
abbrev pub view : State → List ℕ → List Exp → Parsing ℕ
view st es xs =
    record { skip = 0; count = st.count; context = st.context; errs = take (4 * st.errors) es; exps = take st.exps xs }

-- what the token step is told of the token t at st
abbrev pub here_in : Token → List Exp → State → Here
here_in t xs st =
    record { pos = t.pos; len = t.len; count = st.count; context = st.context; six = last_six false (take st.exps xs) }

-- the open brackets: the one opened at q and those around it, or none
abbrev pub stack_by : Option ℕ → List ℕ → List ℕ
stack_by (optional.Some q) stk = q ∷ stk
stack_by optional.None stk = []

-- what a token is to the bracket around it, where it is b to one that is open; outside any bracket every token is Other
abbrev pub bracket_by : Option ℕ → Bracket → Bracket
bracket_by (optional.Some q) b = b
bracket_by optional.None b = Other

-- the effect of a token in the bracket opened at q, or outside any bracket
abbrev pub effect_by : Option ℕ → TokenType → Here → Ahead → Effect
effect_by inside k h a = inside_of (bracket_by inside (bracket_kind k)) (unwrap_or inside 0) k h a

-- that of the token at st
abbrev pub effect_in : List Token → List Exp → State → Option ℕ → Effect
effect_in ts xs st inside = effect_by inside (type_of (at ts st.at).kind) (here_in (at ts st.at) xs st) (ahead_of (drop (st.at + 1) ts))

-- r tells of the tokens ahead what a token of that type asks for: nothing, the next one, or all three
abbrev pub Foreseen : TokenType → Ahead → Ahead → Type 0
Foreseen (type.Note l) ahead r = Unit
Foreseen type.Sharp ahead r = r.first ≡ ahead.first
Foreseen type.Flat ahead r = r.first ≡ ahead.first
Foreseen type.Aug ahead r = r.first ≡ ahead.first
Foreseen type.Dim ahead r = Unit
Foreseen type.Dim7 ahead r = Unit
Foreseen type.HalfDim ahead r = Unit
Foreseen (type.Extension n) ahead r = Unit
Foreseen type.Add ahead r = r ≡ ahead
Foreseen type.Omit ahead r = r.first ≡ ahead.first
Foreseen type.Alt ahead r = Unit
Foreseen type.Sus ahead r = r.first ≡ ahead.first
Foreseen type.Minor ahead r = Unit
Foreseen type.Hyphen ahead r = r.first ≡ ahead.first
Foreseen type.Maj ahead r = Unit
Foreseen type.Maj7 ahead r = Unit
Foreseen type.Slash ahead r = r ≡ ahead
Foreseen type.LParent ahead r = Unit
Foreseen type.RParent ahead r = Unit
Foreseen type.Comma ahead r = Unit
Foreseen type.Bass ahead r = Unit
Foreseen type.Illegal ahead r = Unit
Foreseen type.Eof ahead r = Unit

-- the parser's state before the first token
abbrev pub start : State
start = record { at = 0; count = pos 0; context = context.None; errors = 0; exps = 0 }

-- every token that was taken gave at most one error, one expression and one bracket; a sus still owes its expression
pub record Ready (st : State) : Type 0 where
  pub small : st.at ≤ 259
  pub few : st.errors ≤ st.at
  pub fewer : st.exps + sus_bit st.context ≤ st.at
  pub bound : mag st.count ≤ st.at
  pub errs : st.errors ≤ 257
  pub exps : st.exps ≤ 257

-- e is an effect that a token can have on st
pub record Fits (st : State) (e : Effect) : Type 0 where
  pub gained : gains_count e.gains + sus_bit e.context ≤ 1 + sus_bit st.context
  pub counted : mag e.count ≤ mag st.count + 1
  pub taken : e.taken ≤ 2

-- room for what 257 tokens can give
pub record Space (es : List ℕ) (xs : List Exp) : Type 0 where
  pub errs : 1028 ≤ length es
  pub exps : 257 ≤ length xs

-- at most 257 tokens, with numbers that can be added
pub record Tokens (ts : List Token) : Type 0 where
  pub few : length ts ≤ 257
  pub ranged : Ranged 1000 1000 ts

-- the first n expressions became the first r, with `more` behind them, and the rest of the array is untouched
pub record Gained (n r : ℕ) (more xs xs' : List Exp) : Type 0 where
  pub list : take r xs' ≡ take n xs ++ more
  pub rest : drop r xs' ≡ drop r xs
  pub count : r ≡ n + length more

-- the lists have grown from st to r, and what lies behind them is untouched
pub record Kept (st r : State) (es es' : List ℕ) (xs xs' : List Exp) : Type 0 where
  pub more : st.errors ≤ r.errors
  pub gains : st.exps ≤ r.exps
  pub rest : drop (4 * r.errors) es' ≡ drop (4 * r.errors) es
  pub others : drop r.exps xs' ≡ drop r.exps xs

-- the token at st had the effect e
pub record EffectDone (e : Effect) (st r : State) (es es' : List ℕ) (xs xs' : List Exp) : Type 0 where
  pub same : view r es' xs' ≡ skipping 0 (applied numbers_of e (view st es xs))
  pub kept : Kept st r es es' xs xs'
  pub moved : r.at ≡ st.at + 1 + e.taken
  pub ready : Ready r

-- going on from s with the tokens ts and the brackets `q stk` open is going on from r with `stk` open
pub record WentOn (T : List Token) (q : List ℕ → List ℕ) (s : Parsing ℕ) (ts : List Token) (r : State) (es : List ℕ) (xs : List Exp) : Type 0 where
  pub same : (stk : List ℕ) → walk numbers_of (q stk) s ts ≡ walk numbers_of stk (view r es xs) (drop r.at T)
  pub ready : Ready r

-- the token at st, in the bracket opened at q or outside any, and the bracket that it opens were taken
pub record TookToken (ts : List Token) (inside : Option ℕ) (st r : State) (es es' : List ℕ) (xs xs' : List Exp) : Type 0 where
  pub went : WentOn ts (enter (bracket_of (at ts st.at)) (at ts st.at).pos)
      (applied numbers_of (effect_in ts xs st inside) (view st es xs)) (drop (st.at + 1) ts) r es' xs'
  pub kept : Kept st r es es' xs xs'
  pub forward : st.at < r.at

-- tokens were read to the end of the bracket that was opened at q, or all of them where none is open
pub record Read (ts : List Token) (inside : Option ℕ) (st r : State) (es es' : List ℕ) (xs xs' : List Exp) : Type 0 where
  pub went : WentOn ts (stack_by inside) (view st es xs) (drop st.at ts) r es' xs'
  pub kept : Kept st r es es' xs xs'
  pub forward : st.at ≤ r.at
  pub whole : inside ≡ optional.None → length ts ≤ r.at

-- the tokens were read: r and the lent lists hold what the definition says, and what lies behind it is untouched
pub record Parsed (ts : List Token) (r : ParseResult) (es es' : List ℕ) (xs xs' : List Exp) : Type 0 where
  pub root : r.root ≡ root_of ts
  pub errs : take (4 * r.errors) es' ≡ all_numbers (parse_of ts).errs
  pub rest : drop (4 * r.errors) es' ≡ drop (4 * r.errors) es
  pub exps : take r.exps xs' ≡ (parse_of ts).exps
  pub others : drop r.exps xs' ≡ drop r.exps xs
  pub few : r.errors ≤ 257
  pub fewer : r.exps ≤ 257
