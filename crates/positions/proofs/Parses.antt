-- The same tokens at other positions are read into the same expressions and errors but for their positions: each token has the same effect
-- (Steps), and the walk carries it on.
-- Assumes nothing.
use mathlib.Core.Bool.{Bool, false}
use mathlib.Core.List.{List}
use mathlib.Core.Path.{◌≡◌, refl, ap, ap₂, subst, ◌∙◌}
use Prim.Native.Nat.{ℕ, zero, suc, ◌+◌}
use lib.Dec.{T}
use lib.IntN.{ℤ}
use Rattle.expression.specs.declared.expression.Exp.{Exp}
use Rattle.expression.specs.declared.parser_error.ParserError.{ParserError}
use Rattle.lookahead.specs.Next.{next_of, note_from, sign_in}
use Rattle.lookahead.specs.declared.Next.{Next}
use Rattle.std.specs.declared.option.Option.TheVariants as optional
use Rattle.note.specs.Note.{OptionalNote}
use Rattle.parser.specs.Parser.{Parsing, ahead_of, applied, blank, effect_at, ends, error_of, gains_of, here_of, is_six, itself, last_six, next_at, opens, parse_of, root_effect, root_of, stack_turn, token_turn, walk}
use Rattle.step.specs.declared.context.Context.{Context}
use Rattle.step.specs.declared.effect.Effect.{Effect}
use Rattle.step.specs.declared.effect.Gains.{Gains}
use Rattle.step.specs.Effect.{OptionalError}
use Rattle.token.specs.Token.{at, bracket_kind, type_of}
use Rattle.token.specs.declared.Token.{Token}
use Rattle.token.specs.declared.TokenType.{TokenType}
use Rattle.positions.proofs.Pairs.{Pairs, none, more, Same, is_modifier, pairs_append, pairs_at, pairs_if, pairs_tail}
use Rattle.positions.proofs.Steps.{Shape, itself as the_same, extension, add, omit, SameError, rows, SameExp, SameGains, nothing, one, two, SameOptional, fine, wrong, SameEffect, inside-same, step_same}

module _ (f g : ℕ → ℕ) where
  abbrev Tokens : List Token → List Token → Type 0
  Tokens = Pairs (Same f g)

  abbrev Exps : List Exp → List Exp → Type 0
  Exps = Pairs (SameExp f g)

  -- positions of open brackets
  abbrev Places : List ℕ → List ℕ → Type 0
  Places = Pairs (λ p q. f p ≡ g q)

  -- what has been found in the one and in the other
  pub record SameParsing (s r : Parsing ParserError) : Type 0 where
    pub skip : s.skip ≡ r.skip
    pub count : s.count ≡ r.count
    pub context : s.context ≡ r.context
    pub errs : Pairs (SameError f g) s.errs r.errs
    pub exps : Pairs (SameExp f g) s.exps r.exps

  is-six : {e d : Exp} → Shape e d → is_six e ≡ is_six d
  is-six (the_same e) = refl
  is-six (extension i p q) = refl
  is-six (add i p q) = refl
  is-six (omit i p q) = refl

  six-same : {l m : List Exp} (b : Bool) → Exps l m → last_six b l ≡ last_six b m
  unfolding last_six
  six-same b none = refl
  six-same b (more {b = d} {l = l} s r) =
      ap (λ (c : Bool). last_six c l) (is-six s.shape) ∙ six-same (is_six d) r

  error_same : {x y : OptionalError} → SameOptional f g x y → Pairs (SameError f g) (error_of itself x) (error_of itself y)
  error_same fine = none
  error_same (wrong s) = more s none

  gains-same : {x y : Gains} → SameGains f g x y → Exps (gains_of x) (gains_of y)
  gains-same nothing = none
  gains-same (one s) = more s none
  gains-same (two s r) = more s (more r none)

  applied-same : {e d : Effect} {s r : Parsing ParserError} → SameEffect f g e d → SameParsing s r
      → SameParsing (applied itself e s) (applied itself d r)
  applied-same x y =
      record {
        skip = x.taken;
        count = x.count;
        context = x.context;
        errs = pairs_append y.errs (error_same x.error);
        exps = pairs_append y.exps (gains-same x.gains);
      }

  module _ (origin : f 0 ≡ g 0) where
    -- the token at a place of the lists, also where there is none
    at_same : {ts us : List Token} → Tokens ts us → (i : ℕ) → Same f g (at ts i) (at us i)
    unfolding type_of
    at_same l i = pairs_at l (record { kind = refl; len = refl; pos = origin; next = λ x. absurd x }) i

    next-same : {ts us : List Token} → Tokens ts us → (i : ℕ) → next_at ts i ≡ next_at us i
    next-same l i = ap (λ k. next_of (type_of k)) (at_same l i).kind

    pub root-same : {ts us : List Token} → Tokens ts us → root_of ts ≡ root_of us
    root-same l = ap₂ (λ m n. note_from m (sign_in n)) (next-same l 0) (next-same l 1)

    -- an effect at a place with these open brackets; what the lists share is written for both
    effect_same : {stk stk' : List ℕ} (k : TokenType) (p q len : ℕ) (z : ℤ) (c : Context) (b : Bool) (n₁ n₂ n₃ : Next) (x y x' y' : ℕ)
        → Places stk stk' → f p ≡ g q → (T (is_modifier k) → f (p + 1) ≡ g (q + 1)) → f x ≡ g x' → f y ≡ g y'
        → SameEffect f g
        (effect_at stk k (record { pos = p; len = len; count = z; context = c; six = b })
        (record { first = n₁; second = n₂; third = n₃; pos = x; pos2 = y }))
        (effect_at stk' k (record { pos = q; len = len; count = z; context = c; six = b })
        (record { first = n₁; second = n₂; third = n₃; pos = x'; pos2 = y' }))
    effect_same k p q len z c b n₁ n₂ n₃ x y x' y' none r w r₁ r₂ = step_same f g p q len z c b r n₁ n₂ n₃ x y x' y' r₁ r₂ k w
    effect_same k p q len z c b n₁ n₂ n₃ x y x' y' (more s rest) r w r₁ r₂ =
        inside-same f g p q len z c b r n₁ n₂ n₃ x y x' y' r₁ r₂ k (bracket_kind k) s w

    module _ {stk stk' : List ℕ} {s r : Parsing ParserError} {t u : Token} {ts us : List Token} (stack : Places stk stk')
        (state : SameParsing s r) (here : Same f g t u) (rest : Tokens ts us) where
      token-same : SameEffect f g (effect_at stk (type_of t.kind) (here_of t s) (ahead_of ts))
          (effect_at stk' (type_of u.kind) (here_of u r) (ahead_of us))
      token-same =
          rw (
            ← here.kind,
            ← here.len,
            ← state.count,
            ← state.context,
            ← six-same false state.exps,
            ← next-same rest 0,
            ← next-same rest 1,
            ← next-same rest 2,
          )
          (effect_same (type_of t.kind) t.pos u.pos t.len s.count s.context (last_six false s.exps)
          (next_at ts 0) (next_at ts 1) (next_at ts 2) (at ts 0).pos (at ts 1).pos (at us 0).pos (at us 1).pos
          stack here.pos here.next (at_same rest 0).pos (at_same rest 1).pos)

      turn_same : (n : ℕ) → SameParsing (token_turn itself n stk s t ts) (token_turn itself n stk' r u us)
      turn_same zero = applied-same token-same state
      turn_same (suc n) = record { skip = refl; count = state.count; context = state.context; errs = state.errs; exps = state.exps }

      stack_same : (n : ℕ) → Places (stack_turn n stk t) (stack_turn n stk' u)
      stack_same zero =
          let o = ap (λ k. bracket_kind (type_of k)) here.kind in
          let left = pairs_if (ap ends o) (pairs_tail stack) stack in
          pairs_if (ap opens o) (more here.pos left) left
      stack_same (suc n) = stack

    walk_same : {stk stk' : List ℕ} {s r : Parsing ParserError} {ts us : List Token} → Places stk stk' → SameParsing s r
        → Tokens ts us → SameParsing (walk itself stk s ts) (walk itself stk' r us)
    unfolding walk
    walk_same k x none = record { skip = refl; count = x.count; context = x.context; errs = x.errs; exps = x.exps }
    walk_same {stk} {stk'} {s} {r} k x (more {a = t} {b = u} {l = ts} {m = us} h rest) =
        let n = s.skip in
        walk_same {stk = stack_turn n stk t} {stk' = stack_turn r.skip stk' u} {s = token_turn itself n stk s t ts}
        {r = token_turn itself r.skip stk' r u us} {ts = ts} {us = us}
        (subst (λ m. Places (stack_turn n stk t) (stack_turn m stk' u)) x.skip (stack_same k x h rest n))
        (subst (λ m. SameParsing (token_turn itself n stk s t ts) (token_turn itself m stk' r u us)) x.skip (turn_same k x h rest n)) rest

    -- the root's effect is the same on both sides
    root_effect_lem : (n : OptionalNote) (nx : Next) → SameEffect f g (root_effect n nx) (root_effect n nx)
    root_effect_lem (optional.Some n) nx = record { taken = refl; count = refl; context = refl; gains = nothing; error = fine }
    root_effect_lem optional.None nx = record { taken = refl; count = refl; context = refl; gains = nothing; error = wrong (rows refl) }

    pub parse_same : {ts us : List Token} → Tokens ts us → SameParsing (parse_of ts) (parse_of us)
    parse_same {ts} {us} l =
        let start : SameParsing blank blank = record { skip = refl; count = refl; context = refl; errs = none; exps = none } in
        walk_same none (rw (← root-same l, ← next-same l 1) (applied-same (root_effect_lem (root_of ts) (next_at ts 1)) start)) (pairs_tail l)
