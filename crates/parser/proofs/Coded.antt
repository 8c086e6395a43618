-- The walk with each error as its four numbers, as the code stores it, finds the numbers of the errors that the definition finds, and the
-- same expressions: the walk never looks at the errors, and so the numbers may be taken before it or after it.
-- Assumes nothing.
use mathlib.Core.List.{List, [], ◌∷◌, ◌++◌}
use mathlib.Core.Path.{◌≡◌, refl, sym, ap, ◌∙◌}
use Prim.Native.Nat.{ℕ, zero, suc}
use lib.ListN.{drop}
use Rattle.expression.proofs.AllNumbers.{all_append}
use Rattle.expression.specs.ParserError.{all_numbers, numbers_of}
use Rattle.expression.specs.declared.parser_error.ParserError.{ParserError}
use Rattle.step.specs.declared.effect.Effect.{Effect}
use Rattle.token.specs.Token.{type_of}
use Rattle.token.specs.declared.Token.{Token}
use Rattle.parser.proofs.Effects.{error_coded}
use Rattle.parser.specs.Parser.{Parsing, ahead_of, applied, blank, effect_at, error_of, here_of, itself, next_at, parse_by, parse_of, root_effect, root_of, stack_turn, token_turn, walk}

-- what has been found, with the numbers es in place of the errors
abbrev keeping : List ℕ → Parsing ParserError → Parsing ℕ
keeping es s = record { skip = s.skip; count = s.count; context = s.context; errs = es; exps = s.exps }

abbrev coded : Parsing ParserError → Parsing ℕ
coded s = keeping (all_numbers s.errs) s

applied_coded : (e : Effect) (s : Parsing ParserError) → coded (applied itself e s) ≡ applied numbers_of e (coded s)
applied_coded e s =
    ap (λ (es : List ℕ). keeping es (applied itself e s))
    (all_append s.errs (error_of itself e.error) ∙ ap (λ (l : List ℕ). all_numbers s.errs ++ l) (error_coded e.error))

turn_coded : (n : ℕ) (stk : List ℕ) (s : Parsing ParserError) (t : Token) (ts : List Token)
    → coded (token_turn itself n stk s t ts) ≡ token_turn numbers_of n stk (coded s) t ts
turn_coded zero stk s t ts = applied_coded (effect_at stk (type_of t.kind) (here_of t s) (ahead_of ts)) s
turn_coded (suc n) stk s t ts = refl

walk_coded : (stk : List ℕ) (s : Parsing ParserError) (ts : List Token) → coded (walk itself stk s ts) ≡ walk numbers_of stk (coded s) ts
unfolding walk
walk_coded stk s [] = refl
walk_coded stk s (t ∷ ts) =
    walk_coded (stack_turn s.skip stk t) (token_turn itself s.skip stk s t ts) ts
    ∙ ap (λ (u : Parsing ℕ). walk numbers_of (stack_turn s.skip stk t) u ts) (turn_coded s.skip stk s t ts)

parse_coded : (ts : List Token) → coded (parse_of ts) ≡ parse_by numbers_of ts
parse_coded ts =
    let e = root_effect (root_of ts) (next_at ts 1) in
    walk_coded [] (applied itself e blank) (drop 1 ts)
    ∙ ap (λ (u : Parsing ℕ). walk numbers_of [] u (drop 1 ts)) (applied_coded e blank)

pub parse_errors_lem : (ts : List Token) → (parse_by numbers_of ts).errs ≡ all_numbers (parse_of ts).errs
parse_errors_lem ts = sym (ap (λ (s : Parsing ℕ). s.errs) (parse_coded ts))

pub parse_exps : (ts : List Token) → (parse_by numbers_of ts).exps ≡ (parse_of ts).exps
parse_exps ts = sym (ap (λ (s : Parsing ℕ). s.exps) (parse_coded ts))
