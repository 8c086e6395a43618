-- By the place of the first.
-- Assumes nothing.
use Prim.Native.Nat.{ℕ, ◌+◌}
use mathlib.Core.List.{List}
use mathlib.Core.Path.{◌≡◌, ap, ◌∙◌}
use native.Mathlib.Omega.{arith}
use lib.ListN.{length, get_or}
use Rattle.std.proofs.Common.{rules}
use Rattle.expression.specs.declared.expression.Exp.TheVariants.{Power}
use Rattle.expression.specs.declared.parser_error.ParserError.{ParserError}
use Rattle.validator.proofs.Walks.{IsFirst, first_is, wrong_by_place}
use Rattle.validator.specs.Validator.{wrong_of}
use Rattle.validator.proofs.expressions.first_wrong.Goals as goal

pub returns : goal.returns
returns c =
    let xs = c.args.exps.now in
    let f : ℕ → List ParserError = λ k. wrong_of (get_or xs k Power) in
    let h : IsFirst f (length xs) 0 c.find_map.result = search rules in
    first_is f (length xs) 0 c.find_map.result h ∙ wrong_by_place xs f 0 (λ k b. let e : 0 + k ≡ k = omega arith in ap f e)
