-- The invariant: what was found below i is written.
-- Assumes nothing.
use Prim.Native.Nat.{ℕ, ◌≤◌, ◌+◌, ◌<◌}
use Rattle.std.specs.declared.option.Option.{Option}
use Rattle.expression.specs.State.{Gained}
use Rattle.expression.specs.declared.parser_error.ParserError.{ParserError}
use Rattle.validator.specs.State.{error_of}
use Rattle.validator.specs.Validator.{all_from}
use lib.ListN.{length}
use mathlib.Core.List.{List}
use mathlib.Core.Path.{◌≡◌}
use Rattle.validator.proofs.each.push_each.Given as goal

abbrev pub invariant-loop-i : goal.invariant-loop-i
invariant-loop-i g l =
    record {
      gained : (f : ℕ → List ParserError) → ((i : ℕ) (r : Option ParserError) → i < l.n → goal.F-post g l.at i r → error_of r ≡ f i) → Gained l.initial.errors l.errors (all_from f l.i 0);
      count : l.errors.count ≤ l.initial.errors.count + l.i;
      size : length l.errors.list.now ≡ length l.initial.errors.list.now;
    }
