-- The numbers of a list of errors: four for each, and those of two lists one after the other.
-- Assumes nothing.
use mathlib.Core.List.{List, [], ◌∷◌, ◌++◌}
use mathlib.Core.Path.{◌≡◌, refl, ap}
use Prim.Native.Nat.{ℕ, ◌*◌}
use native.Mathlib.Omega.{arith}
use lib.ListN.{length}
use Rattle.expression.specs.ParserError.{all_numbers, numbers_of}
use Rattle.expression.specs.declared.parser_error.ParserError.{ParserError}

pub all_append : (a b : List ParserError) → all_numbers (a ++ b) ≡ all_numbers a ++ all_numbers b
all_append [] b = refl
all_append (e ∷ a) b = ap (λ (l : List ℕ). numbers_of e ++ l) (all_append a b)

pub all-length : (a : List ParserError) → length (all_numbers a) ≡ 4 * length a
all-length [] = refl
all-length (e ∷ a) = let h = all-length a in omega (arith, h)
