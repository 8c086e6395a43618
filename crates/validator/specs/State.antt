-- Bookkeeping of contracts between our own functions; no promise of an entry point rests on it.
-- What the code's values stand for.
use Rattle.std.specs.Prelude.{List, [], ◌∷◌, ℕ, ◌+◌, ◌%◌, get_or}
use Rattle.std.specs.Bool.{then_some}
use Rattle.std.specs.declared.option.Option.TheVariants.{None, Some}
use Rattle.std.specs.declared.option.Option.{Option}
use Rattle.intervals.specs.Interval.{Set}
use Rattle.expression.specs.declared.parser_error.ParserError.TheVariants.{ThreeConsecutiveSemitones}
use Rattle.expression.specs.declared.parser_error.ParserError.{ParserError}
use Rattle.validator.specs.Validator.{last_below, present_below}
use Rattle.validator.specs.declared.expressions.Counts.{Counts}

-- the error, if there is one
abbrev pub error_of : Option ParserError → List ParserError
error_of None = []
error_of (Some e) = e ∷ []

-- how many expressions of a priority were counted
abbrev pub counts_of : Counts → ℕ → ℕ
counts_of c p = get_or c.of p 0

-- the last interval of a class, in the code's array and below n in the set
abbrev pub last_at : List (Option ℕ) → ℕ → Option ℕ
last_at l c = get_or l c None

abbrev pub last_in : ℕ → Set → ℕ → Option ℕ
last_in n s c = then_some (present_below n s c) (last_below n s c)

-- the error of three classes, by the last interval of each
abbrev pub three_of : Option ℕ → Option ℕ → Option ℕ → List ParserError
three_of None b c = []
three_of (Some x) None c = []
three_of (Some x) (Some y) None = []
three_of (Some x) (Some y) (Some z) = ThreeConsecutiveSemitones x y z ∷ []

-- that of the class c and the next two
abbrev pub neighbours_in : (ℕ → Option ℕ) → ℕ → List ParserError
neighbours_in last c = three_of (last c) (last ((c + 1) % 12)) (last ((c + 2) % 12))
