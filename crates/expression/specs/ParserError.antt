-- The four numbers of an error. "Each error is four numbers: its kind, then its values, then zeros. Kinds are 1 to 18 in the order of
-- `ParserError`. .. Kind 3 carries the `priority` of the repeated expression, kind 4 an interval number, kind 10 three interval numbers,
-- kinds 11 and 12 a position and a length, kind 9 nothing. Kinds 13 and 18 keep their numbers and never occur."
use Rattle.std.specs.Prelude.{List, [], ◌∷◌, ◌++◌, ℕ}
use Rattle.expression.specs.declared.parser_error.ParserError.TheVariants.{IllegalToken, UnexpectedNote, DuplicateModifier, InconsistentExtension, DuplicateExtension, InvalidExtension, WrongExpressionTarget, UnexpectedModifier, MissingRootNote, ThreeConsecutiveSemitones, MissingAddTarget, IllegalOrMissingOmitTarget, IllegalAddTarget, IllegalSlashNotation, UnexpectedClosingParenthesis, MissingClosingParenthesis, NestedParenthesis, InvalidPowerExpression}
use Rattle.expression.specs.declared.parser_error.ParserError.{ParserError}

pub record Row : Type 0 where
  pub kind : ℕ
  pub a : ℕ
  pub b : ℕ
  pub c : ℕ

abbrev pub row4 : ℕ → ℕ → ℕ → ℕ → Row
row4 k x y z = record { kind = k; a = x; b = y; c = z }

abbrev pub row_of : ParserError → Row
row_of (IllegalToken x) = row4 1 x 0 0
row_of (UnexpectedNote x) = row4 2 x 0 0
row_of (DuplicateModifier x) = row4 3 x 0 0
row_of (InconsistentExtension x) = row4 4 x 0 0
row_of (DuplicateExtension x) = row4 5 x 0 0
row_of (InvalidExtension x) = row4 6 x 0 0
row_of (WrongExpressionTarget x) = row4 7 x 0 0
row_of (UnexpectedModifier x) = row4 8 x 0 0
row_of MissingRootNote = row4 9 0 0 0
row_of (ThreeConsecutiveSemitones x y z) = row4 10 x y z
row_of (MissingAddTarget x y) = row4 11 x y 0
row_of (IllegalOrMissingOmitTarget x y) = row4 12 x y 0
row_of (IllegalAddTarget x y) = row4 13 x y 0
row_of (IllegalSlashNotation x) = row4 14 x 0 0
row_of (UnexpectedClosingParenthesis x) = row4 15 x 0 0
row_of (MissingClosingParenthesis x) = row4 16 x 0 0
row_of (NestedParenthesis x) = row4 17 x 0 0
row_of InvalidPowerExpression = row4 18 0 0 0

abbrev pub numbers : Row → List ℕ
numbers r = r.kind ∷ r.a ∷ r.b ∷ r.c ∷ []

abbrev pub numbers_of : ParserError → List ℕ
numbers_of e = numbers (row_of e)

-- those of a list of errors, one error after the other
abbrev pub all_numbers : List ParserError → List ℕ
all_numbers [] = []
all_numbers (e ∷ es) = numbers_of e ++ all_numbers es
