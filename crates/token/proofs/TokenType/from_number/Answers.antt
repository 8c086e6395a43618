-- The ranges of the numbers, in the order of the definition.
-- Assumes nothing.
use mathlib.Core.Path.{◌∙◌}
use borrow.Author.Tests.{lt-ltb, le-ltb}
use Rattle.token.specs.Token.{type_of}
use Rattle.token.proofs.TokenType.from_number.Goals as goal

pub returns-then-number-lt32 : goal.returns-then-number-lt32
unfolding type_of
returns-then-number-lt32 c = c.plain_type.ensures ∙ rw (lt-ltb _ 32 c.if-number-lt32.true)

pub returns-then-number-lt64 : goal.returns-then-number-lt64
unfolding type_of
returns-then-number-lt64 c = rw (le-ltb _ 32 c.if-number-lt32.false, lt-ltb _ 64 c.if-number-lt64.true)

pub returns-then-number-lt71 : goal.returns-then-number-lt71
unfolding type_of
returns-then-number-lt71 c = rw (le-ltb _ 32 c.if-number-lt32.false, le-ltb _ 64 c.if-number-lt64.false, lt-ltb _ 71 c.if-number-lt71.true, c.from_number.ensures)

pub returns : goal.returns
unfolding type_of
returns c = rw (le-ltb _ 32 c.if-number-lt32.false, le-ltb _ 64 c.if-number-lt64.false, le-ltb _ 71 c.if-number-lt71.false)
