-- The three parts by division, as the definition has them.
-- Assumes nothing.
use Rattle.expression.specs.Expression.{exp_of}
use Rattle.expression.proofs.expression.Exp.from_number.Goals as goal

pub returns : goal.returns
unfolding exp_of
returns c = c.by_kind.ensures
