-- Each check writes behind the one before.
-- Assumes nothing.
use Rattle.std.proofs.Common.{rules}
use Rattle.expression.proofs.Wrote.{gained_then, written}
use Rattle.validator.specs.Validator.{validation_of}
use native.Mathlib.Omega.{arith}
use Rattle.validator.proofs.validate.Goals as goal

pub returns : goal.returns
unfolding validation_of
returns c =
    let n = c.new-errors.ensures in
    let x = c.validate_expressions.ensures in
    let y = c.validate_extensions.ensures in
    let z = c.validate_semitones.ensures in
    let w = gained_then x.0 (gained_then y.0 z.0) in
    let p = w.place in
    (written w n.0 n.1 (search rules), omega (arith, n.0, x.1, y.1, z.1))
