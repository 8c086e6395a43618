-- As many places as digits that are a 1; at most 64.
-- Assumes nothing.
use mathlib.Core.Path.{sym}
use native.Mathlib.Omega.{arith}
use lib.Count.{ones-le}
use Rattle.keys.proofs.Places.{places_count}
use Rattle.keys.proofs.count_digits.Goals as goal

pub overflow_cast-result : goal.overflow_cast-result
overflow_cast-result c = omega (arith, ones-le 64 c.args.bits c.ranges.bits.fits)

pub returns : goal.returns
returns c = ((λ k. sym (places_count 64 k c.args.bits c.ranges.bits.fits)), ones-le 64 c.args.bits c.ranges.bits.fits)
