-- The first eight bytes are the low number's, the others the high one's.
-- Assumes nothing.
use Rattle.keys.proofs.Octets.{byte_high, byte_low, number_byte}
use Prim.Native.Nat.{◌-◌}
use native.Mathlib.Omega.{arith}
use Rattle.keys.proofs.bytes.byte_of.Goals as goal

pub returns-then-i-lt8 : goal.returns-then-i-lt8
returns-then-i-lt8 c =
    let a = c.args in
    let b = number_byte a.keys.low a.i c.if-i-lt8.true in
    rw c.to_le_bytes.ensures (byte_low a.keys a.i _ b.small c.if-i-lt8.true b.bits)

pub returns-else-i-lt8 : goal.returns-else-i-lt8
returns-else-i-lt8 c =
    let a = c.args in
    let b = number_byte a.keys.high (a.i - 8) (omega arith) in
    rw c.to_le_bytes-else-i-lt8.ensures (byte_high a.keys a.i _ b.small c.if-i-lt8.false c.requires b.bits)
