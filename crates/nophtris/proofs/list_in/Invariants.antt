-- The invariant: the first i numbers of the array are those of the bytes.
use Rattle.std.proofs.Common.{◌≡◌, drop, length, take}
use Rattle.nophtris.proofs.list_in.Given as goal

abbrev pub invariant-loop-i : goal.invariant-loop-i
invariant-loop-i l = (length l.numbers ≡ 23) × (take l.i l.numbers ≡ take l.i (drop 28 l.bytes))
