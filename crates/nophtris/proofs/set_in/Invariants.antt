-- The invariant: the set has the members below i, and no others.
use Rattle.std.proofs.Common.{◌≡◌, ℕ, ◌+◌, ◌&&◌, eqb, ltb, get_or}
use Rattle.intervals.specs.Stored.{members}
use Rattle.nophtris.proofs.set_in.Given as goal

abbrev pub invariant-loop-i : goal.invariant-loop-i
invariant-loop-i l = (k : ℕ) → members l.set k ≡ (ltb k l.i && eqb (get_or l.bytes (4 + k) 0) 1)
