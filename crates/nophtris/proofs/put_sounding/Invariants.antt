-- The invariant: the first i of the set's 16 bytes are written.
use Rattle.std.proofs.Common.{◌≡◌, ℕ, ◌<◌, get_or, length}
use Rattle.keys.specs.Stored.{byte_of, members}
use Rattle.nophtris.proofs.put_sounding.Given as goal

abbrev pub invariant-loop-i : goal.invariant-loop-i
invariant-loop-i l = (length l.out ≡ 16) × ((k : ℕ) → k < l.i → get_or l.out k 0 ≡ byte_of (members l.keys) k)
