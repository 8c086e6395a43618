-- The invariant: the last of each class below i. A turn leaves the array as it is, or is one store, by whether the interval is in the set.
-- Assumes nothing.
use Prim.Native.Nat.{ℕ, ◌<◌}
use Rattle.intervals.specs.Stored.{members}
use Rattle.validator.specs.State.{last_at, last_in}
use lib.ListN.{length}
use mathlib.Core.Path.{◌≡◌}
use Rattle.validator.proofs.semitones.last_of_class.Given as goal

abbrev pub invariant-loop-i : goal.invariant-loop-i
invariant-loop-i l = (length l.lasts ≡ 12) × ((k : ℕ) → k < 12 → last_at l.lasts k ≡ last_in l.i (members l.set) k)
