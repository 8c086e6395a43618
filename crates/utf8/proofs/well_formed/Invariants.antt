-- The invariant: what is left of the text decides whether the whole is well formed.
use Rattle.std.proofs.Common.{◌≡◌, ◌-◌, ◌≤◌, length, drop}
use Rattle.utf8.specs.Utf8.{well_from, well_formed}
use Rattle.utf8.proofs.well_formed.Given as goal

abbrev pub invariant-loop-n : goal.invariant-loop-n
invariant-loop-n l = (l.at ≤ length l.text) × (well_from 0 (drop l.at l.text) ≡ well_formed l.text)

abbrev pub decreases-loop-n : goal.decreases-loop-n
decreases-loop-n l = length l.text - l.at
