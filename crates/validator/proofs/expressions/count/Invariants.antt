-- The invariant: what was counted and what is still to be counted make the count.
-- Assumes nothing.
use Prim.Native.Nat.{ℕ, ◌≤◌, ◌<◌, ◌+◌}
use Rattle.validator.specs.State.{counts_of}
use Rattle.validator.specs.Validator.{times_of}
use lib.ListN.{drop}
use mathlib.Core.Path.{◌≡◌}
use Rattle.validator.proofs.expressions.count.Given as goal

abbrev pub invariant-loop-e : goal.invariant-loop-e
invariant-loop-e l = ((p : ℕ) → p < 15 → times_of l.exps p ≡ counts_of l.counts p + times_of (drop l.e-index l.exps) p) × ((p : ℕ) → p < 15 → counts_of l.counts p ≤ l.e-index)
