-- The number of an array whose i-th is the byte at `from + i`.
-- Assumes nothing.
use mathlib.Core.Path.{◌≡◌, ap, ◌∙◌}
use Prim.Native.Nat.{ℕ, ◌+◌, ◌<◌, ◌/◌, ◌%◌}
use native.Mathlib.Omega.{arith}
use lib.ListN.{get_or}
use Rattle.std.proofs.Common.{rules}
use Rattle.intervals.specs.Stored.{bit}
use Rattle.keys.proofs.Octets.{number-bits}
use Rattle.keys.proofs.bytes.word_in.Goals as goal

pub returns : goal.returns
returns c =
    let ys = c.from_fn.result in
    let each : (i : ℕ) → i < 8 → get_or ys i 0 ≡ get_or c.args.bytes.now (c.args.from + i) 0 = search rules in
    let small : (i : ℕ) → get_or ys i 0 < 256 = search rules in
    λ j l.
    ap (λ (x : ℕ). bit x j) c.from_le_bytes.ensures ∙ number-bits ys small 7 j l ∙ ap (λ (x : ℕ). bit x (j % 8)) (each (j / 8) (omega arith))
