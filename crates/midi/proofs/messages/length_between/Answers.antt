-- Each set's members are counted, and each has a message of three bytes.
-- Assumes nothing.
use mathlib.Core.Path.{◌≡◌, ap, ◌∙◌}
use Prim.Native.Nat.{ℕ}
use native.Mathlib.Omega.{arith}
use lib.ListN.{length}
use Rattle.intervals.specs.Interval.{Set}
use Rattle.keys.specs.Keys.{ascending, minus}
use Rattle.keys.specs.Stored.{members}
use Rattle.midi.proofs.Words.{between-length}
use Rattle.midi.proofs.messages.length_between.Goals as goal

pub returns : goal.returns
returns c =
    let a = c.args in
    let s = members a.old in
    let w = members a.new in
    let size : Set → ℕ = λ (t : Set). length (ascending t) in
    let p = c.count in
    let q = c.count-2 in
    let x : p.result ≡ size (minus s w) = p.ensures.0 ∙ ap size c.without.ensures in
    let y : q.result ≡ size (minus w s) = q.ensures.0 ∙ ap size c.without-2.ensures in
    omega (arith, x, y, between-length s w)
