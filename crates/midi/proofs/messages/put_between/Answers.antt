-- The offs are written, and the ons behind them.
-- Assumes nothing.
use mathlib.Core.List.{◌++◌}
use mathlib.Core.Path.{ap, ap₂}
use native.Mathlib.Omega.{arith}
use lib.ListN.{length}
use Rattle.intervals.specs.Interval.{Set}
use Rattle.keys.specs.Keys.{ascending}
use Rattle.keys.specs.Stored.{members}
use Rattle.midi.proofs.Words.{between-length, messages-length}
use Rattle.midi.specs.Midi.{offs, ons}
use Rattle.writer.proofs.Puts.{grew_as, grew_then}
use Rattle.midi.proofs.messages.put_between.Goals as goal

pub put_keys-requires : goal.put_keys-requires
put_keys-requires c =
    let a = c.args in
    let l = ap (λ (t : Set). length (ascending t)) c.without.ensures in
    omega (arith, c.requires, between-length (members a.old) (members a.new), l)

pub put_keys-requires-2 : goal.put_keys-requires-2
put_keys-requires-2 c =
    let a = c.args in
    let w = c.put_keys.ensures in
    let l = ap (λ (t : Set). length (ascending t)) c.without.ensures in
    let m = ap (λ (t : Set). length (ascending t)) c.without-2.ensures in
    let e = between-length (members a.old) (members a.new) in
    let k = messages-length 0x80 0 (ascending (members c.without.result)) in
    omega (arith, c.requires, w.put.count, w.size, l, m, k, e)

pub returns : goal.returns
returns c =
    let e : _ = ap₂ (λ (s t : Set). offs (ascending s) ++ ons (ascending t)) c.without.ensures c.without-2.ensures in
    grew_as e (grew_then c.put_keys.ensures c.put_keys-2.ensures)
