-- What the set and the list ensure, put into the record.
-- Assumes nothing.
use mathlib.Core.Path.{◌≡◌, sym, ap, ◌∙◌}
use native.Mathlib.Omega.{arith}
use Rattle.intervals.specs.Stored.{set_of}
use Rattle.intervals.specs.Interval.{empty}
use Rattle.intervals.proofs.Whole.{set-whole}
use Rattle.chord.proofs.Chord.new.Goals as goal

pub returns : goal.returns
returns c =
    let n = c.new in
    let s : n.result ≡ set_of empty = sym (set-whole n.result (omega (arith, n.type_inv))) ∙ ap set_of n.ensures in
    let l = c.new-2.ensures in
    (rw (s, l.0), rw (n.ensures, l.1))
