-- The invariant: the keys of the numbers passed are wanted.
use Rattle.std.proofs.Common.{take}
use Rattle.intervals.specs.Stored.{listed}
use Rattle.keys.specs.Keys.{display_keys}
use Rattle.keys.specs.Stored.{Wants}
use Rattle.keys.proofs.wanted.add_list.Given as goal

abbrev pub invariant-loop-interval : goal.invariant-loop-interval
invariant-loop-interval l = Wants l.w (display_keys l.from (take l.interval-index (listed l.fn.list)))
