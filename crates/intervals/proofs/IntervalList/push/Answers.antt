-- A list of fewer than 23 numbers has room for one more, and the store behind its numbers is its last.
use native.Mathlib.Omega.{arith}
use Rattle.intervals.proofs.Whole.{added, added_lists, added_whole, has_room}
use Rattle.intervals.proofs.IntervalList.push.Goals as goal

pub bounds-self-self : goal.bounds-self-self
bounds-self-self c = has_room c.args.self.now (omega arith) c.requires

pub overflow_add-self : goal.overflow_add-self
overflow_add-self c = let h = has_room c.args.self.now (omega arith) c.requires in omega (arith, h)

pub returns-clause-added : goal.returns-clause-added
unfolding added
returns-clause-added c =
    let l = c.args.self.now in
    added_lists l c.args.number (has_room l (omega arith) c.requires) (omega arith)

pub returns-clause-whole : goal.returns-clause-whole
unfolding added
returns-clause-whole c =
    let l = c.args.self.now in
    added_whole l c.args.number (has_room l (omega arith) c.requires) (omega arith)
