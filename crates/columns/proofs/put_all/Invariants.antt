-- The numbers passed are put.
use Rattle.std.proofs.Common.{take}
use Rattle.columns.specs.Columns.{PutAll}
use Rattle.columns.proofs.put_all.Given as goal

abbrev pub invariant-loop-number : goal.invariant-loop-number
invariant-loop-number l = PutAll (take l.number-index l.numbers) l.initial.out.used l.out.used l.initial.out.buffer.now l.out.buffer.now
