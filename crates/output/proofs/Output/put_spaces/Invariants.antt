-- So many spaces are put.
use Rattle.std.proofs.Common.{◌≡◌, replicate}
use Rattle.output.specs.Output.{Put}
use Rattle.output.proofs.Output.put_spaces.Given as goal

abbrev pub invariant-loop : goal.invariant-loop
invariant-loop l =
    Put (replicate l.counter 32) l.initial.self.used l.self.used l.initial.self.buffer.now l.self.buffer.now
    × (l.self.buffer.ghost_name ≡ l.initial.self.buffer.ghost_name)
