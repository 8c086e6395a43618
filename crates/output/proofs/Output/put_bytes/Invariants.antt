-- The bytes passed are put.
use Rattle.std.proofs.Common.{◌≡◌, take}
use Rattle.output.specs.Output.{Put}
use Rattle.output.proofs.Output.put_bytes.Given as goal

abbrev pub invariant-loop-byte : goal.invariant-loop-byte
invariant-loop-byte l =
    Put (take l.byte-index l.bytes) l.initial.self.used l.self.used l.initial.self.buffer.now l.self.buffer.now
    × (l.self.buffer.ghost_name ≡ l.initial.self.buffer.ghost_name)
