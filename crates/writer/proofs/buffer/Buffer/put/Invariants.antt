-- The invariant: the first i bytes stand behind what was written, in the same buffer.
use Rattle.std.proofs.Common.{◌≡◌, ◌+◌, length, take}
use Rattle.writer.specs.State.{Put}
use Rattle.writer.proofs.buffer.Buffer.put.Given as goal

abbrev pub invariant-loop-i : goal.invariant-loop-i
invariant-loop-i l =
    Put l.from (l.from + l.i) (take l.i l.bytes) l.initial.self.bytes.now l.self.bytes.now
    × (length l.self.bytes.now ≡ length l.initial.self.bytes.now)
    × (l.self.bytes.ghost_name ≡ l.initial.self.bytes.ghost_name)
