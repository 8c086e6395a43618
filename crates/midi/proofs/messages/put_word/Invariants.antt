-- The invariant: the messages of the digits taken off so far are written. The measure is the number that is left.
-- Assumes nothing.
use Rattle.midi.proofs.Words.{Progress}
use Rattle.midi.proofs.messages.put_word.Given as goal

abbrev pub invariant-loop-left : goal.invariant-loop-left
invariant-loop-left l = Progress l.touch.status l.touch.velocity l.from l.bits l.initial.out l.out l.left

abbrev pub decreases-loop-left : goal.decreases-loop-left
decreases-loop-left l = l.left
