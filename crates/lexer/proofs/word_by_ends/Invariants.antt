-- The invariant is `Trying`: trying the words from the next place on, whose word has the text's letter, gives the word of the run.
use Rattle.std.specs.Prelude.{unwrap_or, drop}
use Rattle.lexer.proofs.Chains.{Trying, rank}
use Rattle.lexer.proofs.word_by_ends.Given as goal

abbrev pub invariant-loop-next : goal.invariant-loop-next
invariant-loop-next l = Trying (drop l.at l.text) l.next

abbrev pub decreases-loop-next : goal.decreases-loop-next
decreases-loop-next l = rank (unwrap_or l.next 55)
