use Rattle.folding.proofs.Turns.{Folding}
use Rattle.folding.proofs.fold_7.Given as goal

abbrev pub invariant-loop-i : goal.invariant-loop-i
invariant-loop-i l = Folding l.fold.partner l.fold.pair l.initial.tokens l.tokens l.o l.i
