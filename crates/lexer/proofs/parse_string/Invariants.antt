-- The invariant is `Cutting`: the tokens so far and those to come are all, and the rest of the run stands before the place.
use Rattle.std.proofs.Common.{◌≡◌, ◌-◌, length}
use Rattle.lexer.proofs.Steps.{Cutting}
use Rattle.lexer.proofs.parse_string.Given as goal

abbrev pub invariant-loop-s : goal.invariant-loop-s
invariant-loop-s l = Cutting l.text l.end l.initial.s l.s l.initial.tokens l.tokens × (length l.tokens ≡ length l.initial.tokens)

abbrev pub decreases-loop-s : goal.decreases-loop-s
decreases-loop-s l = l.end - l.s.at
