-- The invariant is `Went`: what stands there and what is still to come make the tokens of the text.
use Rattle.std.proofs.Common.{◌≡◌, ◌-◌, length}
use Rattle.lexer.specs.State.{Went}
use Rattle.lexer.proofs.scan_text.Given as goal

abbrev pub invariant-loop-s : goal.invariant-loop-s
invariant-loop-s l = Went l.text l.initial.s l.s l.initial.tokens l.tokens × (length l.tokens ≡ length l.initial.tokens)

abbrev pub decreases-loop-s : goal.decreases-loop-s
decreases-loop-s l = length l.text - l.s.at
