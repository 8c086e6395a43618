-- By the kind of the token.
use mathlib.Core.List.{List}
use mathlib.Core.Path.{refl}
use Prim.Native.Nat.{ℕ, ◌≤◌}
use native.Mathlib.Omega.{arith}
use lib.ListN.{length, take}
use lib.Seq.{length-take-le}
use Rattle.token.specs.declared.Token.{Token}
use Rattle.folding.specs.Folding.{count, seven}
use Rattle.folding.proofs.Counts.{count_le}
use Rattle.folding.proofs.Steps.{partner_taken, seven-taken, other_comes}
use Rattle.folding.proofs.step.Goals as goal

-- a count is no more than the number of tokens
few : (k w : ℕ) (R : List Token) → w ≤ length R → count k (take w R) ≤ w
few k w R h = omega (arith, count_le k (take w R), length-take-le w R h)

pub came-partners-requires : goal.came-partners-requires
came-partners-requires c = omega (arith, few c.args.fold.partner c.args.o.at c.args.tokens.now (omega arith))

pub returns-then-kind-fold : goal.returns-then-kind-fold
returns-then-kind-fold c =
    partner_taken c.args.fold.apart c.requires.counted _ c.came-partners.ensures c.if-kind-fold.true c.join-at.ensures

pub came-sevens-requires : goal.came-sevens-requires
came-sevens-requires c = omega (arith, few seven c.args.o.at c.args.tokens.now (omega arith))

pub returns-then-kind-eq-SEVEN : goal.returns-then-kind-eq-SEVEN
returns-then-kind-eq-SEVEN c =
    seven-taken c.args.fold.apart c.requires.counted _ c.came-sevens.ensures c.if-kind-eq-SEVEN.true
    c.join-at-then-kind-eq-SEVEN.ensures

pub returns : goal.returns
returns c = other_comes c.args.fold.apart c.requires.counted (omega arith) c.if-kind-fold.false c.if-kind-eq-SEVEN.false refl
