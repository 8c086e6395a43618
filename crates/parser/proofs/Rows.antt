-- The first tokens of a longer list can be read.
use Rattle.std.proofs.Common.{List, ℕ, ◌≤◌, length, take, arith}
use lib.Seq.{length-take-le}
use Rattle.token.specs.Token.{Ranged}
use Rattle.token.specs.declared.Token.{Token}
use Rattle.parser.specs.State.{Tokens}

pub tokens_first : (n : ℕ) (ts : List Token) → n ≤ 257 → n ≤ length ts → Ranged 1000 1000 (take n ts) → Tokens (take n ts)
tokens_first n ts h room r = record { few = omega (arith, length-take-le n ts room); ranged = r }
