-- Each arm by its number; above 22 the definition has no type either.
-- Assumes nothing.
use mathlib.Core.Path.{◌≡◌, sym}
use Prim.Native.Nat.{ℕ, ◌≤◌, ◌<◌, zero-le}
use native.Mathlib.Omega.{arith}
use lib.ListN.{get_or-eq_default}
use Rattle.token.specs.Token.{plain_types}
use Rattle.token.specs.declared.TokenType.TheVariants.{Illegal}
use Rattle.token.proofs.plain_type.Goals as goal

-- a number that is at least m, and not m
more : {m n : ℕ} → m ≤ n → (n ≡ m → ⊥) → m < n
more h e = omega arith

pub returns-in_default : goal.returns-in_default
returns-in_default c =
    let n = c.args.number in
    let r = c.in_default.in_default-own.rest in
    let a : 8 ≤ n = more (more (more (more (more (more (more (more (zero-le) r.0.0.0.0.0.0.0.0.0.0.0.0.0.0.0.0.0.0.0.0.0.0.1) r.0.0.0.0.0.0.0.0.0.0.0.0.0.0.0.0.0.0.0.0.0.1) r.0.0.0.0.0.0.0.0.0.0.0.0.0.0.0.0.0.0.0.0.1) r.0.0.0.0.0.0.0.0.0.0.0.0.0.0.0.0.0.0.0.1) r.0.0.0.0.0.0.0.0.0.0.0.0.0.0.0.0.0.0.1) r.0.0.0.0.0.0.0.0.0.0.0.0.0.0.0.0.0.1) r.0.0.0.0.0.0.0.0.0.0.0.0.0.0.0.0.1) r.0.0.0.0.0.0.0.0.0.0.0.0.0.0.0.1 in
    let b : 16 ≤ n = more (more (more (more (more (more (more (more (a) r.0.0.0.0.0.0.0.0.0.0.0.0.0.0.1) r.0.0.0.0.0.0.0.0.0.0.0.0.0.1) r.0.0.0.0.0.0.0.0.0.0.0.0.1) r.0.0.0.0.0.0.0.0.0.0.0.1) r.0.0.0.0.0.0.0.0.0.0.1) r.0.0.0.0.0.0.0.0.0.1) r.0.0.0.0.0.0.0.0.1) r.0.0.0.0.0.0.0.1 in
    let d : 23 ≤ n = more (more (more (more (more (more (more (b) r.0.0.0.0.0.0.1) r.0.0.0.0.0.1) r.0.0.0.0.1) r.0.0.0.1) r.0.0.1) r.0.1) r.1 in
    sym (get_or-eq_default plain_types Illegal d)
