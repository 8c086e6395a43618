-- The three parts are found again by division, since the lower two are below 16 and 256.
-- Assumes nothing.
use mathlib.Core.Path.{◌≡◌, ap, ◌∙◌}
use Prim.Native.Nat.{◌+◌, ◌*◌, ◌/◌, ◌%◌, ◌<◌}
use native.Mathlib.Omega.{arith}
use Rattle.expression.specs.Expression.{packed, exp_by, exp_of}
use Rattle.expression.proofs.expression.pack.Goals as goal

pub returns : goal.returns
unfolding exp_of
returns c =
    let k = c.args.kind in
    let v = c.args.value in
    let p = c.args.pos in
    let e : k + 16 * c.from.result + 4096 * c.from-2.result ≡ packed k v p = rw (c.from.ensures, c.from-2.ensures) in
    let h : k < 16 = c.requires in
    let i : v < 256 = omega (arith, c.from.ensures) in
    let j : p < 65536 = omega (arith, c.from-2.ensures) in
    let x : packed k v p % 16 ≡ k = omega arith in
    let a : packed k v p / 16 ≡ v + 256 * p = omega arith in
    let d : (v + 256 * p) % 256 ≡ v = omega arith in
    let y : packed k v p / 16 % 256 ≡ v = ap (λ n. n % 256) a ∙ d in
    let q : packed k v p / 4096 ≡ p = omega arith in
    let m : p % 65536 ≡ p = omega arith in
    let z : packed k v p / 4096 % 65536 ≡ p = ap (λ n. n % 65536) q ∙ m in
    (e, ap exp_of e ∙ λ t. exp_by (x t) (y t) (z t))
