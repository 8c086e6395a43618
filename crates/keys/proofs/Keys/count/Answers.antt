-- The places of the two numbers are the members in ascending order.
-- Assumes nothing.
use mathlib.Core.Path.{◌≡◌, sym, ap, ◌∙◌}
use native.Mathlib.Omega.{arith}
use Prim.Native.Nat.{◌+◌}
use lib.ListN.{length, length-append}
use Rattle.keys.proofs.Places.{places-ascending}
use Rattle.keys.specs.Keys.{ascending}
use Rattle.keys.specs.Stored.{members, places}
use Rattle.keys.proofs.Keys.count.Goals as goal

pub returns : goal.returns
returns c =
    let s = c.args.self in
    let p = c.count_digits.ensures in
    let q = c.count_digits-2.ensures in
    let e : c.count_digits.result + c.count_digits-2.result ≡ length (ascending (members s)) =
    rw (p.0 0, q.0 64)
    (sym (length-append (places 64 0 s.low) (places 64 64 s.high)) ∙ ap length (places-ascending s))
    in
    (e, omega (arith, p.1, q.1))
