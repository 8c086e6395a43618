-- By the sus; each order is held to its definition by computation.
use Rattle.display.proofs.Order.{at_flat2, at_plain, at_second, at_sharp4}
use mathlib.Core.Path.{◌∙◌}
use native.Mathlib.Omega.{arith}
use Rattle.display.proofs.order_at.Goals as goal

pub returns-in-1 : goal.returns-in-1
returns-in-1 c = let h = at_flat2 c.args.j c.requires in (rw c.in-1.is (c.moved.ensures ∙ h.0), omega (arith, c.moved.ensures, h.1))

pub returns-in-2 : goal.returns-in-2
returns-in-2 c = let h = at_second c.args.j c.requires in (rw c.in-2.is (c.moved-in-2.ensures ∙ h.0), omega (arith, c.moved-in-2.ensures, h.1))

pub returns-in-6 : goal.returns-in-6
returns-in-6 c = let h = at_sharp4 c.args.j c.requires in (rw c.in-6.is (c.moved-in-6.ensures ∙ h.0), omega (arith, c.moved-in-6.ensures, h.1))

pub returns-in_default : goal.returns-in_default
returns-in_default c = (at_plain c.args.k c.args.j (λ e. omega arith) (λ e. omega arith) (λ e. omega arith) c.requires, c.requires)
