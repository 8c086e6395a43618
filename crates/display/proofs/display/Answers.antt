-- At any other number than the three the display list is that of no sus.
use mathlib.Core.Path.{sym, ap, ◌∙◌}
use native.Mathlib.Omega.{arith}
use Rattle.intervals.specs.Stored.{list_of, members}
use Rattle.display.proofs.Order.{shown-plain}
use Rattle.display.proofs.display.Goals as goal

pub returns-in_default : goal.returns-in_default
returns-in_default c =
    let e = sym (shown-plain c.args.k (members c.args.s) (λ e. omega arith) (λ e. omega arith) (λ e. omega arith)) in
    (c.in_order-in_default.ensures.0 ∙ ap list_of e, c.in_order-in_default.ensures.1 ∙ e)
