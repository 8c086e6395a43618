-- The invariant: what is in the list and what the rest of the order gives are the display list, and the list is the one of its numbers.
use Prim.Native.Nat.{◌≤◌}
use Rattle.intervals.specs.Stored.{list_of, listed, members}
use Rattle.display.specs.Display.{chosen, display_of, order, shown}
use lib.ListN.{drop, length}
use mathlib.Core.List.{◌++◌}
use mathlib.Core.Path.{◌≡◌}
use Rattle.display.proofs.in_order.Given as goal

abbrev pub invariant-loop-j : goal.invariant-loop-j
invariant-loop-j l = (length (listed l.list) ≤ l.j) × (l.list ≡ list_of (listed l.list))
    × (listed l.list ++ chosen (members l.s) (shown l.k) (drop l.j (order l.k)) ≡ display_of l.k (members l.s))
