-- The invariant: what is in the list and what the rest of the order gives are the display list, and the list is the one of its numbers. A turn
-- leaves the list as it is, or puts one number behind its numbers, by whether the interval is a member.
use Prim.Native.Nat.{◌+◌, ◌<◌, ◌≤◌, suc, ℕ}
use Rattle.intervals.specs.Stored.{list_of, listed, members}
use Rattle.display.proofs.Order.{append-nil, display_turn, order-length}
use Rattle.display.specs.Display.{chosen, display_of, order, shown}
use Rattle.intervals.specs.Interval.{Set}
use Rattle.intervals.specs.declared.IntervalList.{IntervalList}
use Rattle.std.proofs.Common.{rules}
use lib.ListN.{drop, drop_of_length-le, length, length-append}
use mathlib.Core.Bool.{cond}
use mathlib.Core.List.{List, [], ◌∷◌, ◌++◌}
use mathlib.Core.Path.{◌∙◌, ◌≡◌, ap, refl, sym}
use native.Mathlib.Omega.{arith}
use Rattle.display.proofs.in_order.Goals as goal
use Rattle.display.proofs.in_order.Goals.{then-contains, else-contains}

-- nothing of the order is in the list without numbers
display_start : (k : ℕ) (s : Set) {l : IntervalList} → l ≡ list_of [] → (length (listed l) ≤ 0) × (l ≡ list_of (listed l))
    × (listed l ++ chosen s (shown k) (drop 0 (order k)) ≡ display_of k s)
unfolding display_of list_of listed
display_start k s {l} e = let n : listed l ≡ [] = ap listed e in (rw n (omega arith), e ∙ ap list_of (sym n), rw n refl)

pub loop-j-init : goal.loop-j-init
unfolding list_of
loop-j-init c = display_start c.args.k (members c.args.s) (search rules)

pub loop-j-preserved : goal.loop-j-preserved
loop-j-preserved c =
    let g = c.loop-j in
    let i = g.invariant in
    let j = g.j in
    let x = c.order_at-i.result in
    let k = c.args.k in
    let s = members c.args.s in
    let l = listed g.list in
    let e : suc j ≡ j + 1 = omega arith in
    let b : j < 23 = omega arith in
    elim c.if-contains.branch [
      | then-contains w ↦
          let h = w.push.ensures in
          let q = w.push.new.self in
          let y = w.shown.result in
          let n : length (listed q) ≡ length l + 1 = ap length h.added ∙ length-append l (y ∷ []) in
          let p : listed q ≡ l ++ cond (s x) (shown k x ∷ []) [] = rw (← c.contains.ensures, w.if-contains.true, ← w.shown.ensures) h.added in
          let t = display_turn l (listed q) s k x j b c.order_at-i.ensures.0 p in
          rw w.list-is (omega (arith, i.0, n), h.whole i.1, rw (← e) (sym t ∙ i.2))
      | else-contains w ↦
          let p : l ≡ l ++ cond (s x) (shown k x ∷ []) [] = rw (← c.contains.ensures, w.if-contains.false) (sym (append-nil l)) in
          let t = display_turn l l s k x j b c.order_at-i.ensures.0 p in
          rw w.list-is (omega (arith, i.0), i.1, rw (← e) (sym t ∙ i.2))
    ]

pub returns : goal.returns
returns c =
    let i = c.loop-j.invariant in
    let l = c.loop-j.list in
    let k = c.args.k in
    let s = members c.args.s in
    let e = drop_of_length-le (order k) {i = c.loop-j.j} (omega (arith, order-length k)) in
    let d : listed l ≡ display_of k s = sym (append-nil (listed l)) ∙ ap (λ (r : List ℕ). listed l ++ chosen s (shown k) r) (sym e) ∙ i.2 in
    (i.1 ∙ ap list_of d, d)
