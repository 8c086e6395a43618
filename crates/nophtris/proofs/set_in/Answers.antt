-- A byte that is 1 makes its number a member, any other changes nothing.
use Rattle.std.proofs.Common.{◌≡◌, ℕ, Bool, ◌&&◌, sym, ap, ◌∙◌, ◌+◌, arith, eqb, ltb, get_or, eq-eqb, ne_eqb}
use Rattle.intervals.specs.Interval.{Set}
use Rattle.intervals.specs.Stored.{members}
use Rattle.nophtris.specs.Boundary.{values_in}
use Rattle.nophtris.proofs.Bytes.{byte_at, member_next, none_next, none_yet}
use Rattle.nophtris.proofs.set_in.Goals as goal
use Rattle.nophtris.proofs.set_in.Goals.{then-byte-eq1, else-byte-eq1}

pub loop-i-init : goal.loop-i-init
loop-i-init c = λ k. ap (λ (s : Set). s k) c.new-set.ensures ∙ none_yet (λ (j : ℕ). eqb (get_or c.args.bytes.now (4 + j) 0) 1) k

pub loop-i-preserved : goal.loop-i-preserved
loop-i-preserved c =
    let l = c.loop-i in
    let b = byte_at c.args.bytes.now l.i (omega arith) in
    let f : ℕ → Bool = λ (j : ℕ). eqb (get_or c.args.bytes.now (4 + j) 0) 1 in
    elim c.if-byte-eq1.branch [
      | then-byte-eq1 w ↦
          rw w.set-is (member_next (members l.set) _ f l.i l.invariant (eq-eqb _ 1 (sym b ∙ w.if-byte-eq1.true)) w.insert-set.ensures)
      | else-byte-eq1 w ↦ rw w.set-is (none_next (members l.set) f l.i l.invariant (ne_eqb _ 1 (λ e. w.if-byte-eq1.false (b ∙ e))))
    ]

pub returns : goal.returns
unfolding values_in
returns c =
    let bs = c.args.bytes.now in
    let e : c.loop-i.i ≡ 23 = omega arith in
    λ x k. (c.loop-i.invariant k ∙ ap (λ (j : ℕ). ltb k j && eqb (get_or bs (4 + k) 0) 1) e) x
