-- The invariant is `Cutting`: the tokens so far and those to come are all, and the rest of the run stands before the place.
use Rattle.std.proofs.Common.{refl, arith}
use Rattle.lexer.proofs.Steps.{went-start, step_asks, step_head, step-place, cut_inside, cut_head, cut_step}
use Rattle.lexer.proofs.parse_string.Goals as goal

pub loop-s-init : goal.loop-s-init
loop-s-init c = (record { went = went-start _ c.requires.0.few; run = c.requires.1 }, refl)

pub word_by_ends-requires : goal.word_by_ends-requires
word_by_ends-requires c =
    let i = c.loop-s.invariant.0 in
    (cut_inside i c.loop-s-test.true, c.requires.0.short, i.run)

pub emit-s-requires : goal.emit-s-requires
emit-s-requires c =
    let p = c.requires.0 in
    let i = c.loop-s.invariant in
    let l = c.loop-s-test.true in
    let h = cut_head i.0 l (c.word_head-h.ensures _ c.word_by_ends.ensures) in
    step_asks i.0.went.few (cut_inside i.0 l) h _ p.short (omega (arith, i.1, p.room))

pub loop-s-smaller : goal.loop-s-smaller
loop-s-smaller c =
    let i = c.loop-s.invariant.0 in
    let l = c.loop-s-test.true in
    let h = cut_head i l (c.word_head-h.ensures _ c.word_by_ends.ensures) in
    let n = cut_inside i l in
    omega (arith, l, step-place i.went.few n h c.emit-s.ensures, (step_head i.went.few n h).0)

pub loop-s-preserved : goal.loop-s-preserved
loop-s-preserved c =
    let i = c.loop-s.invariant in
    let l = c.loop-s-test.true in
    let n = cut_inside i.0 l in
    let w = cut_step i.0 l (c.word_head-h.ensures _ c.word_by_ends.ensures) (omega (arith, i.0.went.few.some, n, i.1, c.requires.0.room)) c.emit-s.ensures in
    (w, omega arith)

pub returns : goal.returns
returns c = (c.loop-s.invariant.0.went, c.loop-s-test.false)
