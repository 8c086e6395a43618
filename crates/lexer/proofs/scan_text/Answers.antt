-- The invariant is `Went`: what stands there and what is still to come make the tokens of the text.
use Rattle.std.proofs.Common.{refl, arith}
use Rattle.lexer.proofs.Steps.{went-start, went_on, went-end}
use Rattle.lexer.proofs.scan_text.Goals as goal

pub loop-s-init : goal.loop-s-init
loop-s-init c = (went-start _ (record { among = omega arith; some = omega arith; within = omega arith }), refl)

pub scan_token-s-requires : goal.scan_token-s-requires
scan_token-s-requires c =
    let p = c.requires in
    let i = c.loop-s.invariant in
    (record { short = p.0; few = i.0.few; room = omega (arith, i.1, p.1) }, c.loop-s-test.true)

pub loop-s-smaller : goal.loop-s-smaller
loop-s-smaller c = omega (arith, c.scan_token-s.ensures.1, c.loop-s-test.true)

pub loop-s-preserved : goal.loop-s-preserved
loop-s-preserved c = (went_on c.loop-s.invariant.0 c.scan_token-s.ensures.0, omega arith)

pub returns : goal.returns
returns c =
    let i = c.loop-s.invariant in
    let f = i.0.few in
    (went-end c.args.text.now c.loop-s.s _ _ i.0 c.loop-s-test.false (omega (arith, f.some, f.within, i.1, c.requires.1)), omega (arith, f.some, f.within))
