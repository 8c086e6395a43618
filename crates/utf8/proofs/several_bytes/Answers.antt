-- Each refusal by the first byte that is wrong; else the bytes are those of the number that they give, or of none.
use Rattle.std.proofs.Common.{sym, arith}
use Rattle.utf8.proofs.Forms.{none_bad, bad_lead, high_lead, bad_second, bad_third, bad_fourth, two_char, three_char, four_char}
use Rattle.utf8.proofs.several_bytes.Goals as goal

pub returns-in_err-more-in-192-to-223 : goal.returns-in_err-more-in-192-to-223
returns-in_err-more-in-192-to-223 c =
    let s = c.args.s.now in
    none_bad s c.from_residual.ensures (bad_second s c.requires.0 (omega arith) c.in_err-more-in-192-to-223.ensures)

pub returns-in_ok-more-in-192-to-223 : goal.returns-in_ok-more-in-192-to-223
returns-in_ok-more-in-192-to-223 c =
    two_char c.args.s.now c.args.a c.requires.0 c.requires.1 _ (omega arith) (omega arith) c.in_ok-more-in-192-to-223.ensures c.character.ensures

pub returns-in_err-more-in-224-to-239 : goal.returns-in_err-more-in-224-to-239
returns-in_err-more-in-224-to-239 c =
    let s = c.args.s.now in
    none_bad s c.from_residual-in_err-more-in-224-to-239.ensures (bad_second s c.requires.0 (omega arith) c.in_err-more-in-224-to-239.ensures)

pub returns-in_err-more-in-224-to-239-2 : goal.returns-in_err-more-in-224-to-239-2
returns-in_err-more-in-224-to-239-2 c =
    let s = c.args.s.now in
    none_bad s c.from_residual-in_err-more-in-224-to-239-2.ensures (bad_third s c.requires.0 (omega arith) c.in_err-more-in-224-to-239-2.ensures)

pub returns-in_ok-more-in-224-to-239-2 : goal.returns-in_ok-more-in-224-to-239-2
returns-in_ok-more-in-224-to-239-2 c =
    three_char c.args.s.now c.args.a c.requires.0 c.requires.1 _ _ (omega arith) (omega arith) c.in_ok-more-in-224-to-239.ensures c.in_ok-more-in-224-to-239-2.ensures c.character-in-224-to-239.ensures

pub returns-in_err-more-in-240-to-247 : goal.returns-in_err-more-in-240-to-247
returns-in_err-more-in-240-to-247 c =
    let s = c.args.s.now in
    none_bad s c.from_residual-in_err-more-in-240-to-247.ensures (bad_second s c.requires.0 (omega arith) c.in_err-more-in-240-to-247.ensures)

pub returns-in_err-more-in-240-to-247-2 : goal.returns-in_err-more-in-240-to-247-2
returns-in_err-more-in-240-to-247-2 c =
    let s = c.args.s.now in
    none_bad s c.from_residual-in_err-more-in-240-to-247-2.ensures (bad_third s c.requires.0 (omega arith) c.in_err-more-in-240-to-247-2.ensures)

pub returns-in_err-more-in-240-to-247-3 : goal.returns-in_err-more-in-240-to-247-3
returns-in_err-more-in-240-to-247-3 c =
    let s = c.args.s.now in
    none_bad s c.from_residual-in_err-more-in-240-to-247-3.ensures (bad_fourth s c.requires.0 (omega arith) c.in_err-more-in-240-to-247-3.ensures)

pub returns-in_ok-more-in-240-to-247-3 : goal.returns-in_ok-more-in-240-to-247-3
returns-in_ok-more-in-240-to-247-3 c =
    four_char c.args.s.now c.args.a c.requires.0 c.requires.1 _ _ _ (omega arith) (omega arith) c.in_ok-more-in-240-to-247.ensures c.in_ok-more-in-240-to-247-2.ensures c.in_ok-more-in-240-to-247-3.ensures c.character-in-240-to-247.ensures

pub returns-in_default : goal.returns-in_default
returns-in_default c = sym (bad_lead c.args.s.now c.requires.0 (omega arith) (omega arith))

pub returns-in_default-2 : goal.returns-in_default-2
returns-in_default-2 c = sym (high_lead c.args.s.now c.requires.0 (omega arith))
