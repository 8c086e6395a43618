-- The root has an effect as any token has; the rest is the walk from there.
use Rattle.parser.proofs.Walk.{parsed}
use native.Mathlib.Omega.{arith}
use Rattle.parser.proofs.parser.parse.Goals as goal

pub read_tokens-end-requires : goal.read_tokens-end-requires
read_tokens-end-requires c =
    let d = c.begin-st in
    (c.requires.0, (d.ensures c.args.exps.now).ready, record { errs = omega (arith, c.requires.1.errs, d.auto); exps = c.requires.1.exps })

pub returns : goal.returns
returns c =
    parsed c.args.tokens.now c.next_at.ensures c.next_at-second.ensures c.sign.ensures c.note-root.ensures
    (c.begin-st.ensures c.args.exps.now) c.read_tokens-end.ensures
