-- The loop of the bracket reader by the laws of the walk; the token step by the effect that it decides, and by what was read of the
-- bracket that it opens.
use mathlib.Core.Path.{sym, ◌∙◌}
use native.Mathlib.Omega.{arith}
use Rattle.token.proofs.Ranges.{ranged-at}
use Rattle.parser.proofs.Effects.{effect_at_lem}
use Rattle.parser.proofs.Walk.{read-ends, read_none, read_then, took_alone, took_bracket, within-one, within_then}
use Rattle.parser.proofs.parser.+read_tokens_take_token.Goals as goal

pub read_tokens-returns-then-last : goal.read_tokens-returns-then-last
read_tokens-returns-then-last t c =
    let a = c.args in
    let l = c.loop-s in
    read_then a.tokens.now a.inside l.invariant.0
    (read-ends a.tokens.now a.inside l.s l.errs l.exps c.loop-s-test.true
    (sym c.ends-last.ensures ∙ c.if-last.true) c.take_token-s.ensures)

pub read_tokens-loop-s-preserved : goal.read_tokens-loop-s-preserved
read_tokens-loop-s-preserved t c =
    let a = c.args in
    let l = c.loop-s in (
      within_then a.tokens.now a.inside l.invariant.0
          (within-one a.tokens.now a.inside l.s l.errs l.exps c.loop-s-test.true
          (sym c.ends-last.ensures ∙ c.if-last.false) c.take_token-s.ensures),
      omega arith,
      omega arith,
    )

pub read_tokens-returns : goal.read_tokens-returns
read_tokens-returns t c = read_none c.args.tokens.now c.args.inside c.loop-s-test.false c.loop-s.invariant.0

pub take_token-process_inside-e-requires : goal.take_token-process_inside-e-requires
take_token-process_inside-e-requires t c =
    let a = c.args in
    let p = c.requires in
    let r = ranged-at 1000 1000 a.tokens.now p.0.ranged a.st.at p.1 in
    rw c.here_at.ensures (omega (arith, r), omega (arith, p.2.bound, p.0.few, p.1))

pub take_token-apply-u-requires : goal.take_token-apply-u-requires
take_token-apply-u-requires t c =
    let a = c.args in
    let p = c.requires in
    let f = effect_at_lem a.tokens.now a.exps.now a.st a.inside c.ahead_of-ahead.result
    c.bracket_in.ensures c.unwrap_or.ensures c.from_number-kind.ensures c.here_at.ensures
    c.ahead_of-ahead.ensures c.process_inside-e.ensures in
    (p.2, omega (arith, p.0.few, p.1), f.1, p.3)

pub take_token-returns-then-opens : goal.take_token-returns-then-opens
take_token-returns-then-opens t c =
    let a = c.args in
    took_bracket a.tokens.now a.inside a.st a.errs.now a.exps.now
    (effect_at_lem a.tokens.now a.exps.now a.st a.inside c.ahead_of-ahead.result
    c.bracket_in.ensures c.unwrap_or.ensures c.from_number-kind.ensures c.here_at.ensures
    c.ahead_of-ahead.ensures c.process_inside-e.ensures).0
    (sym c.opens.ensures ∙ c.if-opens.true)
    c.apply-u.ensures c.copied.ensures c.read_tokens-r.ensures c.copied-then-opens.ensures

pub take_token-returns : goal.take_token-returns
take_token-returns t c =
    let a = c.args in
    took_alone a.tokens.now a.inside a.st a.errs.now a.exps.now
    (effect_at_lem a.tokens.now a.exps.now a.st a.inside c.ahead_of-ahead.result
    c.bracket_in.ensures c.unwrap_or.ensures c.from_number-kind.ensures c.here_at.ensures
    c.ahead_of-ahead.ensures c.process_inside-e.ensures).0
    (sym c.opens.ensures ∙ c.if-opens.false)
    c.apply-u.ensures
