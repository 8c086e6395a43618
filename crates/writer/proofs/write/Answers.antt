-- The code asks the definition's questions in its order.
-- Assumes nothing.
use mathlib.Core.Path.{◌∙◌}
use native.Mathlib.Omega.{arith}
use Rattle.chord.specs.Chord.{four_of}
use Rattle.std.proofs.Common.{rules}
use Rattle.writer.proofs.Answers.{gave_as, gave_no_text, gave_short, gave_spelled, is_test, negated}
use Rattle.writer.proofs.write.Goals as goal

pub returns-then-buffer-lt112 : goal.returns-then-buffer-lt112
returns-then-buffer-lt112 c =
    let a = c.args in
    gave_short (four_of a.chord) a.buffer.now (omega (arith, c.if-buffer-lt112.true))

pub returns-then-not-has_text : goal.returns-then-not-has_text
returns-then-not-has_text c =
    let a = c.args in
    gave_no_text (four_of a.chord) a.buffer.now c.if-buffer-lt112.false
    (is_test a.chord c.has_text.result c.has_text.ensures ∙ negated _ _ c.if-not-has_text.true-raw)

pub returns : goal.returns
returns c =
    let a = c.args in
    let t = c.has_text in
    gave_as (search rules)
    (gave_spelled (four_of a.chord) a.buffer.now c.if-buffer-lt112.false
    (is_test a.chord t.result t.ensures ∙ negated _ _ c.if-not-has_text.false-raw)
    c.spell.ensures)
