-- Each arm is the definition at that expression, and what was packed is found again.
-- Assumes nothing.
use mathlib.Core.Path.{sym, ap, ◌∙◌}
use Rattle.expression.specs.Expression.{packed, exp_number}
use Rattle.expression.specs.declared.expression.Exp.TheVariants.{SlashBass}
use Rattle.expression.proofs.expression.U32FromExp.from.Goals as goal

pub returns-in-SlashBass : goal.returns-in-SlashBass
returns-in-SlashBass c =
    let n = c.from.ensures in
    (c.pack-in-SlashBass.ensures.0 ∙ ap (λ v. packed 14 v 0) n.0 ∙ sym (ap exp_number c.in-SlashBass.is), c.pack-in-SlashBass.ensures.1 ∙ ap SlashBass n.1 ∙ sym c.in-SlashBass.is)
