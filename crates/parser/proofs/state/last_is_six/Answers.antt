-- By whether there is an expression.
use Rattle.std.proofs.Common.{sym, ap, ◌∙◌}
use Rattle.parser.proofs.Six.{last_six-none, last_six-at}
use Rattle.parser.specs.Parser.{is_six}
use Rattle.parser.proofs.state.last_is_six.Goals as goal

pub returns-in-Some : goal.returns-in-Some
returns-in-Some c =
    let item = c.in-Some.ensures.item in
    c.is_six.ensures ∙ ap is_six item.1 ∙ sym (last_six-at c.args.exps.now c.in-Some.e.now item.3.0)

pub returns-in-None : goal.returns-in-None
returns-in-None c = sym (last_six-none c.args.exps.now c.in-None.ensures.item.3)
