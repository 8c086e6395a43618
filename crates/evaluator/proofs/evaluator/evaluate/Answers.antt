-- The bass from the expressions, the set from the stages, and the display list of both.
use mathlib.Core.Path.{sym, ap, ◌∙◌}
use native.Mathlib.Omega.{arith}
use Rattle.intervals.proofs.Whole.{set-whole}
use Rattle.intervals.specs.Stored.{set_of}
use Rattle.evaluator.proofs.evaluator.evaluate.Goals as goal

pub returns : goal.returns
returns c =
    let set = c.eval_set-set.ensures in
    let r = c.eval_set-set.result in
    record {
      bass = c.evaluate_expressions-d.ensures.bass;
      set = set;
      display = rw (← set, ← c.first_sus.ensures) c.display.ensures.1;
      whole = sym (set-whole r (omega (arith, c.eval_set-set.type_inv))) ∙ ap set_of set;
      list = rw (← set, ← c.first_sus.ensures) c.display.ensures.0;
    }
