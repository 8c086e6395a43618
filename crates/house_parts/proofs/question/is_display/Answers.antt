-- The answer is true exactly when the two lists are equal.
-- Assumes nothing.
use mathlib.Core.Path.{ap, ◌∙◌}
use Prim.Native.Nat.{ℕ}
use Rattle.intervals.specs.Stored.{listed, members}
use Rattle.display.specs.Display.{display_of}
use Rattle.house_parts.specs.Question.{same_list}
use Rattle.house_parts.proofs.Tests.{same_test}
use Rattle.house_parts.proofs.question.is_display.Goals as goal

pub returns : goal.returns
returns c =
    let l = listed c.args.list in
    let s = members c.args.set in
    same_test c.same.result l (listed c.display.result) c.same.ensures
    ∙ ap (same_list l) (c.display.ensures.1 ∙ ap (λ (k : ℕ). display_of k s) c.sus.ensures)
