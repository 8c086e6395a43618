-- Where `target` is a member, it goes and `dest` comes; where it is not, nothing changes.
-- Assumes nothing.
use mathlib.Core.Path.{sym, ◌∙◌}
use Rattle.intervals.proofs.Store.{replace_in, replace_out}
use Rattle.intervals.proofs.IntervalSet.replace.Goals as goal

pub returns-then-contains : goal.returns-then-contains
returns-then-contains c = rw (c.insert.ensures, c.remove.ensures) (replace_in _ _ _ (sym c.contains.ensures ∙ c.if-contains.true))

pub returns : goal.returns
returns c = replace_out _ _ _ (sym c.contains.ensures ∙ c.if-contains.false)
