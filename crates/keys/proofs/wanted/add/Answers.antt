-- By whether the key falls outside.
-- Assumes nothing.
use mathlib.Core.Path.{refl}
use Rattle.keys.proofs.Wanting.{add_above, add-inside}
use Rattle.keys.proofs.wanted.add.Goals as goal

pub returns-then-key-lt128 : goal.returns-then-key-lt128
returns-then-key-lt128 c =
    let a = c.args in
    add-inside a.key c.if-key-lt128.true refl c.insert.ensures

pub returns-else-key-lt128 : goal.returns-else-key-lt128
returns-else-key-lt128 c =
    let a = c.args in
    add_above a.key c.if-key-lt128.false refl refl
