-- The digits that both sets have are taken out.
-- Assumes nothing.
use Rattle.keys.proofs.Sets.{without_at}
use Rattle.keys.specs.Keys.{minus}
use Rattle.keys.specs.Stored.{members}
use Rattle.keys.proofs.Keys.without.Goals as goal

pub returns : goal.returns
unfolding members minus
returns c =
    let a = c.args in
    λ x k. without_at a.self.low a.self.high a.other.low a.other.high k x
