-- The test decides the question of any record.
-- Assumes nothing.
use mathlib.Core.Bool.{Bool, true}
use mathlib.Core.Logic.{◌↔◌}
use mathlib.Core.Path.{◌≡◌, subst, sym}
use Rattle.chord.specs.Chord.{four_of}
use Rattle.writer.specs.Writer.{HasText}
use Rattle.writer.proofs.Answers.{decided}
use Rattle.writer.proofs.has_text.Goals as goal

pub returns : goal.returns
returns c =
    let a = c.args in
    subst (λ (b : Bool). (b ≡ true) ↔ HasText (four_of a.chord)) (sym c.is_realizable.ensures) (decided a.chord)
