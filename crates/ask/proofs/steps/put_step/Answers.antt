-- The bar of a step lies in the line.
-- Assumes nothing.
use Rattle.song.proofs.Laws.{step-within}
use Rattle.ask.proofs.steps.put_step.Goals as goal

pub put_said-requires : goal.put_said-requires
put_said-requires g c = (step-within c.step_at-step.ensures).0
