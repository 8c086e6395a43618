-- The bar of a step lies in the line.
-- Assumes nothing.
use Rattle.song.proofs.Laws.{step-within}
use Rattle.show.proofs.songs.show_song.Goals as goal

pub put_step-requires : goal.put_step-requires
put_step-requires g c = step-within c.step_at-step.ensures
