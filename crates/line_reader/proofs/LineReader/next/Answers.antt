-- A step's bar lies within its line (`step-within`).
use Rattle.song.proofs.Laws.{step-within}
use Rattle.line_reader.proofs.LineReader.next.Goals as goal

pub part-requires : goal.part-requires
part-requires c = step-within c.step_at-step.ensures
