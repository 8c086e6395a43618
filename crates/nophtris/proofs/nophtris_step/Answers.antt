-- Each arm is told what was found; where that is a bar, `nophtris_read` gives the rest.
-- Assumes nothing.
use Rattle.song.proofs.Laws.{found_within}
use Rattle.nophtris.proofs.Steps.{gave_bar, gave_eight, gave_end}
use Rattle.nophtris.proofs.nophtris_step.Goals as goal

pub overflow_sub-size : goal.overflow_sub-size
overflow_sub-size c = (found_within _ _ _ c.place_at-place.ensures).0

pub slice_bounds-nophtris_read-count : goal.slice_bounds-nophtris_read-count
slice_bounds-nophtris_read-count c = (found_within _ _ _ c.place_at-place.ensures).0

pub slice_bounds-nophtris_read-start : goal.slice_bounds-nophtris_read-start
slice_bounds-nophtris_read-start c = (found_within _ _ _ c.place_at-place.ensures).0

pub slice_bounds-nophtris_read-end : goal.slice_bounds-nophtris_read-end
slice_bounds-nophtris_read-end c = (found_within _ _ _ c.place_at-place.ensures).1

pub returns-in-TooLong : goal.returns-in-TooLong
returns-in-TooLong c = gave_eight _ _ _ c.place_at-place.ensures c.in-TooLong.is

pub returns-in-End : goal.returns-in-End
returns-in-End c = gave_end _ _ _ c.place_at-place.ensures c.in-End.is

pub returns-in-Bar : goal.returns-in-Bar
returns-in-Bar c = gave_bar _ _ _ c.place_at-place.ensures c.in-Bar.is c.nophtris_read.ensures
