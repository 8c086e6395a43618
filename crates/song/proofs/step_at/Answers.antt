-- Each arm is told what was found; where that is a bar, reading it gives the rest.
use Rattle.std.proofs.Common.{ap}
use Rattle.reader.specs.Reader.{reading_of}
use Rattle.song.proofs.Laws.{a_bar, at-end, found_within, too_long}
use Rattle.song.specs.State.{shown}
use Rattle.song.proofs.step_at.Goals as goal

pub slice_bounds-read-count : goal.slice_bounds-read-count
slice_bounds-read-count c = (found_within _ _ _ c.place_at-place.ensures).0

pub slice_bounds-read-start : goal.slice_bounds-read-start
slice_bounds-read-start c = (found_within _ _ _ c.place_at-place.ensures).0

pub slice_bounds-read-end : goal.slice_bounds-read-end
slice_bounds-read-end c = (found_within _ _ _ c.place_at-place.ensures).1

pub returns-in-TooLong : goal.returns-in-TooLong
returns-in-TooLong c = too_long _ _ _ c.place_at-place.ensures _ _ c.in-TooLong.is (ap shown c.step_with.ensures)

pub returns-in-End : goal.returns-in-End
returns-in-End c = at-end _ _ _ c.place_at-place.ensures _ _ c.in-End.is (ap shown c.step_with-in-End.ensures)

pub returns-in-Bar : goal.returns-in-Bar
returns-in-Bar c =
    a_bar _ _ _ c.place_at-place.ensures _ (reading_of c.read-read.result) _ _ c.in-Bar.is c.read-read.ensures (ap shown c.step_with-in-Bar.ensures)
