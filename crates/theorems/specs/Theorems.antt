-- All statements, in the order of the demands and of the requests: proofs/Theorems.antt has a value of this record. That each call ends and
-- that nothing in it is undefined is what it means that the functions are proved; that the caller has nothing to check first, that they
-- have no `requires`.
use Rattle.theorems.specs.CEndings as C-endings
use Rattle.theorems.specs.CMidi as C-midi
use Rattle.theorems.specs.CReading as C-reading
use Rattle.theorems.specs.CSong as C-song
use Rattle.theorems.specs.CTrips as C-trips
use Rattle.theorems.specs.CWriting as C-writing
use Rattle.theorems.specs.Endings as endings
use Rattle.theorems.specs.Midi as midi
use Rattle.theorems.specs.Raised as raised
use Rattle.theorems.specs.Reading as reading
use Rattle.theorems.specs.Signs as signs
use Rattle.theorems.specs.Silent as silent
use Rattle.theorems.specs.Song as song
use Rattle.theorems.specs.Specimens.{MidiAsSaid, ReadAsSaid}
use Rattle.theorems.specs.Trips as trips
use Rattle.theorems.specs.Writing as writing

-- what a caller in Rattle and a caller in C hold
pub record Theorems : Type 0 where
  -- demands 1 and 2: "it succeeds or gives a number of document 01, with every lent buffer as that paper says"
  pub read_numbered : reading.ReadNumbered
  pub read_apart : reading.ReadApart
  pub read_errors : reading.ReadErrors
  pub read_untouched : reading.ReadUntouched
  pub read_record : reading.ReadRecord
  pub write_numbered : writing.WriteNumbered
  pub write_apart : writing.WriteApart
  pub write_spelled : writing.WriteSpelled
  pub write_untouched : writing.WriteUntouched
  pub c_read_numbered : C-reading.ReadNumbered
  pub c_read_errors : C-reading.ReadErrors
  pub c_read_untouched : C-reading.ReadUntouched
  pub c_read_record : C-reading.ReadRecord
  pub c_write_numbered : C-writing.WriteNumbered
  pub c_write_spelled : C-writing.WriteSpelled
  pub c_write_untouched : C-writing.WriteUntouched
  -- demand 3: the same spelling exactly for the same four; every accepted text has one, which reads as the same four
  pub read_then_write : trips.ReadThenWrite
  pub write_then_read : trips.WriteThenRead
  pub any_written_then_read : trips.AnyWrittenThenRead
  pub same_spelling : trips.SameSpelling
  pub c_read_then_write : C-trips.ReadThenWrite
  pub c_write_then_read : C-trips.WriteThenRead
  pub c_any_written_then_read : C-trips.AnyWrittenThenRead
  pub c_same_spelling : C-trips.SameSpelling
  -- the card specimens that have a star
  pub read_as_said : ReadAsSaid
  -- whole song lines: the bars of a line, one step, and steps one after the other
  pub bars_split : song.BarsSplit
  pub step_turns : song.StepTurns
  pub all_bars : song.AllBars
  pub bars_from : song.BarsFrom
  pub handed_out : song.HandedOut
  pub always_eight : song.AlwaysEight
  pub next_turns : song.NextTurns
  pub next_all_bars : song.NextAllBars
  pub next_bars_from : song.NextBarsFrom
  pub next_handed_out : song.NextHandedOut
  pub next_always_eight : song.NextAlwaysEight
  pub c_step_turns : C-song.StepTurns
  pub c_all_bars : C-song.AllBars
  pub c_bars_from : C-song.BarsFrom
  pub c_handed_out : C-song.HandedOut
  pub c_always_eight : C-song.AlwaysEight
  -- raised numerals: the tokens and the answer of the same text in plain digits, positions mapped back
  pub raised_tokens : raised.RaisedTokens
  pub raised_answer : raised.RaisedAnswer
  pub raised_read : raised.RaisedRead
  pub c_raised_read : raised.CRaisedRead
  -- silent bars: blank texts and the record of no chord
  pub blank_texts : silent.BlankTexts
  pub rootless : silent.Rootless
  pub empty_spelling : silent.EmptySpelling
  pub read_blank : silent.ReadBlank
  pub silent_bar : silent.SilentBar
  pub write_nothing : silent.WriteNothing
  pub write_rootless : silent.WriteRootless
  pub c_read_blank : silent.CReadBlank
  pub c_silent_bar : silent.CSilentBar
  pub c_write_nothing : silent.CWriteNothing
  pub c_write_rootless : silent.CWriteRootless
  -- second endings: one bar number, all of them in order, and the steps on the line that has the bar
  pub spot_by_number : endings.SpotByNumber
  pub own_bytes : endings.OwnBytes
  pub each_once : endings.EachOnce
  pub spots_in_order : endings.SpotsInOrder
  pub bars_in_order : endings.BarsInOrder
  pub bar_is_step : endings.BarIsStep
  pub bar_is_next : endings.BarIsNext
  pub c_bar_by_number : C-endings.BarByNumber
  pub c_bar_untouched : C-endings.BarUntouched
  pub c_each_once : C-endings.EachOnce
  pub c_bars_in_order : C-endings.BarsInOrder
  pub c_bar_is_step : C-endings.BarIsStep
  -- positions on the sign: nothing else of an answer goes by positions, so that the rule changes them alone
  pub positions_alone : signs.PositionsAlone
  pub before_as_said : signs.BeforeAsSaid
  pub signs_alone : signs.SignsAlone
  -- MIDI out: chords that a misreading would get wrong, one call, what a caller plans with, and calls one after the other
  pub midi_as_said : MidiAsSaid
  pub midi_numbered : midi.MidiNumbered
  pub midi_apart : midi.MidiApart
  pub midi_sent : midi.MidiSent
  pub midi_untouched : midi.MidiUntouched
  pub midi_room : midi.MidiRoom
  pub midi_base : midi.MidiBase
  pub midi_again : midi.MidiAgain
  pub midi_silence : midi.MidiSilence
  pub midi_balance : midi.MidiBalance
  pub c_midi_numbered : C-midi.MidiNumbered
  pub c_midi_sent : C-midi.MidiSent
  pub c_midi_untouched : C-midi.MidiUntouched
  pub c_midi_room : C-midi.MidiRoom
  pub c_midi_base : C-midi.MidiBase
  pub c_midi_again : C-midi.MidiAgain
  pub c_midi_silence : C-midi.MidiSilence
  pub c_midi_balance : C-midi.MidiBalance
