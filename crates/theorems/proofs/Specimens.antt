-- By computation, from bytes to the four and the spelling, and to the messages.
-- Assumes nothing.
use mathlib.Core.Path.{refl}
use Rattle.intervals.specs.Interval.{insert, remove}
use Rattle.intervals.specs.Stored.{within}
use Rattle.display.specs.Display.{display_of, order}
use Rattle.folding.specs.Folding.{concat, count, fold_on, is_maj, join}
use Rattle.lexer.specs.Lexer.{digit_of, head_of, lex, sign_of}
use Rattle.lexer.specs.Words.{by_ends, is_letter, run_end, word_to, words}
use Rattle.parser.specs.Parser.{last_six, walk}
use Rattle.reader.specs.Reader.{answer_to, is_blank}
use Rattle.token.specs.Token.{type_of}
use Rattle.utf8.specs.Utf8.{bits, char_of, encode, is_scalar, well_from}
use Rattle.validator.specs.Validator.{all_from, times_of, extension_fault, first_from, first_wrong, last_below, semitone_errors, set_valid, validation_of}
use Rattle.keys.specs.Keys.{ascending, bass_keys, display_keys, keys_over, minus, outside, up_from, wants}
use Rattle.midi.specs.Midi.{messages, next_of}
use Rattle.theorems.specs.Specimens.{MidiAsSaid, ReadAsSaid}

pub read_as_said_lem : ReadAsSaid
unfolding head_of digit_of is_letter lex sign_of by_ends run_end word_to words concat count fold_on is_maj join last_six walk type_of bits char_of encode is_scalar well_from answer_to is_blank display_of order insert remove all_from times_of extension_fault first_from first_wrong last_below semitone_errors validation_of
read_as_said_lem = refl

pub midi_as_said_lem : MidiAsSaid
unfolding head_of digit_of is_letter lex sign_of by_ends run_end word_to words concat count fold_on is_maj join last_six walk type_of bits char_of encode is_scalar well_from answer_to is_blank display_of order insert remove all_from times_of extension_fault first_from first_wrong last_below semitone_errors validation_of set_valid within ascending bass_keys display_keys keys_over minus outside up_from wants messages next_of
midi_as_said_lem = refl
