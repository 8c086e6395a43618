-- Every statement of specs/ has its proof.
-- Assumes nothing.
use Rattle.theorems.proofs.CEndings.{c_bar_by_number_lem, c_bar_is_step_lem, c_bar_untouched_lem, c_bars_in_order_lem, c_each_once_lem}
use Rattle.theorems.proofs.CMidi.{c_midi_again_lem, c_midi_balance_lem, c_midi_base_lem, c_midi_numbered_lem, c_midi_room_lem, c_midi_sent_lem, c_midi_silence_lem, c_midi_untouched_lem}
use Rattle.theorems.proofs.CSongs.{c_all_bars_lem, c_always_eight_lem, c_bars_from_lem, c_handed_out_lem, c_step_turns_lem}
use Rattle.theorems.proofs.Endings.{bar_is_next_lem, bar_is_step_lem, bars_in_order_lem, each_once_lem, own_bytes_lem, spot_by_number_lem, spots_in_order_lem}
use Rattle.theorems.proofs.Midi.{midi_again_lem, midi_apart_lem, midi_balance_lem, midi-base, midi-numbered, midi-room, midi-sent, midi-silence, midi_untouched_lem}
use Rattle.theorems.proofs.Raised.{raised_answer_lem, raised_tokens_lem}
use Rattle.theorems.proofs.RaisedReads.{c_raised_read_lem, raised_read_lem}
use Rattle.theorems.proofs.Readings.{c_read_errors_lem, c_read_numbered_lem, c_read_record_lem, c_read_untouched_lem, read_apart_lem, read-errors, read-numbered, read_record_lem, read_untouched_lem}
use Rattle.theorems.proofs.Signs.{before_as_said_lem, positions_alone_lem, signs_alone_lem}
use Rattle.theorems.proofs.Silent.{blank-texts, c_read_blank_lem, c_silent_bar_lem, c_write_nothing_lem, c_write_rootless_lem, empty_spelling_lem, read-blank, rootless, silent-bar, write-nothing, write-rootless}
use Rattle.theorems.proofs.Songs.{all_bars_lem, always_eight_lem, bars_from_lem, handed_out_lem, next-all_bars, next-always_eight, next-bars_from, next-handed_out, next_turns_lem, step_turns_lem}
use Rattle.theorems.proofs.Specimens.{midi_as_said_lem, read_as_said_lem}
use Rattle.theorems.proofs.Trips.{any_written_then_read_lem, c_any_written_then_read_lem, c_read_then_write_lem, c_same_spelling_lem, c_write_then_read_lem, read_then_write_lem, same_spelling_lem, write_then_read_lem}
use Rattle.theorems.proofs.Walks.{bars_split_lem}
use Rattle.theorems.proofs.Writings.{c_write_numbered_lem, c_write_spelled_lem, c_write_untouched_lem, write_apart_lem, write-numbered, write-spelled, write_untouched_lem}
use Rattle.theorems.specs.Theorems.{Theorems}

pub theorems : Theorems
theorems =
    record {
      read_numbered = read-numbered;
      read_apart = read_apart_lem;
      read_errors = read-errors;
      read_untouched = read_untouched_lem;
      read_record = read_record_lem;
      write_numbered = write-numbered;
      write_apart = write_apart_lem;
      write_spelled = write-spelled;
      write_untouched = write_untouched_lem;
      c_read_numbered = c_read_numbered_lem;
      c_read_errors = c_read_errors_lem;
      c_read_untouched = c_read_untouched_lem;
      c_read_record = c_read_record_lem;
      c_write_numbered = c_write_numbered_lem;
      c_write_spelled = c_write_spelled_lem;
      c_write_untouched = c_write_untouched_lem;
      read_then_write = read_then_write_lem;
      write_then_read = write_then_read_lem;
      any_written_then_read = any_written_then_read_lem;
      same_spelling = same_spelling_lem;
      c_read_then_write = c_read_then_write_lem;
      c_write_then_read = c_write_then_read_lem;
      c_any_written_then_read = c_any_written_then_read_lem;
      c_same_spelling = c_same_spelling_lem;
      read_as_said = read_as_said_lem;
      bars_split = bars_split_lem;
      step_turns = step_turns_lem;
      all_bars = all_bars_lem;
      bars_from = bars_from_lem;
      handed_out = handed_out_lem;
      always_eight = always_eight_lem;
      next_turns = next_turns_lem;
      next_all_bars = next-all_bars;
      next_bars_from = next-bars_from;
      next_handed_out = next-handed_out;
      next_always_eight = next-always_eight;
      c_step_turns = c_step_turns_lem;
      c_all_bars = c_all_bars_lem;
      c_bars_from = c_bars_from_lem;
      c_handed_out = c_handed_out_lem;
      c_always_eight = c_always_eight_lem;
      raised_tokens = raised_tokens_lem;
      raised_answer = raised_answer_lem;
      raised_read = raised_read_lem;
      c_raised_read = c_raised_read_lem;
      blank_texts = blank-texts;
      rootless = rootless;
      empty_spelling = empty_spelling_lem;
      read_blank = read-blank;
      silent_bar = silent-bar;
      write_nothing = write-nothing;
      write_rootless = write-rootless;
      c_read_blank = c_read_blank_lem;
      c_silent_bar = c_silent_bar_lem;
      c_write_nothing = c_write_nothing_lem;
      c_write_rootless = c_write_rootless_lem;
      spot_by_number = spot_by_number_lem;
      own_bytes = own_bytes_lem;
      each_once = each_once_lem;
      spots_in_order = spots_in_order_lem;
      bars_in_order = bars_in_order_lem;
      bar_is_step = bar_is_step_lem;
      bar_is_next = bar_is_next_lem;
      c_bar_by_number = c_bar_by_number_lem;
      c_bar_untouched = c_bar_untouched_lem;
      c_each_once = c_each_once_lem;
      c_bars_in_order = c_bars_in_order_lem;
      c_bar_is_step = c_bar_is_step_lem;
      positions_alone = positions_alone_lem;
      before_as_said = before_as_said_lem;
      signs_alone = signs_alone_lem;
      midi_as_said = midi_as_said_lem;
      midi_numbered = midi-numbered;
      midi_apart = midi_apart_lem;
      midi_sent = midi-sent;
      midi_untouched = midi_untouched_lem;
      midi_room = midi-room;
      midi_base = midi-base;
      midi_again = midi_again_lem;
      midi_silence = midi-silence;
      midi_balance = midi_balance_lem;
      c_midi_numbered = c_midi_numbered_lem;
      c_midi_sent = c_midi_sent_lem;
      c_midi_untouched = c_midi_untouched_lem;
      c_midi_room = c_midi_room_lem;
      c_midi_base = c_midi_base_lem;
      c_midi_again = c_midi_again_lem;
      c_midi_silence = c_midi_silence_lem;
      c_midi_balance = c_midi_balance_lem;
    }
