-- The low number's keys and then the high one's are the members in ascending order.
-- Assumes nothing.
use mathlib.Core.Path.{sym, ap, ◌∙◌}
use native.Mathlib.Omega.{arith}
use Rattle.keys.proofs.Places.{places-ascending, places_lengths}
use Rattle.keys.specs.Stored.{places}
use Rattle.midi.proofs.Words.{messages_append, messages-length}
use Rattle.midi.specs.Midi.{messages}
use Rattle.writer.proofs.Puts.{grew_as, grew_then}
use Rattle.midi.proofs.messages.put_keys.Goals as goal

pub put_word-requires : goal.put_word-requires
put_word-requires c = (omega arith, omega (arith, c.requires, places_lengths c.args.keys))

pub put_word-requires-2 : goal.put_word-requires-2
put_word-requires-2 c =
    let a = c.args in
    let w = c.put_word.ensures in
    let k = messages-length a.touch.status a.touch.velocity (places 64 0 a.keys.low) in
    (omega arith, omega (arith, c.requires, places_lengths a.keys, k, w.put.count, w.size))

pub returns : goal.returns
returns c =
    let a = c.args in
    let t = messages a.touch.status a.touch.velocity in
    let s = messages_append a.touch.status a.touch.velocity (places 64 0 a.keys.low) (places 64 64 a.keys.high) in
    grew_as (sym s ∙ ap t (places-ascending a.keys)) (grew_then c.put_word.ensures c.put_word-2.ensures)
