-- The root, the parts and the bass, one after the other.
use Rattle.std.proofs.Common.{sym, ap, ◌∙◌, arith, length}
use Rattle.house_text.specs.Spelling.{spell}
use Rattle.intervals.specs.Stored.{members}
use Rattle.house_parts.specs.declared.kind.SusKind.{SusKind}
use Rattle.writer.proofs.Parts.{parts-room, spell-room, spell-parts}
use Rattle.writer.proofs.Puts.{grew_then, put_as, put_from}
use Rattle.writer.proofs.spelling.put_spelling.Goals as goal

pub put_parts-requires : goal.put_parts-requires
put_parts-requires c =
    let b = c.new-out.ensures in
    let v = c.put_note.ensures in
    let r = parts-room c.args.root (members c.args.chord.normalized) c.kind_in.result in
    omega (arith, c.requires, r, b.0, ap length b.1, v.put.count, v.size)

pub put_bass-requires : goal.put_bass-requires
put_bass-requires c =
    let a = c.args in
    let b = c.new-out.ensures in
    let w = grew_then c.put_note.ensures c.put_parts.ensures in
    let r = spell-room a.root a.chord.bass (members a.chord.normalized) c.kind_in.result in
    omega (arith, c.requires, r, b.0, ap length b.1, c.put_note.ensures.put.count, c.put_parts.ensures.put.count, w.size)

pub returns : goal.returns
returns c =
    let a = c.args in
    let b = c.new-out.ensures in
    let n = members a.chord.normalized in
    let k = c.kind_in.result in
    let w = grew_then c.put_note.ensures (grew_then c.put_parts.ensures c.put_bass.ensures) in
    let e = sym (spell-parts a.root a.chord.bass n k) ∙ ap (λ (j : SusKind). spell a.root a.chord.bass n j) c.kind_in.ensures in
    put_as e (put_from b.0 b.1 (rw (c.buffer-1.given.1.1 (sym (w.place ∙ b.2))) w.put))
