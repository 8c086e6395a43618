-- The character that stands there decides; it is no letter, since no letter run begins there.
use Rattle.std.proofs.Common.{drop, sym, ◌∙◌, arith, length-drop}
use Rattle.utf8.proofs.Laws.{found_within}
use Rattle.lexer.proofs.Heads.{no_letter}
use Rattle.lexer.proofs.head_at.Goals as goal

pub head_by-requires : goal.head_by-requires
head_by-requires c =
    let a = c.args in
    let p = c.requires in
    let s = drop a.at a.text.now in
    let e = sym c.char_at.ensures ∙ c.in-Char.is in
    let l = length-drop a.at a.text.now in
    (no_letter s _ _ e (omega (arith, p.1)) p.0, omega (arith, found_within s _ _ e, p.1), p.2)
