-- A digit goes by the one behind it, as in the definition; the other choices are found.
use Rattle.std.proofs.Common.{refl, ◌+◌, drop, sym, ap₂, ◌∙◌, arith, length-drop, drop-drop}
use Rattle.utf8.specs.Utf8.{char_of}
use Rattle.lexer.specs.Lexer.{digit_of, number_by}
use Rattle.lexer.proofs.Heads.{behind_head, behind_small, digit_some, is_digit_lem}
use Rattle.lexer.proofs.head_by.Goals as goal

pub number_head-requires : goal.number_head-requires
number_head-requires c =
    let a = c.args in
    let p = c.requires in
    let b = behind_small (drop (a.at + a.n) a.text.now) c.digit_at.ensures (omega (arith, length-drop (a.at + a.n) a.text.now, p.2)) in
    ((digit_some c.args.c c.in-Some.ensures).1, b.0, omega (arith, p.1, p.2), b.1)

pub returns-in-Some : goal.returns-in-Some
returns-in-Some c =
    let a = c.args in
    let d = digit_some a.c c.in-Some.ensures in
    rw (c.requires.0, is_digit_lem a.c d.0 d.1)
    (c.number_head.ensures
    ∙ behind_head _ _ _ c.digit_at.ensures
    ∙ ap₂ (λ x t. number_by x a.n (char_of t)) d.0 (sym (drop-drop a.n a.at a.text.now)))

pub returns-then-c-eq32 : goal.returns-then-c-eq32
unfolding digit_of
returns-then-c-eq32 c = rw (c.requires.0, c.if-c-eq32.true) refl
