-- Beyond the text nothing stands, and a byte below 128 is a character (`ascii-at`); else the part from there on decides.
use Rattle.std.proofs.Common.{refl, sym, ap, ◌∙◌, arith}
use lib.ListN.{drop_of_length-le}
use Rattle.utf8.specs.Utf8.{char_of}
use Rattle.utf8.specs.declared.Found.TheVariants.{Char}
use Rattle.utf8.proofs.Forms.{empty-end}
use Rattle.utf8.proofs.Laws.{ascii-at}
use Rattle.utf8.proofs.char_at.Goals as goal

pub returns-then-text-at : goal.returns-then-text-at
returns-then-text-at c = let e = drop_of_length-le c.args.text.now c.if-text-at.true in sym (ap char_of e ∙ empty-end _ refl)

pub returns-then-a-lt128 : goal.returns-then-a-lt128
returns-then-a-lt128 c =
    let a = c.args in
    let w = c.from-a.ensures in
    ap (λ x. Char x 1) w ∙ sym (ascii-at a.text.now a.at c.if-text-at.false (omega arith))
