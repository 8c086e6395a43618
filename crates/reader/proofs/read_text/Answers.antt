-- The tokens of the text are what the array begins with.
use Rattle.std.proofs.Common.{arith, length-take}
use Rattle.reader.proofs.Judge.{as_tokens}
use Rattle.reader.proofs.read_text.Goals as goal

pub parse-requires : goal.parse-requires
parse-requires c =
    let t = c.tokenize-n in
    (record { few = omega (arith, t.ensures.few, length-take t.result t.new.tokens); ranged = t.ensures.ranged }, c.requires.1)

pub returns : goal.returns
returns c = as_tokens c.tokenize-n.ensures.list c.parse.ensures
