-- The tokens of the text are what the array begins with.
use Rattle.std.proofs.Common.{rules, arith, length-take}
use Rattle.parse.proofs.put_parse.Goals as goal

pub parse-ast-requires : goal.parse-ast-requires
parse-ast-requires c =
    let t = c.tokenize-n in
    (record { few = omega (arith, t.ensures.few, length-take t.result t.new.tokens); ranged = t.ensures.ranged }, search rules)
