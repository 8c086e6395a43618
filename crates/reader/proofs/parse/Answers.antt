-- By whether the parser wrote an error; its expressions are sound.
use Rattle.std.proofs.Common.{◌≡◌, refl, sym, subst, arith, length-take}
use Rattle.chord.proofs.Record.{no_chord-back}
use Rattle.parser.proofs.Laws.{expressions_sound}
use Rattle.parser.specs.Parser.{parse_of, root_of}
use Rattle.evaluator.specs.State.{Sounds}
use Rattle.reader.proofs.Judge.{as_is, counted, gave_errors, gave_none, sounds-all, untouched}
use Rattle.reader.specs.Reader.{validated}
use Rattle.reader.proofs.parse.Goals as goal

pub returns-then-ast-gt0 : goal.returns-then-ast-gt0
returns-then-ast-gt0 c =
    let ts = c.args.tokens.now in
    let p = c.parse-ast in
    let n = p.result.errors in
    gave_errors (parse_of ts).errs 4 _ n c.if-ast-gt0.true
    (counted n (parse_of ts).errs p.new.errs (omega (arith, p.ensures.few, p.auto, c.requires.1)) p.ensures.errs)
    p.ensures.errs p.ensures.rest refl refl no_chord-back refl

pub evaluate-requires : goal.evaluate-requires
evaluate-requires c =
    let p = c.parse-ast in
    let k = length-take p.result.exps p.new.exps in
    (subst Sounds (sym p.ensures.exps) (sounds-all _ (expressions_sound c.args.tokens.now)), omega (arith, p.ensures.fewer, k), omega (arith, c.requires.1, p.auto))

pub returns : goal.returns
returns c =
    let ts = c.args.tokens.now in
    let p = c.parse-ast in
    let n = p.result.errors in
    let z : n ≡ 0 = omega (arith, c.if-ast-gt0.false) in
    let k = counted n (parse_of ts).errs p.new.errs (omega (arith, p.ensures.few, p.auto, c.requires.1)) p.ensures.errs in
    let u = untouched n z p.ensures.rest in
    gave_none (parse_of ts).errs 4 (validated (root_of ts) (parse_of ts).exps) (omega (arith, z, k))
    (as_is p.ensures.root p.ensures.exps u c.evaluate.ensures)
