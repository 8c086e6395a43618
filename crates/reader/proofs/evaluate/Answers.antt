-- By whether validation wrote an error.
use Rattle.std.proofs.Common.{◌≡◌, refl, subst, arith}
use Rattle.intervals.specs.Interval.{Set}
use Rattle.evaluator.specs.Evaluator.{eval_set}
use Rattle.expression.specs.State.{Wrote}
use Rattle.validator.specs.Validator.{validation_of}
use Rattle.reader.proofs.Judge.{gave_errors, gave_none, untouched}
use Rattle.reader.specs.Reader.{accepted}
use Rattle.chord.proofs.Record.{no_chord-back}
use Rattle.reader.proofs.evaluate.Goals as goal

pub returns-then-errors-gt0 : goal.returns-then-errors-gt0
returns-then-errors-gt0 c =
    let a = c.args in
    let l = a.exps.now in
    let v = c.validate-errors in
    let w = subst (λ (q : Set). Wrote 0 v.result (validation_of l q) a.errs.now v.new.errs) c.evaluate-evaluated.ensures.set v.ensures.0 in
    gave_errors (validation_of l (eval_set l)) 5 _ v.result c.if-errors-gt0.true (omega (arith, w.count)) w.list w.rest refl refl no_chord-back refl

pub returns : goal.returns
returns c =
    let a = c.args in
    let l = a.exps.now in
    let e = c.evaluate-evaluated.ensures in
    let v = c.validate-errors in
    let w = subst (λ (q : Set). Wrote 0 v.result (validation_of l q) a.errs.now v.new.errs) e.set v.ensures.0 in
    let z : v.result ≡ 0 = omega (arith, c.if-errors-gt0.false) in
    gave_none (validation_of l (eval_set l)) 5 (accepted a.root l) (omega (arith, z, w.count))
    (record {
      number = refl;
      count = refl;
      four = λ i. record { root = a.root; bass = e.bass i; normalized = e.set i; display = e.display i };
      chord = λ i. record { root = a.root; bass = e.bass i; normalized = e.whole i; display = e.list i };
      list = untouched v.result z w.rest;
    })
