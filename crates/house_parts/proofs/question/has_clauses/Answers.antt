-- A clause that fails decides; one that holds leaves it to those behind it.
use Rattle.std.proofs.Common.{refl, sym, ◌∙◌}
use borrow.Author.Tests.{not-false, not-true}
use Rattle.intervals.specs.Stored.{members}
use Rattle.house_parts.specs.Question.{clauses}
use Rattle.house_parts.proofs.Tests.{all_end, all_fails, all_past}
use Rattle.house_parts.proofs.question.has_clauses.Goals as goal

pub loop-i-init : goal.loop-i-init
loop-i-init c = refl

pub returns-then-not-clause_at : goal.returns-then-not-clause_at
returns-then-not-clause_at c =
    let l = clauses (members c.args.set) c.args.k in
    let e = sym c.clause_at.ensures ∙ not-true c.clause_at.result c.if-not-clause_at.true-raw in
    sym (c.loop-i.invariant ∙ all_fails l c.loop-i.i c.loop-i-test.true e)

pub loop-i-preserved : goal.loop-i-preserved
loop-i-preserved c =
    let l = clauses (members c.args.set) c.args.k in
    let e = sym c.clause_at.ensures ∙ not-false c.clause_at.result c.if-not-clause_at.false-raw in
    c.loop-i.invariant ∙ all_past l c.loop-i.i c.loop-i-test.true e

pub returns : goal.returns
returns c = sym (c.loop-i.invariant ∙ all_end (clauses (members c.args.set) c.args.k) c.loop-i.i c.loop-i-test.false)
