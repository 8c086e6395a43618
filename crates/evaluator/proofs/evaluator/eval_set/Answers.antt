-- Each stage by what it ensures, from the last to the first, at what was seen of the expressions.
use Rattle.std.proofs.Common.{rules}
use Rattle.evaluator.specs.Evaluator.{add_by, alter_by, omit_by}
use Rattle.evaluator.proofs.evaluator.eval_set.Goals as goal

pub returns : goal.returns
returns c =
    let d = c.requires.1 in
    rw (
      c.prune.ensures,
      c.apply_pass-2.ensures add_by (λ s r e k. search rules),
      c.apply_pass.ensures omit_by (λ s r e k. search rules),
      c.implied-t.ensures,
      c.apply_pass-s.ensures alter_by (λ s r e k. search rules),
      c.apply_sus.ensures,
      c.apply.ensures,
      c.is_major.ensures,
      d.set,
      d.form,
      d.sus,
      d.maj,
      d.ext,
    )
