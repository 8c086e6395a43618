-- The invariant: what is found from here on, with what was seen, is what is found at all.
-- Assumes nothing.
use Rattle.intervals.specs.Stored.{members}
use Rattle.expression.specs.declared.expression.Exp.{Exp}
use Rattle.expression.specs.declared.expression.Exp.TheVariants.{Extension, Power}
use Rattle.validator.proofs.Walks.{fault_step, fault_end}
use Rattle.validator.specs.Validator.{extension_fault, fault_of, or_else, seeing}
use Rattle.std.proofs.Common.{rules}
use Rattle.std.proofs.lemmas.Grind.{common_steps}
use native.Mathlib.Omega.{arith}
use lib.ListN.{drop, get_or}
use mathlib.Core.List.{List, []}
use mathlib.Core.Path.{◌≡◌, sym, ap, ◌∙◌}
use Prim.Native.Nat.{◌+◌}
use Rattle.expression.specs.declared.parser_error.ParserError.{ParserError}
use Rattle.validator.proofs.extensions.first_fault.Goals.{in-Extension+in_default-fault_at, in_default}
use Rattle.validator.proofs.extensions.first_fault.Goals as goal

pub returns-in-Some : goal.returns-in-Some
returns-in-Some c =
    let xs = c.args.exps.now in
    let i = c.loop-e.e-index in
    let s = members c.loop-e.seen in
    let rest = drop (i + 1) xs in
    ap (λ (q : List ParserError). or_else q (extension_fault (seeing s (Extension c.in-Extension.x c.in-Extension.pos)) rest)) c.in-Some.ensures
    ∙ sym (c.loop-e.invariant ∙ fault_step xs i Power c.loop-e-test.true s ∙ ap (λ (e : Exp). or_else (fault_of s e) (extension_fault (seeing s e) rest)) c.in-Extension.is)

pub loop-e-preserved : goal.loop-e-preserved
loop-e-preserved c =
    let xs = c.args.exps.now in
    let i = c.loop-e.e-index in
    let s = members c.loop-e.seen in
    let rest = drop (i + 1) xs in
    let now = c.loop-e.invariant ∙ fault_step xs i Power c.loop-e-test.true s in
    elim c.match-e.branch [
      | in-Extension+in_default-fault_at w ↦ rw w.seen-is (now ∙ grind (arith, common_steps, w.in-Extension.is, w.in_default-fault_at.ensures, w.insert-seen.ensures, w.semitones_or_zero.ensures))
      | in_default w ↦
          let p : fault_of s (get_or xs i Power) ≡ [] = search rules in
          let q : seeing s (get_or xs i Power) ≡ s = search rules in
          rw w.seen-is (now ∙ λ t. or_else (p t) (extension_fault (q t) rest))
    ]

pub returns : goal.returns
returns c = sym (c.loop-e.invariant ∙ fault_end c.args.exps.now c.loop-e.e-index c.loop-e-test.false (members c.loop-e.seen))
