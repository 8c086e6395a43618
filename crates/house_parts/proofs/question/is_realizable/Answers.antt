-- Without a root by equality with the record of no chord.
use mathlib.Core.Bool.{true}
use mathlib.Core.Logic.{◌↔◌}
use mathlib.Core.Path.{◌≡◌, subst}
use Rattle.std.proofs.Common.{rules}
use Rattle.chord.specs.Chord.{Four, four_of}
use Rattle.intervals.proofs.Whole.{members_narrow}
use Rattle.std.specs.declared.option.Option.TheVariants.{None}
use Rattle.house_parts.proofs.Nothing.{no_chord_test}
use Rattle.house_parts.proofs.question.is_realizable.Goals as goal

pub returns-then-is_none : goal.returns-then-is_none
returns-then-is_none c =
    let f = four_of c.args.chord in
    let none : f.root ≡ None = search rules in
    no_chord_test c.same.result f none (members_narrow c.args.chord.normalized)
    (subst (λ (g : Four). (c.same.result ≡ true) ↔ (f ≡ g)) c.new.ensures.1 c.same.ensures)
