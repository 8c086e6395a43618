-- The invariant is `Trying`: trying the words from the next place on, whose word has the text's letter, gives the word of the run.
use Rattle.std.proofs.Common.{◌≡◌, ℕ, get_or, drop, sym, ap, ap₂, ◌∙◌, add-zero, get_or-drop}
use Rattle.std.specs.Prelude.{Some}
use Rattle.lexer.specs.State.{other_than}
use Rattle.lexer.specs.Words.{match}
use Rattle.lexer.specs.declared.Match.{Match}
use Rattle.lexer.specs.declared.Row.{Row}
use Rattle.lexer.proofs.Chains.{chosen-start, trying, tried_step, tried_falls, tried_found, tried_none}
use Rattle.lexer.proofs.word_by_ends.Goals as goal

pub loop-next-init : goal.loop-next-init
loop-next-init c =
    let t = c.args.text.now in
    let first : get_or t c.args.at 0 ≡ get_or (drop c.args.at t) 0 0 =
    ap (λ (i : ℕ). get_or t i 0) (sym (add-zero c.args.at)) ∙ sym (get_or-drop c.args.at t 0 0) in
    trying _ (rw (← first) c.first_word-next.ensures) (chosen-start (drop c.args.at t))

pub returns-then-stands : goal.returns-then-stands
returns-then-stands c =
    let w = c.word_row.ensures in
    let n = c.from.ensures ∙ ap (λ (r : Row). r.1) w in
    ap (λ (m : Match). Some m) (ap₂ match n (ap (λ (r : Row). r.2) w))
    ∙ tried_found c.loop-next.invariant c.in-Some.is (sym c.stands.ensures ∙ c.if-stands.true)

pub loop-next-smaller : goal.loop-next-smaller
loop-next-smaller c =
    tried_falls c.loop-next.invariant c.in-Some.is (c.next_word-next.ensures ∙ ap (λ (r : Row). other_than 55 r.3) c.word_row.ensures)

pub loop-next-preserved : goal.loop-next-preserved
loop-next-preserved c =
    tried_step c.loop-next.invariant c.in-Some.is (sym c.stands.ensures ∙ c.if-stands.false)
    (c.next_word-next.ensures ∙ ap (λ (r : Row). other_than 55 r.3) c.word_row.ensures)

pub returns : goal.returns
returns c = tried_none c.loop-next.invariant c.in_default.is
