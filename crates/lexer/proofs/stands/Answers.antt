-- A word lies within the part up to the last end that is tried, if it stands there.
use Rattle.std.proofs.Common.{◌≡◌, ◌≤◌, ◌-◌, ℕ, List, ◌∙◌, ap, length, drop, take, min, arith, rules, length-drop}
use lib.Dec.{eqb}
use Rattle.std.specs.Cmp.Lexicographic.{pointwise}
use Rattle.lexer.specs.State.{longest_word}
use Rattle.lexer.specs.Words.{run_end}
use Rattle.lexer.specs.declared.Row.{Row}
use Rattle.lexer.proofs.Runs.{run_within, word_fits}
use Rattle.lexer.proofs.Words.{row_letters, stands_within}
use Rattle.lexer.proofs.stands.Goals as goal

pub shared_ref_as_front-letters : goal.shared_ref_as_front-letters
shared_ref_as_front-letters c =
    omega (arith, c.from.ensures, ap (λ (r : Row). r.1) c.word_row.ensures, (word_fits c.args.i c.requires.0).short)

pub slice_bounds-run-end : goal.slice_bounds-run-end
slice_bounds-run-end c =
    let text = c.args.text.now in
    let run = run_within (drop c.args.at text) in
    let rest = length-drop c.args.at text in
    let start : c.args.at ≤ c.args.last = omega (arith, c.requires.2) in
    let end : c.args.last ≤ length text = omega (arith, run, rest, c.requires.2) in
    search rules

pub returns : goal.returns
returns c =
    let s = drop c.args.at c.args.text.now in
    let e : c.args.last - c.args.at ≡ min (run_end s) longest_word = omega (arith, c.requires.2) in
    c.starts_with.ensures.value
    ∙ ap (λ (p : List ℕ). pointwise eqb p (take (length p) (take (c.args.last - c.args.at) s)))
    (row_letters c.args.i c.word_row.ensures c.from.ensures)
    ∙ stands_within c.args.i c.requires.0 s (c.args.last - c.args.at) e
