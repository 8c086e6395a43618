-- The run ends at the first place where no letter stands, or with the text.
use Rattle.std.proofs.Common.{◌≡◌, ℕ, ◌+◌, ◌-◌, List, length, drop, take, rules, ◌∙◌, ap, length-drop}
use Rattle.std.specs.Prelude.{not, unwrap_or}
use Rattle.std.proofs.lemmas.Iterator.{YieldsList-from_slice}
use Rattle.std.proofs.lemmas.Iterator.Search.{position_from_yields_List}
use borrow.Author.Tests.{tests}
use lib.Seq.{take_all}
use native.Mathlib.Nat.{le_of_eq}
use Rattle.lexer.specs.Words.{is_letter}
use Rattle.lexer.proofs.Runs.{run_found}
use Rattle.lexer.proofs.run_end.Goals as goal

pub returns : goal.returns
returns c =
    let a = c.args in
    let s = drop a.at a.text.now in
    let whole : take (length a.text.now - a.at) s ≡ s = take_all _ _ (le_of_eq (length-drop a.at a.text.now)) in
    let found = position_from_yields_List (λ b. not (is_letter b)) _ _ c.position.result c.position.ensures.ran (YieldsList-from_slice s (c.iter.ensures.rest ∙ whole)) (λ x b q k. search (rules, tests)) in
    ap (λ (n : ℕ). a.at + n)
    (c.unwrap_or.ensures
    ∙ ap (λ (l : List ℕ). unwrap_or c.position.result (length l)) whole
    ∙ run_found s c.position.result found)
