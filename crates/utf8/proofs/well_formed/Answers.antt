-- The invariant: what is left of the text decides whether the whole is well formed. A character lies within the text, and what comes behind
-- it goes on; where none stands the text has ended, or is not well formed.
use mathlib.Core.Bool.{Bool, true, false}
use Rattle.std.proofs.Common.{◌≡◌, ◌+◌, ◌-◌, ◌≤◌, ℕ, List, length, drop, refl, sym, ap, ◌∙◌, arith, length-drop, drop-drop}
use lib.Dec.{eqb}
use lib.ListN.{drop_of_length-le}
use borrow.Author.Tests.{eqb-true, eqb-false}
use Rattle.utf8.specs.Utf8.{char_at, well_from}
use Rattle.utf8.specs.declared.Found.TheVariants.{Char}
use Rattle.utf8.proofs.Laws.{found-size, found_within, well_step, well_not}
use Rattle.utf8.proofs.well_formed.Goals as goal

-- a character at i has a byte at least, and ends within the text
inside : (t : List ℕ) (i c n : ℕ) → i ≤ length t → Char c n ≡ char_at t i → (1 ≤ n) × (i + n ≤ length t)
inside t i c n h e =
    let l : length (drop i t) ≡ length t - i = length-drop i t in
    (found-size (drop i t) c n (sym e), omega (arith, found_within (drop i t) c n (sym e), found-size (drop i t) c n (sym e)))

-- no character stands at i
ended : (t : List ℕ) (i : ℕ) → i ≤ length t → ((c n : ℕ) → char_at t i ≡ Char c n → ⊥) → eqb i (length t) ≡ well_from 0 (drop i t)
unfolding well_from
ended t i h f = go (eqb i (length t)) refl
  where
    go : (b : Bool) → eqb i (length t) ≡ b → b ≡ well_from 0 (drop i t)
    go true e = sym (ap (well_from 0) (drop_of_length-le t (omega (arith, eqb-true i (length t) e))))
    go false e =
        let l : length (drop i t) ≡ length t - i = length-drop i t in
        sym (well_not (drop i t) (omega (arith, eqb-false i (length t) e)) f)

pub overflow_add-at : goal.overflow_add-at
overflow_add-at c = let b = inside c.args.text.now c.loop-n.at _ _ c.loop-n.invariant.0 c.in-Char.ensures in omega (arith, b.1)

pub loop-n-smaller : goal.loop-n-smaller
loop-n-smaller c = let b = inside c.args.text.now c.loop-n.at _ _ c.loop-n.invariant.0 c.in-Char.ensures in omega (arith, b.0, b.1)

pub loop-n-preserved : goal.loop-n-preserved
loop-n-preserved c =
    let t = c.args.text.now in
    let i = c.loop-n.at in
    let n = c.in-Char.n in (
      (inside t i _ _ c.loop-n.invariant.0 c.in-Char.ensures).1,
      ap (well_from 0) (sym (drop-drop n i t)) ∙ sym (well_step (drop i t) _ n (sym c.in-Char.ensures)) ∙ c.loop-n.invariant.1,
    )

pub returns : goal.returns
returns c =
    ended c.args.text.now c.loop-n.at c.loop-n.invariant.0 (λ k n e. c.in_default.not-Char k n (c.char_at.ensures ∙ e)) ∙ c.loop-n.invariant.1
