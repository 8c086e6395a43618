-- The walk to the first newline gives the first place of one, or the length.
-- Assumes nothing.
use Rattle.std.proofs.Common.{◌≡◌, ℕ, Bool, true, false, List, refl, length, ◌≤◌, ◌==◌, cond, Some, None, eqb, ltb, arith, ap}
use borrow.Author.Tests.{ltb-false}
use Rattle.std.specs.Option.{unwrap_or}
use Rattle.std.specs.List.{position_or_len, position}
use Rattle.std.proofs.lemmas.List.Sums.{prefix_len-le-length}
use Rattle.std.proofs.lemmas.List.Recursion.{is_position_or_len}
use Rattle.lines.specs.Input.{to_newline}

to_newline-first : (l : List ℕ) → to_newline l ≡ position_or_len (λ x. x == 10) l
unfolding to_newline
to_newline-first l = is_position_or_len to_newline (λ x. x == 10) refl (λ x xs. ap (λ n. cond (eqb x 10) 0 n) (omega arith)) l

-- the first place of a newline, or the length where there is none
chosen : (k n : ℕ) → k ≤ n → (b : Bool) → ltb k n ≡ b → unwrap_or (cond b (Some k) None) n ≡ k
chosen k n h true e = refl
chosen k n h false e = let g : n ≤ k = ltb-false k n e in omega arith

pub first : (l : List ℕ) (n : ℕ) → n ≡ unwrap_or (position (λ x. x == 10) l) (length l) → (n ≡ to_newline l) × (n ≤ length l)
first l n e =
    let k : ℕ = position_or_len (λ x. x == 10) l in
    let h : k ≤ length l = prefix_len-le-length _ l in
    let c = chosen k (length l) h (ltb k (length l)) refl in
    let t = to_newline-first l in
    (omega (arith, e, c, t), omega (arith, e, c, h))
