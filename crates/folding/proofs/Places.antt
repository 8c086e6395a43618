-- The token at a place, and what comes after it. What one store among the tokens does, as `join` says it: the token comes last, or pairs
-- with the latest of the first w.
use mathlib.Core.Bool.{false}
use mathlib.Core.List.{List, ◌∷◌}
use mathlib.Core.Path.{◌≡◌, sym, ap, ◌∙◌}
use Prim.Native.Nat.{ℕ, ◌+◌, ◌<◌, ◌≤◌}
use native.Mathlib.Numerals.{add-one}
use native.Mathlib.Omega.{arith}
use Rattle.std.specs.Option.{is_some}
use Rattle.std.specs.declared.option.Option.{Option}
use Rattle.std.specs.declared.option.Option.TheVariants.{None, Some}
use lib.ListN.{length, set, take, drop}
use lib.Seq.{drop-cons, take-suc-set, drop-set-lt, take-set-lt, get_or-take, length-take-le}
use Rattle.token.specs.Token.{token, at}
use Rattle.token.specs.declared.Token.{Token}
use Rattle.folding.specs.Folding.{count, paired}
use Rattle.folding.specs.State.{Joined, Latest}
use Rattle.folding.proofs.Counts.{count_none, join-none, join-at}

pub next-token : (R : List Token) (i : ℕ) → i < length R → drop i R ≡ at R i ∷ drop (i + 1) R
next-token R i h = rw (add-one, drop-cons R i (token 0 0 0) h)

-- what is not found is not there
pub latest_none : (k : ℕ) (R : List Token) (r : Option ℕ) → is_some r ≡ false → Latest k R r → count k R ≡ 0
latest_none k R None e L = count_none k R L
latest_none k R (Some j) e L = absurd (cc)

module _ {R R' : List Token} {k r i w waiting : ℕ} where
  pub joined-last : w < length R → waiting ≡ 0 → waiting ≡ count k (take w R) → R' ≡ set R w (at R i) → Joined k r i waiting w (w + 1) R R'
  joined-last h z c e =
      let n : count k (take w R) ≡ 0 = omega arith in
      record {
        list = rw (e, add-one w, take-suc-set R w (at R i) h, join-none k r (at R i) (take w R) n);
        rest = ap (drop (w + 1)) e ∙ drop-set-lt (w + 1) R w (at R i) (omega arith);
        came = λ _. omega arith;
        stayed = λ s. absurd (omega arith);
      }

  pub joined_pair : (j : ℕ) → j < length (take w R) → w ≤ length R → 0 < waiting → (at (take w R) j).kind ≡ k
      → ((q : ℕ) → j < q → q < length (take w R) → (at (take w R) q).kind ≡ k → ⊥)
      → R' ≡ set R j (paired r (at R j) (at R i)) → Joined k r i waiting w w R R'
  joined_pair j h b z e n s =
      let l : length (take w R) ≡ w = length-take-le w R b in
      let g : at (take w R) j ≡ at R j = get_or-take w R j (token 0 0 0) (omega arith) in
      record {
        list = ap (take w) s ∙ take-set-lt w R j (paired r (at R j) (at R i)) (omega arith)
            ∙ ap (λ (x : Token). set (take w R) j (paired r x (at R i))) (sym g)
            ∙ sym (join-at k r (at R i) (take w R) j h e n);
        rest = ap (drop w) s ∙ drop-set-lt w R j (paired r (at R j) (at R i)) (omega arith);
        came = λ y. absurd (omega arith);
        stayed = λ _. omega arith;
      }
