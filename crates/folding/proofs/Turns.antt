-- The turns of the folding loop: those before i are folded, and what is folded onto them is what comes from i on.
use mathlib.Core.List.{List, [], ◌∷◌}
use mathlib.Core.Path.{◌≡◌, refl, sym, ap, ap₂, ◌∙◌}
use Prim.Native.Nat.{ℕ, ◌+◌, ◌<◌, ◌≤◌}
use native.Mathlib.Omega.{arith}
use lib.ListN.{length, take, drop}
use Rattle.std.proofs.Common.{drop_of_length-le}
use Rattle.token.specs.Token.{at}
use Rattle.token.specs.declared.Token.{Token}
use Rattle.folding.specs.Folding.{count, seven, fold_on, fold7}
use Rattle.folding.specs.State.{Counted, Stepped, Turned}
use Rattle.folding.specs.declared.Out.{Out}
use Rattle.folding.proofs.Places.{next-token}
use Rattle.token.proofs.Parts.{later}

-- what the loop keeps true: R₀ are the tokens at its start
pub record Folding (m r : ℕ) (R₀ R : List Token) (o : Out) (i : ℕ) : Type 0 where
  pub low : o.at ≤ i
  pub same : fold_on m r (take o.at R) (drop i R) ≡ fold7 m r R₀
  pub rest : drop o.at R ≡ drop o.at R₀
  pub counted : Counted m o R

module _ (m r : ℕ) where
  pub folding_start : (R : List Token) (o : Out) → o.at ≡ 0 → o.partners ≡ 0 → o.sevens ≡ 0 → Folding m r R R o 0
  unfolding count
  folding_start R o a p q =
      let none : take o.at R ≡ [] = ap (λ (k : ℕ). take k R) a in
      record {
        low = omega (arith, a);
        same = ap (λ (l : List Token). fold_on m r l R) none;
        rest = refl;
        counted = record { partners = p ∙ sym (ap (count m) none); sevens = q ∙ sym (ap (count seven) none) };
      }

  pub folding_step : {R₀ R R' : List Token} {o o' : Out} {i : ℕ} → i < length R → Folding m r R₀ R o i → Stepped m r i o o' R R'
      → Folding m r R₀ R' o' (i + 1)
  unfolding fold_on
  folding_step {R₀} {R} {R'} {o} {o'} {i} h F S =
      let d : drop (i + 1) R' ≡ drop (i + 1) R = later R' R o'.at (i + 1) (omega (arith, S.most, F.low)) S.rest in
      let c : drop i R ≡ at R i ∷ drop (i + 1) R = next-token R i h in
      record {
        low = omega (arith, S.most, F.low);
        same = ap₂ (fold_on m r) S.list d ∙ sym (ap (fold_on m r (take o.at R)) c) ∙ F.same;
        rest = S.rest ∙ later R R₀ o.at o'.at S.more F.rest;
        counted = S.counted;
      }

  pub folding_end : {R₀ R : List Token} {o : Out} {i : ℕ} → length R ≤ i → i ≤ length R₀ → Folding m r R₀ R o i
      → Turned (fold7 m r) o.at R₀ R
  unfolding fold_on
  folding_end {R₀} {R} {o} {i} h g F =
      record {
        list = sym (ap (fold_on m r (take o.at R)) (drop_of_length-le R h)) ∙ F.same;
        rest = F.rest;
        fewer = omega (arith, F.low);
      }

-- what the loop asks for
pub ruleset folding = (folding_step, folding_end)
