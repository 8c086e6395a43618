-- What a step does, from what `join` and a store did. A token that joins, of a kind `own`, finds one of the other kind that waits, and then
-- one less of those waits; or it finds none, and then one more of its own waits. A pair is of neither kind.
use mathlib.Core.Bool.{Bool, true, false, cond}
use mathlib.Core.List.{List, [], ◌∷◌, ◌++◌}
use mathlib.Core.Path.{◌≡◌, refl, sym, ap, ◌∙◌}
use Prim.Native.Nat.{ℕ, ◌+◌, ◌-◌, ◌<◌, ◌≤◌}
use native.Mathlib.Numerals.{add-one}
use native.Mathlib.Decide.{dec_le}
use native.Mathlib.Omega.{arith}
use lib.Dec.{eqb}
use lib.ListN.{length, set, take, drop}
use lib.Seq.{take-suc-set, drop-set-lt}
use borrow.Author.Tests.{eq-eqb, ne_eqb, eqb-true, eqb-false}
use Rattle.token.specs.Token.{at}
use Rattle.token.specs.declared.Token.{Token}
use Rattle.folding.specs.Folding.{is, one, count, seven}
use Rattle.folding.specs.State.{Apart, Counted, Joined, came, Stepped}
use Rattle.folding.specs.declared.Out.{Out}
use Rattle.folding.proofs.Counts.{is_so, is-not, count_snoc, join_grows, join_pairs}

module _ {own other r i w e n m : ℕ} {R R' : List Token} (h : (at R i).kind ≡ own) (apart : own ≡ other → ⊥)
    (J : Joined other r i m w e R R')
    (ns : n ≡ count own (take w R)) (ms : m ≡ count other (take w R)) where
  abbrev Holds : ℕ × ℕ → Type 0
  Holds c = (c.0 ≡ count own (take e R')) × (c.1 ≡ count other (take e R'))

  waits : m ≡ 0 → Holds (n + 1, 0)
  waits z =
      let a : count own (take e R') ≡ count own (take w R) + one (is own (at R i)) =
      ap (count own) J.list ∙ join_grows other r (at R i) own (take w R) (omega arith) in
      let b : count other (take e R') ≡ count other (take w R) + one (is other (at R i)) =
      ap (count other) J.list ∙ join_grows other r (at R i) other (take w R) (omega arith) in
      let p : one (is own (at R i)) ≡ 1 = ap one (is_so own (at R i) h) in
      let q : one (is other (at R i)) ≡ 0 = ap one (is-not other (at R i) (λ x. apart (sym h ∙ x))) in
      (omega arith, omega arith)

  pairs : 0 < m → (r ≡ own → ⊥) → (r ≡ other → ⊥) → Holds (n, m - 1)
  pairs s ro rt =
      let a : count own (take e R') + one (eqb other own) ≡ count own (take w R) =
      ap (λ (l : List Token). count own l + one (eqb other own)) J.list
      ∙ join_pairs other r (at R i) own (take w R) (omega arith) ro in
      let b : count other (take e R') + one (eqb other other) ≡ count other (take w R) =
      ap (λ (l : List Token). count other l + one (eqb other other)) J.list
      ∙ join_pairs other r (at R i) other (take w R) (omega arith) rt in
      let p : one (eqb other own) ≡ 0 = ap one (ne_eqb other own (λ x. apart (sym x))) in
      let q : one (eqb other other) ≡ 1 = ap one (eq-eqb other other refl) in
      (omega arith, omega arith)

  still_counted : (r ≡ own → ⊥) → (r ≡ other → ⊥) → Holds (came n m)
  still_counted ro rt = by (eqb m 0) refl
    where
      by : (b : Bool) → eqb m 0 ≡ b → Holds (cond b (n + 1, 0) (n, m - 1))
      by true x = waits (eqb-true m 0 x)
      by false x = let z : m ≡ 0 → ⊥ = eqb-false m 0 x in pairs (omega arith) ro rt

  one-more : (w ≤ e) × (e ≤ w + 1)
  one-more = elim (dec_le 1 m) [
    | yes s ↦ let x : e ≡ w = J.stayed s in (omega arith, omega arith)
    | no s ↦ let x : e ≡ w + 1 = J.came (omega arith) in (omega arith, omega arith)
  ]

module _ {m r i : ℕ} {o : Out} {R R' : List Token} (apart : Apart m r) (C : Counted m o R) where
  pub partner_taken : {e : ℕ} (c : ℕ × ℕ) → c ≡ came o.partners o.sevens → (at R i).kind ≡ m → Joined seven r i o.sevens o.at e R R'
      → Stepped m r i o (record { at = e; partners = c.0; sevens = c.1 }) R R'
  partner_taken {e} c s h J =
      let k = still_counted h apart.partner J C.partners C.sevens apart.result apart.last in
      let g = one-more h apart.partner J C.partners C.sevens in
      record {
        list = rw (is_so m (at R i) h) J.list;
        rest = J.rest;
        more = g.0;
        most = g.1;
        counted = record { partners = ap (λ (x : ℕ × ℕ). x.0) s ∙ k.0; sevens = ap (λ (x : ℕ × ℕ). x.1) s ∙ k.1 };
      }

  pub seven-taken : {e : ℕ} (c : ℕ × ℕ) → c ≡ came o.sevens o.partners → (at R i).kind ≡ seven → Joined m r i o.partners o.at e R R'
      → Stepped m r i o (record { at = e; partners = c.1; sevens = c.0 }) R R'
  seven-taken {e} c s h J =
      let n : seven ≡ m → ⊥ = λ x. apart.partner (sym x) in
      let k = still_counted h n J C.sevens C.partners apart.last apart.result in
      let g = one-more h n J C.sevens C.partners in
      record {
        list = rw (is-not m (at R i) (λ x. n (sym h ∙ x)), is_so seven (at R i) h) J.list;
        rest = J.rest;
        more = g.0;
        most = g.1;
        counted = record { partners = ap (λ (x : ℕ × ℕ). x.1) s ∙ k.1; sevens = ap (λ (x : ℕ × ℕ). x.0) s ∙ k.0 };
      }

  -- any other token
  pub other_comes : o.at < length R → ((at R i).kind ≡ m → ⊥) → ((at R i).kind ≡ seven → ⊥) → R' ≡ set R o.at (at R i)
      → Stepped m r i o (record { at = o.at + 1; partners = o.partners; sevens = o.sevens }) R R'
  other_comes b h g s =
      let l : take (o.at + 1) R' ≡ (take o.at R) ++ ((at R i) ∷ []) = rw (s, add-one o.at) (take-suc-set R o.at (at R i) b) in
      let p : one (is m (at R i)) ≡ 0 = ap one (is-not m (at R i) h) in
      let q : one (is seven (at R i)) ≡ 0 = ap one (is-not seven (at R i) g) in
      let x : count m (take (o.at + 1) R') ≡ count m (take o.at R) + one (is m (at R i)) = ap (count m) l ∙ count_snoc m (take o.at R) (at R i) in
      let y : count seven (take (o.at + 1) R') ≡ count seven (take o.at R) + one (is seven (at R i)) = ap (count seven) l ∙ count_snoc seven (take o.at R) (at R i) in
      record {
        list = rw (is-not m (at R i) h, is-not seven (at R i) g) l;
        rest = ap (drop (o.at + 1)) s ∙ drop-set-lt (o.at + 1) R o.at (at R i) (omega arith);
        more = omega arith;
        most = omega arith;
        counted = record { partners = omega (arith, C.partners); sevens = omega (arith, C.sevens) };
      }
