-- Laws of `count` and `join`.
use mathlib.Core.Bool.{Bool, true, false, ◌&&◌, cond}
use mathlib.Core.List.{List, [], ◌∷◌, ◌++◌}
use mathlib.Core.Path.{◌≡◌, refl, sym, ap, ◌∙◌}
use Prim.Native.Nat.{ℕ, zero, suc, ◌+◌, ◌<◌, ◌≤◌}
use native.Mathlib.Omega.{arith}
use lib.Dec.{eqb}
use lib.ListN.{length, set}
use borrow.Author.Tests.{eq-eqb, ne_eqb, eqb-true}
use Rattle.token.specs.Token.{at}
use Rattle.token.specs.declared.Token.{Token}
use Rattle.folding.specs.Folding.{is, one, count, paired, join}

one_le : (b : Bool) → one b ≤ 1
one_le true = omega arith
one_le false = omega arith

pub is-not : (k : ℕ) (t : Token) → (t.kind ≡ k → ⊥) → is k t ≡ false
is-not k t h = ne_eqb t.kind k h

pub is_so : (k : ℕ) (t : Token) → t.kind ≡ k → is k t ≡ true
is_so k t h = eq-eqb t.kind k h

pub count_none : (k : ℕ) (ts : List Token) → ((i : ℕ) → i < length ts → (at ts i).kind ≡ k → ⊥) → count k ts ≡ 0
unfolding count
count_none k [] h = refl
count_none k (t ∷ ts) h =
    let e : one (is k t) ≡ 0 = ap one (is-not k t (h 0 (omega arith))) in
    let r : count k ts ≡ 0 = count_none k ts (λ i b. h (suc i) (omega arith)) in
    omega arith

count-some : (k : ℕ) (ts : List Token) (j : ℕ) → j < length ts → (at ts j).kind ≡ k → 0 < count k ts
unfolding count
count-some k [] j b e = absurd (omega arith)
count-some k (t ∷ ts) zero b e = let h : one (is k t) ≡ 1 = ap one (is_so k t e) in omega arith
count-some k (t ∷ ts) (suc j) b e = let h : 0 < count k ts = count-some k ts j (omega arith) e in omega arith

pub count_le : (k : ℕ) (ts : List Token) → count k ts ≤ length ts
unfolding count
count_le k [] = omega arith
count_le k (t ∷ ts) =
    let b : one (is k t) ≤ 1 = one_le (is k t) in
    let h : count k ts ≤ length ts = count_le k ts in
    omega arith

pub count_snoc : (k : ℕ) (ts : List Token) (t : Token) → count k (ts ++ (t ∷ [])) ≡ count k ts + one (is k t)
unfolding count
count_snoc k [] t = omega arith
count_snoc k (x ∷ ts) t = let h : count k (ts ++ (t ∷ [])) ≡ count k ts + one (is k t) = count_snoc k ts t in omega arith

-- putting a token in the place of another
pub count_set : (k : ℕ) (ts : List Token) (j : ℕ) (t : Token) → j < length ts
    → count k (set ts j t) + one (is k (at ts j)) ≡ count k ts + one (is k t)
unfolding count
count_set k [] j t b = absurd (omega arith)
count_set k (x ∷ ts) zero t b = omega arith
count_set k (x ∷ ts) (suc j) t b =
    let h : count k (set ts j t) + one (is k (at ts j)) ≡ count k ts + one (is k t) = count_set k ts j t (omega arith) in
    omega arith

pub one-zero : (b : Bool) → one b ≡ 0 → b ≡ false
one-zero true h = absurd (omega arith)
one-zero false h = refl

one-some : (b : Bool) → 0 < one b → b ≡ true
one-some true h = refl
one-some false h = absurd (omega arith)

pub both_not : (b : Bool) → (b && false) ≡ false
both_not true = refl
both_not false = refl

module _ (k r : ℕ) (t : Token) where
  -- the head is passed over
  join_on : (x : Token) (xs : List Token) → ((eqb (count k xs) 0) && (is k x)) ≡ false → join k r t (x ∷ xs) ≡ x ∷ join k r t xs
  unfolding join
  join_on x xs h = ap (λ (b : Bool). cond b (paired r x t ∷ xs) (x ∷ join k r t xs)) h

  pub join-none : (xs : List Token) → count k xs ≡ 0 → join k r t xs ≡ xs ++ (t ∷ [])
  unfolding join count
  join-none [] h = refl
  join-none (x ∷ xs) h =
      let e : is k x ≡ false = one-zero (is k x) (omega arith) in
      let z : count k xs ≡ 0 = omega arith in
      join_on x xs (ap (λ (q : Bool). eqb (count k xs) 0 && q) e ∙ both_not (eqb (count k xs) 0)) ∙ ap (λ (l : List Token). x ∷ l) (join-none xs z)

  pub join-at : (xs : List Token) (j : ℕ) → j < length xs → (at xs j).kind ≡ k → ((i : ℕ) → j < i → i < length xs → (at xs i).kind ≡ k → ⊥)
      → join k r t xs ≡ set xs j (paired r (at xs j) t)
  unfolding join
  join-at [] j b e n = absurd (omega arith)
  join-at (x ∷ xs) zero b e n =
      let z : count k xs ≡ 0 = count_none k xs (λ i h. n (suc i) (omega arith) (omega arith)) in
      rw (z, is_so k x e)
  join-at (x ∷ xs) (suc j) b e n =
      let s : 0 < count k xs = count-some k xs j (omega arith) e in
      join_on x xs (ap (λ (q : Bool). (q && (is k x))) (ne_eqb (count k xs) 0 (omega arith)))
      ∙ ap (λ (l : List Token). x ∷ l) (join-at xs j (omega arith) e (λ i h g. n (suc i) (omega arith) (omega arith)))

  -- t comes last
  pub join_grows : (c : ℕ) (xs : List Token) → count k xs ≡ 0 → count c (join k r t xs) ≡ count c xs + one (is c t)
  join_grows c xs h = ap (count c) (join-none xs h) ∙ count_snoc c xs t

  -- t pairs: one of kind k is gone
  pub join_pairs : (c : ℕ) (xs : List Token) → 0 < count k xs → (r ≡ c → ⊥) → count c (join k r t xs) + one (eqb k c) ≡ count c xs
  unfolding join count
  join_pairs c [] h n = absurd (omega arith)
  join_pairs c (x ∷ xs) h n = go (count k xs) refl (join_pairs c xs)
    where
      go : (m : ℕ) → count k xs ≡ m → (0 < count k xs → (r ≡ c → ⊥) → count c (join k r t xs) + one (eqb k c) ≡ count c xs) → count c (join k r t (x ∷ xs)) + one (eqb k c) ≡ count c (x ∷ xs)
      go zero z f =
          let b : is k x ≡ true = one-some (is k x) (omega arith) in
          let e : x.kind ≡ k = eqb-true x.kind k b in
          let q : one (eqb r c) ≡ 0 = ap one (ne_eqb r c n) in
          let p : one (eqb k c) ≡ one (is c x) = ap (λ (y : ℕ). one (eqb y c)) (sym e) in
          rw (z, b) (omega arith)
      go (suc m) z f =
          let g : count c (join k r t xs) + one (eqb k c) ≡ count c xs = f (omega arith) n in
          let b : eqb (count k xs) 0 ≡ false = ne_eqb (count k xs) 0 (omega arith) in
          rw b (omega arith)
