-- Lists that folding leaves as they are.
use mathlib.Core.Bool.{Bool, true, false, ◌&&◌, cond}
use mathlib.Core.List.{List, [], ◌∷◌, ◌++◌, append_assoc, append-nil}
use mathlib.Core.Path.{◌≡◌, refl, sym, ap, ◌∙◌}
use Prim.Native.Nat.{ℕ, ◌+◌}
use native.Mathlib.Omega.{arith}
use Rattle.token.specs.declared.Token.{Token}
use Rattle.folding.specs.Folding.{is, one, count, dim, dim7, maj, maj7, seven, is_maj, maj7_with, concat, join, taken, fold_on, fold7, pre_process}
use Rattle.folding.proofs.Counts.{both_not, count_snoc, join-none, one-zero}

module _ (m r : ℕ) where
  -- a token that is no partner comes last where none is waiting
  calm_one : (out : List Token) (t : Token) → count m out ≡ 0 → is m t ≡ false → taken m r out t ≡ out ++ (t ∷ [])
  calm_one out t h e = ap (λ (b : Bool). cond b (join seven r t out) (cond (is seven t) (join m r t out) (out ++ (t ∷ [])))) e ∙ go (is seven t)
    where
      go : (b : Bool) → cond b (join m r t out) (out ++ (t ∷ [])) ≡ out ++ (t ∷ [])
      go true = join-none m r t out h
      go false = refl

  -- and so does one that is no 7, where no 7 is waiting
  quiet_one : (out : List Token) (t : Token) → count seven out ≡ 0 → is seven t ≡ false → taken m r out t ≡ out ++ (t ∷ [])
  quiet_one out t h e = ap (λ (b : Bool). cond (is m t) (join seven r t out) (cond b (join m r t out) (out ++ (t ∷ [])))) e ∙ go (is m t)
    where
      go : (b : Bool) → cond b (join seven r t out) (out ++ (t ∷ [])) ≡ out ++ (t ∷ [])
      go true = join-none seven r t out h
      go false = refl

  -- tokens of which none is of kind k, and each comes last where none of that kind is waiting
  one_by_one : (k : ℕ) → ((out : List Token) (t : Token) → count k out ≡ 0 → is k t ≡ false → taken m r out t ≡ out ++ (t ∷ []))
      → (out ts : List Token) → count k out ≡ 0 → count k ts ≡ 0 → fold_on m r out ts ≡ out ++ ts
  unfolding fold_on count
  one_by_one k last out [] h g = sym (append-nil out)
  one_by_one k last out (t ∷ ts) h g =
      let e : is k t ≡ false = one-zero (is k t) (omega arith) in
      let z : count k (out ++ (t ∷ [])) ≡ 0 = let s : count k (out ++ (t ∷ [])) ≡ count k out + one (is k t) = count_snoc k out t in omega arith in
      ap (λ (o : List Token). fold_on m r o ts) (last out t h e) ∙ one_by_one k last (out ++ (t ∷ [])) ts z (omega arith) ∙ append_assoc out (t ∷ []) ts

  -- tokens without a partner, where none is waiting
  pub calm : (out ts : List Token) → count m out ≡ 0 → count m ts ≡ 0 → fold_on m r out ts ≡ out ++ ts
  calm = one_by_one m calm_one

  -- tokens without a 7
  quiet : (ts : List Token) → count seven ts ≡ 0 → fold7 m r ts ≡ ts
  unfolding count
  quiet ts h = one_by_one seven quiet_one [] ts refl h

  pub unchanged : (ts : List Token) → count m ts ≡ 0 → fold7 m r ts ≡ ts
  unfolding count
  unchanged ts h = calm [] ts refl h

  -- what comes after is folded onto what came before
  pub in_two : (out a b : List Token) → fold_on m r out (a ++ b) ≡ fold_on m r (fold_on m r out a) b
  unfolding fold_on
  in_two out [] b = refl
  in_two out (t ∷ a) b = in_two (taken m r out t) a b

whole-none : (ts : List Token) → count seven ts ≡ 0 → concat ts ≡ ts
unfolding concat count
whole-none [] h = refl
whole-none (x ∷ []) h = refl
whole-none (x ∷ y ∷ ts) h =
    let e : is seven y ≡ false = one-zero (is seven y) (omega arith) in
    ap (λ (b : Bool). cond (is_maj x.kind && b) (maj7_with x y ∷ concat ts) (x ∷ concat (y ∷ ts))) e
    ∙ ap (λ (b : Bool). cond b (maj7_with x y ∷ concat ts) (x ∷ concat (y ∷ ts))) (both_not (is_maj x.kind))
    ∙ ap (λ (l : List Token). x ∷ l) (whole-none (y ∷ ts) (omega arith))

-- all three leave tokens without a 7 as they are
pub no_seven : (ts : List Token) → count seven ts ≡ 0 → pre_process ts ≡ ts
no_seven ts h =
    ap (λ (l : List Token). fold7 maj maj7 (fold7 dim dim7 l)) (whole-none ts h)
    ∙ ap (λ (l : List Token). fold7 maj maj7 l) (quiet dim dim7 ts h)
    ∙ quiet maj maj7 ts h
