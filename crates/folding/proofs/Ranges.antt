-- Folding keeps positions in range, and a length at most doubles: `concat_maj7` adds two, and a pair takes the earlier one's.
-- Assumes nothing.
use mathlib.Core.Bool.{Bool, true, false, ◌&&◌, cond}
use mathlib.Core.List.{List, [], ◌∷◌, ◌++◌}
use Prim.Native.Nat.{ℕ, ◌+◌, ◌≤◌}
use native.Mathlib.Omega.{arith}
use lib.Dec.{eqb}
use Rattle.token.specs.Token.{Ranged}
use Rattle.token.specs.declared.Token.{Token}
use Rattle.folding.specs.Folding.{is, seven, dim, dim7, maj, maj7, is_maj, maj7_with, concat, count, paired, join, taken, fold_on, fold7, pre_process}
use Rattle.token.proofs.Ranges.{ranged_append}

concat-ranged : (p l : ℕ) (ts : List Token) → Ranged p l ts → Ranged p (l + l) (concat ts)
unfolding concat
concat-ranged p l [] r = tt
concat-ranged p l (x ∷ []) r = (r.0, omega (arith, r.1), tt)
concat-ranged p l (x ∷ y ∷ ts) r = go (is_maj x.kind && is seven y) (concat-ranged p l ts r.2.2) (concat-ranged p l (y ∷ ts) r.2)
  where
    go : (b : Bool) → Ranged p (l + l) (concat ts) → Ranged p (l + l) (concat (y ∷ ts)) → Ranged p (l + l) (cond b (maj7_with x y ∷ concat ts) (x ∷ concat (y ∷ ts)))
    go true f g = (r.0, omega (arith, r.1, r.2.1), f)
    go false f g = (r.0, omega (arith, r.1), g)

module _ (p l : ℕ) where
  join-ranged : (k r : ℕ) (t : Token) (xs : List Token) → (t.pos ≤ p) × (t.len ≤ l) → Ranged p l xs → Ranged p l (join k r t xs)
  unfolding join
  join-ranged k r t [] h s = (h.0, h.1, tt)
  join-ranged k r t (x ∷ xs) h s = go (eqb (count k xs) 0 && is k x) (join-ranged k r t xs h s.2)
    where
      go : (b : Bool) → Ranged p l (join k r t xs) → Ranged p l (cond b (paired r x t ∷ xs) (x ∷ join k r t xs))
      go true f = (omega (arith, s.0), s.1, s.2)
      go false f = (s.0, s.1, f)

  taken-ranged : (m r : ℕ) (out : List Token) (t : Token) → (t.pos ≤ p) × (t.len ≤ l) → Ranged p l out → Ranged p l (taken m r out t)
  taken-ranged m r out t h s = go (is m t) (is seven t)
    where
      go : (a b : Bool) → Ranged p l (cond a (join seven r t out) (cond b (join m r t out) (out ++ (t ∷ []))))
      go true b = join-ranged seven r t out h s
      go false true = join-ranged m r t out h s
      go false false = ranged_append p l out (t ∷ []) s (h.0, h.1, tt)

  fold_ranged : (m r : ℕ) (out ts : List Token) → Ranged p l out → Ranged p l ts → Ranged p l (fold_on m r out ts)
  unfolding fold_on
  fold_ranged m r out [] s h = s
  fold_ranged m r out (t ∷ ts) s h = fold_ranged m r (taken m r out t) ts (taken-ranged m r out t (h.0, h.1) s) h.2

pub pre_process-ranged : (p l : ℕ) (ts : List Token) → Ranged p l ts → Ranged p (l + l) (pre_process ts)
pre_process-ranged p l ts r =
    fold_ranged p (l + l) maj maj7 [] (fold7 dim dim7 (concat ts)) tt (fold_ranged p (l + l) dim dim7 [] (concat ts) tt (concat-ranged p l ts r))
