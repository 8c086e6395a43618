-- Ranges of positions and lengths: of two lists joined, of wider bounds, and of the token at a place.
-- Assumes nothing.
use mathlib.Core.List.{List, [], ◌∷◌, ◌++◌}
use Prim.Native.Nat.{ℕ, zero, suc, ◌≤◌, ◌<◌}
use native.Mathlib.Omega.{arith}
use lib.ListN.{length}
use Rattle.token.specs.Token.{at, Ranged}
use Rattle.token.specs.declared.Token.{Token}

module _ (p l : ℕ) where
  pub ranged_append : (a b : List Token) → Ranged p l a → Ranged p l b → Ranged p l (a ++ b)
  ranged_append [] b r s = s
  ranged_append (t ∷ a) b r s = (r.0, r.1, ranged_append a b r.2 s)

  pub ranged-at : (a : List Token) → Ranged p l a → (i : ℕ) → i < length a → ((at a i).pos ≤ p) × ((at a i).len ≤ l)
  ranged-at [] r i h = absurd (omega arith)
  ranged-at (t ∷ a) r zero h = (r.0, r.1)
  ranged-at (t ∷ a) r (suc i) h = ranged-at a r.2 i (omega arith)

  pub ranged_wider : (q m : ℕ) (a : List Token) → p ≤ q → l ≤ m → Ranged p l a → Ranged q m a
  ranged_wider q m [] h g r = tt
  ranged_wider q m (t ∷ a) h g r = (omega (arith, r.0), omega (arith, r.1), ranged_wider q m a h g r.2)
