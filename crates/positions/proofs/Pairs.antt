-- Two lists whose elements are related one by one, and tokens that are the same but for their positions: f of the one's position is g of
-- the other's. What is said of such tokens in Folds, Steps, Parses and Answers is said for all f and g.
-- Assumes nothing.
use mathlib.Core.Bool.{Bool, true, false, cond}
use mathlib.Core.List.{List, [], ◌∷◌, ◌++◌}
use mathlib.Core.Path.{◌≡◌, refl, ap}
use Prim.Native.Nat.{ℕ, zero, suc, ◌+◌}
use lib.Dec.{T}
use lib.ListN.{length, drop, get_or}
use Rattle.lookahead.specs.Next.{is_sign, next_of}
use Rattle.token.specs.Token.{type_of}
use Rattle.token.specs.declared.Token.{Token}
use Rattle.token.specs.declared.TokenType.{TokenType}

-- the elements of two lists are related one by one
pub data Pairs {A B : Type 0} (R : A → B → Type 0) : List A → List B → Type 0 where
  none : Pairs R [] []
  more : {a : A} {b : B} {l : List A} {m : List B} → R a b → Pairs R l m → Pairs R (a ∷ l) (b ∷ m)

module _ {A B : Type 0} {R : A → B → Type 0} where
  pub pairs_append : {l k : List A} {m n : List B} → Pairs R l m → Pairs R k n → Pairs R (l ++ k) (m ++ n)
  pairs_append none s = s
  pairs_append (more r rs) s = more r (pairs_append rs s)

  -- by two tests that answer the same
  pub pairs_if : {b c : Bool} {l k : List A} {m n : List B} → b ≡ c → Pairs R l m → Pairs R k n → Pairs R (cond b l k) (cond c m n)
  pairs_if {b} {c} {l} {k} {m} {n} e r s = rw e (go c)
    where
      go : (d : Bool) → Pairs R (cond d l k) (cond d m n)
      go true = r
      go false = s

  pub pairs_tail : {l : List A} {m : List B} → Pairs R l m → Pairs R (drop 1 l) (drop 1 m)
  pairs_tail none = none
  pairs_tail (more r rs) = rs

  pub pairs_at : {l : List A} {m : List B} {a : A} {b : B} → Pairs R l m → R a b → (i : ℕ) → R (get_or l i a) (get_or m i b)
  pairs_at none d i = d
  pairs_at (more r rs) d zero = r
  pairs_at (more r rs) d (suc i) = pairs_at rs d i

  pub pairs_length : {l : List A} {m : List B} → Pairs R l m → length l ≡ length m
  pairs_length none = refl
  pairs_length (more r rs) = ap suc (pairs_length rs)

-- a sharp or a flat, whose kind 6 before a wrong number is one past its token's position
abbrev pub is_modifier : TokenType → Bool
is_modifier k = is_sign (next_of k)

-- the same token but for its position: f of the one's is g of the other's; one past the position of a sharp or a flat goes with it
pub record Same (f g : ℕ → ℕ) (t u : Token) : Type 0 where
  pub kind : t.kind ≡ u.kind
  pub len : t.len ≡ u.len
  pub pos : f t.pos ≡ g u.pos
  pub next : T (is_modifier (type_of t.kind)) → f (t.pos + 1) ≡ g (u.pos + 1)
