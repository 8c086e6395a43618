-- Boolean laws by computing all assignments. `law n (λ a b ... c ⊃ d ⊃ (l ≈ r)) tt` proves: for all Booleans a b .., if the tests c and d
-- pass then l ≡ r. antt computes the 2^n cases. `tt` is refused where a case fails.
-- Assumes nothing.
use mathlib.Core.Path.{◌≡◌, refl}
use mathlib.Core.Bool.{Bool, true, false, ◌&&◌, beq}
use Prim.Native.Nat.{ℕ, zero, suc}
use lib.Dec.{T}
use Rattle.house_parts.specs.Question.{◌⇒◌}

infix 15 ◌≈◌
infixr 10 ◌⊃◌
pub data Claim : Type 0 where
  ◌≈◌ : Bool → Bool → Claim
  ◌⊃◌ : Bool → Claim → Claim

-- what a claim says, and its test
abbrev pub Means : Claim → Type 0
Means (a ≈ b) = a ≡ b
Means (c ⊃ r) = T c → Means r

abbrev pub test : Claim → Bool
test (a ≈ b) = beq a b
test (c ⊃ r) = c ⇒ test r

-- a claim on n Booleans
abbrev pub Pred : ℕ → Type 0
Pred zero = Claim
Pred (suc n) = Bool → Pred n

abbrev pub every : (n : ℕ) → Pred n → Bool
every zero p = test p
every (suc n) p = every n (p true) && every n (p false)

abbrev pub Holds : (n : ℕ) → Pred n → Type 0
Holds zero p = Means p
Holds (suc n) p = (b : Bool) → Holds n (p b)

-- both tests pass
pub both_pass : (a b : Bool) → T a → T b → T (a && b)
both_pass true b s t = t
both_pass false b s t = absurd s

pub and_left : (a b : Bool) → T (a && b) → T a
and_left true b t = tt
and_left false b t = t

pub and_right : (a b : Bool) → T (a && b) → T b
and_right true b t = t
and_right false b t = absurd t

same : (a b : Bool) → T (beq a b) → a ≡ b
same true true t = refl
same true false t = absurd t
same false true t = absurd t
same false false t = refl

pub mp : (a b : Bool) → T (a ⇒ b) → T a → T b
mp true b f t = f
mp false b f t = absurd t

pub means : (c : Claim) → T (test c) → Means c
means (a ≈ b) t = same a b t
means (c ⊃ r) t = λ h. means r (mp c (test r) t h)

pub law : (n : ℕ) (p : Pred n) → T (every n p) → Holds n p
law zero p t = means p t
law (suc n) p t =
    elim [
      | true ↦ law n (p true) (and_left (every n (p true)) (every n (p false)) t)
      | false ↦ law n (p false) (and_right (every n (p true)) (every n (p false)) t)
    ]
