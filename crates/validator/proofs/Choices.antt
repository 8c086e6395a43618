-- A number at which a `match` has no arm.
-- Assumes nothing.
use mathlib.Core.Bool.{Bool, false, ◌||◌}
use mathlib.Core.List.{List, [], ◌∷◌}
use mathlib.Core.Path.{◌≡◌, refl, sym, ap, ◌∙◌}
use Prim.Native.Nat.{ℕ}
use borrow.Author.Tests.{ne_eqb}
use Rattle.intervals.specs.Interval.{elem}

-- what the last arm of a `match` is told: n is none of the numbers of the arms before
abbrev pub Away : ℕ → Type 0 → List ℕ → Type 0
Away n P [] = P
Away n P (k ∷ ks) = Away n (P × (n ≡ k → ⊥)) ks

away : (n : ℕ) (P : Type 0) (ks : List ℕ) → Away n P ks → P × (elem n ks ≡ false)
away n P [] a = (a, refl)
away n P (k ∷ ks) a =
    let q = away n (P × (n ≡ k → ⊥)) ks a in
    (q.0.0, ap (λ (t : Bool). t || elem n ks) (ne_eqb n k q.0.1) ∙ q.1)

pub not-elem : (n : ℕ) (ks : List ℕ) → Away n Unit ks → false ≡ elem n ks
not-elem n ks a = sym (away n Unit ks a).1
