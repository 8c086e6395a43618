-- Each arm by its number; above 6 the definition has no letter either.
-- Assumes nothing.
use mathlib.Core.List.{[], ◌∷◌}
use mathlib.Core.Path.{◌≡◌, sym}
use Prim.Native.Nat.{ℕ, ◌≤◌, ◌<◌, zero-le}
use native.Mathlib.Omega.{arith}
use lib.ListN.{get_or-eq_default}
use Rattle.note.specs.declared.NoteLiteral.TheVariants.{C, D, E, F, G, A, B}
use Rattle.note.proofs.NoteLiteral.from_number.Goals as goal

-- a number that is at least m, and not m
more : {m n : ℕ} → m ≤ n → (n ≡ m → ⊥) → m < n
more h e = omega arith

pub returns-in_default : goal.returns-in_default
returns-in_default c =
    let n = c.args.number in
    let r = c.in_default.in_default-own.rest in
    let low : 3 ≤ n = more (more (more (zero-le) r.0.0.0.0.0.0.1) r.0.0.0.0.0.1) r.0.0.0.0.1 in
    sym (get_or-eq_default (C ∷ D ∷ E ∷ F ∷ G ∷ A ∷ B ∷ []) C {n = n} (more (more (more (more low r.0.0.0.1) r.0.0.1) r.0.1) r.1))
