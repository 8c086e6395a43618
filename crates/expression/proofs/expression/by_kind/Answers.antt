-- Each arm by its number; above 13 the definition has a slash bass too.
-- Assumes nothing.
use mathlib.Core.List.{[], ◌∷◌}
use mathlib.Core.Path.{◌≡◌, sym, ap, ◌∙◌}
use Prim.Native.Nat.{ℕ, zero, suc, ◌≤◌, ◌<◌, zero-le}
use native.Mathlib.Omega.{arith}
use lib.ListN.{get_or-eq_default}
use Rattle.note.specs.Note.{note_of}
use Rattle.expression.specs.declared.expression.Exp.TheVariants.{Power, Bass, Maj, Maj7, Minor, HalfDim, Dim, Dim7, Alt, Aug, Sus, Extension, Add, Omit, SlashBass}
use Rattle.expression.proofs.expression.by_kind.Goals as goal

-- what the last arm is told: n is none of the numbers below m
abbrev Away : ℕ → ℕ → Type 0
Away zero n = Unit
Away (suc m) n = Away m n × (n ≡ m → ⊥)

-- a number that is at least m, and not m
more : {m n : ℕ} → m ≤ n → (n ≡ m → ⊥) → m < n
more h e = omega arith

above : (m n : ℕ) → Away m n → m ≤ n
above zero n r = zero-le
above (suc m) n r = more (above m n r.0) r.1

pub returns-in-10 : goal.returns-in-10
returns-in-10 c = rw c.in-10.is

pub returns-in-11 : goal.returns-in-11
returns-in-11 c = rw c.in-11.is

pub returns-in-12 : goal.returns-in-12
returns-in-12 c = rw c.in-12.is

pub returns-in-13 : goal.returns-in-13
returns-in-13 c = rw c.in-13.is

pub returns-in_default : goal.returns-in_default
returns-in_default c =
    let k = c.args.kind in
    let v = c.args.value in
    let p = c.args.pos in
    let named = Power ∷ Bass ∷ Maj ∷ Maj7 ∷ Minor ∷ HalfDim ∷ Dim ∷ Dim7 ∷ Alt ∷ Aug ∷ Sus v ∷ Extension v p ∷ Add v p ∷ Omit v p ∷ [] in
    ap SlashBass c.from_number.ensures ∙ sym (get_or-eq_default named (SlashBass (note_of v)) {n = k} (above 14 k c.in_default.in_default-own.rest))
