-- The number of a type stands for that type again.
-- Assumes nothing.
use mathlib.Core.Path.{◌≡◌, refl, ap}
use Prim.Native.Nat.{ℕ, ◌+◌, ◌-◌, ◌<◌}
use native.Mathlib.Omega.{arith}
use borrow.Author.Tests.{lt-ltb, le-ltb}
use Rattle.note.specs.declared.NoteLiteral.TheVariants.{C, D, E, F, G, A, B}
use Rattle.note.specs.declared.NoteLiteral.{NoteLiteral}
use Rattle.token.specs.Token.{type_number, type_of}
use Rattle.token.specs.declared.TokenType.TheVariants.{Note, Extension}

pub note_back : (l : NoteLiteral) → type_of (type_number (Note l)) ≡ Note l
unfolding type_of
note_back C = refl
note_back D = refl
note_back E = refl
note_back F = refl
note_back G = refl
note_back A = refl
note_back B = refl

pub extension_back : (n : ℕ) → n < 32 → type_of (type_number (Extension n)) ≡ Extension n
unfolding type_of
extension_back n h =
    let e : 32 + n - 32 ≡ n = omega arith in
    rw (le-ltb (32 + n) 32 (omega arith), lt-ltb (32 + n) 64 (omega arith)) (ap Extension e)
