-- The last of a list of expressions.
use Rattle.std.proofs.Common.{Bool, false, List, [], ◌∷◌, ◌≡◌, ℕ, zero, suc, ◌-◌, ◌≤◌, ◌<◌, length, get_or, refl, arith}
use Rattle.expression.specs.declared.expression.Exp.{Exp}
use Rattle.parser.specs.Parser.{is_six, last_six}

-- whether the last expression is the extension 6, where there is none and by the last one
pub last_six-none : (xs : List Exp) → length xs ≤ 0 → last_six false xs ≡ false
unfolding last_six
last_six-none [] h = refl
last_six-none (x ∷ xs) h = absurd (omega (arith, h))

last_of : (b : Bool) (n : ℕ) (xs : List Exp) (d : Exp) → length xs ≡ suc n → last_six b xs ≡ is_six (get_or xs n d)
unfolding last_six
last_of b n [] d h = absurd (omega (arith, h))
last_of b zero (x ∷ []) d h = refl
last_of b (suc n) (x ∷ []) d h = absurd (omega (arith, h))
last_of b zero (x ∷ y ∷ xs) d h = absurd (omega (arith, h))
last_of b (suc n) (x ∷ y ∷ xs) d h = last_of (is_six x) n (y ∷ xs) d (omega (arith, h))

pub last_six-at : (xs : List Exp) (d : Exp) → 0 < length xs → last_six false xs ≡ is_six (get_or xs (length xs - 1) d)
last_six-at xs d h = last_of false (length xs - 1) xs d (omega (arith, h))
