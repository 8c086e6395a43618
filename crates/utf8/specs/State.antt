-- Bookkeeping of contracts between our own functions; no promise of an entry point rests on it.
-- How the code puts a character together: byte by byte, and then by its range.
use Rattle.std.specs.Prelude.{◌&&◌, cond, Option, Some, None, MatchOption, List, ◌≡◌, ℕ, ◌+◌, ◌-◌, ◌*◌, ◌<◌, ◌≤◌, leb, length, get_or}
use Rattle.utf8.specs.Utf8.{is_scalar}
use Rattle.utf8.specs.declared.Found.TheVariants.{Char, Bad}
use Rattle.utf8.specs.declared.Found.{Found}

-- six bits more: those of the continuation byte at i, or none where no such byte stands
abbrev pub More : List ℕ → ℕ → ℕ → Option ℕ → Type 0
More s i c r =
    MatchOption r (128 ≤ get_or s i 0 → get_or s i 0 < 192 → ⊥)
    (λ v. (i < length s) × (128 ≤ get_or s i 0) × (get_or s i 0 < 192) × (v ≡ c * 64 + (get_or s i 0 - 128)))

-- a character and its bytes, if its number is a character's and at least low
abbrev pub character : ℕ → ℕ → ℕ → Option (ℕ × ℕ)
character c low n = cond (leb low c && is_scalar c) (Some (c, n)) None

-- what was found, where bytes stand
abbrev pub found_of : Option (ℕ × ℕ) → Found
found_of None = Bad
found_of (Some p) = Char p.0 p.1
