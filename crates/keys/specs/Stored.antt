-- Sets of keys as the code stores them, the digits of two numbers; as 16 bytes; and what it holds of the keys that a chord wants.
use Rattle.std.specs.Prelude.{cond, ◌&&◌, List, [], ◌∷◌, ◌++◌, ◌≡◌, ℕ, zero, suc, ◌+◌, ◌-◌, ◌*◌, ◌/◌, ◌%◌, eqb, ltb, ℤ, get_or}
use Rattle.intervals.specs.Interval.{Set}
use Rattle.intervals.specs.Stored.{bit, digits}
use Rattle.keys.specs.Keys.{outside, wants}
use Rattle.keys.specs.declared.Keys.{Keys}
use Rattle.keys.specs.declared.wanted.Wanted.{Wanted}

-- the members of the code's set: those of the 128 keys whose digit is a 1
unfoldable pub members : Keys → Set
members s k = ltb k 128 && cond (ltb k 64) (bit s.low k) (bit s.high (k - 64))

-- the code's record of the keys wanted holds those from 0 to 127, and whether there are others
pub record Wants (w : Wanted) (zs : List ℤ) : Type 0 where
  pub others : w.outside ≡ outside zs
  pub within : (k : ℕ) → members w.keys k ≡ (ltb k 128 && wants zs k)

-- ---- as 16 bytes

-- key k is bit k % 8 of byte k / 8
unfoldable pub keys_in : List ℕ → Set
keys_in bs k = ltb k 128 && bit (get_or bs (k / 8) 0) (k % 8)

unfoldable pub byte_of : Set → ℕ → ℕ
byte_of s i = digits 8 (λ j. s (8 * i + j))

-- n bytes from the i-th on
abbrev pub bytes_from : ℕ → ℕ → Set → List ℕ
bytes_from zero i s = []
bytes_from (suc n) i s = byte_of s i ∷ bytes_from n (suc i) s

abbrev pub keys_bytes : Set → List ℕ
keys_bytes s = bytes_from 16 0 s

-- ---- bookkeeping of private contracts from here on

-- the places of the digits of n that are a 1, the lowest first, of w digits, the first of which has the place k
unfoldable pub places : ℕ → ℕ → ℕ → List ℕ
places zero k n = []
places (suc w) k n = cond (eqb (n % 2) 1) (k ∷ []) [] ++ places w (suc k) (n / 2)
