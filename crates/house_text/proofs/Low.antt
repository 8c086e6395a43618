-- Sets without a member outside the table of 23. The test `within` asks for each of 23 to 31; a record's set has no member from 32 on.
-- Assumes nothing.
use mathlib.Core.Bool.{Bool, true, false}
use mathlib.Core.Path.{◌≡◌, refl}
use Prim.Native.Nat.{ℕ, ◌≤◌, ◌<◌}
use native.Mathlib.Omega.{arith}
use lib.Dec.{ltb}
use borrow.Author.Tests.{ltb-false, ltb-true}
use Rattle.intervals.proofs.Whole.{none_of, none-says}
use Rattle.intervals.specs.Stored.{outside, within}
use Rattle.intervals.specs.Interval.{Set}

-- no member from 23 on
abbrev pub Low : Set → Type 0
Low s = (j : ℕ) → 23 ≤ j → s j ≡ false

pub low_of : (s : Set) → within s ≡ true → ((j : ℕ) → 32 ≤ j → s j ≡ false) → Low s
unfolding within
low_of s e n j h = go (ltb j 32) refl
  where
    go : (t : Bool) → ltb j 32 ≡ t → s j ≡ false
    go true p =
        let l : j < 32 = ltb-true j 32 p in
        none-says s outside 23 e j h (omega arith)
    go false p = n j (ltb-false j 32 p)

pub within_of : (s : Set) → Low s → within s ≡ true
unfolding within
within_of s l = none_of s outside 23 (λ j a b. l j a)
