-- The count of open brackets one up and one down: its magnitude grows by one at most.
-- Assumes nothing.
use mathlib.Core.Bool.{Bool, true, false, cond}
use Prim.Native.Nat.{ℕ, suc, ◌+◌, ◌-◌, ◌≤◌}
use native.Mathlib.Omega.{arith}
use lib.Dec.{ltb}
use lib.IntN.{ℤ, pos, negsuc, ◌+ℤ◌, ◌-ℤ◌}
use lib.Signed.{mag}

-- a sum or a difference that may cross 0
across : (b : Bool) (x y n : ℕ) → x ≤ n → y ≤ n → mag (cond b (negsuc x) (pos y)) ≤ n
across true x y n h k = h
across false x y n h k = k

-- one up or one down, a magnitude grows by one at most
pub near : (z : ℤ) → (mag (z +ℤ pos 1) ≤ mag z + 1) × (mag (z -ℤ pos 1) ≤ mag z + 1)
near (pos a) = (omega arith, across (ltb a 1) (1 - suc a) (a - 1) (a + 1) (omega arith) (omega arith))
near (negsuc a) = (across (ltb 1 (suc a)) (suc a - 2) (1 - suc a) (a + 1) (omega arith) (omega arith), omega arith)
