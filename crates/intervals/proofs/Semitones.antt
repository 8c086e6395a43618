-- The order of the table of semitones: no interval has fewer semitones than one of a smaller number. One test, computed over the whole table,
-- compares each entry with the next; a step at a time that carries to any two.
-- Assumes nothing.
use mathlib.Core.Bool.{Bool, true, false}
use mathlib.Core.List.{List, [], ◌∷◌}
use Prim.Native.Nat.{ℕ, zero, suc, ◌≤◌, ◌<◌}
use native.Mathlib.Omega.{arith}
use lib.Dec.{T, leb, leb→le}
use lib.ListN.{length, get_or}
use Rattle.intervals.specs.Interval.{table, semitones}

both : Bool → Bool → Bool
both true b = b
both false b = false

both_left : (a b : Bool) → T (both a b) → T a
unfolding both
both_left true b t = tt
both_left false b t = t

both_right : (a b : Bool) → T (both a b) → T b
unfolding both
both_right true b t = t
both_right false b t = absurd t

-- x is at most the first of the list, and each entry at most the next
ordered : ℕ → List ℕ → Bool
ordered x [] = true
ordered x (y ∷ ys) = both (leb x y) (ordered y ys)

first_least : (x : ℕ) (l : List ℕ) → T (ordered x l) → (j : ℕ) → j < length l → x ≤ get_or l j 0
unfolding ordered
first_least x [] t j h = absurd (omega arith)
first_least x (y ∷ ys) t zero h = leb→le x y (both_left (leb x y) (ordered y ys) t)
first_least x (y ∷ ys) t (suc j) h =
    let a : x ≤ y = leb→le x y (both_left (leb x y) (ordered y ys) t) in
    let b : y ≤ get_or ys j 0 = first_least y ys (both_right (leb x y) (ordered y ys) t) j (omega arith) in
    omega arith

in_order : (x : ℕ) (l : List ℕ) → T (ordered x l) → (i j : ℕ) → i ≤ j → j < length l → get_or l i 0 ≤ get_or l j 0
unfolding ordered
in_order x [] t i j le h = absurd (omega arith)
in_order x (y ∷ ys) t zero zero le h = omega arith
in_order x (y ∷ ys) t zero (suc j) le h = first_least y ys (both_right (leb x y) (ordered y ys) t) j (omega arith)
in_order x (y ∷ ys) t (suc i) zero le h = absurd (omega arith)
in_order x (y ∷ ys) t (suc i) (suc j) le h = in_order y ys (both_right (leb x y) (ordered y ys) t) i j (omega arith) (omega arith)

table-ordered : T (ordered 0 table)
unfolding ordered both
table-ordered = tt

pub semitones-order : (i j : ℕ) → i ≤ j → j < 23 → semitones i ≤ semitones j
semitones-order i j le h = in_order 0 table table-ordered i j le h
