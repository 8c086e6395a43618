-- Sets and lists of intervals as the code stores them: the digits of a number, and the beginning of an array.
use Rattle.std.specs.Prelude.{Bool, true, not, cond, ◌&&◌, List, ◌++◌, ℕ, zero, suc, ◌+◌, ◌/◌, ◌%◌, ◌^◌, eqb, ltb, length, replicate, take}
use Rattle.intervals.specs.Interval.{Set}
use Rattle.intervals.specs.declared.IntervalList.{IntervalList}
use Rattle.intervals.specs.declared.IntervalSet.{IntervalSet}

-- is the binary digit of n that counts 2 ^ k a 1?
unfoldable pub bit : ℕ → ℕ → Bool
bit n k = eqb (n / 2 ^ k % 2) 1

-- the members of the code's set: those of its 32 digits that are a 1
unfoldable pub members : IntervalSet → Set
members s k = ltb k 32 && bit s.bits k

-- is none of the n numbers from k on a member?
abbrev pub none_from : ℕ → ℕ → Set → Bool
none_from k zero s = true
none_from k (suc n) s = not (s k) && none_from (suc k) n s

-- how many digits a record's set has outside the table of 23: 32 in all
abbrev pub outside : ℕ
outside = 9

-- "This also covers members outside the table": none of 23 to 31 is a member
unfoldable pub within : Set → Bool
within s = none_from 23 outside s

-- the numbers of the code's list
unfoldable pub listed : IntervalList → List ℕ
listed l = take l.len l.numbers

-- the number whose n low digits are the members below n
unfoldable pub digits : ℕ → Set → ℕ
digits zero s = 0
digits (suc n) s = cond (s n) (2 ^ n) 0 + digits n s

-- the code's set of a set; its list of a list, with zeros behind the numbers
unfoldable pub set_of : Set → IntervalSet
set_of s = record { bits = digits 32 s }

unfoldable pub list_of : List ℕ → IntervalList
list_of d = record { numbers = take 23 (d ++ replicate 23 0); len = length d }
