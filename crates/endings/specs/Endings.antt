-- A body and an ending, and their bars by number: document 02, [5]. "Both lines follow the bar rule above": their bars are `bars_of`.
use Rattle.std.specs.Prelude.{cond, List, [], ◌∷◌, ℕ, ◌+◌, ◌-◌, suc, ltb, length, get_or, take}
use Rattle.bars.specs.Bars.{bars_of, longest_line}
use Rattle.endings.specs.declared.Answer.TheVariants.{TooLong, NoBar, Body, Ending}
use Rattle.endings.specs.declared.Answer.{Answer}
use Rattle.endings.specs.declared.Spot.{Spot}

-- the paper's number of each answer
abbrev pub number_of : Answer → ℕ
number_of TooLong = 8
number_of NoBar = 9
number_of Body = 0
number_of Ending = 0

-- the bytes of bars, each with the `|` behind it
unfoldable pub spans : List (List ℕ) → ℕ
spans [] = 0
spans (b ∷ bs) = suc (length b) + spans bs

-- how many bars a line has, its bar k, counted from 0, and where that starts
abbrev pub bar_count : List ℕ → ℕ
bar_count line = length (bars_of line)

abbrev pub bar_of : List ℕ → ℕ → List ℕ
bar_of line k = get_or (bars_of line) k []

abbrev pub start_of : List ℕ → ℕ → ℕ
start_of line k = spans (take k (bars_of line))

-- bar k of the line that the answer names
abbrev pub spot_in : Answer → List ℕ → ℕ → Spot
spot_in a line k = record { answer = a; from = start_of line k; to = start_of line k + length (bar_of line k) }

-- no bar; the paper does not say which part of the lines goes with 8 and 9: the empty one at the body's beginning
abbrev pub nowhere : Answer → Spot
nowhere a = record { answer = a; from = 0; to = 0 }

-- "bars number from 0 through the body and then on through the ending"; "9 when the bar number is not below the two bar counts together,
-- after 8 has been checked for the body and then the ending"
unfoldable pub spot_of : List ℕ → List ℕ → ℕ → Spot
spot_of body ending k =
    cond (ltb longest_line (length body)) (nowhere TooLong)
    (cond (ltb longest_line (length ending)) (nowhere TooLong)
    (cond (ltb k (bar_count body)) (spot_in Body body k)
    (cond (ltb k (bar_count body + bar_count ending)) (spot_in Ending ending (k - bar_count body))
    (nowhere NoBar))))
