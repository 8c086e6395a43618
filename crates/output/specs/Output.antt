-- Output that waits in a lent buffer: the first so many of its bytes are taken, and what is put goes behind them.
use Rattle.std.specs.Prelude.{Option, List, ◌++◌, ◌≡◌, ℕ, ◌+◌, ◌-◌, min, length, replicate, take}
use Rattle.std.specs.Io.KnownBytes.{Appends}
use Rattle.std.proofs.lemmas.List.Edits.{sets}
use Rattle.io.specs.Digits.{IsDigitCount, last_digits}

-- how many bytes of t have room behind the first n of b
abbrev pub fitting : List ℕ → ℕ → List ℕ → ℕ
fitting t n b = min (length t) (length b - n)

-- t was put behind the first n bytes of b: it stands there as far as there is room (`sets` leaves a list as it is behind its end), all
-- else is as it was, and r bytes are taken now
pub record Put (t : List ℕ) (n r : ℕ) (b b' : List ℕ) : Type 0 where
  pub bytes : b' ≡ sets b n t
  pub count : r ≡ n + fitting t n b

-- k digits, right-justified in so many columns; a wider number in full
abbrev pub justified : (columns k number : ℕ) → List ℕ
justified columns k number = replicate (columns - k) 32 ++ last_digits 10 k number

-- a number was put in decimal, with no more digits than it has, of which there is one count only
pub record PutNumber (number columns n r : ℕ) (b b' : List ℕ) : Type 0 where
  pub places : ℕ
  pub fewest : IsDigitCount 10 1 number places
  pub put : Put (justified columns places number) n r b b'

-- a first part of the bytes was appended to what a writer holds, where that is known
abbrev pub AppendsPart : Option (List ℕ) → Option (List ℕ) → List ℕ → Type 0
AppendsPart old new bytes = (k : ℕ) × Appends old new (take k bytes)
