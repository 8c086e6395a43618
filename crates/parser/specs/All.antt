-- Bookkeeping of contracts between our own functions; no promise of an entry point rests on it.
-- What holds of every element of a list.
use Rattle.std.specs.Prelude.{List, [], ◌∷◌}

-- P holds of each
abbrev pub All : {A : Type 0} → (A → Type 0) → List A → Type 0
All P [] = Unit
All P (x ∷ xs) = P x × All P xs
