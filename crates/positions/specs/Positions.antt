-- The same tokens, and the same answer, with other positions.
use Rattle.std.specs.Prelude.{cond, List, [], ◌∷◌, ℕ}
use Rattle.intervals.specs.Interval.{elem}
use Rattle.reader.specs.Reader.{ReadOutcome}
use Rattle.token.specs.Token.{token}
use Rattle.token.specs.declared.Token.{Token}

-- a token whose position is mapped; its kind and length stay
abbrev pub mapped : (ℕ → ℕ) → Token → Token
mapped g t = token t.kind (g t.pos) t.len

-- the numbers of errors, "its kind, then its values, then zeros", with every position mapped. "Kind 3 carries the `priority` of the
-- repeated expression, kind 4 an interval number, kind 10 three interval numbers, .. kind 9 nothing": any other kind carries a position.
abbrev pub moved : (ℕ → ℕ) → List ℕ → List ℕ
moved g [] = []
moved g (k ∷ []) = k ∷ []
moved g (k ∷ a ∷ []) = k ∷ a ∷ []
moved g (k ∷ a ∷ b ∷ []) = k ∷ a ∷ b ∷ []
moved g (k ∷ a ∷ b ∷ c ∷ l) = k ∷ cond (elem k (3 ∷ 4 ∷ 9 ∷ 10 ∷ [])) a (g a) ∷ b ∷ c ∷ moved g l

-- what reading gives, with every position mapped; the number, the count and the four stay
abbrev pub moved_outcome : (ℕ → ℕ) → ReadOutcome → ReadOutcome
moved_outcome g o = record { number = o.number; count = o.count; four = o.four; errs = moved g o.errs }
