-- What `part` gives: a part of a lent line, by its bytes and its place in memory.
use Rattle.std.specs.Prelude.{List, ◌≡◌, ℕ, ◌+◌, ◌-◌, take, drop}
use Rattle.std.specs.Borrow.{Bor}

abbrev pub Line : Type 0
Line = Bor (List ℕ)

-- r is the part of a lent line from one place to another: its bytes are those, and it lies in the line, at the first place
pub record Part (line : Line) (from to : ℕ) (r : Line) : Type 0 where
  pub bytes : r.now ≡ take (to - from) (drop from line.now)
  pub place : r.ref_ptr ≡ (line.ref_ptr.0, from + line.ref_ptr.1)
