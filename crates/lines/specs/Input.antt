-- Lines out of blocks of input.
use Rattle.std.specs.Prelude.{false, cond, List, [], ◌∷◌, ◌≡◌, ℕ, suc, ◌+◌, ◌-◌, ◌≤◌, ◌<◌, min, eqb, ltb, drop, length, take}
use Rattle.output.specs.Output.{Put}
use Rattle.lines.specs.declared.Input.{Input}

-- how many bytes stand before the first newline, or in all where there is none
unfoldable pub to_newline : List ℕ → ℕ
to_newline [] = 0
to_newline (x ∷ xs) = cond (eqb x 10) 0 (suc (to_newline xs))

-- what is known of a state: the bytes that are not taken yet lie in the block, and those of the line in the line's buffer;
-- no more lines can come than their count holds
pub record Inside (s : Input) (block line : List ℕ) : Type 0 where
  pub ordered : s.at ≤ s.end
  pub bytes : s.end ≤ length block
  pub text : s.len ≤ length line
  pub part : s.len ≡ length (take s.len line)
  pub few : s.lines + s.left ≤ 18446744073709551615

-- the state before the first call
abbrev pub nothing_read : Input
nothing_read = record { at = 0; end = 0; len = 0; ready = false; lines = 0; left = 18446744073709551615 }

-- the bytes of the line that the next ones are put behind: none once a line was handed out
abbrev pub kept : Input → ℕ
kept s = cond s.ready 0 s.len

-- the count of lines, with the one that is ready
abbrev pub counted : (s r : Input) → ℕ
counted s r = cond r.ready (s.lines + 1) s.lines

-- the bytes from the place f up to, not including, t
abbrev pub between : ℕ → ℕ → List ℕ → List ℕ
between f t l = take (t - f) (drop f l)

-- where the bytes end that are taken next: at a newline, or with the block
abbrev pub stop : Input → List ℕ → ℕ
stop s block = s.at + to_newline (between s.at s.end block)

-- the bytes up to there were put into the line, which is ready if a newline ends it; the newline is taken and belongs to no line
pub record Took (s r : Input) (block line line' : List ℕ) : Type 0 where
  pub put : Put (between s.at (stop s block) block) (kept s) r.len line line'
  pub ready : r.ready ≡ ltb (stop s block) s.end
  pub at : r.at ≡ min (stop s block + 1) s.end
  pub end : r.end ≡ s.end
  pub lines : r.lines ≡ counted s r
  pub left : r.left ≡ s.left - 1

-- a block was read, of which nothing can be said but that it lies in its buffer; at the end of the input there is none, no call may
-- follow, and a last line without newline is a line, if it has bytes
pub record Read (s r : Input) (room : ℕ) : Type 0 where
  pub at : r.at ≡ 0
  pub end : r.end ≤ room
  pub len : r.len ≡ kept s
  pub ready : r.ready ≡ cond (eqb r.end 0) (ltb 0 (kept s)) false
  pub lines : r.lines ≡ counted s r
  pub left : r.left ≡ cond (eqb r.end 0) 0 (s.left - 1)

-- what a call of `next` gives: fewer calls may follow, bytes are taken while the block has any, and then the next block is read
pub record Next (s r : Input) (block block' line line' : List ℕ) : Type 0 where
  pub inside : Inside r block' line'
  pub fewer : r.left < s.left
  pub took : s.at < s.end → (block' ≡ block) × Took s r block line line'
  pub read : s.at ≡ s.end → (line' ≡ line) × Read s r (length block')

-- what a call of `next` that failed leaves: only a block was asked for, and the line and the state stand as they were
pub record Failed (s : Input) (block' line line' : List ℕ) : Type 0 where
  pub asked : s.at ≡ s.end
  pub text : line' ≡ line
  pub inside : Inside s block' line'
