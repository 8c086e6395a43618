-- A character has a byte at least and lies within the bytes, so the position after it does too.
-- Assumes nothing.
use mathlib.Core.List.{List}
use mathlib.Core.Path.{◌≡◌, sym}
use Prim.Native.Nat.{ℕ, ◌+◌, ◌-◌, ◌≤◌, ◌<◌}
use native.Mathlib.Omega.{arith}
use lib.ListN.{length, drop, length-drop}
use Rattle.utf8.specs.Utf8.{char_at}
use Rattle.utf8.specs.declared.Found.TheVariants.{Char}
use Rattle.utf8.proofs.Laws.{found-size, found_within}
use Rattle.utf8_vectors.proofs.put_char.Goals as goal

-- the position after a character
after : (s : List ℕ) (at c n : ℕ) → at < length s → char_at s at ≡ Char c n → (at < at + n) × (at + n ≤ length s)
after s at c n h e =
    let l : length (drop at s) ≡ length s - at = length-drop at s in
    let w : n ≤ length (drop at s) = found_within (drop at s) c n e in
    let g : 1 ≤ n = found-size (drop at s) c n e in
    (omega arith, omega arith)

pub overflow_add-result : goal.overflow_add-result
overflow_add-result c =
    let p = after c.args.bytes.now c.args.at c.in-Char.code c.in-Char.n c.requires (sym c.in-Char.ensures) in
    omega arith

pub returns-in-Char : goal.returns-in-Char
returns-in-Char c = after c.args.bytes.now c.args.at c.in-Char.code c.in-Char.n c.requires (sym c.in-Char.ensures)
