-- Bookkeeping of contracts between our own functions; no promise of an entry point rests on it.
-- The places of the display order.
use Rattle.std.specs.Prelude.{cond, ℕ, ◌+◌, ◌-◌, eqb, leb}

-- the j-th of the numbers, where `high` has been moved behind `low`
abbrev pub moved_at : ℕ → ℕ → ℕ → ℕ
moved_at low high j = cond (leb j low) j (cond (eqb j (low + 1)) high (cond (leb j high) (j - 1) j))
