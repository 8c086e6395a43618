-- Each arm by its number; above 2 the definition has no modifier either.
-- Assumes nothing.
use mathlib.Core.List.{[], ◌∷◌}
use mathlib.Core.Path.{sym}
use native.Mathlib.Omega.{arith}
use lib.ListN.{get_or-eq_default}
use Rattle.note.specs.declared.RootModifier.TheVariants.{Natural, Sharp, Flat}
use Rattle.note.proofs.RootModifier.from_number.Goals as goal

pub returns-in_default : goal.returns-in_default
returns-in_default c = sym (get_or-eq_default (Natural ∷ Sharp ∷ Flat ∷ []) Natural {n = c.args.number} (omega (arith, c.in_default.in_default-own.rest)))
