-- Bookkeeping of contracts between our own functions; no promise of an entry point rests on it.
-- Which expressions the parser can gain.
use Rattle.std.specs.Prelude.{false, ◌≡◌, ◌<◌, eqb}
use Rattle.intervals.specs.Interval.{augmented_fourth}
use Rattle.expression.specs.declared.expression.Exp.TheVariants.{Power, Bass, Maj, Maj7, Minor, HalfDim, Dim, Dim7, Alt, Aug, Sus, Extension, Add, Omit, SlashBass}
use Rattle.expression.specs.declared.expression.Exp.{Exp}

-- an interval is below 23, and no extension is #4
abbrev pub Sound : Exp → Type 0
Sound Power = Unit
Sound Bass = Unit
Sound Maj = Unit
Sound Maj7 = Unit
Sound Minor = Unit
Sound HalfDim = Unit
Sound Dim = Unit
Sound Dim7 = Unit
Sound Alt = Unit
Sound Aug = Unit
Sound (Sus i) = i < 23
Sound (Extension i p) = (i < 23) × (eqb i augmented_fourth ≡ false)
Sound (Add i p) = i < 23
Sound (Omit i p) = i < 23
Sound (SlashBass n) = Unit
