-- Bookkeeping of contracts between our own functions; no promise of an entry point rests on it.
-- Bounds of an effect: how much it does at most, and which expressions it may gain. Contracts and laws of the later layers use them.
use Rattle.std.specs.Prelude.{ℕ, ◌+◌, ◌≤◌}
use Rattle.std.specs.Int.Signed.{mag}
use Rattle.expression.specs.Bounds.{Sound}
use Rattle.step.specs.declared.context.Context.TheVariants as context
use Rattle.step.specs.declared.context.Context.{Context}
use Rattle.step.specs.declared.effect.Effect.{Effect}
use Rattle.step.specs.declared.effect.Gains.TheVariants as gains
use Rattle.step.specs.declared.effect.Gains.{Gains}
use Rattle.step.specs.declared.effect.Here.{Here}

-- 1 where the state is sus
abbrev pub sus_bit : Context → ℕ
sus_bit context.None = 0
sus_bit context.Sus = 1
sus_bit (context.Group g) = 0

-- how many expressions are gained
abbrev pub gains_count : Gains → ℕ
gains_count gains.None = 0
gains_count (gains.One e) = 1
gains_count (gains.Two e f) = 2

-- what an effect does at most: only after sus are there two expressions, and the state is not sus then
pub record Small (h : Here) (e : Effect) : Type 0 where
  pub gained : gains_count e.gains + sus_bit e.context ≤ 1 + sus_bit h.context
  pub counted : mag e.count ≤ mag h.count + 1
  pub taken : e.taken ≤ 2

-- each expression that is gained has its interval in the table
abbrev pub SoundGains : Gains → Type 0
SoundGains gains.None = Unit
SoundGains (gains.One e) = Sound e
SoundGains (gains.Two e f) = Sound e × Sound f
