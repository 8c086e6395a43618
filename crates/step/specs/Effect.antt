-- The effects of which those of the tokens are made.
use Rattle.std.specs.Prelude.{Option, ℕ, ℤ}
use Rattle.std.specs.declared.option.Option.TheVariants as error
use Rattle.expression.specs.declared.expression.Exp.{Exp}
use Rattle.expression.specs.declared.parser_error.ParserError.{ParserError}
use Rattle.step.specs.declared.context.Context.{Context}
use Rattle.step.specs.declared.effect.Effect.{Effect}
use Rattle.step.specs.declared.effect.Gains.TheVariants as gains
use Rattle.step.specs.declared.effect.Here.{Here}

-- the error of an effect, or none
abbrev pub OptionalError : Type 0
OptionalError = Option ParserError

-- no token is taken, and the state and both lists stay
abbrev pub kept : Here → Effect
kept h = record { taken = 0; count = h.count; context = h.context; gains = gains.None; error = error.None }

-- an expression is added (`expressions.push`)
abbrev pub pushing : Here → Exp → Effect
pushing h e = record { taken = 0; count = h.count; context = h.context; gains = gains.One e; error = error.None }

-- two are, in this order
abbrev pub pushing2 : Here → Exp → Exp → Effect
pushing2 h e f = record { taken = 0; count = h.count; context = h.context; gains = gains.Two e f; error = error.None }

-- an error is added (`errors.push`)
abbrev pub failing : Here → ParserError → Effect
failing h e = record { taken = 0; count = h.count; context = h.context; gains = gains.None; error = error.Some e }

-- n tokens after it are taken too (`next`, `next_if`)
abbrev pub taking : ℕ → Effect → Effect
taking n e = record { taken = n; count = e.count; context = e.context; gains = e.gains; error = e.error }

-- the count of open brackets becomes z (`open_parent_count`)
abbrev pub counting : ℤ → Effect → Effect
counting z e = record { taken = e.taken; count = z; context = e.context; gains = e.gains; error = e.error }

-- the state becomes c (`context`)
abbrev pub within : Context → Effect → Effect
within c e = record { taken = e.taken; count = e.count; context = c; gains = e.gains; error = e.error }

-- an error is added too
abbrev pub erring : ParserError → Effect → Effect
erring f e = record { taken = e.taken; count = e.count; context = e.context; gains = e.gains; error = error.Some f }
