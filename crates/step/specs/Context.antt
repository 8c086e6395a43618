-- "the state between tokens is none, sus, or a group with its kind and whether a comma has made it active"
use Rattle.std.specs.Prelude.{Bool, true, false, ℕ}
use Rattle.expression.specs.declared.expression.Exp.TheVariants as exp
use Rattle.expression.specs.declared.expression.Exp.{Exp}
use Rattle.step.specs.declared.context.Context.TheVariants.{None, Sus, Group}
use Rattle.step.specs.declared.context.Context.{Context}
use Rattle.step.specs.declared.context.GroupKind.TheVariants.{Omit, Add}
use Rattle.step.specs.declared.context.GroupKind.{GroupKind}

-- `add_interval`: an interval in an active group is one more of its kind
abbrev pub member_of : GroupKind → ℕ → ℕ → Exp
member_of Omit i p = exp.Omit i p
member_of Add i p = exp.Add i p

-- "Omit and Add open a group only while the count is above 0"; it is not active (`start_group`)
abbrev pub start_group : Context → GroupKind → Bool → Context
start_group c k true = Group (record { kind = k; active = false })
start_group c k false = c

-- `on_comma`: "whether a comma has made it active"; any other state becomes none
abbrev pub on_comma : Context → Context
on_comma None = None
on_comma Sus = None
on_comma (Group g) = Group (record { kind = g.kind; active = true })

-- `extension` asks for the state none
abbrev pub is_none : Context → Bool
is_none None = true
is_none Sus = false
is_none (Group g) = false
