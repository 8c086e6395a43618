-- From tokens to expressions: what one token does.
use Rattle.std.specs.Prelude.{Bool, Option, cond, ◌&&◌, ◌||◌, ℕ, ◌+◌, eqb, pos, ◌+ℤ◌, ◌-ℤ◌}
use Rattle.std.specs.Int.Signed.{lt_z}
use Rattle.intervals.specs.Interval.{augmented_fourth, diminished_fifth, major_second, major_seventh, major_third, minor_second, ninth, perfect_fifth, perfect_fourth}
use Rattle.note.specs.declared.Note.{Note}
use Rattle.std.specs.declared.option.Option.TheVariants as optional
use Rattle.note.specs.Note.{OptionalNote}
use Rattle.note.specs.declared.RootModifier.TheVariants.{Natural, Sharp, Flat}
use Rattle.note.specs.declared.RootModifier.{RootModifier}
use Rattle.expression.specs.declared.expression.Exp.TheVariants.{Power, Bass, Maj, Maj7, Minor, HalfDim, Dim, Dim7, Alt, Aug, Sus, Extension, Add, Omit, SlashBass}
use Rattle.expression.specs.declared.parser_error.ParserError.TheVariants.{IllegalToken, UnexpectedNote, InvalidExtension, UnexpectedModifier, MissingAddTarget, IllegalOrMissingOmitTarget, IllegalSlashNotation, UnexpectedClosingParenthesis, MissingClosingParenthesis, NestedParenthesis}
use Rattle.token.specs.declared.Bracket.TheVariants.{Opens, Closes, Ends, Other}
use Rattle.token.specs.declared.Bracket.{Bracket}
use Rattle.token.specs.declared.TokenType.TheVariants as type
use Rattle.token.specs.declared.TokenType.{TokenType}
use Rattle.step.specs.Context.{is_none, member_of, on_comma, start_group}
use Rattle.step.specs.Effect.{counting, erring, failing, kept, pushing, pushing2, taking, within}
use Rattle.step.specs.Interval.{interval_of, no_interval}
use Rattle.lookahead.specs.Next.{is_end, is_maj7, is_number, is_sign, note_from, number_in, sign_in}
use Rattle.step.specs.declared.context.Context.TheVariants as context
use Rattle.step.specs.declared.context.Context.{Context}
use Rattle.step.specs.declared.context.GroupKind.TheVariants as group
use Rattle.step.specs.declared.effect.Effect.{Effect}
use Rattle.step.specs.declared.effect.Here.{Here}
use Rattle.lookahead.specs.declared.Ahead.{Ahead}
use Rattle.lookahead.specs.declared.Next.{Next}

-- `add_interval` outside sus and active groups: the fourth is sus, and #4 is not allowed
abbrev pub interval_alone : Here → ℕ → ℕ → Effect
interval_alone h i p = cond (eqb i perfect_fourth) (pushing h (Sus perfect_fourth))
    (cond (eqb i augmented_fourth) (failing h (InvalidExtension p)) (pushing h (Extension i p)))

-- `allowed_sus_interval`: the seconds, the fourth and #4
abbrev pub sus_allows : ℕ → Bool
sus_allows i = eqb i minor_second || (eqb i major_second || (eqb i perfect_fourth || eqb i augmented_fourth))

-- `add_interval` in sus: an interval that sus does not take leaves it the fourth (`add_sus_exp`)
abbrev pub interval_in_sus : Here → ℕ → ℕ → Effect
interval_in_sus h i p = within context.None (cond (sus_allows i) (pushing h (Sus i)) (pushing2 h (Sus perfect_fourth) (Extension i p)))

-- `add_interval`, by the state
abbrev pub add_interval : Context → Here → ℕ → ℕ → Effect
add_interval context.None h i p = interval_alone h i p
add_interval context.Sus h i p = interval_in_sus h i p
add_interval (context.Group g) h i p = cond g.active (pushing h (member_of g.kind i p)) (interval_alone h i p)

-- `modifier` and `extension`: the interval i at p; where there is none, kind 6 at q
abbrev pub placed : Here → ℕ → ℕ → ℕ → Effect
placed h i p q = cond (eqb i no_interval) (failing h (InvalidExtension q)) (add_interval h.context h i p)

-- the same of an interval that was found or not
abbrev pub placing : Here → Option ℕ → ℕ → ℕ → Effect
placing h optional.None p q = failing h (InvalidExtension q)
placing h (optional.Some i) p q = add_interval h.context h i p

-- `modifier`: a sign takes the number after it
abbrev pub modifier_step : RootModifier → Here → Next → Effect
modifier_step m h nx =
    cond (is_number nx) (taking 1 (placed h (interval_of m (number_in nx)) h.pos (h.pos + 1)))
    (failing h (UnexpectedModifier h.pos))

-- `extension`: a 5 in the state none
abbrev pub is_power : ℕ → Context → Bool
is_power n c = eqb n 5 && is_none c

-- `extension`
abbrev pub number_step : ℕ → Here → Effect
number_step n h = cond (is_power n h.context) (pushing h Power) (placed h (interval_of Natural n) h.pos h.pos)

-- `aug`: a 5 after it is taken with it
abbrev pub aug_step : Here → Next → Effect
aug_step h nx = cond (eqb (number_in nx) 5) (taking 1 (pushing h Aug)) (pushing h Aug)

-- `hyphen`: with a 5 after it the diminished fifth, else minor
abbrev pub hyphen_step : Here → Next → Effect
hyphen_step h nx = cond (eqb (number_in nx) 5) (taking 1 (pushing h (Extension diminished_fifth h.pos))) (pushing h Minor)

-- `sus`: a number or a sign after it says which, else it is the fourth
abbrev pub sus_step : Here → Next → Effect
sus_step h nx = cond (is_number nx || is_sign nx) (within context.Sus (kept h)) (within context.None (pushing h (Sus perfect_fourth)))

-- `omit`: a 5 or a 3 after it (`consume_extension_if`)
abbrev pub omit_target : Here → Next → Effect
omit_target h nx =
    cond (eqb (number_in nx) 5) (taking 1 (pushing h (Omit perfect_fifth (h.pos + h.len))))
    (cond (eqb (number_in nx) 3) (taking 1 (pushing h (Omit major_third (h.pos + h.len))))
    (failing h (IllegalOrMissingOmitTarget h.pos h.len)))

-- `omit`: "Omit and Add open a group only while the count is above 0"
abbrev pub omit_step : Here → Next → Effect
omit_step h nx = within (start_group h.context group.Omit (lt_z (pos 0) h.count)) (omit_target h nx)

-- `add` after its sign m: the token nx at q, before which k tokens are taken; a number or a Maj7
abbrev pub add_target : ℕ → RootModifier → Here → Next → ℕ → Effect
add_target k m h nx q =
    cond (is_number nx)
    (taking (k + 1)
    (cond (eqb (interval_of m (number_in nx)) no_interval) (failing h (InvalidExtension h.pos))
    (pushing h (Add (interval_of m (number_in nx)) q))))
    (cond (is_maj7 nx) (taking (k + 1) (pushing h (Add major_seventh (h.pos + h.len))))
    (taking k (failing h (MissingAddTarget h.pos h.len))))

-- `add`: the sign that `match_modifier` takes, or none
abbrev pub add_signed : Here → Ahead → Effect
add_signed h a =
    cond (is_sign a.first) (add_target 1 (sign_in a.first) h a.second a.pos2) (add_target 0 Natural h a.first a.pos)

-- `add`: "Omit and Add open a group only while the count is above 0"
abbrev pub add_step : Here → Ahead → Effect
add_step h a = within (start_group h.context group.Add (lt_z (pos 0) h.count)) (add_signed h a)

-- "A 9 whose last expression is the extension 6 adds a ninth"
abbrev pub six_nine : Here → Next → Bool
six_nine h nx = eqb (number_in nx) 9 && h.six

-- "After those two, a next token other than End gives kind 14 too and is still read."
abbrev pub then_end : Here → Next → Effect → Effect
then_end h nx e = cond (is_end nx) e (erring (IllegalSlashNotation h.pos) e)

-- "a note, with its sign, is the bass"
abbrev pub bass_step : Note → Here → Ahead → Effect
bass_step n h a =
    cond (is_sign a.second) (then_end h a.third (taking 2 (pushing h (SlashBass n))))
    (then_end h a.second (taking 1 (pushing h (SlashBass n))))

-- "a note, with its sign, is the bass; anything else gives kind 14 at the slash"
abbrev pub note_step : OptionalNote → Here → Ahead → Effect
note_step (optional.Some n) h a = bass_step n h a
note_step optional.None h a = taking 1 (failing h (IllegalSlashNotation h.pos))

-- "A slash always consumes the token after it." (`slash`)
abbrev pub slash_step : Here → Ahead → Effect
slash_step h a =
    cond (six_nine h a.first) (then_end h a.second (taking 1 (pushing h (Add ninth a.pos))))
    (note_step (note_from a.first (sign_in a.second)) h a)

-- "an opening sign sets the state to none" (`lparen`)
abbrev pub open_step : Here → Effect
open_step h = within context.None (counting (h.count +ℤ pos 1) (kept h))

-- the matched closing sign (`lparen`): "Closing a bracket does not end an Add or Omit group opened inside it"
abbrev pub matched_close : Here → Effect
matched_close h = counting (h.count -ℤ pos 1) (kept h)

-- the unmatched one: "A closing sign outside any bracket always gives kind 15 and lowers the count by one, below 0 if need be." (`rparen`)
abbrev pub unmatched_close : Here → Effect
unmatched_close h = within context.None (erring (UnexpectedClosingParenthesis h.pos) (counting (h.count -ℤ pos 1) (kept h)))

-- `comma`
abbrev pub comma_step : Here → Effect
comma_step h = within (on_comma h.context) (kept h)

-- `process_token`: what a token does outside any bracket
abbrev pub step_of : TokenType → Here → Ahead → Effect
step_of (type.Note l) h a = failing h (UnexpectedNote h.pos)
step_of type.Sharp h a = modifier_step Sharp h a.first
step_of type.Flat h a = modifier_step Flat h a.first
step_of type.Aug h a = aug_step h a.first
step_of type.Dim h a = pushing h Dim
step_of type.Dim7 h a = pushing h Dim7
step_of type.HalfDim h a = pushing h HalfDim
step_of (type.Extension n) h a = number_step n h
step_of type.Add h a = add_step h a
step_of type.Omit h a = omit_step h a.first
step_of type.Alt h a = pushing h Alt
step_of type.Sus h a = sus_step h a.first
step_of type.Minor h a = pushing h Minor
step_of type.Hyphen h a = hyphen_step h a.first
step_of type.Maj h a = pushing h Maj
step_of type.Maj7 h a = pushing h Maj7
step_of type.Slash h a = slash_step h a
step_of type.LParent h a = open_step h
step_of type.RParent h a = unmatched_close h
step_of type.Comma h a = comma_step h
step_of type.Bass h a = pushing h Bass
step_of type.Illegal h a = failing h (IllegalToken h.pos)
step_of type.Eof h a = kept h

-- `lparen`, in the bracket opened at q: "the innermost open bracket meets End and gives kind 16 at its own position"; "An inner
-- bracket gives kind 17 at the outer one's position and is still read."
abbrev pub inside_of : Bracket → ℕ → TokenType → Here → Ahead → Effect
inside_of Closes q k h a = matched_close h
inside_of Ends q k h a = failing h (MissingClosingParenthesis q)
inside_of Opens q k h a = erring (NestedParenthesis q) (open_step h)
inside_of Other q k h a = step_of k h a
