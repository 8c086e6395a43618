-- What the tokens after the one that is read can be to it. Where there is no token it is Other: the Rust's `peek` gives none there, which
-- is no End.
use Rattle.std.specs.Prelude.{Bool, true, false, ℕ}
use Rattle.std.specs.declared.option.Option.TheVariants as optional
use Rattle.note.specs.Note.{OptionalNote}
use Rattle.note.specs.declared.RootModifier.TheVariants as modifier
use Rattle.note.specs.declared.RootModifier.{RootModifier}
use Rattle.token.specs.declared.TokenType.TheVariants as type
use Rattle.token.specs.declared.TokenType.{TokenType}
use Rattle.lookahead.specs.declared.Next.TheVariants.{Note, Sharp, Flat, Extension, Maj7, Eof, Other}
use Rattle.lookahead.specs.declared.Next.{Next}

-- what the Rust asks of a token that comes next: `next_if`, `peek`, `expect_note`, `expect_peek`
abbrev pub next_of : TokenType → Next
next_of (type.Note l) = Note l
next_of type.Sharp = Sharp
next_of type.Flat = Flat
next_of type.Aug = Other
next_of type.Dim = Other
next_of type.Dim7 = Other
next_of type.HalfDim = Other
next_of (type.Extension n) = Extension n
next_of type.Add = Other
next_of type.Omit = Other
next_of type.Alt = Other
next_of type.Sus = Other
next_of type.Minor = Other
next_of type.Hyphen = Other
next_of type.Maj = Other
next_of type.Maj7 = Maj7
next_of type.Slash = Other
next_of type.LParent = Other
next_of type.RParent = Other
next_of type.Comma = Other
next_of type.Bass = Other
next_of type.Illegal = Other
next_of type.Eof = Eof

-- the number that `is_extension` finds; 0 where there is none
abbrev pub number_in : Next → ℕ
number_in (Note l) = 0
number_in Sharp = 0
number_in Flat = 0
number_in (Extension n) = n
number_in Maj7 = 0
number_in Eof = 0
number_in Other = 0

-- `is_extension`
abbrev pub is_number : Next → Bool
is_number (Note l) = false
is_number Sharp = false
is_number Flat = false
is_number (Extension n) = true
is_number Maj7 = false
is_number Eof = false
is_number Other = false

-- `match_modifier`; natural is none
abbrev pub sign_in : Next → RootModifier
sign_in (Note l) = modifier.Natural
sign_in Sharp = modifier.Sharp
sign_in Flat = modifier.Flat
sign_in (Extension n) = modifier.Natural
sign_in Maj7 = modifier.Natural
sign_in Eof = modifier.Natural
sign_in Other = modifier.Natural

-- does `match_modifier` find one?
abbrev pub is_sign : Next → Bool
is_sign (Note l) = false
is_sign Sharp = true
is_sign Flat = true
is_sign (Extension n) = false
is_sign Maj7 = false
is_sign Eof = false
is_sign Other = false

-- `add`: is it a Maj7?
abbrev pub is_maj7 : Next → Bool
is_maj7 (Note l) = false
is_maj7 Sharp = false
is_maj7 Flat = false
is_maj7 (Extension n) = false
is_maj7 Maj7 = true
is_maj7 Eof = false
is_maj7 Other = false

-- `expect_peek` of End
abbrev pub is_end : Next → Bool
is_end (Note l) = false
is_end Sharp = false
is_end Flat = false
is_end (Extension n) = false
is_end Maj7 = false
is_end Eof = true
is_end Other = false

-- `expect_note`: the note that begins here, with the sign after it
abbrev pub note_from : Next → RootModifier → OptionalNote
note_from (Note l) m = optional.Some (record { literal = l; modifier = m })
note_from Sharp m = optional.None
note_from Flat m = optional.None
note_from (Extension n) m = optional.None
note_from Maj7 m = optional.None
note_from Eof m = optional.None
note_from Other m = optional.None
