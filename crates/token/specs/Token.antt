-- Tokens, their types, the numbers of these and what each is to a bracket.
use Rattle.std.specs.Prelude.{cond, List, [], ◌∷◌, ◌≡◌, ℕ, ◌+◌, ◌-◌, ◌≤◌, ltb, length, get_or, drop}
use Rattle.note.specs.Note.{letter_number, letter_of}
use Rattle.token.specs.declared.Bracket.TheVariants.{Opens, Closes, Ends, Other}
use Rattle.token.specs.declared.Bracket.{Bracket}
use Rattle.token.specs.declared.TokenType.TheVariants.{Note, Sharp, Flat, Aug, Dim, Dim7, HalfDim, Extension, Add, Omit, Alt, Sus, Minor, Hyphen, Maj, Maj7, Slash, LParent, RParent, Comma, Bass, Illegal, Eof}
use Rattle.token.specs.declared.TokenType.{TokenType}
use Rattle.token.specs.declared.Token.{Token}

-- "A token holds numbers, no borrowed text": the number of its type, its position and its length.
abbrev pub token : ℕ → ℕ → ℕ → Token
token k p l = record { kind = k; pos = p; len = l }

-- The number of a type: its place in the Rust's order; a note has 64 and its letter, an extension 32 and its number.
abbrev pub type_number : TokenType → ℕ
type_number (Note l) = 64 + letter_number l
type_number Sharp = 1
type_number Flat = 2
type_number Aug = 3
type_number Dim = 4
type_number Dim7 = 5
type_number HalfDim = 6
type_number (Extension n) = 32 + n
type_number Add = 8
type_number Omit = 9
type_number Alt = 10
type_number Sus = 11
type_number Minor = 12
type_number Hyphen = 13
type_number Maj = 14
type_number Maj7 = 15
type_number Slash = 16
type_number LParent = 17
type_number RParent = 18
type_number Comma = 19
type_number Bass = 20
type_number Illegal = 21
type_number Eof = 22

-- The type of a number; a number that no type has gives Illegal.
abbrev pub plain_types : List TokenType
plain_types =
    Illegal ∷ Sharp ∷ Flat ∷ Aug ∷ Dim ∷ Dim7 ∷ HalfDim ∷ Illegal ∷ Add ∷ Omit ∷ Alt ∷ Sus ∷ Minor ∷ Hyphen ∷ Maj ∷ Maj7 ∷ Slash ∷ LParent
    ∷ RParent ∷ Comma ∷ Bass ∷ Illegal ∷ Eof ∷ []

abbrev pub plain_type : ℕ → TokenType
plain_type k = get_or plain_types k Illegal

unfoldable pub type_of : ℕ → TokenType
type_of k =
    cond (ltb k 32) (plain_type k)
    (cond (ltb k 64) (Extension (k - 32))
    (cond (ltb k 71) (Note (letter_of (k - 64)))
    Illegal))

-- what a token is to the bracket around it, as `lparen` asks of each
abbrev pub bracket_kind : TokenType → Bracket
bracket_kind (Note l) = Other
bracket_kind Sharp = Other
bracket_kind Flat = Other
bracket_kind Aug = Other
bracket_kind Dim = Other
bracket_kind Dim7 = Other
bracket_kind HalfDim = Other
bracket_kind (Extension n) = Other
bracket_kind Add = Other
bracket_kind Omit = Other
bracket_kind Alt = Other
bracket_kind Sus = Other
bracket_kind Minor = Other
bracket_kind Hyphen = Other
bracket_kind Maj = Other
bracket_kind Maj7 = Other
bracket_kind Slash = Other
bracket_kind LParent = Opens
bracket_kind RParent = Closes
bracket_kind Comma = Other
bracket_kind Bass = Other
bracket_kind Illegal = Other
bracket_kind Eof = Ends

-- the slice has room for n tokens
abbrev pub Room : ℕ → List Token → Type 0
Room n ts = n ≤ length ts

-- from place n on the slice is as it was
abbrev pub Untouched : ℕ → List Token → List Token → Type 0
Untouched n ts ts' = drop n ts' ≡ drop n ts

abbrev pub at : List Token → ℕ → Token
at ts i = get_or ts i (token 0 0 0)

-- every token's position is at most p, and its length at most l
abbrev pub Ranged : ℕ → ℕ → List Token → Type 0
Ranged p l [] = Unit
Ranged p l (t ∷ ts) = (t.pos ≤ p) × (t.len ≤ l) × Ranged p l ts
