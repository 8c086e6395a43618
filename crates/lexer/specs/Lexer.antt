-- From bytes to tokens (document 01, the section of that name).
use Rattle.std.specs.Prelude.{Bool, ◌&&◌, ◌||◌, cond, List, [], ◌∷◌, ◌++◌, ℕ, zero, suc, ◌+◌, ◌-◌, ◌*◌, eqb, leb, ltb, length, drop}
use Rattle.intervals.specs.Interval.{elem}
use Rattle.token.specs.Token.{token, type_number}
use Rattle.token.specs.declared.Token.{Token}
use Rattle.token.specs.declared.TokenType.TheVariants.{Sharp, Flat, Aug, Dim, HalfDim, Extension, Hyphen, Maj7, Slash, LParent, RParent, Comma, Illegal, Eof}
use Rattle.utf8.specs.Utf8.{char_of}
use Rattle.utf8.specs.declared.Found.TheVariants as utf8
use Rattle.utf8.specs.declared.Found.{Found}
use Rattle.lexer.specs.Words.{is_letter, word_by_ends}
use Rattle.lexer.specs.declared.Head.TheVariants.{Space, Sign, Word, Number, Digit}
use Rattle.lexer.specs.declared.Head.{Head}
use Rattle.lexer.specs.declared.Match.{Match}

abbrev pub illegal : ℕ
illegal = type_number Illegal

-- "The numerals U+00B9, U+00B2, U+00B3, U+2070 and U+2074 to U+2079 now count as their digits": the ten, by their digits from 0 to 9
abbrev pub raised_numerals : List ℕ
raised_numerals = 0x2070 ∷ 0xB9 ∷ 0xB2 ∷ 0xB3 ∷ 0x2074 ∷ 0x2075 ∷ 0x2076 ∷ 0x2077 ∷ 0x2078 ∷ 0x2079 ∷ []

-- the place of a character in a list; the list's length where it does not stand there
abbrev pub place_in : List ℕ → ℕ → ℕ
place_in [] c = 0
place_in (d ∷ ds) c = cond (eqb c d) 0 (suc (place_in ds c))

-- the digit that a character is, plain or raised, 0 to 9; 10 for a character that is no digit
unfoldable pub digit_of : ℕ → ℕ
digit_of c = cond (leb 48 c && leb c 57) (c - 48) (place_in raised_numerals c)

abbrev pub is_digit : ℕ → Bool
is_digit c = ltb (digit_of c) 10

-- The signs of `scan_token`, by character: # ♯, ♭, △ ^ Δ, -, °, ø, /, +, comma, ( and ), one line each in this order; 0 for a character
-- that has no token of its own.
unfoldable pub sign_of : ℕ → ℕ
sign_of c =
    cond (eqb c 0x23 || eqb c 0x266F) (type_number Sharp)
    (cond (eqb c 0x266D) (type_number Flat)
    (cond (eqb c 0x25B3 || eqb c 0x5E || eqb c 0x394) (type_number Maj7)
    (cond (eqb c 0x2D) (type_number Hyphen)
    (cond (eqb c 0xB0) (type_number Dim)
    (cond (eqb c 0xF8) (type_number HalfDim)
    (cond (eqb c 0x2F) (type_number Slash)
    (cond (eqb c 0x2B) (type_number Aug)
    (cond (eqb c 0x2C) (type_number Comma)
    (cond (eqb c 0x28) (type_number LParent)
    (cond (eqb c 0x29) (type_number RParent)
    0))))))))))

-- "Each character that is no ASCII letter, ASCII digit or space and has no token of its own is Illegal, at its first byte, with its byte
-- length": as a word that no list has. The ten raised numerals are digits too; every other numeral that is not ASCII is such a character.
abbrev pub sign_head : ℕ → ℕ → Head
sign_head c n = cond (eqb (sign_of c) 0) (Word illegal n) (Sign (sign_of c) n)

-- "An unmatched letter is Illegal."
abbrev pub word_head : Match → Head
word_head m = cond (eqb m.len 0) (Word illegal 1) (Word m.kind m.len)

-- the digit that was found; 10 for a character that is none, and where there is no character
abbrev pub digit_in : Found → ℕ
digit_in (utf8.Char c n) = digit_of c
digit_in utf8.Bad = 10
digit_in utf8.End = 10

-- the bytes of the character that was found
abbrev pub bytes_in : Found → ℕ
bytes_in (utf8.Char c n) = n
bytes_in utf8.Bad = 0
bytes_in utf8.End = 0

-- "A digit run is cut by longest of 2 3 4 5 6 7 9 11 13": two digits, else one, else none.
abbrev pub two_digits : List ℕ
two_digits = 11 ∷ 13 ∷ []

abbrev pub one_digit : List ℕ
one_digit = 2 ∷ 3 ∷ 4 ∷ 5 ∷ 6 ∷ 7 ∷ 9 ∷ []

-- What the digits d, of n bytes, and e, of m bytes, begin with. A number's length is its count of digits.
abbrev pub number_head : ℕ → ℕ → ℕ → ℕ → Head
number_head d n e m =
    cond (elem (10 * d + e) two_digits) (Number (type_number (Extension (10 * d + e))) 2 (n + m))
    (cond (elem d one_digit) (Number (type_number (Extension d)) 1 n)
    (Digit n))

-- what the digit d, of n bytes, begins with, by the character that stands behind it
abbrev pub number_by : ℕ → ℕ → Found → Head
number_by d n f = number_head d n (digit_in f) (bytes_in f)

-- what a text begins with, by its first character. (In a well-formed text there is always one.)
abbrev pub head_by : Found → List ℕ → Head
head_by (utf8.Char c n) s =
    cond (is_letter c) (word_head (word_by_ends s))
    (cond (is_digit c) (number_by (digit_of c) n (char_of (drop n s)))
    (cond (eqb c 0x20) Space
    (sign_head c n)))
head_by utf8.Bad s = Word illegal 1
head_by utf8.End s = Word illegal 1

unfoldable pub head_of : List ℕ → Head
head_of s = head_by (char_of s) s

-- The tokens from a head at p on. "One-sign tokens will carry the sign's own first byte" (document 02 [6], where document 01 has "the byte
-- position after its sign") "and length 1; a word or number token carries its first byte." `held` are the Illegal digits of the run so far:
-- "Its Illegal digits come after all its numbers, last one first." "A stray numeral is Illegal at its first byte, with length 1." `more k
-- held` goes on after k bytes more.
abbrev pub emit : Head → List Token → ℕ → (ℕ → List Token → List Token) → List Token
emit Space held p more = held ++ more 0 []
emit (Sign k n) held p more = held ++ (token k p 1 ∷ more (n - 1) [])
emit (Word k n) held p more = held ++ (token k p n ∷ more (n - 1) [])
emit (Number k l n) held p more = token k p l ∷ more (n - 1) held
emit (Digit n) held p more = more (n - 1) (token illegal p 1 ∷ held)

-- the tokens of a text that begins at p, after its first k bytes
unfoldable pub lex : ℕ → List Token → ℕ → List ℕ → List Token
lex k held p [] = held
lex zero held p (b ∷ s) = emit (head_of (b ∷ s)) held p (λ k held'. lex k held' (p + 1) s)
lex (suc k) held p (b ∷ s) = lex k held (p + 1) s

-- "End is at text length + 1, length 0."
abbrev pub end_of : List ℕ → Token
end_of s = token (type_number Eof) (length s + 1) 0

abbrev pub tokens_of : List ℕ → List Token
tokens_of s = lex 0 [] 0 s ++ (end_of s ∷ [])

-- the bytes of a head
abbrev pub size_of : Head → ℕ
size_of Space = 1
size_of (Sign k n) = n
size_of (Word k n) = n
size_of (Number k l n) = n
size_of (Digit n) = n
