-- Raised numerals, document 02 [3]: "Such a text is held against the same text in plain digits, positions mapped back". Said of the tokens
-- and of the answer of every well-formed text, on the definitions, and of two readings, in Rattle's terms and in those of the C boundary.
use Rattle.std.specs.Prelude.{cond, List, [], ◌∷◌, map, ◌≡◌, ℕ, ◌+◌, ◌-◌, ◌*◌, ◌≤◌, ltb, length, take}
use Rattle.lexer.specs.Lexer.{digit_of, is_digit, tokens_of}
use Rattle.positions.specs.Positions.{mapped, moved, moved_outcome}
use Rattle.reader.specs.Reader.{answer_to, count_of}
use Rattle.reader.specs.State.{Read}
use Rattle.reader.specs.Reader.{Reading}
use Rattle.nophtris.specs.State as C
use Rattle.utf8.specs.Utf8.{WellFormed, encode, encode_all}

-- a character, a digit as the plain one
unfoldable pub plain_char : ℕ → ℕ
plain_char c = cond (is_digit c) (48 + digit_of c) c

-- "the same text in plain digits", by its characters
abbrev pub plain : List ℕ → List ℕ
plain cs = encode_all (map plain_char cs)

-- how many bytes a character has
abbrev pub width : ℕ → ℕ
width c = length (encode c)

-- "positions mapped back": the place in the text itself of a byte of the plain text. Beyond the last character it is as far beyond.
abbrev pub back : List ℕ → ℕ → ℕ
back [] p = p
back (c ∷ cs) p = cond (ltb p (width (plain_char c))) p (width c + back cs (p - width (plain_char c)))

-- the tokens of a text are those of the plain text, positions mapped back
abbrev pub RaisedTokens : Type 0
RaisedTokens = (t : List ℕ) (w : WellFormed t) → tokens_of t ≡ map (mapped (back w.chars)) (tokens_of (plain w.chars))

-- and so is its answer: number, count and four are the same, and the errors have their positions mapped back. "only the kind 6 of a sign
-- before a wrong number stays one past the sign token's own position" has become empty since that position is the sign's first byte ([6]):
-- one past it is the sign's second byte or the byte behind it, and is mapped to the same byte of the same character. The 256 bytes of the
-- second question are the text's own; its plain text may have fewer.
abbrev pub RaisedAnswer : Type 0
RaisedAnswer =
    (t : List ℕ) (w : WellFormed t) → length t ≤ 256 → answer_to t ≡ moved_outcome (back w.chars) (answer_to (plain w.chars))

-- the first n errors in the lists es and ds: those in es are those in ds, positions mapped back
abbrev pub MappedBack : (cs : List ℕ) (n : ℕ) (es ds : List ℕ) → Type 0
MappedBack cs n es ds = take (4 * n) es ≡ moved (back cs) (take (4 * n) ds)

-- read next to its plain text, with lists that are long enough: the same answer and the same record
abbrev pub RaisedRead : Type 0
RaisedRead =
    (t es es' ds ds' : List ℕ) (r q : Reading) (w : WellFormed t) → Read t es es' r → Read (plain w.chars) ds ds' q
    → length t ≤ 256 → 1028 ≤ length es → 1028 ≤ length ds
    → (r.answer ≡ q.answer) × (r.chord ≡ q.chord) × MappedBack w.chars (count_of r.answer) es' ds'

-- the same of `nophtris_read`, with the memory that it is lent
abbrev pub CRaisedRead : Type 0
CRaisedRead =
    (t es es' ds ds' : List ℕ) (c c' d d' : ℕ) (cs cs' bs bs' : List ℕ) (r q : ℕ) (w : WellFormed t)
    → C.Read t es es' c c' cs cs' r → C.Read (plain w.chars) ds ds' d d' bs bs' q
    → length t ≤ 256 → 1028 ≤ length es → 1028 ≤ length ds
    → (r ≡ q) × (r ≡ 0 → cs' ≡ bs') × (4 ≤ r → (c' ≡ d') × MappedBack w.chars c' es' ds')
