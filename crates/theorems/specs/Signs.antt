-- Positions on the sign, document 02 [6]: "One-sign tokens will carry the sign's own first byte, and every error built from such a token
-- follows. .. chords and spellings are unaffected." What that rule changes, next to document 01's, on the definitions.
use Rattle.std.specs.Prelude.{cond, List, [], ◌∷◌, map, ◌≡◌, ℕ, ◌+◌, eqb}
use Rattle.folding.specs.Folding.{pre_process}
use Rattle.lexer.specs.Lexer.{sign_of, tokens_of}
use Rattle.lexer.specs.Text.{ascii}
use Rattle.positions.specs.Positions.{mapped, moved_outcome}
use Rattle.reader.specs.Reader.{ReadOutcome, parsed, tokens_in}
use Rattle.token.specs.declared.Token.{Token}
use Rattle.utf8.specs.Utf8.{char_at}
use Rattle.utf8.specs.declared.Found.TheVariants.{Char, Bad, End}
use Rattle.utf8.specs.declared.Found.{Found}

-- ts and us have the same kinds and lengths: they are the same with every position taken as 0
abbrev pub SameTokens : List Token → List Token → Type 0
SameTokens ts us = map (mapped (λ p. 0)) ts ≡ map (mapped (λ p. 0)) us

-- what reading gives, with every position taken as 0: the number, the count, the four, and the errors in order, each with its kind and its
-- other values
abbrev pub unplaced : ReadOutcome → ReadOutcome
unplaced o = moved_outcome (λ p. 0) o

-- two lists of tokens with the same kinds and lengths get the same answer but for its positions: a law of the parser and the validator
abbrev pub PositionsAlone : Type 0
PositionsAlone = (ts us : List Token) → SameTokens ts us → unplaced (parsed ts) ≡ unplaced (parsed us)

-- the bytes of the sign that was found, 0 for any other character
abbrev pub sign_bytes : Found → ℕ
sign_bytes (Char c n) = cond (eqb (sign_of c) 0) 0 n
sign_bytes Bad = 0
sign_bytes End = 0

-- the tokens of a text by document 01's own rule, "A one-sign token carries the byte position after its sign": where a sign stands at a
-- token's position, its bytes are added
abbrev pub tokens_before : List ℕ → List Token
tokens_before text = map (mapped (λ p. p + sign_bytes (char_at text p))) (tokens_of text)

-- what parsing and validation then give
abbrev pub parsed_before : List ℕ → ReadOutcome
parsed_before text = parsed (pre_process (tokens_before text))

-- document 01's specimens by that rule: "`C)`: 15 at 2. `C((`: 17 at 2, 16 at 3. `C(/`: 14 at 3."
abbrev pub BeforeAsSaid : Type 0
BeforeAsSaid =
    ((parsed_before (ascii "C)")).errs ≡ 15 ∷ 2 ∷ 0 ∷ 0 ∷ [])
    × ((parsed_before (ascii "C((")).errs ≡ 17 ∷ 2 ∷ 0 ∷ 0 ∷ 16 ∷ 3 ∷ 0 ∷ 0 ∷ [])
    × ((parsed_before (ascii "C(/")).errs ≡ 14 ∷ 3 ∷ 0 ∷ 0 ∷ [])

-- the rule of [6] changes positions alone, in any text. (The questions before parsing do not look at tokens.)
abbrev pub SignsAlone : Type 0
SignsAlone = (text : List ℕ) → unplaced (parsed (tokens_in text)) ≡ unplaced (parsed_before text)
