-- The word list of `from_string`, and the word that a letter run begins with.
use Rattle.std.specs.Prelude.{Bool, ◌&&◌, ◌||◌, cond, List, [], ◌∷◌, ◌++◌, ℕ, zero, suc, eqb, leb, length}
use Prim.Native.String.{String}
use Rattle.note.specs.declared.NoteLiteral.TheVariants.{C, D, E, F, G, A, B}
use Rattle.token.specs.Token.{type_number}
use Rattle.token.specs.declared.TokenType.TheVariants.{Note, Flat, Aug, Dim, Add, Omit, Alt, Sus, Minor, Maj, Bass, Illegal}
use Rattle.token.specs.declared.TokenType.{TokenType}
use Rattle.utf8.specs.Utf8.{begins}
use Rattle.lexer.specs.Text.{ascii}
use Rattle.lexer.specs.declared.Match.{Match}

-- a word, and the number of the token type that it stands for
pub record Word : Type 0 where
  pub text : List ℕ
  pub kind : ℕ

abbrev pub word : List ℕ → ℕ → Word
word t k = record { text = t; kind = k }

-- the words that stand for a type
abbrev pub stand_for : TokenType → List String → List Word
stand_for t [] = []
stand_for t (w ∷ ws) = word (ascii w) (type_number t) ∷ stand_for t ws

-- 55 words, in the order of `from_string`. (Its 56th, the degree sign, is no letter and never met in a letter run; it is a sign.)
unfoldable pub words : List Word
words =
    stand_for Bass ("BASS" ∷ "Bass" ∷ "bass" ∷ [])
    ++ stand_for Maj ("MAJ" ∷ "Maj" ∷ "maj" ∷ "MAJOR" ∷ "Major" ∷ "major" ∷ "MA" ∷ "Ma" ∷ "ma" ∷ "M" ∷ [])
    ++ stand_for Minor ("MIN" ∷ "Min" ∷ "min" ∷ "MINOR" ∷ "Minor" ∷ "minor" ∷ "MI" ∷ "Mi" ∷ "mi" ∷ "m" ∷ [])
    ++ stand_for Flat ("b" ∷ [])
    ++ stand_for Sus ("SUS" ∷ "Sus" ∷ "sus" ∷ [])
    ++ stand_for Dim ("DIM" ∷ "Dim" ∷ "dim" ∷ "diminished" ∷ [])
    ++ stand_for Alt ("ALT" ∷ "Alt" ∷ "alt" ∷ [])
    ++ stand_for Aug ("AUG" ∷ "Aug" ∷ "aug" ∷ [])
    ++ stand_for Add ("ADD" ∷ "Add" ∷ "add" ∷ [])
    ++ stand_for Dim ("O" ∷ "o" ∷ [])
    ++ stand_for Omit ("OMIT" ∷ "Omit" ∷ "omit" ∷ "NO" ∷ "No" ∷ "no" ∷ [])
    ++ stand_for (Note A) ("A" ∷ [])
    ++ stand_for (Note B) ("B" ∷ [])
    ++ stand_for (Note C) ("C" ∷ [])
    ++ stand_for (Note D) ("D" ∷ [])
    ++ stand_for (Note E) ("E" ∷ [])
    ++ stand_for (Note F) ("F" ∷ [])
    ++ stand_for (Note G) ("G" ∷ [])

-- a word that was found: its length and its type's number
abbrev pub match : ℕ → ℕ → Match
match n k = record { len = n; kind = k }

-- none was found
abbrev pub no_match : Match
no_match = match 0 (type_number Illegal)

-- Letters are ASCII, so that each is one byte.
unfoldable pub is_letter : ℕ → Bool
is_letter c = leb 65 c && leb c 90 || leb 97 c && leb c 122

-- where the letter run ends that a text begins with
unfoldable pub run_end : List ℕ → ℕ
run_end [] = 0
run_end (b ∷ s) = cond (is_letter b) (suc (run_end s)) 0

-- the word that a text has up to an end: the first of a list that has so many letters and that the text begins with
unfoldable pub word_to : List Word → ℕ → List ℕ → Match
word_to [] end s = no_match
word_to (w ∷ ws) end s = cond (eqb (length w.text) end && begins w.text s) (match end w.kind) (word_to ws end s)

-- m, or what a shorter end gives where m is none
abbrev pub or_shorter : Match → Match → Match
or_shorter m n = cond (eqb m.len 0) n m

-- the word found by trying one end after the other, from this one down
unfoldable pub by_ends : List Word → ℕ → List ℕ → Match
by_ends ws zero s = no_match
by_ends ws (suc end) s = or_shorter (word_to ws (suc end) s) (by_ends ws end s)

-- "A letter run is cut by longest word from the left": every end of the run is tried, the longest first.
abbrev pub word_by_ends : List ℕ → Match
word_by_ends s = by_ends words (run_end s) s
