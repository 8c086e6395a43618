-- Bookkeeping of contracts between our own functions; no promise of an entry point rests on it.
-- What the lexer's code keeps while it scans: the lent tables, the place it has come to, and what one step adds.
use Rattle.std.specs.Prelude.{◌&&◌, cond, Option, Some, None, ◌≡◌, ℕ, zero, suc, ◌+◌, ◌-◌, ◌≤◌, min, max, eqb, ltb, length, take, drop, get_or}
use mathlib.Core.List.{List, [], ◌∷◌, ◌++◌, zip_with}
use Rattle.std.proofs.Math.Seq.{slice}
use Rattle.intervals.specs.Interval.{elem}
use Rattle.token.specs.Token.{token, type_number, Ranged, Room}
use Rattle.token.specs.declared.Token.{Token}
use Rattle.token.specs.declared.TokenType.TheVariants.{Extension}
use Rattle.utf8.specs.declared.Found.TheVariants as utf8
use Rattle.utf8.specs.declared.Found.{Found}
use Rattle.lexer.specs.Lexer.{illegal, digit_of, one_digit, lex, tokens_of}
use Rattle.lexer.specs.declared.Match.{Match}
use Rattle.lexer.specs.Words.{Word, run_end, word, words}
use Rattle.lexer.specs.declared.Head.TheVariants as head
use Rattle.lexer.specs.declared.Head.{Head}
use Rattle.lexer.specs.declared.Added.{Added}
use Rattle.lexer.specs.declared.Plan.{Plan}
use Rattle.lexer.specs.declared.Row.{Row}
use Rattle.lexer.specs.declared.Scan.{Scan}

-- "words as rows of ten bytes with a length": a word's letters, and behind them the places up to ten, as the digits 0 to 9
abbrev pub padded : Word → List ℕ
padded w = w.text ++ drop (length w.text) (48 ∷ 49 ∷ 50 ∷ 51 ∷ 52 ∷ 53 ∷ 54 ∷ 55 ∷ 56 ∷ 57 ∷ [])

-- what a number stands for, where n stands for none
abbrev pub other_than : ℕ → ℕ → Option ℕ
other_than n k = cond (eqb k n) None (Some k)

-- the digit that may stand behind another, 10 for none; and its bytes
abbrev pub digit_in_or : Option (ℕ × ℕ) → ℕ
digit_in_or None = 10
digit_in_or (Some d) = d.0

abbrev pub bytes_in_or : Option (ℕ × ℕ) → ℕ
bytes_in_or None = 0
bytes_in_or (Some d) = d.1

-- the word that was found, where a length of 0 stands for none
abbrev pub found_word : Match → Option Match
found_word m = cond (eqb m.len 0) None (Some m)

-- the digit that was found, and its bytes
abbrev pub digit_with : ℕ → ℕ → Option (ℕ × ℕ)
digit_with d n = cond (eqb d 10) None (Some (d, n))

abbrev pub digit_found : Found → Option (ℕ × ℕ)
digit_found (utf8.Char c n) = digit_with (digit_of c) n
digit_found utf8.Bad = None
digit_found utf8.End = None

-- the number of one digit
abbrev pub one_head : ℕ → ℕ → Head
one_head d n = cond (elem d one_digit) (head.Number (type_number (Extension d)) 1 n) (head.Digit n)

-- a word's first letter, and how many it has
abbrev pub initial : Word → ℕ
initial w = get_or w.text 0 0

abbrev pub letters_in : Word → ℕ
letters_in w = length w.text

-- how many the longest word of a list has
abbrev pub most_letters : List Word → ℕ
most_letters [] = 0
most_letters (w ∷ ws) = max (letters_in w) (most_letters ws)

abbrev pub longest_word : ℕ
longest_word = most_letters words

-- the last end that is tried from a place of a text: that of the letter run, or the one that the longest word allows
abbrev pub last_end : List ℕ → ℕ → ℕ
last_end text at = min (at + run_end (drop at text)) (at + longest_word)

-- the place in a list of the first word of n letters that begins with b; the list's length where there is none
unfoldable pub place_of : ℕ → ℕ → List Word → ℕ
place_of b n [] = 0
place_of b n (w ∷ ws) = cond (eqb (initial w) b && eqb (letters_in w) n) 0 (suc (place_of b n ws))

-- a place, or another where no word has it
abbrev pub or_place : ℕ → ℕ → ℕ
or_place i j = cond (ltb i (length words)) i j

-- the place of the longest word of at most n letters that begins with b, the first of such
unfoldable pub place_down : ℕ → ℕ → ℕ
place_down b zero = length words
place_down b (suc n) = or_place (place_of b (suc n) words) (place_down b n)

-- for each word of a list that begins at place i, the place of the next one to try: as long and with the same first letter, or shorter
unfoldable pub nexts_from : ℕ → List Word → List ℕ
nexts_from i [] = []
nexts_from i (w ∷ ws) =
    or_place (i + 1 + place_of (initial w) (letters_in w) ws) (place_down (initial w) (letters_in w - 1)) ∷ nexts_from (i + 1) ws

abbrev pub next_places : List ℕ
next_places = nexts_from 0 words

-- what the code's table has of a word: its letters, filled up, how many they are, its type's number and the place of the next word
abbrev pub row : Word → ℕ → Row
row w n = record { 0 = padded w; 1 = letters_in w; 2 = w.kind; 3 = n }

-- the table: a row for each word and its next place
abbrev pub word_rows : List Row
word_rows = zip_with row words next_places

abbrev pub word_at : ℕ → Word
word_at i = get_or words i (word [] 0)

abbrev pub row_at : ℕ → Row
row_at i = row (word_at i) (get_or next_places i 0)

abbrev pub scan : ℕ → ℕ → ℕ → Scan
scan a h n = record { at = a; held = h; count = n }

abbrev pub plan : ℕ → Token → Scan → Plan
plan at t s = record { added = Some (record { place = at; token = t }); next = s }

-- what a head adds: nothing; or a token at the end, after which no digit is held any more; or one before the held digits
abbrev pub plan_of : Head → Scan → Plan
plan_of head.Space s = record { added = None; next = scan (s.at + 1) s.count s.count }
plan_of (head.Sign k n) s = plan s.count (token k s.at 1) (scan (s.at + n) (s.count + 1) (s.count + 1))
plan_of (head.Word k n) s = plan s.count (token k s.at n) (scan (s.at + n) (s.count + 1) (s.count + 1))
plan_of (head.Number k l n) s = plan s.held (token k s.at l) (scan (s.at + n) (s.held + 1) (s.count + 1))
plan_of (head.Digit n) s = plan s.held (token illegal s.at 1) (scan (s.at + n) s.held (s.count + 1))

-- the tokens that stand there, but for the held digits, and those still to come
abbrev pub all_tokens : List ℕ → Scan → List Token → List Token
all_tokens text s R = take s.held R ++ lex 0 (slice s.held s.count R) s.at (drop s.at text)

-- one token a byte at most, and the held digits are among them
pub record Few (text : List ℕ) (s : Scan) : Type 0 where
  pub among : s.held ≤ s.count
  pub some : s.count ≤ s.at
  pub within : s.at ≤ length text

-- t came to stand at a place of the first n tokens, before what stood from there on
pub record Inserted (t : Token) (place n : ℕ) (R R' : List Token) : Type 0 where
  pub list : take (n + 1) R' ≡ take place R ++ (t ∷ slice place n R)
  pub rest : drop (n + 1) R' ≡ drop (n + 1) R

-- what was added: nothing, or a token, to the first n tokens
abbrev pub Adds : Option Added → ℕ → List Token → List Token → Type 0
Adds None n R R' = R' ≡ R
Adds (Some a) n R R' = Inserted a.token a.place n R R'

-- a head was emitted: the plan was carried out, and what lies beyond the tokens is untouched
pub record Emitted (h : Head) (s s' : Scan) (R R' : List Token) : Type 0 where
  pub state : s' ≡ (plan_of h s).next
  pub adds : Adds (plan_of h s).added s.count R R'

-- a place from which the text can be scanned: a text of at most 256 bytes, and room for the tokens to come
pub record Scannable (text : List ℕ) (s : Scan) (tokens : List Token) : Type 0 where
  pub short : length text ≤ 256
  pub few : Few text s
  pub room : Room (length text) tokens

-- the scan went on: the tokens that stand there and those to come are the same, and what lies beyond them is untouched
pub record Went (text : List ℕ) (s s' : Scan) (R R' : List Token) : Type 0 where
  pub few : Few text s'
  pub grown : s.count ≤ s'.count
  pub list : all_tokens text s' R' ≡ all_tokens text s R
  pub rest : drop s'.count R' ≡ drop s'.count R

-- the first n tokens are ts, and what lies beyond them is untouched
pub record Written (ts : List Token) (n : ℕ) (R R' : List Token) : Type 0 where
  pub count : n ≡ length ts
  pub list : take n R' ≡ ts
  pub rest : drop n R' ≡ drop n R

-- the tokens of a text are written, at most one for each byte and End, with positions and lengths within the text
pub record Scanned (text : List ℕ) (n : ℕ) (R R' : List Token) : Type 0 where
  pub written : Written (tokens_of text) n R R'
  pub few : n ≤ length text + 1
  pub ranged : Ranged (length text + 1) (length text) (take n R')
