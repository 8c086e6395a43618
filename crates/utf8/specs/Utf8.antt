-- UTF-8, by RFC 3629: what the bytes of a character are, and which texts are runs of characters.
use Rattle.std.specs.Prelude.{Bool, true, false, ◌&&◌, ◌||◌, cond, List, [], ◌∷◌, ◌++◌, ◌≡◌, ℕ, zero, suc, ◌+◌, ◌*◌, ◌-◌, ◌/◌, ◌%◌, T, eqb, ltb, length, get_or, drop}
use Rattle.utf8.specs.declared.Found.TheVariants.{Char, Bad, End}
use Rattle.utf8.specs.declared.Found.{Found}

-- Section 3: "characters from the U+0000..U+10FFFF range .. are encoded using sequences of 1 to 4 octets", and the definition "prohibits
-- encoding character numbers between U+D800 and U+DFFF".
unfoldable pub is_scalar : ℕ → Bool
is_scalar c = ltb c 0xD800 || ltb 0xDFFF c && ltb c 0x110000

-- Section 3, the table:
--   0000 0000-0000 007F   0xxxxxxx
--   0000 0080-0000 07FF   110xxxxx 10xxxxxx
--   0000 0800-0000 FFFF   1110xxxx 10xxxxxx 10xxxxxx
--   0001 0000-0010 FFFF   11110xxx 10xxxxxx 10xxxxxx 10xxxxxx
unfoldable pub encode : ℕ → List ℕ
encode c =
    cond (ltb c 0x80) (c ∷ [])
    (cond (ltb c 0x800) ((0xC0 + c / 0x40) ∷ (0x80 + c % 0x40) ∷ [])
    (cond (ltb c 0x10000) ((0xE0 + c / 0x1000) ∷ (0x80 + c / 0x40 % 0x40) ∷ (0x80 + c % 0x40) ∷ [])
    ((0xF0 + c / 0x40000) ∷ (0x80 + c / 0x1000 % 0x40) ∷ (0x80 + c / 0x40 % 0x40) ∷ (0x80 + c % 0x40) ∷ [])))

abbrev pub encode_all : List ℕ → List ℕ
encode_all [] = []
encode_all (c ∷ cs) = encode c ++ encode_all cs

abbrev pub all_scalar : List ℕ → Bool
all_scalar [] = true
all_scalar (c ∷ cs) = is_scalar c && all_scalar cs

-- a text is well formed when it is a run of encodings
pub record WellFormed (s : List ℕ) : Type 0 where
  pub chars : List ℕ
  pub scalars : T (all_scalar chars)
  pub encoded : encode_all chars ≡ s

-- s begins with p
abbrev pub begins : List ℕ → List ℕ → Bool
begins [] s = true
begins (x ∷ p) [] = false
begins (x ∷ p) (y ∷ s) = eqb x y && begins p s

-- Section 3, decoding: "Determine which bits encode the character number from the number of octets in the sequence and the second column
-- of the table above (the bits marked x)."
unfoldable pub bits : List ℕ → ℕ
bits s =
    cond (ltb (get_or s 0 0) 0x80) (get_or s 0 0)
    (cond (ltb (get_or s 0 0) 0xE0) ((get_or s 0 0 - 0xC0) * 0x40 + (get_or s 1 0 - 0x80))
    (cond (ltb (get_or s 0 0) 0xF0) ((get_or s 0 0 - 0xE0) * 0x1000 + (get_or s 1 0 - 0x80) * 0x40 + (get_or s 2 0 - 0x80))
    ((get_or s 0 0 - 0xF0) * 0x40000 + (get_or s 1 0 - 0x80) * 0x1000 + (get_or s 2 0 - 0x80) * 0x40 + (get_or s 3 0 - 0x80))))

-- The character that a text begins with, and its bytes: "Implementations of the decoding algorithm above MUST protect against decoding
-- invalid sequences", so what the bits give counts only where its own encoding is what stands there.
unfoldable pub char_of : List ℕ → Found
char_of [] = End
char_of (b ∷ s) =
    cond (is_scalar (bits (b ∷ s)) && begins (encode (bits (b ∷ s))) (b ∷ s))
    (Char (bits (b ∷ s)) (length (encode (bits (b ∷ s)))))
    Bad

-- the character at a position; from the end of the text on there is none
abbrev pub char_at : List ℕ → ℕ → Found
char_at s i = char_of (drop i s)

-- what comes after a character of n bytes decides, after anything else nothing does
abbrev pub after_char : Found → (ℕ → Bool) → Bool
after_char (Char c n) more = more n
after_char Bad more = false
after_char End more = false

-- is a text well formed after its first k bytes: character after character
unfoldable pub well_from : ℕ → List ℕ → Bool
well_from k [] = true
well_from (suc k) (b ∷ s) = well_from k s
well_from zero (b ∷ s) = after_char (char_of (b ∷ s)) (λ n. well_from (n - 1) s)

abbrev pub well_formed : List ℕ → Bool
well_formed s = well_from 0 s
