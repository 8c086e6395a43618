-- The keys that a chord wants, document 02 [7] in its words, and sets of keys. A key is an integer here: one that falls outside 0 to 127
-- can be named too.
use Rattle.std.specs.Prelude.{Bool, true, false, not, cond, ◌&&◌, ◌||◌, List, [], ◌∷◌, ◌++◌, ℕ, zero, suc, ◌+◌, eqb, leb, ℤ, pos, negsuc}
use Rattle.std.proofs.Math.IntN.{sub_ℕ}
use Rattle.chord.specs.Chord.{Four}
use Rattle.intervals.specs.Interval.{Set, semitones}
use Rattle.note.specs.Note.{pitch_class}
use Rattle.std.specs.declared.option.Option.TheVariants.{None, Some}
use Rattle.note.specs.Note.{OptionalNote}

-- "A display interval's key is a base key .. plus the root's pitch class .. plus its semitones"; `from` is the sum of the first two
unfoldable pub display_keys : ℕ → List ℕ → List ℤ
display_keys from [] = []
display_keys from (i ∷ is) = pos (from + semitones i) ∷ display_keys from is

-- "a slash bass is the base key minus 12 plus its pitch class"; `sub_ℕ a b` is the integer a - b
unfoldable pub bass_keys : ℕ → OptionalNote → List ℤ
bass_keys base None = []
bass_keys base (Some b) = sub_ℕ (base + pitch_class b) 12 ∷ []

-- "No chord wants no keys."
unfoldable pub keys_over : ℕ → OptionalNote → OptionalNote → List ℕ → List ℤ
keys_over base None bass display = []
keys_over base (Some root) bass display = display_keys (base + pitch_class root) display ++ bass_keys base bass

abbrev pub keys_of : ℕ → Four → List ℤ
keys_of base f = keys_over base f.root f.bass f.display

-- does one of the keys fall "outside 0 to 127"?
abbrev pub is_outside : ℤ → Bool
is_outside (pos n) = leb 128 n
is_outside (negsuc n) = true

unfoldable pub outside : List ℤ → Bool
outside [] = false
outside (z ∷ zs) = is_outside z || outside zs

-- the set of the keys
abbrev pub is_key : ℤ → ℕ → Bool
is_key (pos n) k = eqb n k
is_key (negsuc n) k = false

unfoldable pub wants : List ℤ → Set
wants [] k = false
wants (z ∷ zs) k = is_key z k || wants zs k

-- ---- sets of keys

-- s ∖ t
unfoldable pub minus : Set → Set → Set
minus s t k = not (t k) && s k

-- "in ascending order .. each key once": the members of a set among the n numbers from k on, and among the 128 keys
unfoldable pub up_from : ℕ → ℕ → Set → List ℕ
up_from k zero s = []
up_from k (suc n) s = cond (s k) (k ∷ []) [] ++ up_from (suc k) n s

unfoldable pub ascending : Set → List ℕ
ascending s = up_from 0 128 s
