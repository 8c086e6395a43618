-- What document 01 says of every writing, of `writer::write`: for any record c and any lent buffer, bs before it and bs' after it. The
-- only premise is the contract of the function, `Written`. What is said of a number and of a spelling is said once, for the C boundary
-- too (`CWriting`).
use Rattle.std.specs.Prelude.{List, ◌++◌, ◌↔◌, ◌≡◌, ℕ, ◌≤◌, ◌<◌, drop, length}
use Rattle.std.proofs.Math.Option.{Option, none, some}
use Rattle.chord.specs.Chord.{Four, four_of}
use Rattle.chord.specs.declared.Chord.{Chord}
use Rattle.house_text.specs.Spelling.{house}
use Rattle.reader.specs.Reader.{IsAccepted}
use Rattle.writer.specs.State.{Written}
use Rattle.writer.specs.Writer.{Answer, HasText, length_of, number_of}

-- no accepted text has the four that is held, or none is held
abbrev pub NoText : Option Four → Type 0
NoText none = Unit
NoText (some f) = HasText f → ⊥

-- n is the number of writing what is held into a buffer of `room` bytes
pub record Numbered (room : ℕ) (held : Option Four) (n : ℕ) : Type 0 where
  -- "Does the buffer hold at least 112 bytes? No: 6."
  pub six : (n ≡ 6) ↔ (room < 112)
  -- "Has some accepted text exactly these four? No: 7."
  pub seven : (n ≡ 7) ↔ ((112 ≤ room) × NoText held)
  -- and any other number is 0
  pub nought : (n ≡ 6 → ⊥) → (n ≡ 7 → ⊥) → n ≡ 0

abbrev pub WriteNumbered : Type 0
WriteNumbered = (c : Chord) (bs bs' : List ℕ) (a : Answer) → Written c bs bs' a → Numbered (length bs) (some (four_of c)) (number_of a)

-- the number and the length say which answer it is
abbrev pub WriteApart : Type 0
WriteApart = (a b : Answer) → number_of a ≡ number_of b → length_of a ≡ length_of b → a ≡ b

-- the four f was written: the buffer was bs and is bs', and the length is n
pub record Spelled (f : Four) (bs bs' : List ℕ) (n : ℕ) : Type 0 where
  -- "A written spelling fills its own bytes only and its length is returned."
  pub size : n ≡ length (house f)
  pub buffer : bs' ≡ house f ++ drop n bs
  -- at most 112 bytes, in a buffer that is as long as before
  pub most : n ≤ 112
  pub same : length bs' ≡ length bs
  -- the spelling is accepted and has the four
  pub reads : IsAccepted (house f) f

abbrev pub WriteSpelled : Type 0
WriteSpelled = (c : Chord) (bs bs' : List ℕ) (a : Answer) → Written c bs bs' a → number_of a ≡ 0 → Spelled (four_of c) bs bs' (length_of a)

-- "Numbers .. 6, 7 .. leave the lent memory untouched."
abbrev pub WriteUntouched : Type 0
WriteUntouched = (c : Chord) (bs bs' : List ℕ) (a : Answer) → Written c bs bs' a → (number_of a ≡ 0 → ⊥) → (bs' ≡ bs) × (length_of a ≡ 0)
