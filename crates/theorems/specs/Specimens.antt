-- The card specimens of document 01 that have a star, of which the empty one is as document 02 [4] and `C)`, `C((` and `C(/` are as [6] has
-- them, and texts of document 02 [3] and [4]: one table of what is read and spelled, and one statement for all of it. Then chords of
-- which a misreading of [7] would get other keys: one table of the messages from silence.
use Rattle.std.specs.Prelude.{cond, List, [], ◌∷◌, ◌++◌, map, ◌≡◌, ℕ, zero, suc, replicate}
use Rattle.intervals.specs.Interval.{Set, empty}
use Rattle.midi.specs.Midi.{NextOutcome, next_of, ons}
use Rattle.note.specs.Note.{note_number}
use Rattle.std.specs.declared.option.Option.TheVariants.{None, Some}
use Rattle.note.specs.Note.{OptionalNote}
use Rattle.lexer.specs.Text.{ascii}
use Rattle.house_text.specs.Spelling.{house}
use Rattle.reader.specs.Reader.{ReadOutcome, answer_to}
use Rattle.utf8.specs.Utf8.{encode_all}

-- a card, the answer's number, the root's number (letter times three, and 1 for a sharp, 2 for a flat; 21 for none), the members of N or
-- the errors, and the house spelling where the paper has it
pub record Specimen : Type 0 where
  pub card : List ℕ
  pub number : ℕ
  pub root : ℕ
  pub list : List ℕ
  pub spelled : List (List ℕ)

abbrev card : List ℕ → ℕ → ℕ → List ℕ → Specimen
card t n r l = record { card = t; number = n; root = r; list = l; spelled = [] }

abbrev spelled : List ℕ → ℕ → ℕ → List ℕ → List ℕ → Specimen
spelled t n r l s = record { card = t; number = n; root = r; list = l; spelled = s ∷ [] }

abbrev root_number : OptionalNote → ℕ
root_number (Some n) = note_number n
root_number None = 21

-- the members from i on, n numbers
abbrev members_from : ℕ → ℕ → Set → List ℕ
members_from zero i s = []
members_from (suc n) i s = cond (s i) (i ∷ members_from n (suc i) s) (members_from n (suc i) s)

-- a spelling in place of each that is said
abbrev spelled_as : List ℕ → List (List ℕ) → List (List ℕ)
spelled_as t said = map (λ (s : List ℕ). t) said

abbrev specimen_of : Specimen → ReadOutcome → Specimen
specimen_of s o =
    record {
      card = s.card;
      number = o.number;
      root = root_number o.four.root;
      list = o.errs ++ members_from 23 0 o.four.normalized;
      spelled = spelled_as (house o.four) s.spelled;
    }

abbrev answer : Specimen → Specimen
answer s = specimen_of s (answer_to s.card)

-- "`C²` now reads as `C2`, whose bare second validation refuses: number 5, kind 6 at 1."
abbrev c_squared : List ℕ
c_squared = encode_all (0x43 ∷ 0xB2 ∷ [])

-- "A text of at most 256 bytes that is empty or spaces only"
abbrev spaces : ℕ → List ℕ
spaces n = replicate n 0x20

abbrev pub specimens : List Specimen
specimens =
    spelled (ascii "C6/9") 0 0 (0 ∷ 4 ∷ 8 ∷ 11 ∷ 17 ∷ []) (ascii "C,add6,add9")
    ∷ spelled (ascii "C69") 0 0 (0 ∷ 4 ∷ 8 ∷ 11 ∷ 17 ∷ []) (ascii "C,add6,add9")
    ∷ card (ascii "C11") 0 0 (0 ∷ 5 ∷ 8 ∷ 13 ∷ 17 ∷ [])
    ∷ card (ascii "Cb5") 0 2 (0 ∷ 8 ∷ [])
    ∷ card (ascii "C,b5") 0 0 (0 ∷ 4 ∷ 7 ∷ [])
    ∷ card (ascii "C7dim") 0 0 (0 ∷ 3 ∷ 7 ∷ 12 ∷ [])
    ∷ spelled (ascii "C(omit3,)5") 0 0 (0 ∷ []) (ascii "C,omit3,omit5")
    ∷ spelled [] 0 21 [] []
    ∷ card (ascii "C)") 4 21 (15 ∷ 1 ∷ 0 ∷ 0 ∷ [])
    ∷ card (ascii "C((") 4 21 (17 ∷ 1 ∷ 0 ∷ 0 ∷ 16 ∷ 2 ∷ 0 ∷ 0 ∷ [])
    ∷ card (ascii "C(/") 4 21 (14 ∷ 2 ∷ 0 ∷ 0 ∷ [])
    ∷ card (ascii "Cadd7") 5 21 (7 ∷ 4 ∷ 0 ∷ 0 ∷ [])
    ∷ card (ascii "C7Maj7") 5 21 (10 ∷ 13 ∷ 14 ∷ 0 ∷ [])
    ∷ card c_squared 5 21 (6 ∷ 1 ∷ 0 ∷ 0 ∷ [])
    ∷ spelled (spaces 1) 0 21 [] []
    ∷ spelled (spaces 256) 0 21 [] []
    ∷ card (spaces 257) 2 21 []
    ∷ card (0x09 ∷ []) 4 21 (9 ∷ 0 ∷ 0 ∷ 0 ∷ [])
    ∷ []

-- each is read and spelled as the paper says
abbrev pub ReadAsSaid : Type 0
ReadAsSaid = map answer specimens ≡ specimens

-- a card over a base key, with an output of so many bytes: the number, and the messages from silence
pub record Going : Type 0 where
  pub card : List ℕ
  pub base : ℕ
  pub room : ℕ
  pub number : ℕ
  pub messages : List ℕ

abbrev going : List ℕ → ℕ → ℕ → ℕ → List ℕ → Going
going t b r n m = record { card = t; base = b; room = r; number = n; messages = m }

abbrev gone : Going → NextOutcome → Going
gone g o = record { card = g.card; base = g.base; room = g.room; number = o.number; messages = o.bytes }

abbrev goes : Going → Going
goes g = gone g (next_of g.room empty g.base (answer_to g.card).four)

abbrev pub goings : List Going
goings =
    going (ascii "C") 60 9 0 (0x90 ∷ 60 ∷ 64 ∷ 0x90 ∷ 64 ∷ 64 ∷ 0x90 ∷ 67 ∷ 64 ∷ [])
    ∷ going (ascii "C") 60 8 11 []
    ∷ going (ascii "B#") 60 384 0 (ons (60 ∷ 64 ∷ 67 ∷ []))
    ∷ going (ascii "Cb") 60 384 0 (ons (71 ∷ 75 ∷ 78 ∷ []))
    ∷ going (ascii "Csus2add2") 60 384 0 (ons (60 ∷ 62 ∷ 67 ∷ []))
    ∷ going (ascii "C/C") 60 384 0 (ons (48 ∷ 60 ∷ 64 ∷ 67 ∷ []))
    ∷ going (ascii "C/C") 12 384 0 (ons (0 ∷ 12 ∷ 16 ∷ 19 ∷ []))
    ∷ going (ascii "C/C") 0 384 10 []
    ∷ going (ascii "B13") 95 384 0 (ons (106 ∷ 110 ∷ 113 ∷ 116 ∷ 120 ∷ 127 ∷ []))
    ∷ going (ascii "B13") 96 384 10 []
    ∷ going [] 255 0 0 []
    ∷ []

-- each has the messages that [7] gives it
abbrev pub MidiAsSaid : Type 0
MidiAsSaid = map goes goings ≡ goings
