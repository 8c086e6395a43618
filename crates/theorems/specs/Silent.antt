-- Silent bars, document 02 [4]: blank texts and the record of no chord. First of texts and fours, then of calls, in Rattle's terms and in
-- C's; the only premises of these are the contracts, and of a bar what `AllBars` and `BarsFrom` say of the step that read it.
use Rattle.std.specs.Prelude.{true, List, [], ◌∷◌, ◌↔◌, ◌≡◌, ℕ, ◌≤◌, get_or, length, replicate}
use Rattle.std.proofs.Math.Option.{some}
use Rattle.chord.specs.Chord.{Four, four_of, no_chord, record_of}
use Rattle.chord.specs.declared.Chord.{Chord}
use Rattle.std.specs.declared.option.Option.TheVariants.{None}
use Rattle.house_text.specs.Spelling.{house}
use Rattle.nophtris.specs.Boundary.{four_in}
use Rattle.nophtris.specs.State as C
use Rattle.reader.specs.Reader as reader
use Rattle.reader.specs.Reader.{IsAccepted, is_blank}
use Rattle.reader.specs.State.{Read}
use Rattle.reader.specs.Reader.{Accepted}
use Rattle.reader.specs.Reader.{Reading}
use Rattle.song.specs.State as song
use Rattle.song.specs.State.{Bar}
use Rattle.theorems.specs.CSong.{Call, CallReads}
use Rattle.theorems.specs.Song.{ReadsBar}
use Rattle.writer.specs.State.{Written}
use Rattle.writer.specs.Writer.{Answer, HasText, length_of, number_of}

-- "A text of at most 256 bytes that is empty or spaces only is accepted as no chord", and no other text is
abbrev pub BlankTexts : Type 0
BlankTexts = (text : List ℕ) → IsAccepted text no_chord ↔ ((length text ≤ 256) × (is_blank text ≡ true))

-- "the record without a root and with nothing else": of those without a root it is the one that some accepted text has
abbrev pub Rootless : Type 0
Rootless = (f : Four) → f.root ≡ None → HasText f ↔ (f ≡ no_chord)

-- "Its house spelling is the empty text, and the record .. is the one it comes from": no other four that some text has is spelled so
abbrev pub EmptySpelling : Type 0
EmptySpelling = (f : Four) → HasText f → (house f ≡ []) ↔ (f ≡ no_chord)

-- ---- `reader::read` and `writer::write`

-- a blank text is read with 0, whatever list of at least 1,028 numbers is lent; the list stays, and the record is that of no chord
abbrev pub ReadBlank : Type 0
ReadBlank =
    (text es es' : List ℕ) (r : Reading) → Read text es es' r → 1028 ≤ length es → length text ≤ 256 → is_blank text ≡ true
    → (reader.number_of r.answer ≡ 0) × (r.chord ≡ record_of no_chord) × (es' ≡ es)

-- "as does a blank bar of a song line": a step that read it, by `step_at` or `next`, says 0 of the bar
abbrev pub SilentBar : Type 0
SilentBar =
    (b : List ℕ) (a : song.Answer) (ch : Chord) (es es' cut : List ℕ) → ReadsBar b a ch es es' cut
    → 1028 ≤ length es → length b ≤ 256 → is_blank b ≡ true
    → (a ≡ Bar Accepted) × (ch ≡ record_of no_chord) × (es' ≡ es)

-- no chord is written with 0 and the length 0, and the buffer stays
abbrev pub WriteNothing : Type 0
WriteNothing =
    (c : Chord) (bs bs' : List ℕ) (a : Answer) → Written c bs bs' a → 112 ≤ length bs → four_of c ≡ no_chord
    → (number_of a ≡ 0) × (length_of a ≡ 0) × (bs' ≡ bs)

-- any other record without a root is refused with 7
abbrev pub WriteRootless : Type 0
WriteRootless =
    (c : Chord) (bs bs' : List ℕ) (a : Answer) → Written c bs bs' a → 112 ≤ length bs → c.root ≡ None → (four_of c ≡ no_chord → ⊥)
    → number_of a ≡ 7

-- ---- `nophtris_read` and `nophtris_write`

-- no root and no bass, each 255 with the alteration 0; no members, the count 0, and zeros behind it
abbrev pub silent_bytes : List ℕ
silent_bytes = 255 ∷ 0 ∷ 255 ∷ 0 ∷ replicate 47 0

-- a blank text is read with 0 into these bytes; list and count stay
abbrev pub CReadBlank : Type 0
CReadBlank =
    (text es es' : List ℕ) (c c' : ℕ) (cs cs' : List ℕ) (r : ℕ) → C.Read text es es' c c' cs cs' r
    → 1028 ≤ length es → length text ≤ 256 → is_blank text ≡ true
    → (r ≡ 0) × (cs' ≡ silent_bytes) × (es' ≡ es) × (c' ≡ c)

-- and so is a blank bar of a song line
abbrev pub CSilentBar : Type 0
CSilentBar =
    (line b : List ℕ) (k : Call) → CallReads line b k → 1028 ≤ length k.es → length b ≤ 256 → is_blank b ≡ true
    → (k.r ≡ 0) × (k.cs' ≡ silent_bytes) × (k.es' ≡ k.es) × (k.c' ≡ k.c)

-- these bytes hold no chord, and bytes that hold no chord are written with 0 and the length 0
abbrev pub CWriteNothing : Type 0
CWriteNothing =
    (four_in silent_bytes ≡ some no_chord)
    × ((cs bs bs' : List ℕ) (l l' r : ℕ) → C.Write cs bs bs' l l' r → 112 ≤ length bs → four_in cs ≡ some no_chord
    → (r ≡ 0) × (l' ≡ 0) × (bs' ≡ bs))

-- any other bytes without a root are refused with 7: those that hold another four, and those that hold none, as where the missing root has
-- an alteration
abbrev pub CWriteRootless : Type 0
CWriteRootless =
    (cs bs bs' : List ℕ) (l l' r : ℕ) → C.Write cs bs bs' l l' r → 112 ≤ length bs → get_or cs 0 0 ≡ 255 → (four_in cs ≡ some no_chord → ⊥)
    → r ≡ 7
