-- What the functions gave: the number, and all the memory that they were lent.
use Rattle.std.specs.Prelude.{List, ◌++◌, ◌≡◌, ℕ, ◌-◌, drop, length}
use Rattle.reader.specs.Reader as reader
use Rattle.writer.specs.Writer as writer
use Rattle.midi.specs.Midi as midi
use Rattle.bars.specs.Bars.{place_at}
use Rattle.endings.specs.Endings.{number_of, spot_of}
use Rattle.endings.specs.declared.Spot.{Spot}
use Rattle.song.specs.Song.{step_of}
use Rattle.nophtris.specs.Boundary.{chord_after, count_after, length_after, line_number, next_in, place_after, read_in, sent_after, sounding_after, spot_after, write_in}

pub record GaveRead (o : reader.ReadOutcome) (r : ℕ) (es es' : List ℕ) (c c' : ℕ) (cs cs' : List ℕ) : Type 0 where
  pub number : r ≡ o.number
  pub errors : es' ≡ o.errs ++ drop (length o.errs) es
  pub count : c' ≡ count_after o c
  pub chord : cs' ≡ chord_after o cs

pub record GaveWritten (o : writer.WriteOutcome) (r : ℕ) (bs bs' : List ℕ) (l l' : ℕ) : Type 0 where
  pub number : r ≡ o.number
  pub buffer : bs' ≡ o.bytes ++ drop (length o.bytes) bs
  pub size : l' ≡ length_after o l

pub record GaveSpot (s : Spot) (r w w' f f' l l' : ℕ) : Type 0 where
  pub number : r ≡ number_of s.answer
  pub line : w' ≡ spot_after s.answer (line_number s.answer) w
  pub from : f' ≡ spot_after s.answer s.from f
  pub size : l' ≡ spot_after s.answer (s.to - s.from) l

pub record GaveNext (o : midi.NextOutcome) (r : ℕ) (ss ss' bs bs' : List ℕ) (l l' : ℕ) : Type 0 where
  pub number : r ≡ o.number
  pub sounding : ss' ≡ sounding_after o ss
  pub output : bs' ≡ o.bytes ++ drop (length o.bytes) bs
  pub size : l' ≡ sent_after o l

-- what a caller of `nophtris_read` knows: of a text it answered r; the list of errors was es and is es', the count c and c', the 51 bytes
-- of the chord cs and cs'
abbrev pub Read : (text es es' : List ℕ) (c c' : ℕ) (cs cs' : List ℕ) (r : ℕ) → Type 0
Read text es es' c c' cs cs' r = GaveRead (reader.read_of (length es) text) r es es' c c' cs cs'

-- of `nophtris_step`: at the position p of a line, which is p' now, it answered r; list, count and chord as above, the bar's place f and
-- f', its length l and l'
pub record Step (line : List ℕ) (p p' : ℕ) (es es' : List ℕ) (c c' : ℕ) (cs cs' : List ℕ) (f f' l l' r : ℕ) : Type 0 where
  pub read : GaveRead (read_in (step_of (length es) line p)) r es es' c c' cs cs'
  pub position : p' ≡ (place_at line p).next
  pub from : f' ≡ place_after (step_of (length es) line p) (place_at line p).from f
  pub size : l' ≡ place_after (step_of (length es) line p) ((place_at line p).to - (place_at line p).from) l

-- of `nophtris_bar`: of the number k in a body and an ending it answered r; the line that has the bar (0 the body, 1 the ending) was w and
-- is w', the bar's place f and f', its length l and l'
abbrev pub Bar : (body ending : List ℕ) (k w w' f f' l l' r : ℕ) → Type 0
Bar body ending k w w' f f' l l' r = GaveSpot (spot_of body ending k) r w w' f f' l l'

-- of `nophtris_write`: of the 51 bytes cs it answered r; the buffer was bs and is bs', the length l and l'
abbrev pub Write : (cs bs bs' : List ℕ) (l l' r : ℕ) → Type 0
Write cs bs bs' l l' r = GaveWritten (write_in (length bs) cs) r bs bs' l l'

-- and of `nophtris_midi`: over a base key, of the 51 bytes cs it answered r; the 16 bytes of the keys that sound were ss and are ss', the
-- output bs and bs', the length l and l'
abbrev pub Midi : (ss ss' : List ℕ) (base : ℕ) (cs bs bs' : List ℕ) (l l' r : ℕ) → Type 0
Midi ss ss' base cs bs bs' l l' r = GaveNext (next_in (length bs) ss base cs) r ss ss' bs bs' l l'
