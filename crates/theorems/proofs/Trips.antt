-- Read then write, write then read, in Rattle's terms and in C's: what is written is the house spelling of the four, which is accepted
-- with them. Assumes nothing.
use mathlib.Core.List.{List}
use mathlib.Core.Option.{Option, none, some}
use mathlib.Core.Path.{◌≡◌, refl, sym, ap, subst, ◌∙◌}
use Prim.Native.Nat.{ℕ, ◌≤◌}
use native.Mathlib.Omega.{arith}
use lib.ListN.{length, take}
use Rattle.chord.specs.Chord.{Four, four_of, record_of}
use Rattle.chord.specs.declared.Chord.{Chord}
use Rattle.nophtris.specs.Boundary.{chord_bytes, four_in, values_in}
use Rattle.nophtris.specs.State as C
use Rattle.house_text.proofs.Realized.{accepted-realizable, spelling_realizes}
use Rattle.house_text.specs.Spelling.{house}
use Rattle.reader.specs.Reader as reader
use Rattle.reader.specs.Reader.{IsAccepted, answer_to}
use Rattle.reader.specs.State.{Read}
use Rattle.reader.specs.Reader.{Reading}
use Rattle.theorems.proofs.Decoding.{decoded}
use Rattle.theorems.proofs.Readings.{c_read_accepted, c_reads, read-accepted, reads_as}
use Rattle.theorems.proofs.Writings.{c_write_numbered_lem, c_write_zero, spelled-bytes, write-numbered, write-spelled}
use Rattle.theorems.specs.CTrips as C-trips
use Rattle.theorems.specs.Reading.{four_of_text}
use Rattle.theorems.specs.Trips.{AnyWrittenThenRead, ReadAndWritten, ReadThenWrite, SameSpelling, WriteThenRead}
use Rattle.theorems.specs.Writing.{NoText, Spelled}
use Rattle.writer.specs.State.{Written}
use Rattle.writer.specs.Writer.{Answer, length_of, number_of}

-- the house spelling of an accepted text is accepted with its four
pub respelled : (text : List ℕ) (f : Four) → IsAccepted text f → IsAccepted (house f) f
respelled text f a = spelling_realizes f (accepted-realizable text f a)

-- so equal spellings are equal fours
pub same-four : (t u : List ℕ) (f g : Four) → IsAccepted t f → IsAccepted u g → house f ≡ house g → f ≡ g
same-four t u f g a b e = sym (respelled t f a).four ∙ ap (λ (x : List ℕ). (answer_to x).four) e ∙ (respelled u g b).four

-- ---- Rattle

module _ (text es es' : List ℕ) (r : Reading) (g : Read text es es' r) (e : reader.number_of r.answer ≡ 0) where
  record_accepted : IsAccepted text (four_of r.chord)
  record_accepted = let x = read-accepted text es es' r g e in subst (IsAccepted text) (sym x.0) x.1

-- an accepted record is written with 0
pub writes : (text : List ℕ) (c : Chord) → IsAccepted text (four_of c) → (bs bs' : List ℕ) (a : Answer) → 112 ≤ length bs
    → Written c bs bs' a → number_of a ≡ 0
writes text c t bs bs' a h w =
    let n = write-numbered c bs bs' a w in
    n.nought (λ e. let z = n.six.0 e in omega (arith, z, h)) (λ e. (n.seven.0 e).1 (text, t))

pub read_then_write_lem : ReadThenWrite
read_then_write_lem text es es' r g e bs bs' a h w =
    let z = writes text r.chord (record_accepted text es es' r g e) bs bs' a h w in
    (z, write-spelled r.chord bs bs' a w z)

pub any_written_then_read_lem : AnyWrittenThenRead
any_written_then_read_lem c bs bs' a w e es es' r h g =
    let s = write-spelled c bs bs' a w e in
    let x = reads_as (length es) (take (length_of a) bs') (four_of c)
    (subst (λ (t : List ℕ). IsAccepted t (four_of c)) (sym (spelled-bytes s)) s.reads) h in
    (g.number ∙ x.0, g.four ∙ x.1)

module _ (text : List ℕ) (c : Chord) (w : List ℕ) (b : ReadAndWritten text c w) where
  back-accepted : IsAccepted text (four_of c)
  back-accepted =
      subst (λ (x : Chord). IsAccepted text (four_of x)) b.chord (record_accepted text b.es b.es' b.reading b.read b.zero)

  -- the whole record is the one that its four have
  back_whole : c ≡ record_of (four_of c)
  back_whole =
      let r = b.reading in
      let e : r.chord ≡ record_of (four_of r.chord) = b.read.chord ∙ ap record_of (sym b.read.four) in
      subst (λ (x : Chord). x ≡ record_of (four_of x)) b.chord e

  back-zero : number_of b.answer ≡ 0
  back-zero = writes text c back-accepted b.bs b.bs' b.answer b.room b.write

  back-spelled : w ≡ house (four_of c)
  back-spelled = b.bytes ∙ spelled-bytes (write-spelled c b.bs b.bs' b.answer b.write back-zero)

pub write_then_read_lem : WriteThenRead
write_then_read_lem text c w b es es' r h g =
    let a = subst (λ (t : List ℕ). IsAccepted t (four_of c)) (sym (back-spelled text c w b))
    (respelled text (four_of c) (back-accepted text c w b)) in
    let x = reads_as (length es) w (four_of c) a h in
    (g.number ∙ x.0, g.chord ∙ ap record_of x.1 ∙ sym (back_whole text c w b))

pub same_spelling_lem : SameSpelling
same_spelling_lem t u c d v w a b =
    let f = four_of c in
    let g = four_of d in
    let fours : v ≡ w → f ≡ g = λ e.
    same-four t u f g (back-accepted t c v a) (back-accepted u d w b) (sym (back-spelled t c v a) ∙ e ∙ back-spelled u d w b) in
    let texts : f ≡ g → v ≡ w = λ e. back-spelled t c v a ∙ ap house e ∙ sym (back-spelled u d w b) in
    let records : f ≡ g → c ≡ d = λ e. back_whole t c v a ∙ ap record_of e ∙ sym (back_whole u d w b) in
    ((fours, texts), (λ e. records (fours e), λ e. texts (ap four_of e)))

-- ---- C

-- bytes that hold an accepted text's four are written with 0
pub c_writes : (text cs : List ℕ) (f : Four) → four_in cs ≡ some f → IsAccepted text f → (bs bs' : List ℕ) (l l' r : ℕ) → 112 ≤ length bs
    → C.Write cs bs bs' l l' r → r ≡ 0
c_writes text cs f q t bs bs' l l' r h w =
    let n = c_write_numbered_lem cs bs bs' l l' r w in
    n.nought (λ e. let z = n.six.0 e in omega (arith, z, h)) (λ e. subst NoText q (n.seven.0 e).1 (text, t))

-- two fours that the same bytes hold are the same
held_same : (cs : List ℕ) (f g : Four) → four_in cs ≡ some f → four_in cs ≡ some g → f ≡ g
held_same cs f g p q = ap (from_option f) (sym p ∙ q)
  where
    from_option : Four → Option Four → Four
    from_option d none = d
    from_option d (some x) = x

-- the spelling that was written with 0 is that of the four that the bytes hold
pub c_spelled : (cs bs bs' : List ℕ) (l l' : ℕ) (f : Four) → four_in cs ≡ some f → C.Write cs bs bs' l l' 0 → Spelled f bs bs' l'
c_spelled cs bs bs' l l' f q w =
    let x = c_write_zero cs bs bs' l l' w in
    subst (λ (y : Four). Spelled y bs bs' l') (held_same cs _ f x.0 q) x.1

pub c_read_then_write_lem : C-trips.ReadThenWrite
c_read_then_write_lem text es es' c c' cs cs' g bs bs' l l' r h w =
    let f = four_of_text text in
    let x = c_read_accepted text es es' c c' cs cs' 0 g refl in
    let q : four_in cs' ≡ some f = ap four_in x.1 ∙ decoded text f x.0 in
    let z = c_writes text cs' f q x.0 bs bs' l l' r h w in
    (z, c_spelled cs' bs bs' l l' f q (subst (C.Write cs' bs bs' l l') z w))

pub c_any_written_then_read_lem : C-trips.AnyWrittenThenRead
c_any_written_then_read_lem cs bs bs' l l' w es es' c c' ds ds' r h g =
    let f = values_in cs in
    let x = c_write_zero cs bs bs' l l' w in
    let a : IsAccepted (house f) f = x.1.reads in
    let k : C.Read (house f) es es' c c' ds ds' r = subst (λ (t : List ℕ). C.Read t es es' c c' ds ds' r) (spelled-bytes x.1) g in
    let y = c_reads (house f) es es' c c' ds ds' r f a h k in
    (y.0, ap four_in y.1 ∙ decoded (house f) f a ∙ sym x.0)

module _ (text cs w : List ℕ) (b : C-trips.ReadAndWritten text cs w) where
  abbrev F : Four
  F = four_of_text text

  c_back_accepted : IsAccepted text F
  c_back_accepted = (c_read_accepted text b.es b.es' b.c b.c' b.before cs 0 b.read refl).0

  c_back_filled : cs ≡ chord_bytes F
  c_back_filled = (c_read_accepted text b.es b.es' b.c b.c' b.before cs 0 b.read refl).1

  c_back_spelled : w ≡ house F
  c_back_spelled =
      let x = c_read_then_write_lem text b.es b.es' b.c b.c' b.before cs b.read b.bs b.bs' b.l b.l' b.r
      b.room b.write in
      b.bytes ∙ spelled-bytes x.1

pub c_write_then_read_lem : C-trips.WriteThenRead
c_write_then_read_lem text cs w b es es' c c' ds ds' r h g =
    let f = four_of_text text in
    let k = subst (λ (t : List ℕ). C.Read t es es' c c' ds ds' r) (c_back_spelled text cs w b) g in
    let y = c_reads (house f) es es' c c' ds ds' r f (respelled text f (c_back_accepted text cs w b)) h k in
    (y.0, y.1 ∙ sym (c_back_filled text cs w b))

pub c_same_spelling_lem : C-trips.SameSpelling
c_same_spelling_lem t u cs ds v w a b =
    let f = four_of_text t in
    let g = four_of_text u in
    let fours : v ≡ w → f ≡ g = λ e.
    same-four t u f g (c_back_accepted t cs v a) (c_back_accepted u ds w b) (sym (c_back_spelled t cs v a) ∙ e ∙ c_back_spelled u ds w b) in
    let texts : f ≡ g → v ≡ w = λ e. c_back_spelled t cs v a ∙ ap house e ∙ sym (c_back_spelled u ds w b) in
    let structs : f ≡ g → cs ≡ ds = λ e. c_back_filled t cs v a ∙ ap chord_bytes e ∙ sym (c_back_filled u ds w b) in
    let held : cs ≡ ds → f ≡ g = λ e.
    held_same ds f g (sym (ap four_in e) ∙ ap four_in (c_back_filled t cs v a) ∙ decoded t f (c_back_accepted t cs v a))
    (ap four_in (c_back_filled u ds w b) ∙ decoded u g (c_back_accepted u ds w b)) in
    ((fours, texts), (λ e. structs (fours e), λ e. texts (held e)))
