-- What a struct holds: the bytes of a four, where its set has no member outside the table and its display list at most 23 numbers, hold the
-- four. So it is with every accepted text's.
-- Assumes nothing.
use mathlib.Core.Bool.{Bool, true, false, cond, ◌&&◌}
use mathlib.Core.List.{List, [], ◌∷◌, ◌++◌}
use mathlib.Core.Option.{some}
use mathlib.Core.Path.{◌≡◌, refl, sym, ap, fun_ext, subst, ◌∙◌}
use Prim.Native.Nat.{ℕ, zero, suc, ◌+◌, ◌≤◌, ◌<◌}
use native.Mathlib.Omega.{arith}
use lib.Dec.{T, eqb, leb, ltb, ltb→lt}
use lib.ListN.{get_or-append, drop, get_or, length, replicate, take}
use lib.Seq.{get_or-drop, take-append_seam, take_at, take-take}
use borrow.Author.Tests.{le-leb, ltb-false, ltb-true}
use Rattle.chord.specs.Chord.{Four}
use Rattle.intervals.specs.Interval.{Set}
use Rattle.note.specs.Note.{letter_number, letter_of}
use Rattle.note.specs.declared.NoteLiteral.TheVariants.{C, D, E, F, G, A, B}
use Rattle.note.specs.declared.NoteLiteral.{NoteLiteral}
use Rattle.std.specs.declared.option.Option.TheVariants.{None, Some}
use Rattle.note.specs.Note.{OptionalNote}
use Rattle.note.specs.declared.RootModifier.TheVariants.{Natural, Sharp, Flat}
use Rattle.note.specs.declared.RootModifier.{RootModifier}
use Rattle.display.specs.Display.{chosen, display_of, order, shown}
use Rattle.house_parts.proofs.Bools.{and_left, and_right}
use Rattle.house_parts.specs.House.{display_by, kind_in, sus_by}
use Rattle.house_text.proofs.Low.{Low}
use Rattle.house_parts.specs.declared.kind.SusKind.TheVariants.{Plain, Flat2, Second, Sharp4}
use Rattle.house_parts.specs.declared.kind.SusKind.{SusKind}
use Rattle.nophtris.proofs.Bytes.{chord-length, padded, set_at, set-length}
use Rattle.nophtris.proofs.Answers.{holds}
use Rattle.nophtris.specs.Boundary.{alteration_byte, are_bits, chord_bytes, four_in, inside, is_alteration, is_note, list_bytes, modifier_in, note_bytes, note_in, set_bytes, values_in}
use Rattle.house_text.proofs.Realized.{accepted-realizable}
use Rattle.reader.specs.Reader.{IsAccepted}

-- ---- a note

abbrev letter_byte : OptionalNote → ℕ
letter_byte None = 255
letter_byte (Some n) = letter_number n.literal

abbrev sign_byte : OptionalNote → ℕ
sign_byte None = 0
sign_byte (Some n) = alteration_byte n.modifier

note_cells : (n : OptionalNote) → note_bytes n ≡ letter_byte n ∷ sign_byte n ∷ []
note_cells None = refl
note_cells (Some n) = refl

-- what a letter's number and a modifier's byte say
letter : (l : NoteLiteral) → (letter_of (letter_number l) ≡ l) × (eqb (letter_number l) 255 ≡ false) × (ltb (letter_number l) 7 ≡ true)
letter C = (refl, refl, refl)
letter D = (refl, refl, refl)
letter E = (refl, refl, refl)
letter F = (refl, refl, refl)
letter G = (refl, refl, refl)
letter A = (refl, refl, refl)
letter B = (refl, refl, refl)

modifier : (m : RootModifier)
    → (modifier_in (alteration_byte m) ≡ m) × (is_alteration (alteration_byte m) ≡ true) × (ltb (alteration_byte m) 256 ≡ true)
modifier Natural = (refl, refl, refl)
modifier Sharp = (refl, refl, refl)
modifier Flat = (refl, refl, refl)

note_back : (n : OptionalNote) → note_in (letter_byte n) (sign_byte n) ≡ n
note_back None = refl
note_back (Some n) =
    let l = letter n.literal in
    let m = modifier n.modifier in
    λ i. cond (l.1 i) None (Some (record { literal = l.0 i; modifier = m.0 i }))

note_inside : (n : OptionalNote) → is_note (letter_byte n) (sign_byte n) ≡ true
note_inside None = refl
note_inside (Some n) =
    let l = letter n.literal in
    let m = modifier n.modifier in
    λ i. cond (l.1 i) (eqb (alteration_byte n.modifier) 0) (l.2 i && m.1 i)

-- ---- the set

bit-back : (b : Bool) → eqb (cond b 1 0) 1 ≡ b
bit-back true = refl
bit-back false = refl

bit-inside : (b : Bool) → leb (cond b 1 0) 1 ≡ true
bit-inside true = refl
bit-inside false = refl

bits_inside : (n i : ℕ) (s : Set) → are_bits (set_bytes n i s) ≡ true
bits_inside zero i s = refl
bits_inside (suc n) i s = ap (λ (b : Bool). b && are_bits (set_bytes n (suc i) s)) (bit-inside (s i)) ∙ bits_inside n (suc i) s

-- ---- all bytes

abbrev cells : Four → List ℕ
cells f =
    letter_byte f.root
    ∷ sign_byte f.root
    ∷ letter_byte f.bass
    ∷ sign_byte f.bass
    ∷ (set_bytes 23 0 f.normalized ++ list_bytes f.display)

chord_cells : (f : Four) → chord_bytes f ≡ cells f
unfolding chord_bytes
chord_cells f = λ i. note_cells f.root i ++ (note_cells f.bass i ++ (set_bytes 23 0 f.normalized ++ list_bytes f.display))

module _ (f : Four) (low : Low f.normalized) (few : length f.display ≤ 23) where
  set_back : (k : ℕ) → ltb k 23 && eqb (get_or (cells f) (4 + k) 0) 1 ≡ f.normalized k
  set_back k = by (ltb k 23) refl
    where
      by : (t : Bool) → ltb k 23 ≡ t → t && eqb (get_or (cells f) (4 + k) 0) 1 ≡ f.normalized k
      by true e =
          let s = set_bytes 23 0 f.normalized in
          let h : k < 23 = ltb-true k 23 e in
          let g : get_or (cells f) (4 + k) 0 ≡ cond (f.normalized k) 1 0 =
          sym (get_or-drop 4 (cells f) k 0) ∙ get_or-append s (list_bytes f.display) 0 k h ∙ set_at f.normalized k h in
          ap (λ (x : ℕ). eqb x 1) g ∙ bit-back (f.normalized k)
      by false e = sym (low k (ltb-false k 23 e))

  list_back : take (length f.display) (take 23 (padded f.display)) ≡ f.display
  list_back =
      let d = f.display in
      let z : List ℕ = replicate 23 0 in
      take-take (length d) 23 (padded d) few ∙ take-take (length d) 23 (d ++ z) few ∙ take-append_seam d z

  four-back : values_in (chord_bytes f) ≡ f
  unfolding values_in
  four-back =
      ap values_in (chord_cells f)
      ∙ (λ i. record { root = note_back f.root i; bass = note_back f.bass i; normalized = fun_ext set_back i; display = list_back i })

  bits_back : are_bits (take 23 (drop 4 (cells f))) ≡ true
  bits_back =
      ap are_bits (take_at (set_bytes 23 0 f.normalized) (list_bytes f.display) 23 (set-length 23 0 f.normalized))
      ∙ bits_inside 23 0 f.normalized

  inside_back : inside (chord_bytes f) ≡ true
  unfolding inside
  inside_back =
      ap inside (chord_cells f)
      ∙ (λ i. note_inside f.root i && (note_inside f.bass i && (le-leb (length f.display) 23 few i && bits_back i)))

  pub held : four_in (chord_bytes f) ≡ some f
  held = holds (chord_bytes f) inside_back ∙ ap some four-back

-- ---- what an accepted text's four are

chosen-few : (s : Set) (g : ℕ → ℕ) (l : List ℕ) → length (chosen s g l) ≤ length l
chosen-few s g [] = omega arith
chosen-few s g (i ∷ l) = by (s i) (chosen-few s g l)
  where
    by : (b : Bool) → length (chosen s g l) ≤ length l → length (cond b (g i ∷ chosen s g l) (chosen s g l)) ≤ suc (length l)
    by true h = omega (arith, h)
    by false h = omega (arith, h)

order-few : (k : SusKind) → length (order (sus_by k)) ≡ 23
unfolding order
order-few Plain = refl
order-few Flat2 = refl
order-few Second = refl
order-few Sharp4 = refl

display-few : (k : SusKind) (s : Set) → length (display_by k s) ≤ 23
unfolding display_of
display-few k s = omega (arith, chosen-few s (shown (sus_by k)) (order (sus_by k)), order-few k)

module _ (text : List ℕ) (f : Four) (a : IsAccepted text f) where
  pub accepted-few : length f.display ≤ 23
  accepted-few =
      let e = ap length (accepted-realizable text f a).displayed in
      omega (arith, e, display-few (kind_in f.normalized f.display) f.normalized)

-- the struct of an accepted text holds its four: root, bass, the set at every number and the display list
pub decoded : (text : List ℕ) (f : Four) → IsAccepted text f → four_in (chord_bytes f) ≡ some f
decoded text f a = held f (accepted-realizable text f a).within (accepted-few text f a)

-- ---- 51 bytes

abbrev Bytes : List ℕ → Type 0
Bytes l = (i : ℕ) → get_or l i 0 < 256

no_bytes : Bytes []
no_bytes i = omega arith

byte_then : (x : ℕ) (l : List ℕ) → x < 256 → Bytes l → Bytes (x ∷ l)
byte_then x l h b zero = h
byte_then x l h b (suc i) = b i

bytes_both : (l m : List ℕ) → Bytes l → Bytes m → Bytes (l ++ m)
bytes_both [] m a b = b
bytes_both (x ∷ l) m a b = byte_then x (l ++ m) (a 0) (bytes_both l m (λ i. a (suc i)) b)

bytes_take : (n : ℕ) (l : List ℕ) → Bytes l → Bytes (take n l)
bytes_take zero l b = no_bytes
bytes_take (suc n) [] b = no_bytes
bytes_take (suc n) (x ∷ l) b = byte_then x (take n l) (b 0) (bytes_take n l (λ i. b (suc i)))

bytes_zeros : (n : ℕ) → Bytes (replicate n 0)
bytes_zeros zero = no_bytes
bytes_zeros (suc n) = byte_then 0 (replicate n 0) (omega arith) (bytes_zeros n)

bytes-two : (x y : ℕ) → x < 256 → y < 256 → Bytes (x ∷ y ∷ [])
bytes-two x y h k = byte_then x (y ∷ []) h (byte_then y [] k no_bytes)

bytes_note : (n : OptionalNote) → Bytes (note_bytes n)
bytes_note None = bytes-two 255 0 (omega arith) (omega arith)
bytes_note (Some n) =
    let l = letter_number n.literal in
    let m = alteration_byte n.modifier in
    let h : l < 7 = ltb-true l 7 (letter n.literal).2 in
    bytes-two l m (omega (arith, h)) (ltb-true m 256 (modifier n.modifier).2)

bit_byte : (b : Bool) → cond b 1 0 < 256
bit_byte true = omega arith
bit_byte false = omega arith

bytes-set : (n i : ℕ) (s : Set) → Bytes (set_bytes n i s)
bytes-set zero i s = no_bytes
bytes-set (suc n) i s = byte_then (cond (s i) 1 0) (set_bytes n (suc i) s) (bit_byte (s i)) (bytes-set n (suc i) s)

-- what a list's numbers are shown as are bytes, by a test that computes
abbrev shows : (ℕ → ℕ) → List ℕ → Bool
shows g [] = true
shows g (i ∷ l) = ltb (g i) 256 && shows g l

bytes_chosen : (s : Set) (g : ℕ → ℕ) (l : List ℕ) → T (shows g l) → Bytes (chosen s g l)
bytes_chosen s g [] t = no_bytes
bytes_chosen s g (i ∷ l) t =
    by (s i) (ltb→lt (g i) 256 (and_left (ltb (g i) 256) (shows g l) t)) (bytes_chosen s g l (and_right (ltb (g i) 256) (shows g l) t))
  where
    by : (b : Bool) → g i < 256 → Bytes (chosen s g l) → Bytes (cond b (g i ∷ chosen s g l) (chosen s g l))
    by true h r = byte_then (g i) (chosen s g l) h r
    by false h r = r

order-shows : (k : SusKind) → T (shows (shown (sus_by k)) (order (sus_by k)))
unfolding order
order-shows Plain = tt
order-shows Flat2 = tt
order-shows Second = tt
order-shows Sharp4 = tt

bytes-display : (k : SusKind) (s : Set) → Bytes (display_by k s)
unfolding display_of
bytes-display k s = bytes_chosen s (shown (sus_by k)) (order (sus_by k)) (order-shows k)

pub fifty_one_bytes : (text : List ℕ) (f : Four) → IsAccepted text f
    → (length (chord_bytes f) ≡ 51) × ((i : ℕ) → get_or (chord_bytes f) i 0 < 256)
unfolding chord_bytes
fifty_one_bytes text f a =
    let s = set_bytes 23 0 f.normalized in
    let d = f.display in
    let z : List ℕ = replicate 23 0 in
    let shown : Bytes d = subst Bytes (sym (accepted-realizable text f a).displayed)
    (bytes-display (kind_in f.normalized d) f.normalized) in
    let list : Bytes (list_bytes d) =
    byte_then (length d) (padded d) (omega (arith, accepted-few text f a))
    (bytes_take 23 (d ++ z) (bytes_both d z shown (bytes_zeros 23))) in
    let rest : Bytes (s ++ list_bytes d) = bytes_both s (list_bytes d) (bytes-set 23 0 f.normalized) list in
    let low : Bytes (note_bytes f.bass ++ (s ++ list_bytes d)) = bytes_both (note_bytes f.bass) (s ++ list_bytes d)
    (bytes_note f.bass) rest in
    (chord-length f, bytes_both (note_bytes f.root) (note_bytes f.bass ++ (s ++ list_bytes d)) (bytes_note f.root) low)
