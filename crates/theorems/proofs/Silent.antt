-- Silent bars: a blank text is accepted (house_text `Realized`); an accepted text without a root is blank; and the empty text is the house
-- spelling of no chord. What the contracts say of calls follows from these.
-- Assumes nothing.
use mathlib.Core.Bool.{Bool, true, false, true≢false}
use mathlib.Core.List.{List, [], ◌++◌}
use mathlib.Core.Logic.{inl, inr}
use mathlib.Core.Option.{some}
use mathlib.Core.Path.{◌≡◌, refl, sym, ap, subst, ◌∙◌}
use Prim.Native.Nat.{ℕ, ◌≤◌}
use native.Mathlib.Omega.{arith}
use lib.Dec.{ltb}
use lib.ListN.{drop, get_or, length}
use borrow.Author.Tests.{ltb-false, ltb-true}
use Rattle.chord.specs.Chord.{Four, four_of, no_chord, record_of}
use Rattle.note.specs.declared.Note.{Note}
use Rattle.std.specs.declared.option.Option.TheVariants.{None, Some}
use Rattle.house_parts.specs.House.{is_some}
use Rattle.house_text.proofs.Realized.{blank-accepted, empty-accepted}
use Rattle.house_text.specs.Spelling.{house}
use Rattle.nophtris.proofs.Answers.{holds, holds_none}
use Rattle.nophtris.specs.State as C
use Rattle.nophtris.specs.Boundary.{chord_bytes, four_in, inside, note_in, values_in}
use Rattle.reader.proofs.Answers.{long_text}
use Rattle.reader.specs.Reader.{IsAccepted, ReadOutcome, is_blank}
use Rattle.reader.specs.Reader.{Accepted}
use Rattle.reader.specs.Reader.{Reading}
use Rattle.song.specs.State.{Bar}
use Rattle.theorems.proofs.Decoding.{decoded}
use Rattle.theorems.proofs.Readings.{c_read_untouched_lem, c_reads, read_apart_lem, read_untouched_lem, reads_as, root_or_blank}
use Rattle.theorems.proofs.Trips.{c_spelled, c_writes, same-four, writes}
use Rattle.theorems.proofs.Writings.{c_write_numbered_lem, write-numbered, write-spelled}
use Rattle.theorems.specs.Reading.{RootOrBlank}
use Rattle.theorems.specs.Silent.{BlankTexts, CReadBlank, CSilentBar, CWriteNothing, CWriteRootless, EmptySpelling, ReadBlank, Rootless, SilentBar, WriteNothing, WriteRootless, silent_bytes}
use Rattle.theorems.specs.Writing.{NoText, Spelled}
use Rattle.writer.specs.Writer.{HasText}

-- ---- texts and fours

short_enough : (t : List ℕ) (f : Four) → IsAccepted t f → length t ≤ 256
short_enough t f a = by (ltb 256 (length t)) refl
  where
    by : (l : Bool) → ltb 256 (length t) ≡ l → length t ≤ 256
    by true e =
        let z = ap (λ (o : ReadOutcome). o.number) (long_text t (ltb-true 256 (length t) e)) in
        absurd (omega (arith, z, a.number))
    by false e = ltb-false 256 (length t) e

none-some : {n : Note} → None ≡ Some n → ⊥
none-some e = true≢false (sym (ap is_some e))

pub blank-texts : BlankTexts
blank-texts t = (λ a. (short_enough t no_chord a, by (root_or_blank t no_chord a)), λ x. blank-accepted t x.0 x.1)
  where
    by : RootOrBlank t no_chord → is_blank t ≡ true
    by (inl x) = absurd (none-some x.1)
    by (inr x) = x.0

pub rootless : Rootless
rootless f e = (λ t. by t.0 (root_or_blank t.0 f t.1), λ z. subst HasText (sym z) ([], empty-accepted))
  where
    by : (t : List ℕ) → RootOrBlank t f → f ≡ no_chord
    by t (inl x) = absurd (none-some (sym e ∙ x.1))
    by t (inr x) = x.1

pub empty_spelling_lem : EmptySpelling
empty_spelling_lem f t = (same-four t.0 [] f no_chord t.1 empty-accepted, ap house)

-- ---- calls in Rattle

pub read-blank : ReadBlank
read-blank text es es' r g h k b =
    let x = reads_as (length es) text no_chord (blank-accepted text k b) h in
    let z = g.number ∙ x.0 in
    (z, g.chord ∙ ap record_of x.1, (read_untouched_lem text es es' r g (omega (arith, z))).0)

pub silent-bar : SilentBar
silent-bar b a ch es es' cut s h k e =
    let r : Reading = record { answer = s.answer; chord = ch } in
    let x = read-blank b es es' r s.read h k e in
    let n = (read_untouched_lem b es es' r s.read (omega (arith, x.0))).1 in
    (s.says ∙ ap Bar (read_apart_lem s.answer Accepted x.0 n), x.1, x.2)

-- what was spelled is the empty text
nothing-spelled : {f : Four} {bs bs' : List ℕ} {n : ℕ} → f ≡ no_chord → Spelled f bs bs' n → (n ≡ 0) × (bs' ≡ bs)
nothing-spelled {f} {bs} {bs'} {n} e s =
    let z : n ≡ 0 = s.size ∙ ap (λ (g : Four). length (house g)) e in
    (z, s.buffer ∙ (λ i. house (e i) ++ drop (z i) bs))

pub write-nothing : WriteNothing
write-nothing c bs bs' a g h e =
    let z = writes [] c (subst (IsAccepted []) (sym e) empty-accepted) bs bs' a h g in
    let x = nothing-spelled e (write-spelled c bs bs' a g z) in
    (z, x.0, x.1)

pub write-rootless : WriteRootless
write-rootless c bs bs' a g h e n = (write-numbered c bs bs' a g).seven.1 (h, λ t. n ((rootless (four_of c) e).0 t))

-- ---- calls in C

silent-bytes : chord_bytes no_chord ≡ silent_bytes
unfolding chord_bytes
silent-bytes = refl

pub c_read_blank_lem : CReadBlank
c_read_blank_lem text es es' c c' cs cs' r g h k b =
    let x = c_reads text es es' c c' cs cs' r no_chord (blank-accepted text k b) h g in
    let u = c_read_untouched_lem text es es' c c' cs cs' r g (omega (arith, x.0)) in
    (x.0, x.1 ∙ silent-bytes, u.0, u.1)

pub c_silent_bar_lem : CSilentBar
c_silent_bar_lem line b k s h n e =
    c_read_blank_lem b k.es k.es' k.c k.c' k.cs k.cs' k.r s.read h n e

pub c_write_nothing_lem : CWriteNothing
c_write_nothing_lem = (
  ap four_in (sym silent-bytes) ∙ decoded [] no_chord empty-accepted,
  λ cs bs bs' l l' r g h q.
      let z = c_writes [] cs no_chord q empty-accepted bs bs' l l' r h g in
      let x = nothing-spelled refl (c_spelled cs bs bs' l l' no_chord q (subst (C.Write cs bs bs' l l') z g)) in
      (z, x.0, x.1),
)

no_root_in : (cs : List ℕ) → get_or cs 0 0 ≡ 255 → (values_in cs).root ≡ None
unfolding values_in
no_root_in cs e = ap (λ (l : ℕ). note_in l (get_or cs 1 0)) e

pub c_write_rootless_lem : CWriteRootless
c_write_rootless_lem cs bs bs' l l' r g h e n = (c_write_numbered_lem cs bs bs' l l' r g).seven.1 (h, by (inside cs) refl)
  where
    by : (t : Bool) → inside cs ≡ t → NoText (four_in cs)
    by true p =
        let f = values_in cs in
        subst NoText (sym (holds cs p)) (λ t. n (holds cs p ∙ ap some ((rootless f (no_root_in cs e)).0 t)))
    by false p = subst NoText (sym (holds_none cs p)) tt
