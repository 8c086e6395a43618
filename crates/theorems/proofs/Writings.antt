-- Writings: the two questions in their order, by the writer's way back from an outcome; then what `Written` of the writer and `Write` of
-- the C boundary say of it. What a test decides is whether there is a text. Assumes nothing.
use mathlib.Core.Bool.{Bool, true, true≢false, cond, ◌&&◌}
use mathlib.Core.List.{List, [], ◌++◌}
use mathlib.Core.Logic.{◌↔◌}
use mathlib.Core.Option.{Option, some}
use mathlib.Core.Path.{◌≡◌, refl, sym, ap, subst, ◌∙◌}
use Prim.Native.Nat.{ℕ, ◌+◌, ◌≤◌}
use native.Mathlib.Omega.{arith}
use lib.Dec.{eqb}
use lib.ListN.{drop, get_or, length, length-append, length-drop, take}
use lib.Seq.{take-append_seam}
use borrow.Author.Tests.{le-ltb, ne_eqb}
use Rattle.chord.specs.Chord.{Four, four_of}
use Rattle.chord.specs.declared.Chord.{Chord}
use Rattle.house_parts.specs.Question.{realizable}
use Rattle.nophtris.proofs.Answers as C-answers
use Rattle.nophtris.specs.Boundary.{four_in, values_in, write_in}
use Rattle.nophtris.specs.State as C
use Rattle.house_text.proofs.Length.{house-length}
use Rattle.house_parts.proofs.Nothing.{Narrow}
use Rattle.house_text.proofs.Realized.{accepted-realizable, some-text, spelling_realizes}
use Rattle.house_text.specs.Spelling.{house}
use Rattle.reader.specs.Reader.{IsAccepted}
use Rattle.theorems.proofs.Readings.{no, yes}
use Rattle.theorems.specs.CWriting as C-writing
use Rattle.theorems.specs.Writing.{NoText, Numbered, Spelled, WriteApart, WriteNumbered, WriteSpelled, WriteUntouched}
use Rattle.writer.proofs.Answers.{Asked, Way, asked_first, decided, enough, has, lacks, short, way}
use Rattle.writer.specs.Writer.{Answer, HasText, WriteOutcome, answer_to, length_of, number_of, spelled, write_of}
use Rattle.std.specs.Prelude.{Ok, Err}
use Rattle.writer.specs.declared.Refusal.TheVariants as refusal

-- ---- a four, whose question the test decides

module _ (f : Four) (d : (realizable f ≡ true) ↔ HasText f) where
  is_7 : {o : WriteOutcome} → Way f o → (o.number ≡ 7) ↔ (HasText f → ⊥)
  is_7 (has e) = no (λ z. omega (arith, z)) (λ n. n (d.0 e))
  is_7 (lacks e) = yes refl (λ t. true≢false (sym (d.1 t) ∙ e))

  -- 0 with a spelling, 7 without
  two-numbers : {o : WriteOutcome} → Way f o → (o.number ≡ 6 → ⊥) × ((o.number ≡ 7 → ⊥) → o.number ≡ 0)
  two-numbers (has e) = (λ z. omega (arith, z), λ n. refl)
  two-numbers (lacks e) = (λ z. omega (arith, z), λ n. absurd (n refl))

  -- with 0 it was spelled, and the spelling is accepted with the four
  spelled_at : {o : WriteOutcome} → Way f o → o.number ≡ 0 → (o ≡ spelled (house f)) × IsAccepted (house f) f
  spelled_at (has e) z = let t = d.0 e in (refl, spelling_realizes f (accepted-realizable t.0 f t.1))
  spelled_at (lacks e) z = absurd (omega (arith, z))

  pub answered_numbers : (room : ℕ) → 112 ≤ room → Numbered room (some f) (answer_to f).number
  answered_numbers room h =
      let w = way f in
      record {
        six = no (two-numbers w).0 (λ z. omega (arith, h, z));
        seven = (λ e. (h, (is_7 w).0 e), λ x. (is_7 w).1 x.1);
        nought = λ a b. (two-numbers w).1 b;
      }

-- the outcome of a four that was written
untold : {o : WriteOutcome} → (o.number ≡ 0 → ⊥) → (o.bytes ≡ []) × (o.length ≡ 0) → (bs : List ℕ)
    → o.bytes ++ drop (length o.bytes) bs ≡ bs
untold n e bs = ap (λ (q : List ℕ). q ++ drop (length q) bs) e.0

nothing : (f : Four) {o : WriteOutcome} → Way f o → (o.number ≡ 0 → ⊥) → (o.bytes ≡ []) × (o.length ≡ 0)
nothing f (has e) n = absurd (n refl)
nothing f (lacks e) n = (refl, refl)

-- what stands in the buffer where the spelling of f was written
pub spelt : (f : Four) (bs bs' : List ℕ) (n : ℕ) {o : WriteOutcome} → o ≡ spelled (house f) → IsAccepted (house f) f → 112 ≤ length bs
    → n ≡ o.length
    → bs' ≡ o.bytes ++ drop (length o.bytes) bs → Spelled f bs bs' n
spelt f bs bs' n {o} e a h l b =
    let t = house f in
    let size : n ≡ length t = l ∙ ap (λ (x : WriteOutcome). x.length) e in
    let buffer : bs' ≡ t ++ drop (length t) bs = b ∙ ap (λ (x : WriteOutcome). x.bytes ++ drop (length x.bytes) bs) e in
    let same = ap length buffer in
    record {
      size = size;
      buffer = buffer ∙ ap (λ (j : ℕ). t ++ drop j bs) (sym size);
      most = omega (arith, size, house-length f);
      same = omega (arith, same, h, house-length f, length-append t (drop (length t) bs), length-drop (length t) bs);
      reads = a;
    }

-- the written bytes are the spelling
pub spelled-bytes : {f : Four} {bs bs' : List ℕ} {n : ℕ} → Spelled f bs bs' n → take n bs' ≡ house f
spelled-bytes {f} {bs} {bs'} {n} s =
    (λ i. take (s.size i) (s.buffer i)) ∙ ap (λ (j : ℕ). take (length (house f)) (house f ++ drop j bs)) s.size
    ∙ take-append_seam (house f) (drop (length (house f)) bs)

-- ---- `writer::write`

module _ (c : Chord) where
  numbered : (room : ℕ) {o : WriteOutcome} → Asked room (four_of c) o → Numbered room (some (four_of c)) o.number
  numbered room (short h) =
      record {
        six = yes refl h;
        seven = no (λ e. omega (arith, e)) (λ z. omega (arith, h, z.0));
        nought = λ a b. absurd (a refl);
      }
  numbered room (enough h) = answered_numbers (four_of c) (decided c) room h

  written : (bs bs' : List ℕ) (n : ℕ) {o : WriteOutcome} → Asked (length bs) (four_of c) o → o.number ≡ 0 → n ≡ o.length
      → bs' ≡ o.bytes ++ drop (length o.bytes) bs → Spelled (four_of c) bs bs' n
  written bs bs' n (short h) z l b = absurd (omega (arith, z))
  written bs bs' n (enough h) z l b =
      let x = spelled_at (four_of c) (decided c) (way (four_of c)) z in
      spelt (four_of c) bs bs' n x.0 x.1 h l b

  unwritten : (room : ℕ) {o : WriteOutcome} → Asked room (four_of c) o → (o.number ≡ 0 → ⊥) → (o.bytes ≡ []) × (o.length ≡ 0)
  unwritten room (short h) n = (refl, refl)
  unwritten room (enough h) n = nothing (four_of c) (way (four_of c)) n

pub write-numbered : WriteNumbered
write-numbered c bs bs' a g = subst (Numbered (length bs) (some (four_of c))) (sym g.number)
    (numbered c (length bs) (asked_first (length bs) (four_of c)))

pub write-spelled : WriteSpelled
write-spelled c bs bs' a g e = written c bs bs' (length_of a) (asked_first (length bs) (four_of c)) (sym g.number ∙ e) g.size
    g.buffer

pub write_untouched_lem : WriteUntouched
write_untouched_lem c bs bs' a g n =
    let m : (write_of (length bs) (four_of c)).number ≡ 0 → ⊥ = λ e. n (g.number ∙ e) in
    let x = unwritten c (length bs) (asked_first (length bs) (four_of c)) m in
    (g.buffer ∙ untold m x bs, g.size ∙ x.1)

-- the answer of a number and a length
abbrev answer_of : ℕ → ℕ → Answer
answer_of n l = cond (eqb n 0) (Ok l) (cond (eqb n 6) (Err refusal.ShortBuffer) (Err refusal.NoText))

answer_back : (a : Answer) → answer_of (number_of a) (length_of a) ≡ a
answer_back (Ok n) = refl
answer_back (Err refusal.ShortBuffer) = refl
answer_back (Err refusal.NoText) = refl

pub write_apart_lem : WriteApart
write_apart_lem a b e l = sym (answer_back a) ∙ (λ i. answer_of (e i) (l i)) ∙ answer_back b

-- ---- `nophtris_write`

module _ (cs : List ℕ) where
  -- the set that bytes hold has no member outside the table, so the test decides the question
  narrow_in : Narrow (values_in cs).normalized
  unfolding values_in
  narrow_in j h = ap (λ (t : Bool). t && eqb (get_or cs (4 + j) 0) 1) (le-ltb j 23 (omega (arith, h)))

  pub decided_in : (realizable (values_in cs) ≡ true) ↔ HasText (values_in cs)
  decided_in = some-text (values_in cs) narrow_in

  c_numbered : (room : ℕ) {o : WriteOutcome} → C-answers.Asked room cs o → Numbered room (four_in cs) o.number
  c_numbered room (C-answers.short h) =
      record {
        six = yes refl h;
        seven = no (λ e. omega (arith, e)) (λ z. omega (arith, h, z.0));
        nought = λ a b. absurd (a refl);
      }
  c_numbered room (C-answers.outside h q) =
      record {
        six = no (λ e. omega (arith, e)) (λ z. omega (arith, h, z));
        seven = yes refl (h, subst NoText (sym q) tt);
        nought = λ a b. absurd (b refl);
      }
  c_numbered room (C-answers.within h q) =
      subst (λ (x : Option Four). Numbered room x (answer_to (values_in cs)).number) (sym q)
      (answered_numbers (values_in cs) decided_in room h)

  c_written : (bs bs' : List ℕ) (n : ℕ) {o : WriteOutcome} → C-answers.Asked (length bs) cs o → o.number ≡ 0 → n ≡ o.length
      → bs' ≡ o.bytes ++ drop (length o.bytes) bs → (four_in cs ≡ some (values_in cs)) × Spelled (values_in cs) bs bs' n
  c_written bs bs' n (C-answers.short h) z l b = absurd (omega (arith, z))
  c_written bs bs' n (C-answers.outside h q) z l b = absurd (omega (arith, z))
  c_written bs bs' n (C-answers.within h q) z l b =
      let x = spelled_at (values_in cs) decided_in (way (values_in cs)) z in
      (q, spelt (values_in cs) bs bs' n x.0 x.1 h l b)

  c_unwritten : (room : ℕ) {o : WriteOutcome} → C-answers.Asked room cs o → (o.number ≡ 0 → ⊥) → (o.bytes ≡ []) × (o.length ≡ 0)
  c_unwritten room (C-answers.short h) n = (refl, refl)
  c_unwritten room (C-answers.outside h q) n = (refl, refl)
  c_unwritten room (C-answers.within h q) n = nothing (values_in cs) (way (values_in cs)) n

pub c_write_numbered_lem : C-writing.WriteNumbered
c_write_numbered_lem cs bs bs' l l' r g =
    subst (Numbered (length bs) (four_in cs)) (sym g.number) (c_numbered cs (length bs) (C-answers.asked_first (length bs) cs))

module _ (cs bs bs' : List ℕ) (l l' : ℕ) (g : C.Write cs bs bs' l l' 0) where
  pub c_write_zero : (four_in cs ≡ some (values_in cs)) × Spelled (values_in cs) bs bs' l'
  c_write_zero =
      let o = write_in (length bs) cs in
      let k : l' ≡ o.length = g.size ∙ ap (λ (n : ℕ). cond (eqb n 0) o.length l) (sym g.number) in
      c_written cs bs bs' l' (C-answers.asked_first (length bs) cs) (sym g.number) k g.buffer

pub c_write_spelled_lem : C-writing.WriteSpelled
c_write_spelled_lem cs bs bs' l l' g = let x = c_write_zero cs bs bs' l l' g in (values_in cs, x.0, x.1)

pub c_write_untouched_lem : C-writing.WriteUntouched
c_write_untouched_lem cs bs bs' l l' r g n =
    let o = write_in (length bs) cs in
    let m : o.number ≡ 0 → ⊥ = λ e. n (g.number ∙ e) in
    let x = c_unwritten cs (length bs) (C-answers.asked_first (length bs) cs) m in
    (g.buffer ∙ untold m x bs, g.size ∙ ap (λ (b : Bool). cond b o.length l) (ne_eqb o.number 0 m))
