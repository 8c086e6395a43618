-- What reading and writing gave, from what the reader and the writer gave; and from the outcome of a writing back to the questions.
-- Assumes nothing.
use mathlib.Core.Bool.{Bool, true, false, cond, ◌||◌}
use mathlib.Core.List.{List, ◌++◌, append-nil}
use mathlib.Core.Option.{none, some}
use mathlib.Core.Path.{◌≡◌, refl, sym, ap, ◌∙◌, subst}
use Prim.Native.Nat.{ℕ, ◌≤◌, ◌<◌}
use native.Mathlib.Omega.{arith}
use lib.Dec.{eqb, ltb}
use lib.ListN.{drop_of_length-le, length}
use borrow.Author.Tests.{lt-ltb, le-ltb, ltb-false, ltb-true}
use Rattle.chord.specs.Chord.{Four}
use Rattle.house_text.proofs.Length.{house-length}
use Rattle.reader.specs.Reader as reader
use Rattle.reader.specs.State as reader-state
use Rattle.reader.specs.Reader.{Answer as Read, Reading}
use Rattle.std.specs.Prelude.{Ok, Err}
use Rattle.writer.proofs.Answers.{Way, has, lacks, long_buffer, way}
use Rattle.writer.proofs.Puts.{put_whole}
use Rattle.writer.specs.State.{WriteGave, Put}
use Rattle.writer.specs.Writer as writer
use Rattle.writer.specs.Writer.{Answer as Written, WriteOutcome, number, refused, write_of}
use Rattle.writer.specs.declared.Refusal.TheVariants.{ShortBuffer, NoText}
use Rattle.nophtris.specs.Boundary.{answer_to, chord_bytes, four_in, inside, values_in, write_in}
use Rattle.nophtris.specs.State.{GaveRead}

-- ---- reading

-- as many bytes as there are, written from the first on, are all of them
pub put_all : {r : ℕ} (t : List ℕ) {bs bs' : List ℕ} → length bs ≡ length t → Put 0 r t bs bs' → bs' ≡ t
put_all t {bs} e w =
    let h : length bs ≤ length t = omega (arith, e) in
    put_whole w ∙ ap (λ (q : List ℕ). t ++ q) (drop_of_length-le bs h) ∙ append-nil t

-- what the answer v makes of the count and of the record
abbrev counts : ℕ → ℕ → ℕ → ℕ
counts n m c = cond (eqb n 4 || eqb n 5) m c

abbrev fills : ℕ → Four → List ℕ → List ℕ
fills n f cs = cond (eqb n 0) (chord_bytes f) cs

-- the answer is v
pub gave_read : {o : reader.ReadOutcome} {r : Reading} {es es' cs cs' : List ℕ} (v : Read) (c : ℕ) → r.answer ≡ v
    → reader-state.ReadGave o r es es'
    → cs' ≡ fills (reader.number_of v) o.four cs
    → GaveRead o (reader.number_of v) es es' c (counts (reader.number_of v) (reader.count_of v) c) cs cs'
gave_read {o} {r} {es} {es'} {cs} {cs'} v c e g w =
    let n : reader.number_of v ≡ o.number = ap reader.number_of (sym e) ∙ g.number in
    let m : reader.count_of v ≡ o.count = ap reader.count_of (sym e) ∙ g.count in
    record {
      number = n;
      errors = g.list;
      count = λ i. counts (n i) (m i) c;
      chord = w ∙ ap (λ (x : ℕ). fills x o.four cs) n;
    }

-- ---- writing: from the questions to the outcome

module _ (room : ℕ) (cs : List ℕ) where
  short-buffer : room < 112 → write_in room cs ≡ refused 6
  unfolding write_in
  short-buffer h = ap (λ (b : Bool). cond b (refused 6) (answer_to (four_in cs))) (lt-ltb room 112 h)

  long_buffer_in : 112 ≤ room → write_in room cs ≡ answer_to (four_in cs)
  unfolding write_in
  long_buffer_in h = ap (λ (b : Bool). cond b (refused 6) (answer_to (four_in cs))) (le-ltb room 112 h)

module _ (cs : List ℕ) where
  pub holds : inside cs ≡ true → four_in cs ≡ some (values_in cs)
  unfolding four_in
  holds e = ap (λ (b : Bool). cond b (some (values_in cs)) none) e

  pub holds_none : inside cs ≡ false → four_in cs ≡ none
  unfolding four_in
  holds_none e = ap (λ (b : Bool). cond b (some (values_in cs)) none) e

-- ---- and back: the buffer is short, or the bytes hold no four, or the writer's question was put to their four

pub data Asked (room : ℕ) (cs : List ℕ) : WriteOutcome → Type 0 where
  short : room < 112 → Asked room cs (refused 6)
  outside : 112 ≤ room → four_in cs ≡ none → Asked room cs (refused 7)
  within : 112 ≤ room → four_in cs ≡ some (values_in cs) → Asked room cs (writer.answer_to (values_in cs))

pub asked_first : (room : ℕ) (cs : List ℕ) → Asked room cs (write_in room cs)
unfolding write_in four_in
asked_first room cs = by (ltb room 112) (inside cs) refl refl
  where
    by : (a b : Bool) → ltb room 112 ≡ a → inside cs ≡ b → Asked room cs (cond a (refused 6) (answer_to (cond b (some (values_in cs)) none)))
    by true b p q = short (ltb-true room 112 p)
    by false true p q = within (ltb-false room 112 p) (holds cs q)
    by false false p q = outside (ltb-false room 112 p) (holds_none cs q)

-- ---- what the code gave

module _ (cs bs : List ℕ) where
  pub held_short : length bs < 112 → WriteGave (write_in (length bs) cs) (Err ShortBuffer) bs bs
  held_short h =
      subst (λ (o : WriteOutcome). WriteGave o (Err ShortBuffer) bs bs) (sym (short-buffer (length bs) cs h))
      (record { number = refl; size = refl; buffer = refl })

  module _ (h : 112 ≤ length bs) where
    pub held_none : four_in cs ≡ none → WriteGave (write_in (length bs) cs) (Err NoText) bs bs
    held_none e =
        subst (λ (o : WriteOutcome). WriteGave o (Err NoText) bs bs) (sym (long_buffer_in (length bs) cs h ∙ ap answer_to e))
        (record { number = refl; size = refl; buffer = refl })

    pub held_some : {f : Four} {r : Written} {bs' : List ℕ} → four_in cs ≡ some f → WriteGave (write_of (length bs) f) r bs bs'
        → WriteGave (write_in (length bs) cs) r bs bs'
    held_some {f} {r} {bs'} e g =
        subst (λ (o : WriteOutcome). WriteGave o r bs bs') (long_buffer (length bs) f h ∙ sym (long_buffer_in (length bs) cs h ∙ ap answer_to e)) g

-- the house spelling is short
few-of : (f : Four) → (writer.answer_to f).length ≤ 112
few-of f = by (way f)
  where
    by : {o : WriteOutcome} → Way f o → o.length ≤ 112
    by (has e) = house-length f
    by (lacks e) = omega arith

pub spelled-few : (room : ℕ) (cs : List ℕ) {n : ℕ} {bs bs' : List ℕ} → WriteGave (write_in room cs) (Ok n) bs bs' → n ≤ 112
spelled-few room cs g = subst (λ (n : ℕ). n ≤ 112) (sym g.size) (by (asked_first room cs))
  where
    by : {o : WriteOutcome} → Asked room cs o → o.length ≤ 112
    by (short h) = omega arith
    by (outside h e) = omega arith
    by (within h e) = few-of (values_in cs)
