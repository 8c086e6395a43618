-- The two questions put to a record, by their answers: what each makes the outcome, from the outcome back to them, and that the code gave
-- it. Every theorem on a writing goes by these. Assumes nothing.
use mathlib.Core.Bool.{Bool, true, false, not, cond}
use mathlib.Core.List.{List, []}
use mathlib.Core.Logic.{◌↔◌}
use mathlib.Core.Path.{◌≡◌, refl, sym, ap, ◌∙◌, subst}
use Prim.Native.Nat.{ℕ, ◌≤◌, ◌<◌}
use native.Mathlib.Omega.{arith}
use lib.Dec.{ltb}
use lib.ListN.{length}
use borrow.Author.Tests.{lt-ltb, le-ltb, ltb-false, ltb-true}
use Rattle.intervals.proofs.Whole.{members_narrow}
use Rattle.std.specs.Prelude.{Ok, Err}
use Rattle.chord.specs.Chord.{Four, four_of}
use Rattle.chord.specs.declared.Chord.{Chord}
use Rattle.std.specs.declared.option.Option.TheVariants.{None, Some}
use Rattle.note.specs.Note.{OptionalNote}
use Rattle.house_parts.proofs.Tests.{same_answer}
use Rattle.house_parts.specs.House.{kind_in}
use Rattle.house_parts.specs.Question.{realizable}
use Rattle.house_parts.specs.declared.kind.SusKind.{SusKind}
use Rattle.house_text.proofs.Realized.{some-text}
use Rattle.house_text.specs.Spelling.{house, house_by, spell}
use Rattle.writer.proofs.Puts.{put_whole}
use Rattle.writer.specs.State.{WriteGave, Put}
use Rattle.writer.specs.Writer.{Answer, HasText, WriteOutcome, answer_to, length_of, number_of, refused, spelled, write_of}
use Rattle.writer.specs.declared.Refusal.TheVariants.{ShortBuffer, NoText}

-- ---- the test is the question

-- the test decides the question of any record
pub decided : (c : Chord) → (realizable (four_of c) ≡ true) ↔ HasText (four_of c)
decided c = some-text (four_of c) (members_narrow c.normalized)

-- a Boolean that says the same is the test
pub is_test : (c : Chord) (b : Bool) → (b ≡ true) ↔ HasText (four_of c) → realizable (four_of c) ≡ b
is_test c b h = same_answer (realizable (four_of c)) b (λ e. h.1 ((decided c).0 e)) (λ e. (decided c).1 (h.0 e))

-- the house spelling by K
abbrev pub spell_by : OptionalNote → SusKind → Four → List ℕ
spell_by None k f = []
spell_by (Some r) k f = spell r f.bass f.normalized k

pub house-by : (r : OptionalNote) (k : SusKind) (f : Four) → k ≡ kind_in f.normalized f.display → spell_by r k f ≡ house_by r f
house-by None k f e = refl
house-by (Some r) k f e = ap (spell r f.bass f.normalized) e

-- a test that was negated
pub negated : (b c : Bool) → not b ≡ c → b ≡ not c
negated true c e = ap not e
negated false c e = ap not e

-- ---- from the questions to the outcome

module _ (room : ℕ) (f : Four) where
  pub short-buffer : room < 112 → write_of room f ≡ refused 6
  unfolding write_of
  short-buffer h = ap (λ (b : Bool). cond b (refused 6) (answer_to f)) (lt-ltb room 112 h)

  pub long_buffer : 112 ≤ room → write_of room f ≡ answer_to f
  unfolding write_of
  long_buffer h = ap (λ (b : Bool). cond b (refused 6) (answer_to f)) (le-ltb room 112 h)

module _ (f : Four) where
  pub answered : (b : Bool) → realizable f ≡ b → answer_to f ≡ cond b (spelled (house f)) (refused 7)
  answered b e = ap (λ (x : Bool). cond x (spelled (house f)) (refused 7)) e

  -- ---- and back

  pub data Way : WriteOutcome → Type 0 where
    has : realizable f ≡ true → Way (spelled (house f))
    lacks : realizable f ≡ false → Way (refused 7)

  pub way : Way (answer_to f)
  way = by (realizable f) refl
    where
      by : (b : Bool) → realizable f ≡ b → Way (cond b (spelled (house f)) (refused 7))
      by true e = has e
      by false e = lacks e

pub data Asked (room : ℕ) (f : Four) : WriteOutcome → Type 0 where
  short : room < 112 → Asked room f (refused 6)
  enough : 112 ≤ room → Asked room f (answer_to f)

pub asked_first : (room : ℕ) (f : Four) → Asked room f (write_of room f)
unfolding write_of
asked_first room f = by (ltb room 112) refl
  where
    by : (b : Bool) → ltb room 112 ≡ b → Asked room f (cond b (refused 6) (answer_to f))
    by true e = short (ltb-true room 112 e)
    by false e = enough (ltb-false room 112 e)

-- ---- what the code gave

-- the same answer by another name
pub gave_as : {o : WriteOutcome} {r s : Answer} {bs bs' : List ℕ} → r ≡ s → WriteGave o r bs bs' → WriteGave o s bs bs'
gave_as {o} {r} {s} {bs} {bs'} e g = subst (λ (x : Answer). WriteGave o x bs bs') e g

-- a refusal leaves the buffer as it was
gave_none : {o : WriteOutcome} {k : ℕ} (r : Answer) (bs : List ℕ) → o ≡ refused k → number_of r ≡ k → length_of r ≡ 0 → WriteGave o r bs bs
gave_none r bs e n l = subst (λ (o : WriteOutcome). WriteGave o r bs bs) (sym e) (record { number = n; size = l; buffer = refl })

module _ (f : Four) (bs : List ℕ) where
  pub gave_short : length bs < 112 → WriteGave (write_of (length bs) f) (Err ShortBuffer) bs bs
  gave_short h = gave_none (Err ShortBuffer) bs (short-buffer (length bs) f h) refl refl

  module _ (h : 112 ≤ length bs) where
    pub gave_no_text : realizable f ≡ false → WriteGave (write_of (length bs) f) (Err NoText) bs bs
    gave_no_text e = gave_none (Err NoText) bs (long_buffer (length bs) f h ∙ answered f false e) refl refl

    pub gave_spelled : {r : ℕ} {bs' : List ℕ} → realizable f ≡ true → Put 0 r (house f) bs bs' → WriteGave (write_of (length bs) f) (Ok r) bs bs'
    gave_spelled {r} {bs'} e w =
        let k : r ≡ length (house f) = omega (arith, w.count) in
        subst (λ (o : WriteOutcome). WriteGave o (Ok r) bs bs') (sym (long_buffer (length bs) f h ∙ answered f true e))
        (record { number = refl; size = k; buffer = put_whole w })
