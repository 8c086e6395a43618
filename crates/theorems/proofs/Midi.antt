-- MIDI out: the questions in their order, by the way back from an outcome; then what `Next` of midi and `Midi` of the C boundary say of
-- it, of one call and of calls one after the other. What a test decides is whether there is a text. Assumes nothing.
use mathlib.Core.Bool.{Bool, true, false, true≢false, cond}
use mathlib.Core.List.{List, [], ◌∷◌, ◌++◌, map}
use mathlib.Core.Logic.{◌↔◌}
use mathlib.Core.Option.{Option, none, some}
use mathlib.Core.Path.{◌≡◌, refl, sym, ap, subst, ◌∙◌}
use Prim.Native.Nat.{ℕ, ◌≤◌}
use native.Mathlib.Omega.{arith}
use lib.Dec.{eqb}
use lib.ListN.{drop, length, length-append, length-drop, take}
use lib.Seq.{take-append_seam}
use borrow.Author.Tests.{eqb-false, eqb-true}
use Rattle.chord.specs.Chord.{Four, four_of, no_chord}
use Rattle.chord.specs.declared.Chord.{Chord}
use Rattle.house_parts.proofs.Nothing.{no_chord-realizable}
use Rattle.house_parts.specs.Question.{realizable}
use Rattle.intervals.specs.Interval.{Set, empty}
use Rattle.keys.proofs.Wanting.{none_above}
use Rattle.keys.specs.Keys.{keys_of, keys_over, outside, wants}
use Rattle.keys.specs.Stored.{members}
use Rattle.keys.specs.declared.Keys.{Keys}
use Rattle.midi.proofs.Answers.{Way, falls, goes, lacks, next-sent, short, way}
use Rattle.midi.specs.Midi.{Answer, NextOutcome, between, length_of, next_of, number_of, refused, sent}
use Rattle.midi.specs.State.{Next, Step}
use Rattle.midi.specs.declared.Refusal.TheVariants as refusal
use Rattle.std.specs.Prelude.{Ok, Err}
use Rattle.theorems.proofs.Balance.{Low, Sends, balanced, ends, moves, stays}
use Rattle.theorems.proofs.Reach.{between-most, between-same, none-outside}
use Rattle.theorems.proofs.Readings.{no, yes}
use Rattle.theorems.specs.Midi.{Call, Calls, MidiAgain, MidiApart, MidiBalance, MidiBase, MidiNumbered, MidiRoom, MidiSent, MidiSilence, MidiUntouched, Numbered, Said, Sent, keys_held, said_by}
use Rattle.theorems.specs.Song.{Run, call, done}
use Rattle.writer.proofs.Answers.{decided}
use Rattle.writer.specs.Writer.{HasText}

-- ---- what is held, whose question the test decides

pub data Asked (room : ℕ) (s : Set) (base : ℕ) : Option Four → NextOutcome → Type 0 where
  lacking : Asked room s base none (refused 7 s)
  holding : (f : Four) → (realizable f ≡ true) ↔ HasText f → Asked room s base (some f) (next_of room s base f)

-- a chord that was not refused
pub record Went (room : ℕ) (s : Set) (base : ℕ) (f : Four) (o : NextOutcome) : Type 0 where
  pub text : realizable f ≡ true
  pub inside : outside (keys_of base f) ≡ false
  pub fits : length (between s (wants (keys_of base f))) ≤ room
  pub is : o ≡ sent (wants (keys_of base f)) (between s (wants (keys_of base f)))

module _ {room : ℕ} {s : Set} {base : ℕ} where
  pub numbered : {held : Option Four} {o : NextOutcome} → Asked room s base held o → Numbered room s base held o.number
  numbered lacking =
      record {
        seven = yes refl tt;
        ten = no (λ z. omega (arith, z)) (λ x. x.0);
        eleven = no (λ z. omega (arith, z)) (λ x. x.0);
        nought = λ a b c. absurd (a refl);
      }
  numbered (holding f d) = by (way room s base f)
    where
      by : {o : NextOutcome} → Way room s base f o → Numbered room s base (some f) o.number
      by (lacks e) =
          record {
            seven = yes refl (λ t. true≢false (sym (d.1 t) ∙ e));
            ten = no (λ z. omega (arith, z)) (λ x. true≢false (sym (d.1 x.0) ∙ e));
            eleven = no (λ z. omega (arith, z)) (λ x. true≢false (sym (d.1 x.0) ∙ e));
            nought = λ a b c. absurd (a refl);
          }
      by (falls e o) =
          record {
            seven = no (λ z. omega (arith, z)) (λ n. n (d.0 e));
            ten = yes refl (d.0 e, o);
            eleven = no (λ z. omega (arith, z)) (λ x. true≢false (sym o ∙ x.1));
            nought = λ a b c. absurd (b refl);
          }
      by (short e o h) =
          record {
            seven = no (λ z. omega (arith, z)) (λ n. n (d.0 e));
            ten = no (λ z. omega (arith, z)) (λ x. true≢false (sym x.1 ∙ o));
            eleven = yes refl (d.0 e, o, h);
            nought = λ a b c. absurd (c refl);
          }
      by (goes e o h) =
          record {
            seven = no (λ z. omega (arith, z)) (λ n. n (d.0 e));
            ten = no (λ z. omega (arith, z)) (λ x. true≢false (sym x.1 ∙ o));
            eleven = no (λ z. omega (arith, z)) (λ x. omega (arith, h, x.2));
            nought = λ a b c. refl;
          }

  pub went : (f : Four) {o : NextOutcome} → Way room s base f o → o.number ≡ 0 → Went room s base f o
  went f (lacks e) z = absurd (omega (arith, z))
  went f (falls e o) z = absurd (omega (arith, z))
  went f (short e o h) z = absurd (omega (arith, z))
  went f (goes e o h) z = record { text = e; inside = o; fits = h; is = refl }

  pub kept : {held : Option Four} {o : NextOutcome} → Asked room s base held o → (o.number ≡ 0 → ⊥) → o ≡ refused o.number s
  kept lacking n = refl
  kept (holding f d) n = by (way room s base f) n
    where
      by : {o : NextOutcome} → Way room s base f o → (o.number ≡ 0 → ⊥) → o ≡ refused o.number s
      by (lacks e) n = refl
      by (falls e o) n = refl
      by (short e o h) n = refl
      by (goes e o h) n = absurd (n refl)

-- what was sent: the output was bs and is bs', the length is n, and the keys t sound
module _ {room : ℕ} {s : Set} {base : ℕ} {f : Four} {o : NextOutcome} (w : Went room s base f o) where
  pub wanted-low : Low (wants (keys_of base f))
  wanted-low j h = none_above (keys_of base f) j w.inside h

  pub sent-whole : (bs bs' : List ℕ) (n : ℕ) (t : Set) → room ≡ length bs → t ≡ o.keys → n ≡ o.length
      → bs' ≡ o.bytes ++ drop (length o.bytes) bs → Sent s base f bs bs' n t
  sent-whole bs bs' n t q k l b =
      let m = between s (wants (keys_of base f)) in
      let size : n ≡ length m = l ∙ ap (λ (x : NextOutcome). x.length) w.is in
      let output : bs' ≡ m ++ drop (length m) bs = b ∙ ap (λ (x : NextOutcome). x.bytes ++ drop (length x.bytes) bs) w.is in
      let same = ap length output in
      record {
        keys = k ∙ ap (λ (x : NextOutcome). x.keys) w.is;
        size = size;
        output = output ∙ ap (λ (j : ℕ). m ++ drop j bs) (sym size);
        most = omega (arith, size, between-most s (wants (keys_of base f)));
        same = omega (arith, same, q, w.fits, length-append m (drop (length m) bs), length-drop (length m) bs);
      }

-- the bytes that were written
pub sent-bytes : {s : Set} {base : ℕ} {f : Four} {bs bs' : List ℕ} {n : ℕ} {t : Set} → Sent s base f bs bs' n t
    → take n bs' ≡ between s (wants (keys_of base f))
sent-bytes {s} {base} {f} {bs} {bs'} {n} w =
    let m = between s (wants (keys_of base f)) in
    (λ i. take (w.size i) (w.output i)) ∙ ap (λ (j : ℕ). take (length m) (m ++ drop j bs)) w.size
    ∙ take-append_seam m (drop (length m) bs)

-- a refusal
pub refused-whole : {o : NextOutcome} {n : ℕ} {s : Set} (bs : List ℕ) → o ≡ refused n s → o.bytes ++ drop (length o.bytes) bs ≡ bs
refused-whole bs e = ap (λ (x : NextOutcome). x.bytes ++ drop (length x.bytes) bs) e

-- the same chord again, from the keys that it wants
pub again : (room base : ℕ) (f : Four) → realizable f ≡ true → outside (keys_of base f) ≡ false
    → next_of room (wants (keys_of base f)) base f ≡ sent (wants (keys_of base f)) []
again room base f e o =
    let w = wants (keys_of base f) in
    let l = ap length (between-same w) in
    next-sent room w base f e o (omega (arith, l)) ∙ ap (sent w) (between-same w)

-- no chord
pub no_keys : (base : ℕ) → wants (keys_of base no_chord) ≡ empty
unfolding keys_over wants
no_keys base = refl

none-falls : (base : ℕ) → outside (keys_of base no_chord) ≡ false
unfolding keys_over outside
none-falls base = refl

pub silenced : (room : ℕ) (s : Set) (base : ℕ) {o : NextOutcome} → Way room s base no_chord o
    → (o.number ≡ 0 → o.keys ≡ empty) × ((o.number ≡ 0 → ⊥) → o.number ≡ 11)
silenced room s base (lacks e) = absurd (true≢false (sym (no_chord-realizable no_chord refl) ∙ e))
silenced room s base (falls e o) = absurd (true≢false (sym o ∙ none-falls base))
silenced room s base (short e o h) = (λ z. absurd (omega (arith, z)), λ n. refl)
silenced room s base (goes e o h) = (λ z. no_keys base, λ n. absurd (n refl))

-- the limits, from the numbers
module _ {room : ℕ} {s : Set} {base n : ℕ} where
  pub never_11 : {held : Option Four} → Numbered room s base held n → 384 ≤ room → n ≡ 11 → ⊥
  never_11 {held} q h e = omega (arith, h, (q.eleven.0 e).2, between-most s (wants (keys_held base held)))

  pub never_10 : (held : Option Four) → Numbered room s base held n → 12 ≤ base → base ≤ 95 → n ≡ 10 → ⊥
  never_10 none q a b e = (q.ten.0 e).0
  never_10 (some f) q a b e = true≢false (sym (q.ten.0 e).1 ∙ none-outside base a b f.root f.bass f.display)

-- a call that goes from the keys s to the keys t
pub said : (s t : Set) (c : Said) {cs : List Said}
    → (c.number ≡ 0 → (c.bytes ≡ between s c.wanted) × Low c.wanted × (t ≡ c.wanted))
    → ((c.number ≡ 0 → ⊥) → (c.bytes ≡ []) × (t ≡ s)) → Sends t cs → Sends s (c ∷ cs)
said s t c {cs} f g r = by (eqb c.number 0) refl
  where
    by : (b : Bool) → eqb c.number 0 ≡ b → Sends s (c ∷ cs)
    by true e = let x = f (eqb-true c.number 0 e) in
        moves (eqb-true c.number 0 e) x.0 x.1 (subst (λ (u : Set). Sends u cs) x.2 r)
    by false e = let x = g (eqb-false c.number 0 e) in
        stays (eqb-false c.number 0 e) x.0 (subst (λ (u : Set). Sends u cs) x.1 r)

-- ---- `midi::next`

module _ (s : Keys) (base : ℕ) (c : Chord) (bs bs' : List ℕ) (r : Step) (g : Next s base c bs bs' r) where
  -- the outcome
  abbrev o : NextOutcome
  o = next_of (length bs) (members s) base (four_of c)

  numbers : Numbered (length bs) (members s) base (some (four_of c)) (number_of r.answer)
  numbers = subst (Numbered (length bs) (members s) base (some (four_of c))) (sym g.number) (numbered (holding (four_of c) (decided c)))

  went_to : number_of r.answer ≡ 0 → Went (length bs) (members s) base (four_of c) o
  went_to z = went (four_of c) (way (length bs) (members s) base (four_of c)) (sym g.number ∙ z)

  sends_to : number_of r.answer ≡ 0 → Sent (members s) base (four_of c) bs bs' (length_of r.answer) (members r.keys)
  sends_to z = sent-whole (went_to z) bs bs' (length_of r.answer) (members r.keys) refl g.keys g.size g.output

  keeps : (number_of r.answer ≡ 0 → ⊥) → (bs' ≡ bs) × (length_of r.answer ≡ 0) × (members r.keys ≡ members s)
  keeps n =
      let e = kept (holding (four_of c) (decided c)) (λ z. n (g.number ∙ z)) in
      (g.output ∙ refused-whole bs e, g.size ∙ ap (λ (x : NextOutcome). x.length) e, g.keys ∙ ap (λ (x : NextOutcome). x.keys) e)

  -- where the outcome is known
  tells : {w : Set} {m : List ℕ} → o ≡ sent w m → (number_of r.answer ≡ 0) × (length_of r.answer ≡ length m) × (members r.keys ≡ w)
  tells e = (
    g.number ∙ ap (λ (x : NextOutcome). x.number) e,
    g.size ∙ ap (λ (x : NextOutcome). x.length) e,
    g.keys ∙ ap (λ (x : NextOutcome). x.keys) e,
  )

pub midi-numbered : MidiNumbered
midi-numbered s base c bs bs' r g = numbers s base c bs bs' r g

pub midi-sent : MidiSent
midi-sent s base c bs bs' r g z = sends_to s base c bs bs' r g z

pub midi_untouched_lem : MidiUntouched
midi_untouched_lem s base c bs bs' r g n = keeps s base c bs bs' r g n

pub midi-room : MidiRoom
midi-room s base c bs bs' r g h e = never_11 (numbers s base c bs bs' r g) h e

pub midi-base : MidiBase
midi-base s base c bs bs' r g a b e = never_10 (some (four_of c)) (numbers s base c bs bs' r g) a b e

pub midi_again_lem : MidiAgain
midi_again_lem s base c bs bs' ds ds' r q g z k =
    let w = went_to s base c bs bs' r g z in
    let f = four_of c in
    let v = (sends_to s base c bs bs' r g z).keys in
    let e : next_of (length ds) (members r.keys) base f ≡ sent (wants (keys_of base f)) [] =
    ap (λ (u : Set). next_of (length ds) u base f) v ∙ again (length ds) base f w.text w.inside
    in
    let x = tells r.keys base c ds ds' q k e in
    (x.0, x.1, k.output ∙ ap (λ (y : NextOutcome). y.bytes ++ drop (length y.bytes) ds) e, x.2 ∙ sym v)

pub midi-silence : MidiSilence
midi-silence s base c bs bs' r g e =
    let k = ap (next_of (length bs) (members s) base) e in
    let n = g.number ∙ ap (λ (x : NextOutcome). x.number) k in
    let x = silenced (length bs) (members s) base (way (length bs) (members s) base no_chord) in
    (λ z. g.keys ∙ ap (λ (x : NextOutcome). x.keys) k ∙ x.0 (sym n ∙ z), λ m. n ∙ x.1 (λ z. m (n ∙ z)))

-- the answer of a number and a length
abbrev answer_of : ℕ → ℕ → Answer
answer_of n l = cond (eqb n 0) (Ok l) (cond (eqb n 7) (Err refusal.NoText) (cond (eqb n 10) (Err refusal.OutsideKeys) (Err refusal.ShortOutput)))

answer_back : (a : Answer) → answer_of (number_of a) (length_of a) ≡ a
answer_back (Ok n) = refl
answer_back (Err refusal.NoText) = refl
answer_back (Err refusal.OutsideKeys) = refl
answer_back (Err refusal.ShortOutput) = refl

pub midi_apart_lem : MidiApart
midi_apart_lem a b e l = sym (answer_back a) ∙ (λ i. answer_of (e i) (l i)) ∙ answer_back b

all_said : (s : Keys) (cs : List Call) → Run Calls s cs → Sends (members s) (map said_by cs)
all_said s [] done = ends
all_said s (c ∷ cs) (call _ d r) =
    let g = d.0 in
    said (members s) (members c.step.keys) (said_by c)
    (λ z.
    let v = sends_to s c.base c.chord c.bs c.bs' c.step g z in
    (sent-bytes v, wanted-low (went_to s c.base c.chord c.bs c.bs' c.step g z), v.keys))
    (λ n.
    let x = keeps s c.base c.chord c.bs c.bs' c.step g n in
    (ap (λ (m : ℕ). take m c.bs') x.1, x.2))
    (subst (λ (u : Keys). Sends (members u) (map said_by cs)) d.1 (all_said _ cs r))

pub midi_balance_lem : MidiBalance
midi_balance_lem s cs e r = balanced (map said_by cs) (subst (λ (u : Set). Sends u (map said_by cs)) e (all_said s cs r))
