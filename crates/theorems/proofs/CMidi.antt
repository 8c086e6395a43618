-- MIDI out at the C boundary: what `Midi` says of one call, by whether the bytes hold a four; then the calls one after the other.
-- Assumes nothing.
use mathlib.Core.Bool.{Bool, cond}
use mathlib.Core.List.{List, [], ◌∷◌, ◌++◌, map}
use mathlib.Core.Option.{Option, some}
use mathlib.Core.Path.{◌≡◌, refl, sym, ap, subst, ◌∙◌}
use Prim.Native.Nat.{ℕ}
use native.Mathlib.Omega.{arith}
use lib.Dec.{eqb}
use lib.ListN.{drop, length, take}
use borrow.Author.Tests.{eq-eqb, ne_eqb}
use Rattle.chord.specs.Chord.{Four, no_chord}
use Rattle.intervals.specs.Interval.{Set, empty}
use Rattle.intervals.specs.Stored.{digits}
use Rattle.keys.proofs.Octets.{keys-back, keys_length}
use Rattle.keys.specs.Keys.{keys_of, wants}
use Rattle.keys.specs.Stored.{byte_of, keys_bytes, keys_in}
use Rattle.midi.proofs.Answers.{way}
use Rattle.midi.specs.Midi.{NextOutcome, between, next_of, refused, sent}
use Rattle.nophtris.proofs.Sounding as C-answers
use Rattle.nophtris.specs.Boundary.{four_in, next_from, next_in, sent_after, sounding_after, values_in}
use Rattle.nophtris.specs.State.{Midi}
use Rattle.theorems.proofs.Balance.{Low, Sends, balanced, ends}
use Rattle.theorems.proofs.Midi.{Asked, Went, again, holding, kept, lacking, never_10, never_11, numbered, refused-whole, said, sent-bytes, sent-whole, silenced, wanted-low, went}
use Rattle.theorems.proofs.Writings.{decided_in}
use Rattle.theorems.specs.CMidi.{Call, Calls, MidiAgain, MidiBalance, MidiBase, MidiNumbered, MidiRoom, MidiSent, MidiSilence, MidiUntouched, said_by, silence}
use Rattle.theorems.specs.Midi.{Numbered, Sent, keys_held}
use Rattle.theorems.specs.Song.{Run, call, done}

-- the questions that were put to what the bytes hold
asked_in : (room : ℕ) (ss : List ℕ) (base : ℕ) (cs : List ℕ) → Asked room (keys_in ss) base (four_in cs) (next_in room ss base cs)
asked_in room ss base cs = by (C-answers.asked_first room ss base cs)
  where
    by : {o : NextOutcome} → C-answers.Asked room ss base cs o → Asked room (keys_in ss) base (four_in cs) o
    by (C-answers.lacking q) = subst (λ (h : Option Four). Asked room (keys_in ss) base h (refused 7 (keys_in ss))) (sym q) lacking
    by (C-answers.holding q) =
        subst (λ (h : Option Four). Asked room (keys_in ss) base h (next_of room (keys_in ss) base (values_in cs))) (sym q)
        (holding (values_in cs) (decided_in cs))

-- with 0 they hold one
went_in : (room : ℕ) (ss : List ℕ) (base : ℕ) (cs : List ℕ) {o : NextOutcome} → C-answers.Asked room ss base cs o → o.number ≡ 0
    → (four_in cs ≡ some (values_in cs)) × Went room (keys_in ss) base (values_in cs) o
went_in room ss base cs (C-answers.lacking q) z = absurd (omega (arith, z))
went_in room ss base cs (C-answers.holding q) z = (q, went (values_in cs) (way room (keys_in ss) base (values_in cs)) z)

-- and where they hold f
next_held : (room : ℕ) (ss : List ℕ) (base : ℕ) (cs : List ℕ) {f : Four} → four_in cs ≡ some f
    → next_in room ss base cs ≡ next_of room (keys_in ss) base f
unfolding next_in
next_held room ss base cs q = ap (next_from room (keys_in ss) base) q

module _ (ss ss' : List ℕ) (base : ℕ) (cs bs bs' : List ℕ) (l l' r : ℕ) (g : Midi ss ss' base cs bs bs' l l' r) where
  -- the outcome
  abbrev o : NextOutcome
  o = next_in (length bs) ss base cs

  numbers : Numbered (length bs) (keys_in ss) base (four_in cs) r
  numbers = subst (Numbered (length bs) (keys_in ss) base (four_in cs)) (sym g.number) (numbered (asked_in (length bs) ss base cs))

  went_to : r ≡ 0 → (four_in cs ≡ some (values_in cs)) × Went (length bs) (keys_in ss) base (values_in cs) o
  went_to z = went_in (length bs) ss base cs (C-answers.asked_first (length bs) ss base cs) (sym g.number ∙ z)

  keys-to : r ≡ 0 → ss' ≡ keys_bytes (wants (keys_of base (values_in cs)))
  keys-to z =
      g.sounding ∙ ap (λ (n : ℕ). cond (eqb n 0) (keys_bytes o.keys) ss) (sym g.number ∙ z)
      ∙ ap (λ (x : NextOutcome). keys_bytes x.keys) (went_to z).1.is

  sends_to : r ≡ 0 → Sent (keys_in ss) base (values_in cs) bs bs' l' (keys_in ss')
  sends_to z =
      let w = (went_to z).1 in
      let k = ap keys_in (keys-to z) ∙ keys-back (wants (keys_of base (values_in cs))) (wanted-low w) in
      let n = g.size ∙ ap (λ (n : ℕ). cond (eqb n 0) o.length l) (sym g.number ∙ z) in
      sent-whole w bs bs' l' (keys_in ss') refl (k ∙ sym (ap (λ (x : NextOutcome). x.keys) w.is)) n g.output

  keeps : (r ≡ 0 → ⊥) → (bs' ≡ bs) × (l' ≡ l) × (ss' ≡ ss)
  keeps n =
      let m : o.number ≡ 0 → ⊥ = λ z. n (g.number ∙ z) in
      let b = ne_eqb o.number 0 m in (
        g.output ∙ refused-whole bs (kept (asked_in (length bs) ss base cs) m),
        g.size ∙ ap (λ (b : Bool). cond b o.length l) b,
        g.sounding ∙ ap (λ (b : Bool). cond b (keys_bytes o.keys) ss) b,
      )

  -- where the outcome is known
  tells : {w : Set} {m : List ℕ} → o ≡ sent w m → (r ≡ 0) × (l' ≡ length m) × (ss' ≡ keys_bytes w)
  tells e = (
    g.number ∙ ap (λ (x : NextOutcome). x.number) e,
    g.size ∙ ap (λ (x : NextOutcome). sent_after x l) e,
    g.sounding ∙ ap (λ (x : NextOutcome). sounding_after x ss) e,
  )

pub c_midi_numbered_lem : MidiNumbered
c_midi_numbered_lem ss ss' base cs bs bs' l l' r g = numbers ss ss' base cs bs bs' l l' r g

pub c_midi_sent_lem : MidiSent
c_midi_sent_lem ss ss' base cs bs bs' l l' g =
    let k = keys-to ss ss' base cs bs bs' l l' 0 g refl in (
      values_in cs,
      (went_to ss ss' base cs bs bs' l l' 0 g refl).0,
      ap length k ∙ keys_length (wants (keys_of base (values_in cs))),
      sends_to ss ss' base cs bs bs' l l' 0 g refl,
    )

pub c_midi_untouched_lem : MidiUntouched
c_midi_untouched_lem ss ss' base cs bs bs' l l' r g n = keeps ss ss' base cs bs bs' l l' r g n

pub c_midi_room_lem : MidiRoom
c_midi_room_lem ss ss' base cs bs bs' l l' r g h e = never_11 (numbers ss ss' base cs bs bs' l l' r g) h e

pub c_midi_base_lem : MidiBase
c_midi_base_lem ss ss' base cs bs bs' l l' r g a b e = never_10 (four_in cs) (numbers ss ss' base cs bs bs' l l' r g) a b e

pub c_midi_again_lem : MidiAgain
c_midi_again_lem ss ss' ss'' base cs bs bs' ds ds' l l' n n' r g k =
    let x = went_to ss ss' base cs bs bs' l l' 0 g refl in
    let f = values_in cs in
    let v = (sends_to ss ss' base cs bs bs' l l' 0 g refl).keys in
    let e : next_in (length ds) ss' base cs ≡ sent (wants (keys_of base f)) [] =
    next_held (length ds) ss' base cs x.0 ∙ ap (λ (u : Set). next_of (length ds) u base f) v
    ∙ again (length ds) base f x.1.text x.1.inside
    in
    let y = tells ss' ss'' base cs ds ds' n n' r k e in (
      y.0,
      y.1,
      k.output ∙ ap (λ (y : NextOutcome). y.bytes ++ drop (length y.bytes) ds) e,
      y.2 ∙ sym (keys-to ss ss' base cs bs bs' l l' 0 g refl),
    )

-- silence as 16 zeros
silent-bytes : keys_bytes empty ≡ silence
unfolding byte_of digits
silent-bytes = refl

silent-keys : keys_in silence ≡ empty
silent-keys = ap keys_in (sym silent-bytes) ∙ keys-back empty (λ j h. refl)

pub c_midi_silence_lem : MidiSilence
c_midi_silence_lem ss ss' base cs bs bs' l l' r g q =
    let k = next_held (length bs) ss base cs q in
    let n = g.number ∙ ap (λ (x : NextOutcome). x.number) k in
    let x = silenced (length bs) (keys_in ss) base (way (length bs) (keys_in ss) base no_chord) in
    let b : r ≡ 0 → ss' ≡ silence = λ z.
    g.sounding ∙ ap (λ (o : NextOutcome). sounding_after o ss) k
    ∙ (λ i. cond (eqb ((sym n ∙ z) i) 0) (keys_bytes (x.0 (sym n ∙ z) i)) ss) ∙ silent-bytes
    in
    (b, λ m. n ∙ x.1 (λ z. m (n ∙ z)))

-- ---- calls, one after the other

all_said : (ss : List ℕ) (ks : List Call) → Run Calls ss ks → Sends (keys_in ss) (map said_by ks)
all_said ss [] done = ends
all_said ss (k ∷ ks) (call {s' = ss'} _ g r) =
    said (keys_in ss) (keys_in ss') (said_by k)
    (λ z.
    let w = went_to ss ss' k.base k.cs k.bs k.bs' k.l k.l' k.r g z in
    let v = sends_to ss ss' k.base k.cs k.bs k.bs' k.l k.l' k.r g z in
    let h = ap (λ (x : Option Four). wants (keys_held k.base x)) w.0 in
    let b = ap (λ (b : Bool). cond b (take k.l' k.bs') []) (eq-eqb k.r 0 z) in
    (b ∙ sent-bytes v ∙ sym (ap (between (keys_in ss)) h), subst Low (sym h) (wanted-low w.1), v.keys ∙ sym h))
    (λ n.
    let x = keeps ss ss' k.base k.cs k.bs k.bs' k.l k.l' k.r g n in
    (ap (λ (b : Bool). cond b (take k.l' k.bs') []) (ne_eqb k.r 0 n), ap keys_in x.2))
    (all_said ss' ks r)

pub c_midi_balance_lem : MidiBalance
c_midi_balance_lem ks r = balanced (map said_by ks) (subst (λ (u : Set). Sends u (map said_by ks)) silent-keys (all_said silence ks r))
