-- MIDI out: what the function gave, from what `midi::next` gave; and from the outcome back to whether the bytes hold a four.
-- Assumes nothing.
use mathlib.Core.Bool.{Bool, true, false, cond}
use mathlib.Core.List.{List}
use mathlib.Core.Option.{Option, none, some}
use mathlib.Core.Path.{◌≡◌, refl, sym, ap₂, ◌∙◌, subst}
use Prim.Native.Nat.{ℕ}
use lib.Dec.{eqb}
use lib.ListN.{length}
use Rattle.chord.specs.Chord.{Four}
use Rattle.intervals.specs.Interval.{Set}
use Rattle.keys.specs.Stored.{keys_bytes, keys_in, members}
use Rattle.keys.specs.declared.Keys.{Keys}
use Rattle.midi.specs.Midi.{NextOutcome, next_of, number, refused}
use Rattle.midi.specs.State.{NextGave, Step}
use Rattle.midi.specs.declared.Refusal.TheVariants.{NoText, OutsideKeys, ShortOutput}
use Rattle.midi.specs.declared.Refusal.{Refusal}
use Rattle.std.specs.Prelude.{Ok, Err}
use Rattle.nophtris.proofs.Answers.{holds, holds_none}
use Rattle.nophtris.specs.Boundary.{four_in, inside, next_from, next_in, values_in}
use Rattle.nophtris.specs.State.{GaveNext}

-- the bytes hold no four, or they hold f
pub held_none : {h : Option Four} (room base : ℕ) (k : Keys) (bs : List ℕ) → h ≡ none
    → NextGave (next_from room (members k) base h) (record { answer = Err NoText; keys = k }) bs bs
held_none {h} room base k bs e =
    subst (λ (h : Option Four). NextGave (next_from room (members k) base h) (record { answer = Err NoText; keys = k }) bs bs) (sym e)
    (record { number = refl; size = refl; keys = refl; output = refl })

pub held_some : {h : Option Four} {f : Four} (room base : ℕ) (s : Set) {r : Step} {bs bs' : List ℕ} → h ≡ some f
    → NextGave (next_of room s base f) r bs bs' → NextGave (next_from room s base h) r bs bs'
held_some {h} {f} room base s {r} {bs} {bs'} e g = subst (λ (h : Option Four). NextGave (next_from room s base h) r bs bs') (sym e) g

-- the length of the messages and the keys are written where there are some, and else nothing
module _ (ss : List ℕ) (base : ℕ) (cs bs : List ℕ) (l : ℕ) where
  -- the keys that sound are those of the bytes
  sounds : {s : Set} {r : Step} {bs' : List ℕ} → s ≡ keys_in ss → NextGave (next_from (length bs) s base (four_in cs)) r bs bs'
      → NextGave (next_in (length bs) ss base cs) r bs bs'
  unfolding next_in
  sounds {s} {r} {bs'} e g = subst (λ (s : Set). NextGave (next_from (length bs) s base (four_in cs)) r bs bs') e g

  pub gave_sent : {s : Set} {n : ℕ} {k : Keys} {ss' bs' : List ℕ} → s ≡ keys_in ss → ss' ≡ keys_bytes (members k)
      → NextGave (next_from (length bs) s base (four_in cs)) (record { answer = Ok n; keys = k }) bs bs'
      → GaveNext (next_in (length bs) ss base cs) 0 ss ss' bs bs' l n
  gave_sent e w v =
      let g = sounds e v in
      record {
        number = g.number;
        sounding = w ∙ ap₂ (λ (x : ℕ) (s : Set). cond (eqb x 0) (keys_bytes s) ss) g.number g.keys;
        output = g.output;
        size = λ i. cond (eqb (g.number i) 0) (g.size i) l;
      }

  nothing : {A : Type 0} (e : Refusal) (a b : A) → b ≡ cond (eqb (number e) 0) a b
  nothing NoText a b = refl
  nothing OutsideKeys a b = refl
  nothing ShortOutput a b = refl

  pub gave_unsent : {s : Set} {n : ℕ} {k : Keys} {bs' : List ℕ} (e : Refusal) → s ≡ keys_in ss → n ≡ number e
      → NextGave (next_from (length bs) s base (four_in cs)) (record { answer = Err e; keys = k }) bs bs'
      → GaveNext (next_in (length bs) ss base cs) n ss ss bs bs' l l
  gave_unsent {k = k} e f w v =
      let g = sounds f v in
      record {
        number = w ∙ g.number;
        sounding = nothing e (keys_bytes (members k)) ss ∙ ap₂ (λ (x : ℕ) (s : Set). cond (eqb x 0) (keys_bytes s) ss) g.number g.keys;
        output = g.output;
        size = nothing e 0 l ∙ (λ i. cond (eqb (g.number i) 0) (g.size i) l);
      }

-- ---- and back: the bytes hold no four, or the questions were put to the one that they hold

pub data Asked (room : ℕ) (ss : List ℕ) (base : ℕ) (cs : List ℕ) : NextOutcome → Type 0 where
  lacking : four_in cs ≡ none → Asked room ss base cs (refused 7 (keys_in ss))
  holding : four_in cs ≡ some (values_in cs) → Asked room ss base cs (next_of room (keys_in ss) base (values_in cs))

pub asked_first : (room : ℕ) (ss : List ℕ) (base : ℕ) (cs : List ℕ) → Asked room ss base cs (next_in room ss base cs)
unfolding next_in four_in
asked_first room ss base cs = by (inside cs) refl
  where
    by : (b : Bool) → inside cs ≡ b → Asked room ss base cs (next_from room (keys_in ss) base (cond b (some (values_in cs)) none))
    by true e = holding (holds cs e)
    by false e = lacking (holds_none cs e)
