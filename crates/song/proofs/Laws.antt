-- What a step gives, from the place that was found and from what reading the bar gave; and that its bar lies in the line.
-- Assumes nothing.
use mathlib.Core.List.{List}
use mathlib.Core.Path.{◌≡◌, refl, sym, ap, subst, ◌∙◌}
use Prim.Native.Nat.{ℕ, ◌≤◌, ◌-◌}
use native.Mathlib.Omega.{arith}
use lib.ListN.{drop, length, take}
use Rattle.chord.specs.Chord.{no_chord, record_of}
use Rattle.bars.proofs.Laws.{bar_cut, place-within}
use Rattle.bars.specs.Bars.{bar_at, place_at}
use Rattle.bars.specs.declared.Found.TheVariants as found
use Rattle.bars.specs.declared.Found.{Found}
use Rattle.bars.specs.declared.Place.{Place}
use Rattle.reader.specs.Reader.{Reading, read_of}
use Rattle.reader.specs.State.{Read}
use Rattle.song.specs.Song.{StepOutcome, bar, outcome_of, step_of}
use Rattle.song.specs.State.{StepGave, Stepped, Step, TooLong, End, Bar}

module _ (line : List ℕ) (p : ℕ) (q : Place) (e : q ≡ place_at line p) where
  pub found_within : (q.from ≤ q.to) × (q.to ≤ length line)
  found_within = subst (λ (x : Place). (x.from ≤ x.to) × (x.to ≤ length line)) (sym e) (place-within line p)

  -- what was found says which outcome it is
  pub outcome_is : (room : ℕ) (f : Found) → q.found ≡ f → outcome_of f (read_of room (bar_at line p)) ≡ step_of room line p
  unfolding step_of
  outcome_is room f g = ap (λ (x : Found). outcome_of x (read_of room (bar_at line p))) (sym g ∙ ap (λ (x : Place). x.found) e)

  -- the step s has the place q
  stepped : (f : Found) (s : Step) (es es' : List ℕ) → q.found ≡ f → s.from ≡ q.from → s.to ≡ q.to → s.next ≡ q.next
      → StepGave (outcome_of f (read_of (length es) (bar_at line p))) s.answer s.chord es es' → Stepped line p s es es'
  stepped f s es es' g from to next w =
      record {
        said = subst (λ (o : StepOutcome). StepGave o s.answer s.chord es es') (outcome_is (length es) f g) w;
        from = from ∙ ap (λ (x : Place). x.from) e;
        to = to ∙ ap (λ (x : Place). x.to) e;
        next = next ∙ ap (λ (x : Place). x.next) e;
      }

  -- no bar was found
  pub too_long : (s : Step) (es : List ℕ) → q.found ≡ found.TooLong
      → s ≡ record { answer = TooLong; chord = record_of no_chord; from = q.from; to = q.to; next = q.next } → Stepped line p s es es
  too_long s es g h =
      subst (λ (x : Step). Stepped line p x es es) (sym h) (stepped found.TooLong _ es es g refl refl refl (refl, refl, refl))

  pub at-end : (s : Step) (es : List ℕ) → q.found ≡ found.End
      → s ≡ record { answer = End; chord = record_of no_chord; from = q.from; to = q.to; next = q.next } → Stepped line p s es es
  at-end s es g h = subst (λ (x : Step). Stepped line p x es es) (sym h) (stepped found.End _ es es g refl refl refl (refl, refl, refl))

  -- the bar was read
  pub a_bar : (s : Step) (r : Reading) (es es' : List ℕ) → q.found ≡ found.Bar
      → Read (take (q.to - q.from) (drop q.from line)) es es' r
      → s ≡ record { answer = Bar r.answer; chord = r.chord; from = q.from; to = q.to; next = q.next } → Stepped line p s es es'
  a_bar s r es es' g v h =
      let read : StepGave (bar (read_of (length es) (bar_at line p))) (Bar r.answer) r.chord es es' =
      (r.answer, refl, subst (λ (t : List ℕ). Read t es es' r) (bar_cut line p q e g) v) in
      subst (λ (x : Step). Stepped line p x es es') (sym h) (stepped found.Bar _ es es' g refl refl refl read)

-- the bar of a step lies in the line
pub step-within : {line : List ℕ} {p : ℕ} {s : Step} {es es' : List ℕ} → Stepped line p s es es'
    → (s.from ≤ s.to) × (s.to ≤ length line)
step-within {line} {p} h =
    let w = place-within line p in
    (omega (arith, h.from, h.to, w.0), omega (arith, h.to, w.1))
