-- What a step gives at the C boundary, from the place that was found and from what reading the bar gave.
-- Assumes nothing.
use mathlib.Core.Bool.{false}
use mathlib.Core.List.{List}
use mathlib.Core.Path.{◌≡◌, refl, sym, ap, subst, ◌∙◌}
use Prim.Native.Nat.{ℕ, ◌-◌}
use lib.ListN.{drop, length, take}
use Rattle.bars.proofs.Laws.{bar_cut, is_bar, stays_put}
use Rattle.bars.specs.Bars.{bar_at, place_at}
use Rattle.bars.specs.declared.Found.TheVariants.{TooLong, End, Bar}
use Rattle.bars.specs.declared.Place.{Place}
use Rattle.reader.specs.Reader.{read_of}
use Rattle.song.proofs.Laws.{outcome_is}
use Rattle.song.specs.Song.{StepOutcome, eight, end, bar, step_of}
use Rattle.nophtris.specs.Boundary.{place_after, read_in}
use Rattle.nophtris.specs.State.{GaveRead, Read, Step}

module _ (line : List ℕ) (p : ℕ) (q : Place) (e : q ≡ place_at line p) where
  -- the outcome is o, and all else is as q and o have it
  stepped : (o : StepOutcome) {p' : ℕ} {es es' : List ℕ} {c c' : ℕ} {cs cs' : List ℕ} {f l r : ℕ} → o ≡ step_of (length es) line p
      → p' ≡ q.next
      → GaveRead (read_in o) r es es' c c' cs cs'
      → Step line p p' es es' c c' cs cs' f (place_after o q.from f) l (place_after o (q.to - q.from) l) r
  stepped o {p'} {es} {es'} {c} {c'} {cs} {cs'} {f} {l} {r} h n g =
      record {
        read = subst (λ (x : StepOutcome). GaveRead (read_in x) r es es' c c' cs cs') h g;
        position = n ∙ ap (λ (x : Place). x.next) e;
        from = λ i. place_after (h i) (e i).from f;
        size = λ i. place_after (h i) ((e i).to - (e i).from) l;
      }

  stays : is_bar q.found ≡ false → p ≡ q.next
  stays h = sym (ap (λ (x : Place). x.next) e ∙ stays_put line p (ap (λ (x : Place). is_bar x.found) (sym e) ∙ h))

  module _ {es cs : List ℕ} {c f l : ℕ} where
    pub gave_eight : q.found ≡ TooLong → Step line p p es es c c cs cs f f l l 8
    gave_eight h =
        stepped eight (outcome_is line p q e (length es) TooLong h) (stays (ap is_bar h))
        (record { number = refl; errors = refl; count = refl; chord = refl })

    pub gave_end : q.found ≡ End → Step line p p es es c c cs cs f f l l 255
    gave_end h =
        stepped end (outcome_is line p q e (length es) End h) (stays (ap is_bar h))
        (record { number = refl; errors = refl; count = refl; chord = refl })

  pub gave_bar : {es es' cs cs' : List ℕ} {c c' f l r : ℕ} → q.found ≡ Bar
      → Read (take (q.to - q.from) (drop q.from line)) es es' c c' cs cs' r
      → Step line p q.next es es' c c' cs cs' f q.from l (q.to - q.from) r
  gave_bar {es} {es'} {cs} {cs'} {c} {c'} {f} {l} {r} h g =
      stepped (bar (read_of (length es) (bar_at line p))) (outcome_is line p q e (length es) Bar h) refl
      (subst (λ (t : List ℕ). Read t es es' c c' cs cs' r) (bar_cut line p q e h) g)
