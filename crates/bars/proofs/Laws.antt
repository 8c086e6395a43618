-- Laws of the bar at a position: by cases on the line's next byte.
-- Assumes nothing.
use mathlib.Core.Bool.{Bool, true, false, true≢false, cond}
use mathlib.Core.List.{List, [], ◌∷◌}
use mathlib.Core.Path.{◌≡◌, refl, sym, ap, ◌∙◌}
use Prim.Native.Nat.{ℕ, suc, ◌+◌, ◌-◌, ◌≤◌, ◌<◌}
use native.Mathlib.Numerals.{add-one}
use native.Mathlib.Omega.{arith}
use Rattle.std.specs.Option.{MatchOption, unwrap_or}
use Rattle.std.specs.declared.option.Option.{Option}
use Rattle.std.specs.List.{AllWithin, HoldsAt}
use Rattle.std.proofs.lemmas.Iterator.{index_from_first}
use mathlib.Core.Logic.{◌≢◌}
use lib.Dec.{eqb, ltb}
use lib.ListN.{length, take, drop, length-drop}
use borrow.Author.Tests.{eq-eqb, ne_eqb, ltb-false, ltb-true}
use Rattle.bars.specs.Bars.{stroke, longest_line, bar, bar_at, bar_end, place_at, stayed}
use Rattle.bars.specs.declared.Found.TheVariants.{TooLong, End, Bar}
use Rattle.bars.specs.declared.Found.{Found}
use Rattle.bars.specs.declared.Place.{Place}

-- ---- a bar is what the line begins with

pub bar-short : (l : List ℕ) → length (bar l) ≤ length l
unfolding bar
bar-short [] = omega arith
bar-short (b ∷ l) = turn (eqb b stroke) (bar-short l)
  where
    turn : (t : Bool) → length (bar l) ≤ length l → length (cond t [] (b ∷ bar l)) ≤ suc (length l)
    turn true h = omega arith
    turn false h = omega (arith, h)

pub bar-take : (l : List ℕ) → take (length (bar l)) l ≡ bar l
unfolding bar
bar-take [] = refl
bar-take (b ∷ l) = turn (eqb b stroke) (bar-take l)
  where
    turn : (t : Bool) → take (length (bar l)) l ≡ bar l → take (length (cond t [] (b ∷ bar l))) (b ∷ l) ≡ cond t [] (b ∷ bar l)
    turn true h = refl
    turn false h = ap (λ (x : List ℕ). b ∷ x) h

-- ---- where the bar at a position ends

pub end-within : (line : List ℕ) (p : ℕ) → p ≤ length line → bar_end line p ≤ length line
end-within line p h = omega (arith, h, bar-short (drop p line), length-drop p line)

-- the bar of a line ends at its first `|`, or with the line
pub first_stroke : (l : List ℕ) (r : Option ℕ)
    → MatchOption r (AllWithin (λ b. b ≢ stroke) l 0 (length l))
    (λ i. (i < length l) × HoldsAt (λ b. b ≡ stroke) l i × AllWithin (λ b. b ≢ stroke) l 0 i)
    → length (bar l) ≡ unwrap_or r (length l)
unfolding bar
first_stroke =
    index_from_first (λ l. length (bar l)) (λ b. b ≡ stroke) (λ b. b ≢ stroke) refl
    (λ b l h. ap (λ (t : Bool). length (cond t [] (b ∷ bar l))) (eq-eqb b stroke h))
    (λ b l h. ap (λ (t : Bool). length (cond t [] (b ∷ bar l))) (ne_eqb b stroke h) ∙ sym (add-one (length (bar l))))

-- ---- the way to a place: the line is over its limit, the position is past its end, or here is a bar

abbrev pub bar_place : List ℕ → ℕ → Place
bar_place line p = record { found = Bar; from = p; to = bar_end line p; next = bar_end line p + 1 }

pub data Way (line : List ℕ) (p : ℕ) : Place → Type 0 where
  over : longest_line < length line → Way line p (stayed TooLong p)
  past : length line ≤ longest_line → length line < p → Way line p (stayed End p)
  here : length line ≤ longest_line → p ≤ length line → Way line p (bar_place line p)

pub way : (line : List ℕ) (p : ℕ) → Way line p (place_at line p)
unfolding place_at
way line p = by (ltb longest_line (length line)) (ltb (length line) p) refl refl
  where
    by : (s t : Bool) → ltb longest_line (length line) ≡ s → ltb (length line) p ≡ t
        → Way line p (cond s (stayed TooLong p) (cond t (stayed End p) (bar_place line p)))
    by true t e f = over (ltb-true longest_line (length line) e)
    by false true e f = past (ltb-false longest_line (length line) e) (ltb-true (length line) p f)
    by false false e f = here (ltb-false longest_line (length line) e) (ltb-false (length line) p f)

-- and from each of the three back to it
module _ (line : List ℕ) (p : ℕ) where
  pub place_over : longest_line < length line → place_at line p ≡ stayed TooLong p
  place_over h = by (way line p)
    where
      by : {q : Place} → Way line p q → q ≡ stayed TooLong p
      by (over g) = refl
      by (past g k) = absurd (omega (arith, g, h))
      by (here g k) = absurd (omega (arith, g, h))

  pub place_past : length line ≤ longest_line → length line < p → place_at line p ≡ stayed End p
  place_past h k = by (way line p)
    where
      by : {q : Place} → Way line p q → q ≡ stayed End p
      by (over g) = absurd (omega (arith, g, h))
      by (past g m) = refl
      by (here g m) = absurd (omega (arith, k, m))

  pub place_here : length line ≤ longest_line → p ≤ length line → place_at line p ≡ bar_place line p
  place_here h k = by (way line p)
    where
      by : {q : Place} → Way line p q → q ≡ bar_place line p
      by (over g) = absurd (omega (arith, g, h))
      by (past g m) = absurd (omega (arith, k, m))
      by (here g m) = refl

-- ---- what the three have in common

pub place-within : (line : List ℕ) (p : ℕ) → ((place_at line p).from ≤ (place_at line p).to) × ((place_at line p).to ≤ length line)
place-within line p = by (way line p)
  where
    by : {q : Place} → Way line p q → (q.from ≤ q.to) × (q.to ≤ length line)
    by (over h) = (omega arith, omega arith)
    by (past h k) = (omega arith, omega arith)
    by (here h k) = (omega arith, end-within line p k)

abbrev pub is_bar : Found → Bool
is_bar TooLong = false
is_bar End = false
is_bar Bar = true

pub bar-place : (line : List ℕ) (p : ℕ) → (place_at line p).found ≡ Bar → place_at line p ≡ bar_place line p
bar-place line p = by (way line p)
  where
    by : {q : Place} → Way line p q → q.found ≡ Bar → q ≡ bar_place line p
    by (over h) e = absurd (true≢false (sym (ap is_bar e)))
    by (past h k) e = absurd (true≢false (sym (ap is_bar e)))
    by (here h k) e = refl

-- without a bar the reader stays
pub stays_put : (line : List ℕ) (p : ℕ) → is_bar (place_at line p).found ≡ false → (place_at line p).next ≡ p
stays_put line p = by (way line p)
  where
    by : {q : Place} → Way line p q → is_bar q.found ≡ false → q.next ≡ p
    by (over h) e = refl
    by (past h k) e = refl
    by (here h k) e = absurd (true≢false e)

-- the part of the line from the bar's place to its end is the bar
pub bar_cut : (line : List ℕ) (p : ℕ) (q : Place) → q ≡ place_at line p → q.found ≡ Bar
    → take (q.to - q.from) (drop q.from line) ≡ bar_at line p
bar_cut line p q e f =
    let w : bar_end line p - p ≡ length (bar_at line p) = omega arith in
    ap (λ (x : Place). take (x.to - x.from) (drop x.from line)) (e ∙ bar-place line p (ap (λ (x : Place). x.found) (sym e) ∙ f))
    ∙ ap (λ (n : ℕ). take n (drop p line)) w
    ∙ bar-take (drop p line)
