-- Where the bars of a line start: by the line's first byte, which is a `|` or stands in front of the first bar.
-- Assumes nothing.
use mathlib.Core.Bool.{Bool, true, false, cond}
use mathlib.Core.List.{List, [], ◌∷◌}
use mathlib.Core.Path.{◌≡◌, refl, sym, ap, ◌∙◌}
use Prim.Native.Nat.{ℕ, zero, suc, ◌+◌, ◌-◌, ◌≤◌, ◌<◌}
use native.Mathlib.Numerals.{add-one}
use native.Mathlib.Omega.{arith}
use lib.Dec.{eqb, ltb}
use lib.ListN.{length, get_or, take, drop, drop_of_length-le}
use lib.Seq.{drop-cons}
use borrow.Author.Tests.{eq-eqb, ltb-false, ltb-true, ne_eqb}
use Rattle.bars.proofs.Laws.{bar-take}
use Rattle.bars.proofs.Splits.{length-onto, some-bar}
use Rattle.bars.specs.Bars.{stroke, onto, bars_of, bar, bar_at, bar_end}
use Rattle.endings.specs.Endings.{spans, bar_count, bar_of, start_of}

-- ---- a byte in front of the first bar

spans-onto : (b k : ℕ) (bs : List (List ℕ)) → 0 < length bs → spans (take (suc k) (onto b bs)) ≡ suc (spans (take (suc k) bs))
unfolding spans
spans-onto b k [] h = absurd (omega (arith, h))
spans-onto b k (x ∷ xs) h = omega arith

first_onto : (b : ℕ) (bs : List (List ℕ)) → 0 < length bs → get_or (onto b bs) 0 [] ≡ b ∷ get_or bs 0 []
first_onto b [] h = absurd (omega (arith, h))
first_onto b (x ∷ xs) h = refl

later-onto : (b k : ℕ) (bs : List (List ℕ)) → 0 < length bs → get_or (onto b bs) (suc k) [] ≡ get_or bs (suc k) []
later-onto b k [] h = absurd (omega (arith, h))
later-onto b k (x ∷ xs) h = refl

-- ---- the count of bars, and where one starts, behind the line's first byte

module _ (b : ℕ) (l : List ℕ) where
  bars_stroke : b ≡ stroke → bars_of (b ∷ l) ≡ [] ∷ bars_of l
  unfolding bars_of
  bars_stroke e = ap (λ (t : Bool). cond t ([] ∷ bars_of l) (onto b (bars_of l))) (eq-eqb b stroke e)

  bars_other : (b ≡ stroke → ⊥) → bars_of (b ∷ l) ≡ onto b (bars_of l)
  unfolding bars_of
  bars_other e = ap (λ (t : Bool). cond t ([] ∷ bars_of l) (onto b (bars_of l))) (ne_eqb b stroke e)

  start-stroke : (k : ℕ) → b ≡ stroke → start_of (b ∷ l) (suc k) ≡ suc (start_of l k)
  unfolding spans
  start-stroke k e = ap (λ (bs : List (List ℕ)). spans (take (suc k) bs)) (bars_stroke e) ∙ omega arith

  start_other : (k : ℕ) → (b ≡ stroke → ⊥) → start_of (b ∷ l) (suc k) ≡ suc (start_of l (suc k))
  start_other k e = ap (λ (bs : List (List ℕ)). spans (take (suc k) bs)) (bars_other e) ∙ spans-onto b k (bars_of l) (some-bar l)

-- what is known at a place i of a line from which `left` bars are still to be passed: what is left of the line has as many bars fewer as
-- were passed, and the bar looked for starts where its bar `left` does
pub record Passing (line : List ℕ) (number i left : ℕ) : Type 0 where
  pub within : i ≤ length line
  pub counts : bar_count line + left ≡ number + bar_count (drop i line)
  pub starts : start_of line number ≡ i + start_of (drop i line) left

pub passing_first : (line : List ℕ) (number : ℕ) → Passing line number 0 number
passing_first line number = record { within = omega arith; counts = omega arith; starts = omega arith }

module _ (line : List ℕ) (number i left : ℕ) (some : 0 < left) (inside : i < length line) (p : Passing line number i left) where
  abbrev rest : List ℕ
  rest = drop (i + 1) line

  opened : drop i line ≡ get_or line i 0 ∷ rest
  opened = drop-cons line i 0 inside ∙ ap (λ (k : ℕ). get_or line i 0 ∷ drop k line) (sym (add-one i))

  pub passing_stroke : get_or line i 0 ≡ stroke → Passing line number (i + 1) (left - 1)
  passing_stroke e =
      let n : suc (left - 1) ≡ left = omega (arith, some) in
      let counts : bar_count (drop i line) ≡ suc (bar_count rest) = ap bar_count opened ∙ ap length (bars_stroke (get_or line i 0) rest e) in
      let starts : start_of (drop i line) left ≡ suc (start_of rest (left - 1)) =
      ap (start_of (drop i line)) (sym n)
      ∙ ap (λ (l : List ℕ). start_of l (suc (left - 1))) opened
      ∙ start-stroke (get_or line i 0) rest (left - 1) e in
      record {
        within = omega (arith, inside);
        counts = omega (arith, p.counts, counts, some);
        starts = omega (arith, p.starts, starts);
      }

  pub passing_other : (get_or line i 0 ≡ stroke → ⊥) → Passing line number (i + 1) left
  passing_other e =
      let n : suc (left - 1) ≡ left = omega (arith, some) in
      let counts : bar_count (drop i line) ≡ bar_count rest =
      ap bar_count opened
      ∙ ap length (bars_other (get_or line i 0) rest e)
      ∙ length-onto (get_or line i 0) (bars_of rest) (some-bar rest) in
      let starts : start_of (drop i line) left ≡ suc (start_of rest left) =
      ap (start_of (drop i line)) (sym n)
      ∙ ap (λ (l : List ℕ). start_of l (suc (left - 1))) opened
      ∙ start_other (get_or line i 0) rest (left - 1) e
      ∙ ap (λ (k : ℕ). suc (start_of rest k)) n in
      record {
        within = omega (arith, inside);
        counts = omega (arith, p.counts, counts);
        starts = omega (arith, p.starts, starts);
      }

-- no bar is left to be passed
pub passed_to : (line : List ℕ) (number i left : ℕ) → left ≡ 0 → Passing line number i left
    → (number < bar_count line) × (i ≡ start_of line number)
unfolding spans
passed_to line number i left z p =
    let s : start_of (drop i line) left ≡ 0 = ap (start_of (drop i line)) z in
    (omega (arith, p.counts, z, some-bar (drop i line)), omega (arith, p.starts, s))

-- the line ends, and with it the last bar
pub passed_all : (line : List ℕ) (number i left : ℕ) → 0 < left → length line ≤ i → Passing line number i left
    → bar_count line + (left - 1) ≡ number
unfolding bars_of
passed_all line number i left some past p =
    let n : bar_count (drop i line) ≡ 1 = ap bar_count (drop_of_length-le line past) in
    omega (arith, p.counts, n, some)

-- ---- where a bar starts, that bar stands

-- what is said of bar k of a line, whose bars are bs
record Stands (l : List ℕ) (bs : List (List ℕ)) (k : ℕ) : Type 0 where
  starts : spans (take k bs) ≤ length l
  is : bar (drop (spans (take k bs)) l) ≡ get_or bs k []

stands_stroke : (b : ℕ) (l : List ℕ) → bar (b ∷ l) ≡ [] → ((k : ℕ) → k < bar_count l → Stands l (bars_of l) k)
    → (k : ℕ) → k < suc (bar_count l) → Stands (b ∷ l) ([] ∷ bars_of l) k
unfolding spans
stands_stroke b l e ih zero h = record { starts = omega arith; is = e }
stands_stroke b l e ih (suc k) h =
    let a = ih k (omega (arith, h)) in
    let s : spans (take (suc k) ([] ∷ bars_of l)) ≡ suc (spans (take k (bars_of l))) = omega arith in
    record { starts = omega (arith, a.starts, s); is = ap (λ (n : ℕ). bar (drop n (b ∷ l))) s ∙ a.is }

stands_other : (b : ℕ) (l : List ℕ) → bar (b ∷ l) ≡ b ∷ bar l → ((k : ℕ) → k < bar_count l → Stands l (bars_of l) k)
    → (k : ℕ) → k < length (onto b (bars_of l)) → Stands (b ∷ l) (onto b (bars_of l)) k
unfolding spans
stands_other b l e ih zero h =
    let a = ih 0 (some-bar l) in
    record { starts = omega arith; is = e ∙ ap (λ (x : List ℕ). b ∷ x) a.is ∙ sym (first_onto b (bars_of l) (some-bar l)) }
stands_other b l e ih (suc k) h =
    let a = ih (suc k) (omega (arith, h, length-onto b (bars_of l) (some-bar l))) in
    let s = spans-onto b k (bars_of l) (some-bar l) in
    record {
      starts = omega (arith, a.starts, s);
      is = ap (λ (n : ℕ). bar (drop n (b ∷ l))) s ∙ a.is ∙ sym (later-onto b k (bars_of l) (some-bar l));
    }

stands : (l : List ℕ) (k : ℕ) → k < bar_count l → Stands l (bars_of l) k
unfolding bar bars_of spans
stands [] zero h = record { starts = omega arith; is = refl }
stands [] (suc k) h = absurd (omega (arith, h))
stands (b ∷ l) k h = turn (eqb b stroke) refl (stands l) h
  where
    turn : (t : Bool) → bar (b ∷ l) ≡ cond t [] (b ∷ bar l) → ((j : ℕ) → j < bar_count l → Stands l (bars_of l) j)
        → k < length (cond t ([] ∷ bars_of l) (onto b (bars_of l))) → Stands (b ∷ l) (cond t ([] ∷ bars_of l) (onto b (bars_of l))) k
    turn true e ih g = stands_stroke b l e ih k g
    turn false e ih g = stands_other b l e ih k g

module _ (l : List ℕ) (k : ℕ) (h : k < bar_count l) where
  pub start-within : start_of l k ≤ length l
  start-within = (stands l k h).starts

  pub bar_at-start : bar_at l (start_of l k) ≡ bar_of l k
  bar_at-start = (stands l k h).is

  pub end_at_start : bar_end l (start_of l k) ≡ start_of l k + length (bar_of l k)
  end_at_start = ap (λ (x : List ℕ). start_of l k + length x) bar_at-start

  -- so many bytes from there on are the bar
  pub bar-bytes : take (length (bar_of l k)) (drop (start_of l k) l) ≡ bar_of l k
  bar-bytes =
      ap (λ (b : List ℕ). take (length b) (drop (start_of l k) l)) (sym bar_at-start)
      ∙ bar-take (drop (start_of l k) l)
      ∙ bar_at-start

-- ---- no two bars start at the same place

grows : (bs : List (List ℕ)) (i j : ℕ) → i < j → j ≤ length bs → spans (take i bs) < spans (take j bs)
unfolding spans
grows [] i j h g = absurd (omega (arith, h, g))
grows (b ∷ bs) i zero h g = absurd (omega (arith, h))
grows (b ∷ bs) zero (suc j) h g = omega arith
grows (b ∷ bs) (suc i) (suc j) h g = omega (arith, grows bs i j (omega (arith, h)) (omega (arith, g)))

pub start_apart : (l : List ℕ) (i j : ℕ) → i < bar_count l → j < bar_count l → start_of l i ≡ start_of l j → i ≡ j
start_apart l i j h g e = by (ltb i j) (ltb j i) refl refl
  where
    by : (s t : Bool) → ltb i j ≡ s → ltb j i ≡ t → i ≡ j
    by true t p q = absurd (omega (arith, e, grows (bars_of l) i j (ltb-true i j p) (omega (arith, g))))
    by false true p q = absurd (omega (arith, e, grows (bars_of l) j i (ltb-true j i q) (omega (arith, h))))
    by false false p q = omega (arith, ltb-false i j p, ltb-false j i q)
