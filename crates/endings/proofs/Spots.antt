-- Where the bar of a number lies: from the start that was found in each line to the spot of the definition, and that it fits its line.
-- Assumes nothing.
use mathlib.Core.Bool.{Bool, true, false}
use mathlib.Core.List.{List}
use mathlib.Core.Path.{◌≡◌, refl, sym, ap, subst, ◌∙◌}
use Prim.Native.Nat.{ℕ, ◌+◌, ◌-◌, ◌≤◌, ◌<◌}
use native.Mathlib.Omega.{arith}
use lib.Dec.{ltb}
use lib.ListN.{length}
use borrow.Author.Tests.{lt-ltb, le-ltb, ltb-true, ltb-false}
use Rattle.bars.proofs.Laws.{end-within}
use Rattle.bars.specs.Bars.{longest_line}
use Rattle.endings.proofs.Starts.{end_at_start, start-within}
use Rattle.endings.specs.Endings.{bar_count, bar_of, nowhere, spot_in, spot_of, start_of}
use Rattle.endings.specs.State.{Fits, spot_from, StartIn}
use Rattle.endings.specs.declared.Answer.TheVariants.{TooLong, NoBar, Body, Ending}
use Rattle.endings.specs.declared.Answer.{Answer}
use Rattle.endings.specs.declared.Spot.{Spot}
use Rattle.std.specs.declared.result.Result.TheVariants.{Ok, Err}

-- from its start the bar runs to its end
spot-from : (l : List ℕ) (k : ℕ) → k < bar_count l → (a : Answer) (s : ℕ) → s ≡ start_of l k → spot_from a l s ≡ spot_in a l k
spot-from l k h a s e = ap (spot_from a l) e ∙ ap (λ (n : ℕ). record { answer = a; from = start_of l k; to = n }) (end_at_start l k h)

pub found_within : (l : List ℕ) (k s : ℕ) → StartIn l k (Ok s) → s ≤ length l
found_within l k s e = omega (arith, e.1, start-within l k e.0)

-- ---- the five cases of a spot

module _ (body ending : List ℕ) (k : ℕ) where
  pub spot_body_over : longest_line < length body → spot_of body ending k ≡ nowhere TooLong
  unfolding spot_of
  spot_body_over h = simp (lt-ltb _ _ h)

  module _ (hb : length body ≤ longest_line) where
    pub spot_ending_over : longest_line < length ending → spot_of body ending k ≡ nowhere TooLong
    unfolding spot_of
    spot_ending_over h = simp (le-ltb _ _ hb, lt-ltb _ _ h)

    module _ (he : length ending ≤ longest_line) where
      spot-in_body : k < bar_count body → spot_of body ending k ≡ spot_in Body body k
      unfolding spot_of
      spot-in_body h = simp (le-ltb _ _ hb, le-ltb _ _ he, lt-ltb _ _ h)

      spot-in_ending : bar_count body ≤ k → k < bar_count body + bar_count ending
          → spot_of body ending k ≡ spot_in Ending ending (k - bar_count body)
      unfolding spot_of
      spot-in_ending h g = simp (le-ltb _ _ hb, le-ltb _ _ he, le-ltb _ _ h, lt-ltb _ _ g)

      spot-none : bar_count body + bar_count ending ≤ k → spot_of body ending k ≡ nowhere NoBar
      unfolding spot_of
      spot-none g =
          let h : bar_count body ≤ k = omega (arith, g) in
          simp (le-ltb _ _ hb, le-ltb _ _ he, le-ltb _ _ h, le-ltb _ _ g)

      -- from the starts that were found
      pub found_body : (s : ℕ) → StartIn body k (Ok s) → spot_from Body body s ≡ spot_of body ending k
      found_body s e = spot-from body k e.0 Body s e.1 ∙ sym (spot-in_body e.0)

      pub found_ending : (m s : ℕ) → StartIn body k (Err m) → StartIn ending m (Ok s) → spot_from Ending ending s ≡ spot_of body ending k
      found_ending m s e f =
          let n : m ≡ k - bar_count body = omega (arith, e) in
          spot-from ending m f.0 Ending s f.1 ∙ ap (spot_in Ending ending) n
          ∙ sym (spot-in_ending (omega (arith, e)) (omega (arith, e, f.0)))

      pub found_none : (m n : ℕ) → StartIn body k (Err m) → StartIn ending m (Err n) → nowhere NoBar ≡ spot_of body ending k
      found_none m n e f = sym (spot-none (omega (arith, e, f)))

-- ---- and back, the way to a spot: a line is over its limit, the bar lies in the body or in the ending, or there is none

pub data Way (body ending : List ℕ) (k : ℕ) : Spot → Type 0 where
  body_over : longest_line < length body → Way body ending k (nowhere TooLong)
  ending_over : length body ≤ longest_line → longest_line < length ending → Way body ending k (nowhere TooLong)
  in_body_lem : length body ≤ longest_line → length ending ≤ longest_line → k < bar_count body → Way body ending k (spot_in Body body k)
  in_ending_lem : length body ≤ longest_line → length ending ≤ longest_line → bar_count body ≤ k → k < bar_count body + bar_count ending
      → Way body ending k (spot_in Ending ending (k - bar_count body))
  none : length body ≤ longest_line → length ending ≤ longest_line → bar_count body + bar_count ending ≤ k → Way body ending k (nowhere NoBar)

pub way : (body ending : List ℕ) (k : ℕ) → Way body ending k (spot_of body ending k)
way body ending k =
    by (ltb longest_line (length body)) (ltb longest_line (length ending)) (ltb k (bar_count body)) (ltb k (bar_count body + bar_count ending))
    refl refl refl refl
  where
    is : {s : Spot} → spot_of body ending k ≡ s → Way body ending k s → Way body ending k (spot_of body ending k)
    is e w = subst (Way body ending k) (sym e) w

    by : (s t u v : Bool) → ltb longest_line (length body) ≡ s → ltb longest_line (length ending) ≡ t → ltb k (bar_count body) ≡ u
        → ltb k (bar_count body + bar_count ending) ≡ v → Way body ending k (spot_of body ending k)
    by true t u v e f g h = let b = ltb-true longest_line (length body) e in is (spot_body_over body ending k b) (body_over b)
    by false true u v e f g h =
        let b = ltb-false longest_line (length body) e in
        let o = ltb-true longest_line (length ending) f in
        is (spot_ending_over body ending k b o) (ending_over b o)
    by false false true v e f g h =
        let b = ltb-false longest_line (length body) e in
        let o = ltb-false longest_line (length ending) f in
        let i = ltb-true k (bar_count body) g in
        is (spot-in_body body ending k b o i) (in_body_lem b o i)
    by false false false true e f g h =
        let b = ltb-false longest_line (length body) e in
        let o = ltb-false longest_line (length ending) f in
        let i = ltb-false k (bar_count body) g in
        let j = ltb-true k (bar_count body + bar_count ending) h in
        is (spot-in_ending body ending k b o i j) (in_ending_lem b o i j)
    by false false false false e f g h =
        let b = ltb-false longest_line (length body) e in
        let o = ltb-false longest_line (length ending) f in
        let i = ltb-false k (bar_count body + bar_count ending) h in
        is (spot-none body ending k b o i) (none b o i)

-- ---- a spot lies in its line

nowhere_fits : (a : Answer) (body ending : List ℕ) → Fits (nowhere a) body ending
nowhere_fits a body ending = record { ordered = omega arith; within = omega arith }

bar-within : (l : List ℕ) (k : ℕ) → k < bar_count l → start_of l k + length (bar_of l k) ≤ length l
bar-within l k h = omega (arith, end_at_start l k h, end-within l (start_of l k) (start-within l k h))

pub spot_fits : (body ending : List ℕ) (k : ℕ) → Fits (spot_of body ending k) body ending
spot_fits body ending k = by (way body ending k)
  where
    by : {s : Spot} → Way body ending k s → Fits s body ending
    by (body_over h) = nowhere_fits TooLong body ending
    by (ending_over h g) = nowhere_fits TooLong body ending
    by (in_body_lem h g i) = record { ordered = omega arith; within = bar-within body k i }
    by (in_ending_lem h g i j) = record { ordered = omega arith; within = bar-within ending (k - bar_count body) (omega (arith, i, j)) }
    by (none h g i) = nowhere_fits NoBar body ending

pub spot-ordered : {s : Spot} (body ending : List ℕ) (k : ℕ) → s ≡ spot_of body ending k → s.from ≤ s.to
spot-ordered body ending k e = subst (λ (x : Spot). x.from ≤ x.to) (sym e) (spot_fits body ending k).ordered

-- what `spot_of` asks for
pub ruleset found = (found_body, found_ending, found_none, found_within)
