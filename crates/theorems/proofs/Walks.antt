-- Calls one after the other, whatever makes them: by induction on the calls, with the line's next bar at each.
-- Assumes nothing.
use mathlib.Core.Bool.{Bool, true, false, cond}
use mathlib.Core.List.{List, [], ◌∷◌, map}
use mathlib.Core.Path.{◌≡◌, refl, sym, ap, subst, ◌∙◌}
use Prim.Native.Nat.{ℕ, zero, suc, ◌+◌, ◌≤◌, ◌<◌, zero-le}
use native.Mathlib.Omega.{arith}
use lib.Dec.{eqb, ltb}
use lib.ListN.{drop, length, length-drop, take}
use lib.Seq.{drop-drop}
use borrow.Author.Tests.{eqb-true, le-ltb, lt-ltb, ltb-false, ltb-true}
use Rattle.bars.proofs.Splits.{bar-count, some-bar, split_here, split-last}
use Rattle.bars.specs.Bars.{bar_at, bar_end, bars_of, onto, stroke, strokes}
use Rattle.endings.specs.Endings.{spans}
use Rattle.parser.specs.All.{All}
use Rattle.theorems.specs.Endings.{Nth}
use Rattle.theorems.specs.Song.{Answers, BarsSplit, Run, bars_from, call, done, joined}

-- ---- the bars of a line: by its bytes

-- a byte in front of the first bar is in front of them all
joined-onto : (b : ℕ) (bs : List (List ℕ)) → joined (onto b bs) ≡ b ∷ joined bs
joined-onto b [] = refl
joined-onto b (x ∷ bs) = refl

-- an empty bar in front of others is a `|`
joined-empty : (bs : List (List ℕ)) → 0 < length bs → joined ([] ∷ bs) ≡ stroke ∷ joined bs
joined-empty [] h = absurd (omega (arith, h))
joined-empty (x ∷ bs) h = refl

joined_bars : (l : List ℕ) → joined (bars_of l) ≡ l
unfolding bars_of
joined_bars [] = refl
joined_bars (b ∷ l) = turn (eqb b stroke) refl (joined_bars l)
  where
    turn : (t : Bool) → eqb b stroke ≡ t → joined (bars_of l) ≡ l → joined (cond t ([] ∷ bars_of l) (onto b (bars_of l))) ≡ b ∷ l
    turn true e h =
        joined-empty (bars_of l) (some-bar l)
        ∙ ap (λ (x : List ℕ). stroke ∷ x) h
        ∙ ap (λ (x : ℕ). x ∷ l) (sym (eqb-true b stroke e))
    turn false e h = joined-onto b (bars_of l) ∙ ap (λ (x : List ℕ). b ∷ x) h

abbrev Clean : List ℕ → Type 0
Clean b = strokes b ≡ 0

clean-onto : (b : ℕ) (bs : List (List ℕ)) → eqb b stroke ≡ false → All Clean bs → All Clean (onto b bs)
unfolding strokes
clean-onto b [] e h = (ap (λ (t : Bool). cond t (suc 0) 0) e, tt)
clean-onto b (x ∷ bs) e h = (ap (λ (t : Bool). cond t (suc (strokes x)) (strokes x)) e ∙ h.0, h.1)

clean_bars : (l : List ℕ) → All Clean (bars_of l)
unfolding bars_of strokes
clean_bars [] = (refl, tt)
clean_bars (b ∷ l) = turn (eqb b stroke) refl (clean_bars l)
  where
    turn : (t : Bool) → eqb b stroke ≡ t → All Clean (bars_of l) → All Clean (cond t ([] ∷ bars_of l) (onto b (bars_of l)))
    turn true e h = (refl, h)
    turn false e h = clean-onto b (bars_of l) e h

pub bars_split_lem : BarsSplit
bars_split_lem line = record { joins = joined_bars line; clean = clean_bars line; count = bar-count line }

-- ---- the bars from a position on: above the length none, else the bar there and those from one past it

module _ (line : List ℕ) where
  from_past : (p : ℕ) → length line < p → bars_from line p ≡ []
  unfolding bars_from
  from_past p h = ap (λ (t : Bool). cond t [] (bars_of (drop p line))) (lt-ltb (length line) p h)

  from-within : (p : ℕ) → p ≤ length line → bars_from line p ≡ bars_of (drop p line)
  unfolding bars_from
  from-within p h = ap (λ (t : Bool). cond t [] (bars_of (drop p line))) (le-ltb (length line) p h)

  pub from_start : bars_from line 0 ≡ bars_of line
  from_start = from-within 0 zero-le

  from_here : (p : ℕ) → p ≤ length line → bars_from line p ≡ bar_at line p ∷ bars_from line (bar_end line p + 1)
  from_here p h = from-within p h ∙ turn (ltb (length (bar_at line p)) (length (drop p line))) refl
    where
      turn : (t : Bool) → ltb (length (bar_at line p)) (length (drop p line)) ≡ t
          → bars_of (drop p line) ≡ bar_at line p ∷ bars_from line (bar_end line p + 1)
      turn true e =
          let g = ltb-true (length (bar_at line p)) (length (drop p line)) e in
          let m : p + suc (length (bar_at line p)) ≡ bar_end line p + 1 = omega arith in
          let d : drop (suc (length (bar_at line p))) (drop p line) ≡ drop (bar_end line p + 1) line =
          drop-drop (suc (length (bar_at line p))) p line ∙ ap (λ (j : ℕ). drop j line) m in
          split_here (drop p line) g
          ∙ ap (λ (l : List ℕ). bar_at line p ∷ bars_of l) d
          ∙ ap (λ (bs : List (List ℕ)). bar_at line p ∷ bs) (sym (from-within (bar_end line p + 1) (omega (arith, g, length-drop p line))))
      turn false e =
          let g = ltb-false (length (bar_at line p)) (length (drop p line)) e in
          split-last (drop p line) g
          ∙ ap (λ (bs : List (List ℕ)). bar_at line p ∷ bs) (sym (from_past (bar_end line p + 1) (omega (arith, g, h, length-drop p line))))

-- ---- the bytes that bars take up

nothing-spans : (bs : List (List ℕ)) → spans (take 0 bs) ≡ 0
unfolding spans
nothing-spans bs = refl

more-spans : (b : List ℕ) (k : ℕ) (bs : List (List ℕ)) → spans (take (suc k) (b ∷ bs)) ≡ length b + 1 + spans (take k bs)
unfolding spans
more-spans b k bs = omega arith

-- ---- calls: `good` is what all states have, and `pos` a state's position

module _ {S C : Type 0} (does : S → C → S → Type 0) (good : S → Type 0) where
  -- what every call says, if each says it and leaves a good state
  pub all_say : (says : C → Type 0) → ((s s' : S) (c : C) → good s → does s c s' → says c × good s')
      → {s : S} {cs : List C} → good s → Run does s cs → All says cs
  all_say says each g done = tt
  all_say says each {s} g (call {s' = s'} c d run) = let h = each s s' c g d in (h.0, all_say says each h.1 run)

  module _ (line : List ℕ) (pos : S → ℕ) (reads : List ℕ → C → Type 0)
      (at-bar : (s s' : S) (c : C) → good s → does s c s' → pos s ≤ length line
      → reads (bar_at line (pos s)) c × good s' × (pos s' ≡ bar_end line (pos s) + 1)) where
    -- the k-th call, where there are so many bars from the state's position on, is made where bar k of these starts
    pub nth-call : {s : S} {cs : List C} → good s → Run does s cs → (k : ℕ) (c : C) → Nth k c cs → k < length (bars_from line (pos s))
        → (t : S) × (t' : S) × good t × does t c t' × (pos t ≡ pos s + spans (take k (bars_from line (pos s))))
    nth-call g done k c e h = absurd e
    nth-call {s} g (call {s' = s'} x d run) zero c e h =
        (s, s', g, subst (λ (y : C). does s y s') (sym e) d, omega (arith, nothing-spans (bars_from line (pos s))))
    nth-call {s} g (call {s' = s'} {cs} x d run) (suc k) c e h = turn (ltb (length line) (pos s)) refl (λ f. nth-call f run k c e)
      where
        turn : (t : Bool) → ltb (length line) (pos s) ≡ t
            → (good s' → k < length (bars_from line (pos s'))
            → (t : S) × (t' : S) × good t × does t c t' × (pos t ≡ pos s' + spans (take k (bars_from line (pos s')))))
            → (t : S) × (t' : S) × good t × does t c t' × (pos t ≡ pos s + spans (take (suc k) (bars_from line (pos s))))
        turn true f go = absurd (omega (arith, h, ap length (from_past line (pos s) (ltb-true (length line) (pos s) f))))
        turn false f go =
            let m = at-bar s s' x g d (ltb-false (length line) (pos s) f) in
            let b : bars_from line (pos s) ≡ bar_at line (pos s) ∷ bars_from line (pos s') =
            from_here line (pos s) (ltb-false (length line) (pos s) f)
            ∙ ap (λ (n : ℕ). bar_at line (pos s) ∷ bars_from line n) (sym m.2) in
            let r = go m.1 (omega (arith, h, ap length b)) in
            let w = ap (λ (bs : List (List ℕ)). spans (take (suc k) bs)) b ∙ more-spans (bar_at line (pos s)) k (bars_from line (pos s')) in
            (r.0, r.1, r.2, r.3, omega (arith, r.4, m.2, w))

    module _ (ends : C → Type 0)
        (at-end : (s s' : S) (c : C) → good s → does s c s' → length line < pos s → ends c × good s' × (pos s' ≡ pos s)) where
      -- the calls read the bars from the state's position on, and then say end
      pub answers : {s : S} {cs : List C} → good s → Run does s cs → Answers reads ends cs (bars_from line (pos s))
      answers g done = tt
      answers {s} g (call {s' = s'} {cs} c d run) = turn (ltb (length line) (pos s)) refl (λ h. answers h run)
        where
          turn : (t : Bool) → ltb (length line) (pos s) ≡ t → (good s' → Answers reads ends cs (bars_from line (pos s')))
              → Answers reads ends (c ∷ cs) (bars_from line (pos s))
          turn true e go =
              let k = ltb-true (length line) (pos s) e in
              let h = at-end s s' c g d k in
              let rest : bars_from line (pos s') ≡ [] = from_past line (pos s') (subst (λ (n : ℕ). length line < n) (sym h.2) k) in
              subst (Answers reads ends (c ∷ cs)) (sym (from_past line (pos s) k)) (h.0, subst (Answers reads ends cs) rest (go h.1))
          turn false e go =
              let k = ltb-false (length line) (pos s) e in
              let h = at-bar s s' c g d k in
              subst (Answers reads ends (c ∷ cs)) (sym (from_here line (pos s) k))
              (h.0, subst (λ (n : ℕ). Answers reads ends cs (bars_from line n)) h.2 (go h.1))

-- as many calls as bars hand out the bars
module _ {C : Type 0} (cut : C → List ℕ) (reads : List ℕ → C → Type 0) (ends : C → Type 0)
    (bytes : (b : List ℕ) (c : C) → reads b c → cut c ≡ b) where
  handed : (cs : List C) (bs : List (List ℕ)) → length cs ≡ length bs → Answers reads ends cs bs → map cut cs ≡ bs
  handed [] [] n h = refl
  handed [] (b ∷ bs) n h = absurd (omega (arith, n))
  handed (c ∷ cs) [] n h = absurd (omega (arith, n))
  handed (c ∷ cs) (b ∷ bs) n h =
      ap (λ (x : List ℕ). x ∷ map cut cs) (bytes b c h.0) ∙ ap (λ (xs : List (List ℕ)). b ∷ xs) (handed cs bs (omega (arith, n)) h.1)

  pub handed_line : (line : List ℕ) (cs : List C) → length cs ≡ length (bars_of line) → Answers reads ends cs (bars_of line)
      → joined (map cut cs) ≡ line
  handed_line line cs n h = ap joined (handed cs (bars_of line) n h) ∙ joined_bars line
