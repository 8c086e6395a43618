-- Second endings at the C boundary: what `Bar` says of one call, from the spot of its number; the rest as for the functions in Rattle.
-- Assumes nothing.
use mathlib.Core.Bool.{Bool, cond}
use mathlib.Core.List.{List}
use mathlib.Core.Logic.{◌↔◌}
use mathlib.Core.Path.{◌≡◌, refl, sym, ap, subst, ◌∙◌}
use Prim.Native.Nat.{ℕ, ◌-◌, ◌≤◌}
use lib.Dec.{eqb}
use lib.ListN.{drop, length, take}
use borrow.Author.Tests.{eq-eqb, ne_eqb}
use Rattle.bars.proofs.Laws.{place_here}
use Rattle.bars.specs.Bars.{bar_at, bar_end}
use Rattle.endings.proofs.Starts.{bar_at-start, end_at_start, start-within}
use Rattle.endings.specs.Endings.{bar_count, number_of, spot_of}
use Rattle.endings.specs.State.{line_of}
use Rattle.endings.specs.declared.Answer.TheVariants.{TooLong, NoBar, Body, Ending}
use Rattle.endings.specs.declared.Answer.{Answer}
use Rattle.endings.specs.declared.Spot.{Spot}
use Rattle.nophtris.specs.Boundary.{line_number}
use Rattle.theorems.proofs.CSongs as songs
use Rattle.theorems.proofs.CSongs.{c_reads_at}
use Rattle.theorems.proofs.Endings.{cut_bar, each_once_lem, has_bar, in_order, located, no_bar, some-from, spot_by_number_lem, spot-gives, starts_at}
use Rattle.theorems.proofs.Songs.{Any}
use Rattle.theorems.proofs.Walks.{nth-call}
use Rattle.theorems.specs.CEndings.{Asked, BarByNumber, BarIsStep, BarUntouched, BarsInOrder, Call, EachOnce, Gives, cut_by, line_at}
use Rattle.theorems.specs.CSong as song
use Rattle.theorems.specs.Endings.{ByNumber, Nth, both_bars, cut_at, in_line}
use Rattle.theorems.specs.Song.{Run}

-- ---- an answer, from its number and its line

abbrev answer_by : ℕ → ℕ → Answer
answer_by n w = cond (eqb n 8) TooLong (cond (eqb n 9) NoBar (cond (eqb w 0) Body Ending))

answer-is : (a : Answer) → answer_by (number_of a) (line_number a) ≡ a
answer-is TooLong = refl
answer-is NoBar = refl
answer-is Body = refl
answer-is Ending = refl

answer_told : (a : Answer) {n w : ℕ} → number_of a ≡ n → line_number a ≡ w → a ≡ answer_by n w
answer_told a e f = sym (answer-is a) ∙ (λ t. answer_by (e t) (f t))

-- the line that a number names is the line of the answer
line-at : {X : Type 0} (a : Answer) (x y : X) → line_at (line_number a) x y ≡ line_of a x y
line-at TooLong x y = refl
line-at NoBar x y = refl
line-at Body x y = refl
line-at Ending x y = refl

module _ (body ending : List ℕ) (k : ℕ) (c : Call) (d : Asked body ending k c) where
  abbrev spot : Spot
  spot = spot_of body ending k

  -- with 0 the spot is written
  module _ (z : c.r ≡ 0) where
    pub zero_number : number_of spot.answer ≡ 0
    zero_number = sym d.number ∙ z

    written : (new old : ℕ) → cond (eqb (number_of spot.answer) 0) new old ≡ new
    written new old = ap (λ (t : Bool). cond t new old) (eq-eqb (number_of spot.answer) 0 zero_number)

    pub line-is : c.w' ≡ line_number spot.answer
    line-is = d.line ∙ written _ _

    pub from_is : c.f' ≡ spot.from
    from_is = d.from ∙ written _ _

    pub size_is : c.l' ≡ spot.to - spot.from
    size_is = d.size ∙ written _ _

    -- what is said of the line that w' names
    pub line_of_lem : {X : Type 0} (x y : X) → line_at c.w' x y ≡ line_of spot.answer x y
    line_of_lem x y = ap (λ (w : ℕ). line_at w x y) line-is ∙ line-at spot.answer x y

    pub cut_is : cut_by body ending c ≡ cut_at body ending spot
    cut_is = λ t. take (size_is t) (drop (from_is t) (line_of_lem body ending t))

  -- with any other number nothing is
  pub kept : (c.r ≡ 0 → ⊥) → (c.w' ≡ c.w) × (c.f' ≡ c.f) × (c.l' ≡ c.l)
  kept z =
      let n = ne_eqb (number_of spot.answer) 0 (λ e. z (d.number ∙ e)) in
      let same : (new old : ℕ) → cond (eqb (number_of spot.answer) 0) new old ≡ old =
      λ new old. ap (λ (t : Bool). cond t new old) n in
      (d.line ∙ same _ _, d.from ∙ same _ _, d.size ∙ same _ _)

-- ---- one number

renumbered : {body ending : List ℕ} {k : ℕ} {E N B G E' N' B' G' : Type 0} → ByNumber body ending k E N B G
    → E' ↔ E → N' ↔ N → B' ↔ B → G' ↔ G → ByNumber body ending k E' N' B' G'
renumbered m e n b g =
    record {
      eight = (λ x. m.eight.0 (e.0 x), λ x. e.1 (m.eight.1 x));
      nine = (λ x. m.nine.0 (n.0 x), λ x. n.1 (m.nine.1 x));
      in_body = (λ x. m.in_body.0 (b.0 x), λ x. b.1 (m.in_body.1 x));
      in_ending = (λ x. m.in_ending.0 (g.0 x), λ x. g.1 (m.in_ending.1 x));
    }

pub c_bar_by_number_lem : BarByNumber
c_bar_by_number_lem body ending k c d =
    let a = (spot_of body ending k).answer in
    let line = line-is body ending k c d in
    renumbered (spot_by_number_lem body ending k (spot_of body ending k) refl)
    (λ x. answer_told a (sym d.number ∙ x) refl, λ e. d.number ∙ ap number_of e)
    (λ x. answer_told a (sym d.number ∙ x) refl, λ e. d.number ∙ ap number_of e) (
      λ x. answer_told a (sym d.number ∙ x.0) (sym (line x.0) ∙ x.1),
      λ e. let z = d.number ∙ ap number_of e in (z, line z ∙ ap line_number e),
    ) (
      λ x. answer_told a (sym d.number ∙ x.0) (sym (line x.0) ∙ x.1),
      λ e. let z = d.number ∙ ap number_of e in (z, line z ∙ ap line_number e),
    )

pub c_bar_untouched_lem : BarUntouched
c_bar_untouched_lem = kept

pub c_each_once_lem : EachOnce
c_each_once_lem body ending j k c d p q y z w f =
    let a = (spot_of body ending j).answer in
    let m = zero_number body ending j c p y in
    let n = zero_number body ending k d q z in
    let line = sym (line-is body ending k d q z) ∙ w ∙ line-is body ending j c p y in
    let same : (spot_of body ending k).answer ≡ a = answer_told (spot_of body ending k).answer (n ∙ sym m) line ∙ answer-is a in
    each_once_lem body ending j k (spot_of body ending j) (spot_of body ending k) refl refl m same
    (sym (from_is body ending k d q z) ∙ f ∙ from_is body ending j c p y)

-- ---- the numbers 0, 1, 2 and so on

pub c_bars_in_order_lem : BarsInOrder
c_bars_in_order_lem body ending cs h run =
    in_order (Asked body ending) (Gives body ending) (λ (c : Call). c.r ≡ 9) (both_bars body ending)
    (λ k c d g.
    let b = spot-gives body ending k (spot_of body ending k) refl h g in
    let z = d.number ∙ (has_bar body ending k (spot_of body ending k) refl h g).zero_number in (
      b.0,
      (
        z,
        line-is body ending k c d z ∙ ap line_number b.1.0,
        cut_is body ending k c d z ∙ b.1.1,
      ),
    ))
    (λ k c d g. d.number ∙ ap number_of (no_bar body ending k (spot_of body ending k) refl h g)) run

-- ---- the steps of [1] on the line of a bar

pub c_bar_is_step_lem : BarIsStep
c_bar_is_step_lem body ending k c a z ds run d n =
    let s = spot_of body ending k in
    let l = line_of s.answer body ending in
    let i = in_line body s.answer k in
    let m = located body ending k s refl (zero_number body ending k c a z) in
    let line = line_of_lem body ending k c a z body ending in
    let run² = subst (λ (x : List ℕ). Run (song.Calls x) 0 ds) line run in
    let n² = subst (λ (x : ℕ). Nth x d ds) (line_of_lem body ending k c a z k (k - bar_count body)) n in
    let r = nth-call (song.Calls l) Any l (λ (q : ℕ). q) (song.CallReads l) (c_reads_at l m.short) tt run² i d n²
    (some-from l i m.has) in
    let at = starts_at l i r.0 r.4 in
    let inside : r.0 ≤ length l = subst (λ (q : ℕ). q ≤ length l) (sym at) (start-within l i m.has) in
    let p = place_here l r.0 m.short inside in
    let from : r.0 ≡ s.from = at ∙ sym m.from in
    let to : bar_end l r.0 ≡ s.to = ap (bar_end l) at ∙ end_at_start l i m.has ∙ sym m.to in
    let bytes = ap (bar_at l) at ∙ bar_at-start l i m.has ∙ sym (cut_bar body ending k s m) ∙ sym (cut_is body ending k c a z) in (
      songs.starts l r.0 r.1 d r.3 p ∙ from ∙ sym (from_is body ending k c a z),
      songs.spans l r.0 r.1 d r.3 p ∙ (λ t. to t - from t) ∙ sym (size_is body ending k c a z),
      subst (λ (x : List ℕ × List ℕ). song.CallReads x.0 x.1 d) (λ t. (sym line t, bytes t))
          (c_reads_at l m.short r.0 r.1 d tt r.3 inside).0,
    )
