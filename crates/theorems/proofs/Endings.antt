-- Second endings: the spot of a number by the way to it (`way`), then the numbers in order, and the steps on a line by `nth-call`.
-- Assumes nothing.
use mathlib.Core.Bool.{Bool, true, false}
use mathlib.Core.List.{List, [], ◌∷◌, ◌++◌, map}
use mathlib.Core.Logic.{◌⊎◌, inl, inr}
use mathlib.Core.Path.{◌≡◌, refl, sym, ap, subst, ◌∙◌}
use Prim.Native.Nat.{ℕ, suc, ◌+◌, ◌-◌, ◌≤◌, ◌<◌}
use native.Mathlib.Omega.{arith}
use lib.Dec.{ltb}
use lib.ListN.{get_or-append, get_or-map, drop, drop_of_length-le, get_or, length, length-append, length-map, take}
use lib.Seq.{drop-cons, get_or-append-add}
use borrow.Author.Tests.{ltb-false, ltb-true}
use Rattle.bars.proofs.Laws.{place_here}
use Rattle.bars.specs.Bars.{bar_at, bar_end, bars_of, longest_line, place_at}
use Rattle.bars.specs.State.{Line, Part}
use Rattle.bars.specs.declared.Place.{Place}
use Rattle.endings.proofs.Spots.{Way, body_over, ending_over, in_body_lem, in_ending_lem, none, way}
use Rattle.endings.proofs.Starts.{bar_at-start, bar-bytes, end_at_start, start_apart, start-within}
use Rattle.endings.specs.Endings.{bar_count, bar_of, number_of, spans, spot_of, start_of}
use Rattle.endings.specs.State.{NumberedBy, line_of}
use Rattle.endings.specs.declared.Answer.TheVariants.{TooLong, NoBar, Body, Ending}
use Rattle.endings.specs.declared.Answer.{Answer}
use Rattle.endings.specs.declared.NumberedBar.{NumberedBar}
use Rattle.endings.specs.declared.Spot.{Spot}
use Rattle.line_reader.specs.declared.LineReader.{LineReader}
use Rattle.theorems.proofs.Songs.{Any, Holds, next_reads_at, reads_at}
use Rattle.theorems.proofs.Walks.{from_start, nth-call}
use Rattle.theorems.specs.Endings.{BarGives, BarIsNext, BarIsStep, BarsInOrder, ByNumber, Counting, EachOnce, OwnBytes, Short, SpotByNumber, SpotGives, SpotsInOrder, both_bars, cut_at, in_line}
use Rattle.theorems.specs.Song.{Answers, CallReads, Calls, NextCall, NextCalls, NextReads, Run, bars_from, call, done}

-- ---- one number

-- an answer's place among the four
abbrev place_of : Answer → ℕ
place_of TooLong = 0
place_of NoBar = 1
place_of Body = 2
place_of Ending = 3

-- neither line is too long
fit : (body ending : List ℕ) {X : Type 0} → Short body ending → (longest_line < length body) ⊎ (longest_line < length ending) → X
fit body ending h (inl g) = absurd (omega (arith, h.0, g))
fit body ending h (inr g) = absurd (omega (arith, h.1, g))

module _ (body ending : List ℕ) (k : ℕ) where
  way_by_number : {o : Spot} → Way body ending k o
      → ByNumber body ending k (o.answer ≡ TooLong) (o.answer ≡ NoBar) (o.answer ≡ Body) (o.answer ≡ Ending)
  way_by_number (body_over h) =
      record {
        eight = (λ _. inl h, λ _. refl);
        nine = (λ x. absurd (omega (arith, ap place_of x)), λ z. absurd (omega (arith, h, z.0.0)));
        in_body = (λ x. absurd (omega (arith, ap place_of x)), λ z. absurd (omega (arith, h, z.0.0)));
        in_ending = (λ x. absurd (omega (arith, ap place_of x)), λ z. absurd (omega (arith, h, z.0.0)));
      }
  way_by_number (ending_over h g) =
      record {
        eight = (λ _. inr g, λ _. refl);
        nine = (λ x. absurd (omega (arith, ap place_of x)), λ z. absurd (omega (arith, g, z.0.1)));
        in_body = (λ x. absurd (omega (arith, ap place_of x)), λ z. absurd (omega (arith, g, z.0.1)));
        in_ending = (λ x. absurd (omega (arith, ap place_of x)), λ z. absurd (omega (arith, g, z.0.1)));
      }
  way_by_number (in_body_lem h g i) =
      record {
        eight = (λ x. absurd (omega (arith, ap place_of x)), fit body ending (h, g));
        nine = (λ x. absurd (omega (arith, ap place_of x)), λ z. absurd (omega (arith, i, z.1)));
        in_body = (λ _. ((h, g), i), λ _. refl);
        in_ending = (λ x. absurd (omega (arith, ap place_of x)), λ z. absurd (omega (arith, i, z.1)));
      }
  way_by_number (in_ending_lem h g i j) =
      record {
        eight = (λ x. absurd (omega (arith, ap place_of x)), fit body ending (h, g));
        nine = (λ x. absurd (omega (arith, ap place_of x)), λ z. absurd (omega (arith, j, z.1)));
        in_body = (λ x. absurd (omega (arith, ap place_of x)), λ z. absurd (omega (arith, i, z.1)));
        in_ending = (λ _. ((h, g), i, j), λ _. refl);
      }
  way_by_number (none h g i) =
      record {
        eight = (λ x. absurd (omega (arith, ap place_of x)), fit body ending (h, g));
        nine = (λ _. ((h, g), i), λ _. refl);
        in_body = (λ x. absurd (omega (arith, ap place_of x)), λ z. absurd (omega (arith, i, z.1)));
        in_ending = (λ x. absurd (omega (arith, ap place_of x)), λ z. absurd (omega (arith, i, z.2)));
      }

pub spot_by_number_lem : SpotByNumber
spot_by_number_lem body ending k s e =
    subst (λ (x : Spot). ByNumber body ending k (x.answer ≡ TooLong) (x.answer ≡ NoBar) (x.answer ≡ Body) (x.answer ≡ Ending))
    (sym e) (way_by_number body ending k (way body ending k))

-- ---- the bar that a number has, in its line

-- s is the spot of the number k, and that of bar i of the line l
pub record Located (body : List ℕ) (k : ℕ) (s : Spot) (l : List ℕ) (i : ℕ) : Type 0 where
  pub short : length l ≤ longest_line
  pub has : i < bar_count l
  pub from : s.from ≡ start_of l i
  pub to : s.to ≡ start_of l i + length (bar_of l i)
  -- the number in the line tells the number
  pub number : k ≡ line_of s.answer i (bar_count body + i)

abbrev LocatedBy : List ℕ → List ℕ → ℕ → Spot → Type 0
LocatedBy body ending k s = Located body k s (line_of s.answer body ending) (in_line body s.answer k)

pub located : (body ending : List ℕ) (k : ℕ) (s : Spot) → s ≡ spot_of body ending k → number_of s.answer ≡ 0 → LocatedBy body ending k s
located body ending k s e z =
    subst (LocatedBy body ending k) (sym e) (by (way body ending k) (ap (λ (x : Spot). number_of x.answer) (sym e) ∙ z))
  where
    by : {o : Spot} → Way body ending k o → number_of o.answer ≡ 0 → LocatedBy body ending k o
    by (body_over h) n = absurd (omega (arith, n))
    by (ending_over h g) n = absurd (omega (arith, n))
    by (in_body_lem h g i) n = record { short = h; has = i; from = refl; to = refl; number = refl }
    by (in_ending_lem h g i j) n =
        record { short = g; has = omega (arith, i, j); from = refl; to = refl; number = omega (arith, i) }
    by (none h g i) n = absurd (omega (arith, n))

pub each_once_lem : EachOnce
each_once_lem body ending j k s t e f z a p =
    let m = located body ending j s e z in
    let n = subst (λ (x : Answer). Located body k t (line_of x body ending) (in_line body x k)) a
    (located body ending k t f (ap number_of a ∙ z)) in
    let i : in_line body s.answer j ≡ in_line body s.answer k =
    start_apart (line_of s.answer body ending) (in_line body s.answer j) (in_line body s.answer k) m.has n.has
    (sym m.from ∙ sym p ∙ n.from) in
    m.number
    ∙ ap (λ (x : ℕ). line_of s.answer x (bar_count body + x)) i
    ∙ ap (λ (x : Answer). line_of x (in_line body s.answer k) (bar_count body + in_line body s.answer k)) (sym a)
    ∙ sym n.number

-- what lies at the spot is the bar
pub cut_bar : (body ending : List ℕ) (k : ℕ) (s : Spot) → LocatedBy body ending k s
    → cut_at body ending s ≡ bar_of (line_of s.answer body ending) (in_line body s.answer k)
cut_bar body ending k s m =
    let l = line_of s.answer body ending in
    let i = in_line body s.answer k in
    let n : s.to - s.from ≡ length (bar_of l i) = omega (arith, m.from, m.to) in
    (λ t. take (n t) (drop (m.from t) l)) ∙ bar-bytes l i m.has

-- what `bar_by_number` handed out is the part at its spot
part_of : (body ending : Line) (k : ℕ) (r : NumberedBar) → NumberedBy body ending k r
    → Part (line_of r.spot.answer body ending) r.spot.from r.spot.to r.bar
part_of body ending k r d =
    subst (λ (s : Spot). Part (line_of s.answer body ending) s.from s.to r.bar) (sym d.spot) d.bar

-- a part from a bar's start on, of its length, is the bar
bar-part : (l : Line) (i : ℕ) (r : Line) → i < bar_count l.now
    → Part l (start_of l.now i) (start_of l.now i + length (bar_of l.now i)) r → r.now ≡ bar_of l.now i
bar-part l i r h p =
    let n : start_of l.now i + length (bar_of l.now i) - start_of l.now i ≡ length (bar_of l.now i) = omega arith in
    p.bytes ∙ ap (λ (x : ℕ). take x (drop (start_of l.now i) l.now)) n ∙ bar-bytes l.now i h

now_line : (body ending : Line) (a : Answer) → (line_of a body ending).now ≡ line_of a body.now ending.now
now_line body ending TooLong = refl
now_line body ending NoBar = refl
now_line body ending Body = refl
now_line body ending Ending = refl

-- a run from a line's start: the bars from there on are all, and the k-th call is made where bar k starts
pub some-from : (l : List ℕ) (i : ℕ) → i < bar_count l → i < length (bars_from l 0)
some-from l i h = subst (λ (bs : List (List ℕ)). i < length bs) (sym (from_start l)) h

pub starts_at : (l : List ℕ) (i p : ℕ) → p ≡ 0 + spans (take i (bars_from l 0)) → p ≡ start_of l i
starts_at l i p e =
    let s = ap (λ (bs : List (List ℕ)). spans (take i bs)) (from_start l) in
    omega (arith, e, s)

-- ---- the numbers 0, 1, 2 and so on

-- if each call gives the bar of its number, and 9 behind them, then calls from k on give the bars from k on
module _ {B C : Type 0} (asked : ℕ → C → Type 0) (gives : B → C → Type 0) (ends : C → Type 0) (bs : List B)
    (at-bar : (k : ℕ) (c : C) → asked k c → k < length bs → (b : B) × gives (get_or bs k b) c)
    (at-end : (k : ℕ) (c : C) → asked k c → length bs ≤ k → ends c) where
  pub in_order : {k : ℕ} {cs : List C} → Run (Counting asked) k cs → Answers gives ends cs (drop k bs)
  in_order done = tt
  in_order {k} (call {cs = cs} c (d, e) run) =
      turn (ltb k (length bs)) refl (subst (λ (n : ℕ). Answers gives ends cs (drop n bs)) e (in_order run))
    where
      turn : (t : Bool) → ltb k (length bs) ≡ t → Answers gives ends cs (drop (suc k) bs) → Answers gives ends (c ∷ cs) (drop k bs)
      turn true h rest =
          let g = at-bar k c d (ltb-true k (length bs) h) in
          subst (Answers gives ends (c ∷ cs)) (sym (drop-cons bs k g.0 (ltb-true k (length bs) h))) (g.1, rest)
      turn false h rest =
          let p = ltb-false k (length bs) h in
          let q : length bs ≤ suc k = omega (arith, p) in
          subst (Answers gives ends (c ∷ cs)) (sym (drop_of_length-le bs p))
          (at-end k c d p, subst (Answers gives ends cs) (drop_of_length-le bs q) rest)

abbrev of_body : List ℕ → Answer × List ℕ
of_body b = (Body, b)

abbrev of_ending : List ℕ → Answer × List ℕ
of_ending b = (Ending, b)

-- the spot s has number 0 and is that of bar k of both
pub record HasBar (body ending : List ℕ) (k : ℕ) (s : Spot) : Type 0 where
  pub zero_number : number_of s.answer ≡ 0
  pub other : Answer × List ℕ
  pub is : get_or (both_bars body ending) k other ≡ (s.answer, bar_of (line_of s.answer body ending) (in_line body s.answer k))

module _ (body ending : List ℕ) where
  both_count : length (both_bars body ending) ≡ bar_count body + bar_count ending
  both_count =
      length-append (map of_body (bars_of body)) (map of_ending (bars_of ending))
      ∙ (λ t. length-map (bars_of body) of_body t + length-map (bars_of ending) of_ending t)

  pub has_bar : (k : ℕ) (s : Spot) → s ≡ spot_of body ending k → Short body ending → k < length (both_bars body ending)
      → HasBar body ending k s
  has_bar k s e h g = subst (HasBar body ending k) (sym e) (by (way body ending k))
    where
      by : {o : Spot} → Way body ending k o → HasBar body ending k o
      by (body_over m) = absurd (omega (arith, h.0, m))
      by (ending_over m n) = absurd (omega (arith, h.1, n))
      by (in_body_lem m n i) =
          let inside : k < length (map of_body (bars_of body)) = omega (arith, i, length-map (bars_of body) of_body) in
          record {
            zero_number = refl;
            other = (Body, []);
            is = get_or-append (map of_body (bars_of body)) (map of_ending (bars_of ending)) (Body, []) k inside
                ∙ get_or-map of_body (bars_of body) k [];
          }
      by (in_ending_lem m n i j) =
          let q : k ≡ length (map of_body (bars_of body)) + (k - bar_count body) = omega (arith, i, length-map (bars_of body) of_body) in
          record {
            zero_number = refl;
            other = (Ending, []);
            is = ap (λ (x : ℕ). get_or (both_bars body ending) x (Ending, [])) q
                ∙ get_or-append-add (map of_body (bars_of body)) (map of_ending (bars_of ending)) (k - bar_count body) (Ending, [])
                ∙ get_or-map of_ending (bars_of ending) (k - bar_count body) [];
          }
      by (none m n i) = absurd (omega (arith, i, g, both_count))

  -- a spot behind the last bar
  pub no_bar : (k : ℕ) (s : Spot) → s ≡ spot_of body ending k → Short body ending → length (both_bars body ending) ≤ k → s.answer ≡ NoBar
  no_bar k s e h g = (spot_by_number_lem body ending k s e).nine.1 (h, omega (arith, g, both_count))

  -- what a spot below the count gives
  pub spot-gives : (k : ℕ) (s : Spot) → s ≡ spot_of body ending k → Short body ending → k < length (both_bars body ending)
      → (x : Answer × List ℕ) × SpotGives body ending (get_or (both_bars body ending) k x) s
  spot-gives k s e h g =
      let b = has_bar k s e h g in
      let c = cut_bar body ending k s (located body ending k s e b.zero_number) in
      (b.other, (ap (λ (x : Answer × List ℕ). x.0) (sym b.is), c ∙ ap (λ (x : Answer × List ℕ). x.1) (sym b.is)))

pub spots_in_order_lem : SpotsInOrder
spots_in_order_lem body ending ss h run =
    in_order (λ (k : ℕ) (s : Spot). s ≡ spot_of body ending k) (SpotGives body ending) (λ (s : Spot). s.answer ≡ NoBar)
    (both_bars body ending)
    (λ k s e g. spot-gives body ending k s e h g) (λ k s e g. no_bar body ending k s e h g) run

pub bars_in_order_lem : BarsInOrder
bars_in_order_lem body ending rs h run =
    in_order (NumberedBy body ending) (BarGives body ending) (λ (r : NumberedBar). r.spot.answer ≡ NoBar)
    (both_bars body.now ending.now) gives (λ k r d g. no_bar body.now ending.now k r.spot d.spot h g) run
  where
    gives : (k : ℕ) (r : NumberedBar) → NumberedBy body ending k r → k < length (both_bars body.now ending.now)
        → (x : Answer × List ℕ) × BarGives body ending (get_or (both_bars body.now ending.now) k x) r
    gives k r d g =
        let b = spot-gives body.now ending.now k r.spot d.spot h g in
        let l = now_line body ending r.spot.answer in
        let p = part_of body ending k r d in (
          b.0,
          record {
            answer = b.1.0;
            bytes = p.bytes ∙ (λ t. take (r.spot.to - r.spot.from) (drop r.spot.from (l t))) ∙ b.1.1;
            part = subst (λ (a : Answer). Part (line_of a body ending) r.spot.from r.spot.to r.bar) b.1.0 p;
          },
        )

pub own_bytes_lem : OwnBytes
own_bytes_lem body ending k r p h g = by (way body.now ending.now k) p
  where
    by : {o : Spot} → Way body.now ending.now k o → Part (line_of o.answer body ending) o.from o.to r
        → r.now ≡ get_or (bars_of body.now ++ bars_of ending.now) k []
    by (body_over m) q = absurd (omega (arith, h.0, m))
    by (ending_over m n) q = absurd (omega (arith, h.1, n))
    by (in_body_lem m n i) q = bar-part body k r i q ∙ sym (get_or-append (bars_of body.now) (bars_of ending.now) [] k i)
    by (in_ending_lem m n i j) q =
        let k² = k - bar_count body.now in
        let e : bar_count body.now + k² ≡ k = omega (arith, i) in
        bar-part ending k² r (omega (arith, i, j)) q
        ∙ sym (get_or-append-add (bars_of body.now) (bars_of ending.now) k² [])
        ∙ ap (λ (x : ℕ). get_or (bars_of body.now ++ bars_of ending.now) x []) e
    by (none m n i) q = absurd (omega (arith, g, i))

-- ---- the steps of [1] on the line of a bar

pub bar_is_step_lem : BarIsStep
bar_is_step_lem body ending k s e z cs run c n =
    let l = line_of s.answer body ending in
    let i = in_line body s.answer k in
    let m = located body ending k s e z in
    let r = nth-call (Calls l) Any l (λ (q : ℕ). q) (CallReads l) (reads_at l m.short) tt run i c n (some-from l i m.has) in
    let at = starts_at l i r.0 r.4 in
    let inside : r.0 ≤ length l = subst (λ (q : ℕ). q ≤ length l) (sym at) (start-within l i m.has) in
    let p = place_here l r.0 m.short inside in
    let reads = (reads_at l m.short r.0 r.1 c tt r.3 inside).0 in
    let b = ap (bar_at l) at ∙ bar_at-start l i m.has ∙ sym (cut_bar body ending k s m) in (
      r.3.0.from ∙ ap (λ (q : Place). q.from) p ∙ at ∙ sym m.from,
      r.3.0.to ∙ ap (λ (q : Place). q.to) p ∙ ap (bar_end l) at ∙ end_at_start l i m.has ∙ sym m.to,
      subst (λ (x : List ℕ). CallReads l x c) b reads,
    )

-- the part that a reader of the line l hands out at p
handed_at : (l : Line) (p : ℕ) (r r' : LineReader) (c : NextCall) → Holds l r → NextCalls r c r' → r.at ≡ p
    → Part l (place_at l.now p).from (place_at l.now p).to c.next.bar
handed_at l p r r' c e d a =
    subst (λ (n : ℕ). Part l (place_at l.now n).from (place_at l.now n).to c.next.bar) a
    (subst (λ (x : Line). Part x (place_at x.now r.at).from (place_at x.now r.at).to c.next.bar) e d.0.bar)

pub bar_is_next_lem : BarIsNext
bar_is_next_lem body ending k r d z x e o cs run c n =
    let l : Line = line_of r.spot.answer body ending in
    let i = in_line body.now r.spot.answer k in
    let m : Located body.now k r.spot l.now i =
    subst (λ (y : List ℕ). Located body.now k r.spot y i) (sym (now_line body ending r.spot.answer))
    (located body.now ending.now k r.spot d.spot z) in
    let h = subst (λ (q : ℕ). i < length (bars_from l.now q)) (sym o) (some-from l.now i m.has) in
    let t = nth-call NextCalls (Holds l) l.now (λ (y : LineReader). y.at) (NextReads l) (next_reads_at l m.short) e run i c n h in
    let at = starts_at l.now i t.0.at (t.4 ∙ ap (λ (q : ℕ). q + spans (take i (bars_from l.now q))) o) in
    let p = place_here l.now (start_of l.now i) m.short (start-within l.now i m.has) in
    let from = ap (λ (q : Place). q.from) p ∙ sym m.from in
    let to = ap (λ (q : Place). q.to) p ∙ end_at_start l.now i m.has ∙ sym m.to in
    let handed : Part l r.spot.from r.spot.to c.next.bar =
    subst (λ (q : ℕ × ℕ). Part l q.0 q.1 c.next.bar) (λ j. (from j, to j)) (handed_at l _ t.0 t.1 c t.2 t.3 at) in
    let own = part_of body ending k r d in
    (handed.bytes ∙ sym own.bytes, handed.place ∙ sym own.place)
