-- Song lines at the C boundary: what `Step` says of one call, by the way to its place; then the calls one after the other by `Walks`.
-- Assumes nothing.
use mathlib.Core.List.{List}
use mathlib.Core.Path.{◌≡◌, refl, sym, ap, subst, ◌∙◌}
use Prim.Native.Nat.{ℕ, ◌+◌, ◌-◌, ◌≤◌, ◌<◌}
use native.Mathlib.Omega.{arith}
use lib.ListN.{drop, length, take}
use Rattle.bars.proofs.Laws as bars
use Rattle.bars.proofs.Laws.{Way, bar_cut, here, over, past, place_here, place_over, place_past, way}
use Rattle.bars.specs.Bars.{bar_at, bar_end, longest_line, place_at}
use Rattle.bars.specs.declared.Place.{Place}
use Rattle.nophtris.specs.Boundary.{place_after, read_in}
use Rattle.nophtris.specs.State.{GaveRead}
use Rattle.reader.specs.Reader.{read_of}
use Rattle.song.specs.Song.{StepOutcome, outcome_of, step_of}
use Rattle.theorems.proofs.Readings.{c_read_numbered_lem}
use Rattle.theorems.proofs.Songs.{Any, outcome}
use Rattle.theorems.proofs.Walks.{all_say, answers, from_start, handed_line}
use Rattle.theorems.specs.CSong.{AllBars, AlwaysEight, BarsFrom, Call, CallReads, CallSays, Calls, HandedOut, StepTurns, cut_by}
use Rattle.theorems.specs.Song.{Answers, Turn}

module _ (line : List ℕ) (p p' : ℕ) (k : Call) (d : Calls line p k p') where
  -- what was found is q
  module _ {q : Place} (e : place_at line p ≡ q) where
    is : step_of (length k.es) line p ≡ outcome_of q.found (read_of (length k.es) (bar_at line p))
    is = outcome line p (length k.es) e

    gave : GaveRead (read_in (outcome_of q.found (read_of (length k.es) (bar_at line p)))) k.r k.es k.es' k.c k.c' k.cs
        k.cs'
    gave = subst (λ (o : StepOutcome). GaveRead (read_in o) k.r k.es k.es' k.c k.c' k.cs k.cs') is d.read

    goes : p' ≡ q.next
    goes = d.position ∙ ap (λ (x : Place). x.next) e

    pub starts : k.f' ≡ place_after (outcome_of q.found (read_of (length k.es) (bar_at line p))) q.from k.f
    starts = d.from ∙ (λ i. place_after (is i) (e i).from k.f)

    pub spans : k.l' ≡ place_after (outcome_of q.found (read_of (length k.es) (bar_at line p))) (q.to - q.from) k.l
    spans = d.size ∙ (λ i. place_after (is i) ((e i).to - (e i).from) k.l)

  says-eight : longest_line < length line → CallSays 8 k
  says-eight h =
      let e = place_over line p h in
      let g = gave e in
      record { says = g.number; errors = g.errors; count = g.count; chord = g.chord; from = starts e; size = spans e }

  says-end : length line ≤ longest_line → length line < p → CallSays 255 k
  says-end h m =
      let e = place_past line p h m in
      let g = gave e in
      record { says = g.number; errors = g.errors; count = g.count; chord = g.chord; from = starts e; size = spans e }

  reads : length line ≤ longest_line → p ≤ length line → CallReads line (bar_at line p) k
  reads h m =
      let e = place_here line p h m in
      record {
        read = gave e;
        bytes = (λ i. take (spans e i) (drop (starts e i) line)) ∙ bar_cut line p (bars.bar_place line p) (sym e) refl;
      }

  read-few : length line ≤ longest_line → p ≤ length line → k.r ≤ 5
  read-few h m = (c_read_numbered_lem (bar_at line p) k.es k.es' k.c k.c' k.cs k.cs' k.r (reads h m).read).most

  turn : Turn line p p' (k.r ≡ 8) (k.r ≡ 255) (k.r ≤ 5)
  turn = by (way line p) refl
    where
      by : {q : Place} → Way line p q → place_at line p ≡ q → Turn line p p' (k.r ≡ 8) (k.r ≡ 255) (k.r ≤ 5)
      by (over h) e =
          let n = (gave e).number in
          record {
            eight = (λ _. h, λ _. n);
            eight_stays = λ _. goes e;
            end = (λ x. absurd (omega (arith, n, x)), λ z. absurd (omega (arith, h, z.0)));
            end_stays = λ _. goes e;
            bar = (λ x. absurd (omega (arith, n, x)), λ z. absurd (omega (arith, h, z.0)));
            bar_moves = λ x. absurd (omega (arith, n, x));
          }
      by (past h m) e =
          let n = (gave e).number in
          record {
            eight = (λ x. absurd (omega (arith, n, x)), λ z. absurd (omega (arith, h, z)));
            eight_stays = λ _. goes e;
            end = (λ _. (h, m), λ _. n);
            end_stays = λ _. goes e;
            bar = (λ x. absurd (omega (arith, n, x)), λ z. absurd (omega (arith, m, z.1)));
            bar_moves = λ x. absurd (omega (arith, n, x));
          }
      by (here h m) e =
          let n = read-few h m in
          record {
            eight = (λ x. absurd (omega (arith, n, x)), λ z. absurd (omega (arith, h, z)));
            eight_stays = λ x. absurd (omega (arith, n, x));
            end = (λ x. absurd (omega (arith, n, x)), λ z. absurd (omega (arith, m, z.1)));
            end_stays = λ x. absurd (omega (arith, n, x));
            bar = (λ _. (h, m), λ _. n);
            bar_moves = λ _. goes e;
          }

pub c_step_turns_lem : StepTurns
c_step_turns_lem = turn

module _ (line : List ℕ) (h : length line ≤ longest_line) where
  pub c_reads_at : (p p' : ℕ) (k : Call) → Any p → Calls line p k p' → p ≤ length line
      → CallReads line (bar_at line p) k × Any p' × (p' ≡ bar_end line p + 1)
  c_reads_at p p' k _ d m = (reads line p p' k d h m, tt, goes line p p' k d (place_here line p h m))

  c_ends_at : (p p' : ℕ) (k : Call) → Any p → Calls line p k p' → length line < p → CallSays 255 k × Any p' × (p' ≡ p)
  c_ends_at p p' k _ d m = (says-end line p p' k d h m, tt, goes line p p' k d (place_past line p h m))

pub c_bars_from_lem : BarsFrom
c_bars_from_lem line p ks h run =
    answers (Calls line) Any line (λ (q : ℕ). q) (CallReads line) (c_reads_at line h) (CallSays 255) (c_ends_at line h) tt run

pub c_all_bars_lem : AllBars
c_all_bars_lem line ks h run = subst (Answers (CallReads line) (CallSays 255) ks) (from_start line) (c_bars_from_lem line 0 ks h run)

pub c_handed_out_lem : HandedOut
c_handed_out_lem line ks h run n =
    handed_line (cut_by line) (CallReads line) (CallSays 255) (λ b k g. g.bytes) line ks n (c_all_bars_lem line ks h run)

pub c_always_eight_lem : AlwaysEight
c_always_eight_lem line p ks h run = all_say (Calls line) Any (CallSays 8) (λ q q' k _ d. (says-eight line q q' k d h, tt)) tt run
