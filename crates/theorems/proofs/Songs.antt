-- Song lines: what each contract says of one step, by the way to its place; then the calls one after the other by `Walks`.
-- Assumes nothing.
use mathlib.Core.Bool.{Bool, true, false, true≢false}
use mathlib.Core.List.{List}
use mathlib.Core.Path.{◌≡◌, refl, sym, ap, subst, ◌∙◌}
use Prim.Native.Nat.{ℕ, ◌+◌, ◌-◌, ◌≤◌, ◌<◌}
use native.Mathlib.Omega.{arith}
use lib.ListN.{drop, length, take}
use Rattle.bars.proofs.Laws.{Way, bar_cut, here, over, past, place_here, place_over, place_past, way}
use Rattle.bars.specs.Bars.{bar_at, bar_end, longest_line, place_at}
use Rattle.bars.specs.State.{Line}
use Rattle.bars.specs.declared.Place.{Place}
use Rattle.chord.specs.declared.Chord.{Chord}
use Rattle.reader.specs.Reader.{read_of}
use Rattle.song.specs.Song.{StepOutcome, bar, eight, end, outcome_of, step_of}
use Rattle.song.specs.State.{StepGave, Stepped}
use Rattle.song.specs.State.{TooLong, End, Bar}
use Rattle.song.specs.State.{Answer}
use Rattle.line_reader.specs.declared.LineReader.{LineReader}
use Rattle.theorems.proofs.Walks.{all_say, answers, from_start, handed_line}
use Rattle.theorems.specs.Song.{AllBars, AlwaysEight, Answers, BarsFrom, Call, CallReads, CallSays, Calls, HandedOut, NextAllBars, NextAlwaysEight, NextBarsFrom, NextCall, NextCalls, NextHandedOut, NextReads, NextSays, NextTurns, ReadsBar, ReadsNone, SaysBar, StepTurns, Turn, bars_from, cut_by}

-- ---- one step at a position: its outcome

module _ (line : List ℕ) (p room : ℕ) where
  pub outcome : {q : Place} → place_at line p ≡ q → step_of room line p ≡ outcome_of q.found (read_of room (bar_at line p))
  unfolding step_of
  outcome e = ap (λ (x : Place). outcome_of x.found (read_of room (bar_at line p))) e

-- ---- an answer is one of three

-- 8, end, a bar
abbrev is_eight : Answer → Bool
is_eight TooLong = true
is_eight End = false
is_eight (Bar x) = false

abbrev is_end : Answer → Bool
is_end TooLong = false
is_end End = true
is_end (Bar x) = false

-- the answer a, chord ch and list are as the outcome at p says, and the reader goes to p'
module _ (line : List ℕ) (p p' : ℕ) (a : Answer) (ch : Chord) (es es' : List ℕ) (said : StepGave (step_of (length es) line p) a ch es es')
    (next : p' ≡ (place_at line p).next) where
  gave : {q : Place} → place_at line p ≡ q → StepGave (outcome_of q.found (read_of (length es) (bar_at line p))) a ch es es'
  gave e = subst (λ (o : StepOutcome). StepGave o a ch es es') (outcome line p (length es) e) said

  goes : {q : Place} → place_at line p ≡ q → p' ≡ q.next
  goes e = next ∙ ap (λ (x : Place). x.next) e

  -- nothing is read
  reads_none_over : longest_line < length line → ReadsNone TooLong a ch es es'
  reads_none_over h = let g = gave (place_over line p h) in record { says = g.0; list = g.2; chord = g.1 }

  reads_none_past : length line ≤ longest_line → length line < p → ReadsNone End a ch es es'
  reads_none_past h k = let g = gave (place_past line p h k) in record { says = g.0; list = g.2; chord = g.1 }

  -- the bar is read
  reads-bar : length line ≤ longest_line → p ≤ length line → (cut : List ℕ) → cut ≡ bar_at line p → ReadsBar (bar_at line p) a ch es es' cut
  reads-bar h k cut c = let g = gave (place_here line p h k) in record { answer = g.0; says = g.1; read = g.2; bytes = c }

  turn : Turn line p p' (a ≡ TooLong) (a ≡ End) (SaysBar a)
  turn = by (way line p) refl
    where
      by : {q : Place} → Way line p q → place_at line p ≡ q → Turn line p p' (a ≡ TooLong) (a ≡ End) (SaysBar a)
      by (over h) e =
          let g = gave e in
          record {
            eight = (λ _. h, λ _. g.0);
            eight_stays = λ _. goes e;
            end = (λ x. absurd (true≢false (ap is_end (sym x ∙ g.0))), λ z. absurd (omega (arith, h, z.0)));
            end_stays = λ _. goes e;
            bar = (λ x. absurd (true≢false (ap is_eight (sym g.0 ∙ x.1))), λ z. absurd (omega (arith, h, z.0)));
            bar_moves = λ x. absurd (true≢false (ap is_eight (sym g.0 ∙ x.1)));
          }
      by (past h k) e =
          let g = gave e in
          record {
            eight = (λ x. absurd (true≢false (ap is_eight (sym x ∙ g.0))), λ z. absurd (omega (arith, h, z)));
            eight_stays = λ _. goes e;
            end = (λ _. (h, k), λ _. g.0);
            end_stays = λ _. goes e;
            bar = (λ x. absurd (true≢false (ap is_end (sym g.0 ∙ x.1))), λ z. absurd (omega (arith, k, z.1)));
            bar_moves = λ x. absurd (true≢false (ap is_end (sym g.0 ∙ x.1)));
          }
      by (here h k) e =
          let g = gave e in
          record {
            eight = (λ x. absurd (true≢false (ap is_eight (sym x ∙ g.1))), λ z. absurd (omega (arith, h, z)));
            eight_stays = λ x. absurd (true≢false (ap is_eight (sym x ∙ g.1)));
            end = (λ x. absurd (true≢false (ap is_end (sym x ∙ g.1))), λ z. absurd (omega (arith, k, z.1)));
            end_stays = λ x. absurd (true≢false (ap is_end (sym x ∙ g.1)));
            bar = (λ _. (h, k), λ _. (g.0, g.1));
            bar_moves = λ _. goes e;
          }

-- ---- calls of `step_at`

abbrev pub Any : ℕ → Type 0
Any p = Unit

pub step_turns_lem : StepTurns
step_turns_lem line p s es es' g = turn line p s.next s.answer s.chord es es' g.said g.next

module _ (line : List ℕ) where
  -- what is cut out of the line is the bar
  cut_bar : (p : ℕ) (c : Call) → Stepped line p c.step c.es c.es' → length line ≤ longest_line → p ≤ length line
      → cut_by line c ≡ bar_at line p
  cut_bar p c g h k =
      (λ i. take (g.to i - g.from i) (drop (g.from i) line))
      ∙ bar_cut line p (place_at line p) refl (ap (λ (q : Place). q.found) (place_here line p h k))

  pub reads_at : length line ≤ longest_line → (p p' : ℕ) (c : Call) → Any p → Calls line p c p' → p ≤ length line
      → CallReads line (bar_at line p) c × Any p' × (p' ≡ bar_end line p + 1)
  reads_at h p p' c _ (g, n) k =
      let s = c.step in (
        reads-bar line p s.next s.answer s.chord c.es c.es' g.said g.next h k (cut_by line c) (cut_bar p c g h k),
        tt,
        n ∙ goes line p s.next s.answer s.chord c.es c.es' g.said g.next (place_here line p h k),
      )

  ends_at : length line ≤ longest_line → (p p' : ℕ) (c : Call) → Any p → Calls line p c p' → length line < p
      → CallSays End c × Any p' × (p' ≡ p)
  ends_at h p p' c _ (g, n) k =
      let s = c.step in (
        reads_none_past line p s.next s.answer s.chord c.es c.es' g.said g.next h k,
        tt,
        n ∙ goes line p s.next s.answer s.chord c.es c.es' g.said g.next (place_past line p h k),
      )

  eight-at : longest_line < length line → (p p' : ℕ) (c : Call) → Any p → Calls line p c p' → CallSays TooLong c × Any p'
  eight-at h p p' c _ (g, n) =
      let s = c.step in
      (reads_none_over line p s.next s.answer s.chord c.es c.es' g.said g.next h, tt)

pub bars_from_lem : BarsFrom
bars_from_lem line p cs h run =
    answers (Calls line) Any line (λ (q : ℕ). q) (CallReads line) (reads_at line h) (CallSays End) (ends_at line h) tt run

pub all_bars_lem : AllBars
all_bars_lem line cs h run = subst (Answers (CallReads line) (CallSays End) cs) (from_start line) (bars_from_lem line 0 cs h run)

pub handed_out_lem : HandedOut
handed_out_lem line cs h run n = handed_line (cut_by line) (CallReads line) (CallSays End) (λ b c g. g.bytes) line cs n (all_bars_lem line cs h run)

pub always_eight_lem : AlwaysEight
always_eight_lem line p cs h run = all_say (Calls line) Any (CallSays TooLong) (eight-at line h) tt run

-- ---- calls of `next`: the reader keeps its line

pub next_turns_lem : NextTurns
next_turns_lem r t es es' g = turn r.line.now r.at t.reader.at t.step.answer t.step.chord es es' g.step.said g.at

module _ (line : Line) where
  abbrev pub Holds : LineReader → Type 0
  Holds r = r.line ≡ line

  module _ (r r' : LineReader) (c : NextCall) (e : r.line ≡ line) (d : NextCalls r c r') where
    -- what is said of the reader's own line is said of the line
    of_line : (P : Line → Type 0) → P r.line → P line
    of_line P x = subst P e x

    keeps : r'.line ≡ line
    keeps = ap (λ (x : LineReader). x.line) d.1 ∙ d.0.line ∙ e

    moved : {q : Place} → place_at line.now r.at ≡ q → r'.at ≡ q.next
    moved {q} h =
        of_line (λ (x : Line). place_at x.now r.at ≡ q → r'.at ≡ q.next)
        (λ f. ap (λ (x : LineReader). x.at) d.1 ∙ d.0.at ∙ ap (λ (x : Place). x.next) f) h

    next-reads : length line.now ≤ longest_line → r.at ≤ length line.now → NextReads line (bar_at line.now r.at) c
    next-reads h k =
        of_line (λ (x : Line). length x.now ≤ longest_line → r.at ≤ length x.now → NextReads x (bar_at x.now r.at) c)
        (λ a b. record { bar = own a b; part = (_, _, d.0.bar) }) h k
      where
        own : length r.line.now ≤ longest_line → r.at ≤ length r.line.now
            → ReadsBar (bar_at r.line.now r.at) c.next.step.answer c.next.step.chord c.es c.es' c.next.bar.now
        own a b =
            let l = r.line.now in
            let cut = d.0.bar.bytes ∙ bar_cut l r.at (place_at l r.at) refl
            (ap (λ (q : Place). q.found) (place_here l r.at a b)) in
            reads-bar l r.at c.next.reader.at c.next.step.answer c.next.step.chord c.es c.es' d.0.step.said
            d.0.at a b _ cut

    next-ends : length line.now ≤ longest_line → length line.now < r.at → NextSays End c
    next-ends h k =
        of_line (λ (x : Line). length x.now ≤ longest_line → length x.now < r.at → NextSays End c)
        (reads_none_past r.line.now r.at c.next.reader.at c.next.step.answer c.next.step.chord c.es c.es'
        d.0.step.said
        d.0.at)
        h k

    next-eight : longest_line < length line.now → NextSays TooLong c
    next-eight h =
        of_line (λ (x : Line). longest_line < length x.now → NextSays TooLong c)
        (reads_none_over r.line.now r.at c.next.reader.at c.next.step.answer c.next.step.chord c.es c.es'
        d.0.step.said
        d.0.at)
        h

module _ (line : Line) (h : length line.now ≤ longest_line) where
  pub next_reads_at : (r r' : LineReader) (c : NextCall) → Holds line r → NextCalls r c r' → r.at ≤ length line.now
      → NextReads line (bar_at line.now r.at) c × Holds line r' × (r'.at ≡ bar_end line.now r.at + 1)
  next_reads_at r r' c e d k =
      (next-reads line r r' c e d h k, keeps line r r' c e d, moved line r r' c e d (place_here line.now r.at h k))

  next-ends_at : (r r' : LineReader) (c : NextCall) → Holds line r → NextCalls r c r' → length line.now < r.at
      → NextSays End c × Holds line r' × (r'.at ≡ r.at)
  next-ends_at r r' c e d k =
      (next-ends line r r' c e d h k, keeps line r r' c e d, moved line r r' c e d (place_past line.now r.at h k))

pub next-bars_from : NextBarsFrom
next-bars_from r cs h run =
    let l = r.line in
    answers NextCalls (Holds l) l.now (λ (x : LineReader). x.at) (NextReads l) (next_reads_at l h) (NextSays End) (next-ends_at l h)
    refl run

pub next-all_bars : NextAllBars
next-all_bars r cs z h run =
    subst (Answers (NextReads r.line) (NextSays End) cs) (ap (bars_from r.line.now) z ∙ from_start r.line.now)
    (next-bars_from r cs h run)

pub next-handed_out : NextHandedOut
next-handed_out r cs z h run n =
    handed_line (λ (c : NextCall). c.next.bar.now) (NextReads r.line) (NextSays End) (λ b c g. g.bar.bytes) r.line.now cs n
    (next-all_bars r cs z h run)

pub next-always_eight : NextAlwaysEight
next-always_eight r cs h run =
    all_say NextCalls (Holds r.line) (NextSays TooLong)
    (λ x x' c e d. (next-eight r.line x x' c e d h, keeps r.line x x' c e d)) refl run
