-- A text with raised numerals and its plain text, read: the promises say what each answers, and the answers are the same, positions mapped
-- back (Raised).
-- Assumes nothing.
use mathlib.Core.List.{List, ◌++◌}
use mathlib.Core.Path.{◌≡◌, sym, ap, subst, ◌∙◌}
use Prim.Native.Nat.{ℕ, ◌*◌, ◌≤◌}
use lib.ListN.{drop, length, take}
use lib.Seq.{take_at}
use Rattle.chord.specs.Chord.{record_of}
use Rattle.nophtris.specs.Boundary.{chord_bytes}
use Rattle.positions.specs.Positions.{moved, moved_outcome}
use Rattle.reader.proofs.Answers.{long_list}
use Rattle.reader.specs.Reader.{ReadOutcome, answer_to, count_of}
use Rattle.theorems.proofs.Raised.{raised_answer_lem}
use Rattle.theorems.proofs.Readings.{c_counted, c_read_accepted, errors-four, read_apart_lem}
use Rattle.theorems.specs.Raised.{CRaisedRead, MappedBack, RaisedRead, back, plain}
use Rattle.utf8.specs.Utf8.{WellFormed}

-- two lists that begin with the errors of such a text and of its plain text
module _ (t : List ℕ) (w : WellFormed t) (h : length t ≤ 256) where
  abbrev own : ReadOutcome
  own = answer_to t

  abbrev other : ReadOutcome
  other = answer_to (plain w.chars)

  same : own ≡ moved_outcome (back w.chars) other
  same = raised_answer_lem t w h

  lists : (es es' ds ds' : List ℕ) (n : ℕ) → n ≡ own.count → es' ≡ own.errs ++ drop (length own.errs) es
      → ds' ≡ other.errs ++ drop (length other.errs) ds → MappedBack w.chars n es' ds'
  lists es es' ds ds' n c e d =
      let k : length own.errs ≡ 4 * n = errors-four t ∙ ap (λ m. 4 * m) (sym c) in
      let m : length other.errs ≡ 4 * n = errors-four (plain w.chars) ∙ ap (λ m. 4 * m) (sym (c ∙ ap (λ o. o.count) same)) in
      ap (take (4 * n)) e ∙ take_at own.errs (drop (length own.errs) es) (4 * n) k ∙ ap (λ o. o.errs) same
      ∙ ap (moved (back w.chars)) (sym (ap (take (4 * n)) d ∙ take_at other.errs (drop (length other.errs) ds) (4 * n) m))

pub raised_read_lem : RaisedRead
raised_read_lem t es es' ds ds' r q w g g' h k k' =
    let x = long_list (length es) t k in
    let y = long_list (length ds) (plain w.chars) k' in
    let s = x ∙ same t w h in
    let count = g.count ∙ ap (λ o. o.count) x in (
      read_apart_lem r.answer q.answer
          (g.number ∙ ap (λ o. o.number) s ∙ sym (g'.number ∙ ap (λ o. o.number) y))
          (g.count ∙ ap (λ o. o.count) s ∙ sym (g'.count ∙ ap (λ o. o.count) y)),
      g.chord ∙ ap (λ o. record_of o.four) s ∙ sym (g'.chord ∙ ap (λ o. record_of o.four) y),
      lists t w h es es' ds ds' (count_of r.answer) count (g.list ∙ ap (λ o. o.errs ++ drop (length o.errs) es) x)
          (g'.list ∙ ap (λ o. o.errs ++ drop (length o.errs) ds) y),
    )

pub c_raised_read_lem : CRaisedRead
c_raised_read_lem t es es' ds ds' c c' d d' cs cs' bs bs' r q w g g' h k k' =
    let x = long_list (length es) t k in
    let y = long_list (length ds) (plain w.chars) k' in
    let s = same t w h in
    let number : r ≡ q = g.number ∙ ap (λ o. o.number) (x ∙ s) ∙ sym (g'.number ∙ ap (λ o. o.number) y) in (
      number,
      λ e. (c_read_accepted t es es' c c' cs cs' r g e).1 ∙ ap (λ o. chord_bytes o.four) s
          ∙ sym (c_read_accepted (plain w.chars) ds ds' d d' bs bs' q g' (sym number ∙ e)).1,
      λ l.
          let m = c_counted t es es' c c' cs cs' r g k l in
          let n = c_counted (plain w.chars) ds ds' d d' bs bs' q g' k' (subst (λ z. 4 ≤ z) number l) in (
            m ∙ ap (λ o. o.count) s ∙ sym n,
            lists t w h es es' ds ds' c' m (g.errors ∙ ap (λ o. o.errs ++ drop (length o.errs) es) x)
                (g'.errors ∙ ap (λ o. o.errs ++ drop (length o.errs) ds) y),
          ),
    )
