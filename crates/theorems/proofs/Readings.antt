-- Readings: the questions in their order, by the reader's way back from an outcome; then what `Read` of the reader and of the C boundary
-- say of it. Assumes nothing.
use mathlib.Core.Bool.{Bool, true, false, true≢false, cond}
use mathlib.Core.List.{List, [], ◌∷◌, ◌++◌}
use mathlib.Core.Logic.{◌↔◌, inl, inr}
use mathlib.Core.Option.{some}
use mathlib.Core.Path.{◌≡◌, refl, sym, ap, subst, ◌∙◌}
use Prim.Native.Nat.{ℕ, ◌*◌, ◌≤◌, ◌<◌}
use native.Mathlib.Omega.{arith}
use lib.Dec.{T, eqb, ltb, ltb→lt}
use lib.ListN.{get_or-append, drop, get_or, length, length-append, length-drop}
use borrow.Author.Tests.{ne_eqb}
use Rattle.chord.specs.Chord.{Four, four_of, no_chord, record_of}
use Rattle.house_parts.proofs.Bools.{and_left, and_right}
use Rattle.nophtris.specs.Boundary.{chord_bytes, count_after, four_in}
use Rattle.nophtris.specs.State as C
use Rattle.expression.proofs.AllNumbers.{all-length}
use Rattle.expression.specs.ParserError.{all_numbers}
use Rattle.expression.specs.declared.parser_error.ParserError.{ParserError}
use Rattle.parser.proofs.Laws.{root_note}
use Rattle.parser.specs.Parser.{parse_of}
use Rattle.reader.proofs.Answers.{Asked, Way, accept, asked_first, blank, bytes, enough, long, long_list, parse, short, validation, way}
use Rattle.reader.specs.Reader.{IsAccepted, ReadOutcome, answer_to, count_of, is_blank, number_of, read_of, tokens_in}
use Rattle.reader.specs.State.{Read}
use Rattle.reader.specs.declared.Refusal.TheVariants.{LongText, NotUtf8, Parse, ShortList, Validation}
use Rattle.std.specs.Prelude.{Some, None}
use Rattle.reader.specs.Reader.{Answer}
use Rattle.reader.specs.Reader.{Reading}
use Rattle.theorems.proofs.Counts.{tokens_most}
use Rattle.theorems.proofs.Decoding.{decoded, fifty_one_bytes}
use Rattle.theorems.proofs.Errors as errors
use Rattle.theorems.proofs.Errors.{kind_at, occurs, parse_errors_lem, validation_errors_lem}
use Rattle.theorems.specs.CReading as C-reading
use Rattle.theorems.specs.Reading.{Errors, Numbered, ReadApart, ReadErrors, ReadNumbered, ReadRecord, ReadUntouched, RootOrBlank, errors_of, four_of_text, parse_errors, validation_errors}
use Rattle.utf8.proofs.Laws.{well_formed-is}
use Rattle.utf8.specs.Utf8.{WellFormed, well_formed}
use Rattle.evaluator.specs.Evaluator.{eval_set}

-- ---- a number that an answer has, and one that it has not

pub yes : {n k : ℕ} {X : Type 0} → n ≡ k → X → (n ≡ k) ↔ X
yes e x = (λ _. x, λ _. e)

pub no : {n k : ℕ} {X : Type 0} → (n ≡ k → ⊥) → (X → ⊥) → (n ≡ k) ↔ X
no f g = (λ e. absurd (f e), λ x. absurd (g x))

-- ---- the questions

module _ (text : List ℕ) where
  formed : well_formed text ≡ true → WellFormed text
  formed u = (well_formed-is text).0 u

  ill_formed : well_formed text ≡ false → WellFormed text → ⊥
  ill_formed u w = true≢false (sym ((well_formed-is text).1 w) ∙ u)

  some-errors : {x : ParserError} {e l : List ParserError} → l ≡ x ∷ e → 1 ≤ length l
  some-errors p = let z = ap length p in omega (arith, z)

  no_errors : {l : List ParserError} → l ≡ [] → 1 ≤ length l → ⊥
  no_errors p h = let z = ap length p in omega (arith, z, h)

  is_2 : {o : ReadOutcome} → Way text o → (o.number ≡ 2) ↔ (256 < length text)
  is_2 (long k) = yes refl k
  is_2 (bytes k u) = no (λ e. omega (arith, e)) (λ z. omega (arith, k, z))
  is_2 (blank k u b) = no (λ e. omega (arith, e)) (λ z. omega (arith, k, z))
  is_2 (parse k u b p) = no (λ e. omega (arith, e)) (λ z. omega (arith, k, z))
  is_2 (validation k u b p v) = no (λ e. omega (arith, e)) (λ z. omega (arith, k, z))
  is_2 (accept k u b p v) = no (λ e. omega (arith, e)) (λ z. omega (arith, k, z))

  is_3 : {o : ReadOutcome} → Way text o → (o.number ≡ 3) ↔ ((length text ≤ 256) × (WellFormed text → ⊥))
  is_3 (long k) = no (λ e. omega (arith, e)) (λ z. omega (arith, k, z.0))
  is_3 (bytes k u) = yes refl (k, ill_formed u)
  is_3 (blank k u b) = no (λ e. omega (arith, e)) (λ z. z.1 (formed u))
  is_3 (parse k u b p) = no (λ e. omega (arith, e)) (λ z. z.1 (formed u))
  is_3 (validation k u b p v) = no (λ e. omega (arith, e)) (λ z. z.1 (formed u))
  is_3 (accept k u b p v) = no (λ e. omega (arith, e)) (λ z. z.1 (formed u))

  is_4 : {o : ReadOutcome} → Way text o
      → (o.number ≡ 4) ↔ ((length text ≤ 256) × WellFormed text × (is_blank text ≡ false) × (1 ≤ length (parse_errors text)))
  is_4 (long k) = no (λ e. omega (arith, e)) (λ z. omega (arith, k, z.0))
  is_4 (bytes k u) = no (λ e. omega (arith, e)) (λ z. ill_formed u z.1)
  is_4 (blank k u b) = no (λ e. omega (arith, e)) (λ z. true≢false (sym b ∙ z.2))
  is_4 (parse k u b p) = yes refl (k, formed u, b, some-errors p)
  is_4 (validation k u b p v) = no (λ e. omega (arith, e)) (λ z. no_errors p z.3)
  is_4 (accept k u b p v) = no (λ e. omega (arith, e)) (λ z. no_errors p z.3)

  is_5 : {o : ReadOutcome} → Way text o
      → (o.number ≡ 5) ↔ ((length text ≤ 256) × WellFormed text × (is_blank text ≡ false) × (parse_errors text ≡ [])
      × (1 ≤ length (validation_errors text)))
  is_5 (long k) = no (λ e. omega (arith, e)) (λ z. omega (arith, k, z.0))
  is_5 (bytes k u) = no (λ e. omega (arith, e)) (λ z. ill_formed u z.1)
  is_5 (blank k u b) = no (λ e. omega (arith, e)) (λ z. true≢false (sym b ∙ z.2))
  is_5 (parse k u b p) = no (λ e. omega (arith, e)) (λ z. no_errors z.3 (some-errors p))
  is_5 (validation k u b p v) = yes refl (k, formed u, b, p, some-errors v)
  is_5 (accept k u b p v) = no (λ e. omega (arith, e)) (λ z. no_errors v z.4)

  most : {o : ReadOutcome} → Way text o → o.number ≤ 5
  most (long k) = omega arith
  most (bytes k u) = omega arith
  most (blank k u b) = omega arith
  most (parse k u b p) = omega arith
  most (validation k u b p v) = omega arith
  most (accept k u b p v) = omega arith

  -- with the list's question before them
  numbered : (room : ℕ) {o : ReadOutcome} → Asked room text o → Numbered room text o.number
  numbered room (short h) =
      record {
        one = yes refl h;
        two = no (λ e. omega (arith, e)) (λ z. omega (arith, h, z.0));
        three = no (λ e. omega (arith, e)) (λ z. omega (arith, h, z.0));
        four = no (λ e. omega (arith, e)) (λ z. omega (arith, h, z.0));
        five = no (λ e. omega (arith, e)) (λ z. omega (arith, h, z.0));
        nought = no (λ e. omega (arith, e)) (λ z. omega (arith, h, z.0));
        most = omega arith;
      }
  numbered room (enough h) =
      let w = way text in
      record {
        one = no (answered w) (λ z. omega (arith, h, z));
        two = (λ e. (h, (is_2 w).0 e), λ x. (is_2 w).1 x.1);
        three = (λ e. let z = (is_3 w).0 e in (h, z.0, z.1), λ x. (is_3 w).1 (x.1, x.2));
        four = (λ e. let z = (is_4 w).0 e in (h, z.0, z.1, z.2, z.3), λ x. (is_4 w).1 (x.1, x.2, x.3, x.4));
        five = (λ e. let z = (is_5 w).0 e in (h, z.0, z.1, z.2, z.3, z.4), λ x. (is_5 w).1 (x.1, x.2, x.3, x.4, x.5));
        nought = (λ e. (h, record { number = e; four = refl }), λ x. x.1.number);
        most = most w;
      }
    where
      answered : {o : ReadOutcome} → Way text o → o.number ≡ 1 → ⊥
      answered (long k) e = omega (arith, e)
      answered (bytes k u) e = omega (arith, e)
      answered (blank k u b) e = omega (arith, e)
      answered (parse k u b p) e = omega (arith, e)
      answered (validation k u b p v) e = omega (arith, e)
      answered (accept k u b p v) e = omega (arith, e)

  -- ---- the errors

  -- errors that were found
  found-errors : {o : ReadOutcome} → Way text o → 4 ≤ o.number
      → (l : List ParserError) × errors.Errors 257 l × (1 ≤ length l) × (o.count ≡ length l) × (o.errs ≡ all_numbers l)
  found-errors (long k) h = absurd (omega (arith, h))
  found-errors (bytes k u) h = absurd (omega (arith, h))
  found-errors (blank k u b) h = absurd (omega (arith, h))
  found-errors (parse {x} {e} k u b p) h =
      (x ∷ e, subst (errors.Errors 257) p (parse_errors_lem (tokens_in text) (tokens_most text k)), omega arith, refl, refl)
  found-errors (validation {x} {e} k u b p v) h =
      let l = (parse_of (tokens_in text)).exps in
      (x ∷ e, subst (errors.Errors 257) v (validation_errors_lem l (eval_set l)), omega arith, refl, refl)
  found-errors (accept k u b p v) h = absurd (omega (arith, h))

  nothing-found : {o : ReadOutcome} → Way text o → o.number ≤ 3 → (o.errs ≡ []) × (o.count ≡ 0)
  nothing-found (long k) h = (refl, refl)
  nothing-found (bytes k u) h = (refl, refl)
  nothing-found (blank k u b) h = (refl, refl)
  nothing-found (parse k u b p) h = absurd (omega (arith, h))
  nothing-found (validation k u b p v) h = absurd (omega (arith, h))
  nothing-found (accept k u b p v) h = (refl, refl)

  -- four numbers for each error that is counted
  pub errors-four : length (errors_of text) ≡ 4 * (answer_to text).count
  errors-four = go (way text)
    where
      go : {o : ReadOutcome} → Way text o → length o.errs ≡ 4 * o.count
      go (long k) = refl
      go (bytes k u) = refl
      go (blank k u b) = refl
      go (parse {x} {e} k u b p) = all-length (x ∷ e)
      go (validation {x} {e} k u b p v) = all-length (x ∷ e)
      go (accept k u b p v) = refl

  -- a kind that occurs
  kind_of_lem : (k : ℕ) → T (occurs k) → (1 ≤ k) × (k < 18) × (k ≡ 13 → ⊥)
  kind_of_lem k t =
      let a = ltb 0 k in
      let r = and_right a _ t in (
        ltb→lt 0 k (and_left a _ t),
        ltb→lt k 18 (and_left (ltb k 18) _ r),
        λ e. subst (λ (n : ℕ). T (occurs n)) e t,
      )

  listed : (es es' : List ℕ) (count : ℕ) {o : ReadOutcome} → Asked (length es) text o → 4 ≤ o.number → count ≡ o.count
      → es' ≡ o.errs ++ drop (length o.errs) es → Errors text es es' count
  listed es es' count (short k) h c l = absurd (omega (arith, h))
  listed es es' count (enough k) h c l =
      let e = errors_of text in
      let f = found-errors (way text) h in
      let four : length e ≡ 4 * count = errors-four ∙ ap (λ (n : ℕ). 4 * n) (sym c) in
      let now : es' ≡ e ++ drop (4 * count) es = l ∙ ap (λ (j : ℕ). e ++ drop j es) four in
      let size = ap length l in
      record {
        some = omega (arith, f.2, f.3, c);
        most = omega (arith, f.1.few, f.3, c);
        four = four;
        list = now;
        same = omega (arith, size, k, f.1.few, f.3, c, four, length-append e (drop (length e) es), length-drop (length e) es);
        kinds = λ i m.
            let b : 4 * i < length e = omega (arith, m, four) in
            let g : get_or es' (4 * i) 0 ≡ get_or (all_numbers f.0) (4 * i) 0 = ap (λ (q : List ℕ). get_or q (4 * i) 0) l
            ∙ get_or-append e (drop (length e) es) 0 (4 * i) b
            ∙ ap (λ (q : List ℕ). get_or q (4 * i) 0) f.4 in
            let t = kind_at f.0 f.1.each i (omega (arith, m, f.3, c)) in
            kind_of_lem (get_or es' (4 * i) 0) (subst (λ (n : ℕ). T (occurs n)) (sym g) t);
      }

  unlisted : (es es' : List ℕ) {o : ReadOutcome} → Asked (length es) text o → o.number ≤ 3 → es' ≡ o.errs ++ drop (length o.errs) es
      → (es' ≡ es) × (o.count ≡ 0)
  unlisted es es' (short k) h l = (l, refl)
  unlisted es es' (enough k) h l =
      let f = nothing-found (way text) h in
      (l ∙ ap (λ (q : List ℕ). q ++ drop (length q) es) f.0, f.1)

  -- ---- the record

  accepted-four : (room : ℕ) {o : ReadOutcome} → Asked room text o → o.number ≡ 0
      → (o.four ≡ four_of_text text) × IsAccepted text (four_of_text text)
  accepted-four room (short h) e = absurd (omega (arith, e))
  accepted-four room (enough h) e = (refl, record { number = e; four = refl })

  refused-four : {o : ReadOutcome} → Way text o → (o.number ≡ 0 → ⊥) → o.four ≡ no_chord
  refused-four (long k) n = refl
  refused-four (bytes k u) n = refl
  refused-four (blank k u b) n = absurd (n refl)
  refused-four (parse k u b p) n = refl
  refused-four (validation k u b p v) n = refl
  refused-four (accept k u b p v) n = absurd (n refl)

  no_four : (room : ℕ) {o : ReadOutcome} → Asked room text o → (o.number ≡ 0 → ⊥) → o.four ≡ no_chord
  no_four room (short h) n = refl
  no_four room (enough h) n = refused-four (way text) n

-- ---- an accepted text is read with 0, whatever list is long enough

pub reads_as : (room : ℕ) (text : List ℕ) (f : Four) → IsAccepted text f → 1028 ≤ room
    → ((read_of room text).number ≡ 0) × ((read_of room text).four ≡ f)
reads_as room text f a h =
    let m = long_list room text h in
    (ap (λ (o : ReadOutcome). o.number) m ∙ a.number, ap (λ (o : ReadOutcome). o.four) m ∙ a.four)

-- ---- `reader::read`

module _ (text es es' : List ℕ) (r : Reading) (g : Read text es es' r) where
  pub read-accepted : number_of r.answer ≡ 0 → (four_of r.chord ≡ four_of_text text) × IsAccepted text (four_of_text text)
  read-accepted e =
      let x = accepted-four text (length es) (asked_first (length es) text) (sym g.number ∙ e) in
      (g.four ∙ x.0, x.1)

pub read-numbered : ReadNumbered
read-numbered text es es' r g = subst (Numbered (length es) text) (sym g.number)
    (numbered text (length es) (asked_first (length es) text))

pub read-errors : ReadErrors
read-errors text es es' r g h =
    listed text es es' (count_of r.answer) (asked_first (length es) text) (subst (λ (n : ℕ). 4 ≤ n) g.number h) g.count g.list

pub read_untouched_lem : ReadUntouched
read_untouched_lem text es es' r g h =
    let x = unlisted text es es' (asked_first (length es) text) (subst (λ (n : ℕ). n ≤ 3) g.number h) g.list in
    (x.0, g.count ∙ x.1)

-- an accepted text has a root or is blank
root_by : (text : List ℕ) {o : ReadOutcome} → Way text o → o.number ≡ 0 → RootOrBlank text o.four
root_by text (long k) e = absurd (omega (arith, e))
root_by text (bytes k u) e = absurd (omega (arith, e))
root_by text (blank k u b) e = inr (b, refl)
root_by text (parse k u b p) e = absurd (omega (arith, e))
root_by text (validation k u b p v) e = absurd (omega (arith, e))
root_by text (accept k u b p v) e = inl (root_note (tokens_in text) p)

pub root_or_blank : (text : List ℕ) (f : Four) → IsAccepted text f → RootOrBlank text f
root_or_blank text f a = subst (RootOrBlank text) a.four (root_by text (way text) a.number)

pub read_record_lem : ReadRecord
read_record_lem text es es' r g = (
  λ e.
      let x = accepted-four text (length es) (asked_first (length es) text) (sym g.number ∙ e) in
      (g.four ∙ x.0, g.chord ∙ ap record_of x.0, root_or_blank text (four_of_text text) x.1),
  λ n. g.chord ∙ ap record_of (no_four text (length es) (asked_first (length es) text) (λ e. n (g.number ∙ e))),
)

-- the answer of a number and a count
abbrev answer_of : ℕ → ℕ → Answer
answer_of n c = get_or (None ∷ Some ShortList ∷ Some LongText ∷ Some NotUtf8 ∷ Some (Parse c) ∷ []) n (Some (Validation c))

answer_back : (a : Answer) → answer_of (number_of a) (count_of a) ≡ a
answer_back None = refl
answer_back (Some ShortList) = refl
answer_back (Some LongText) = refl
answer_back (Some NotUtf8) = refl
answer_back (Some (Parse n)) = refl
answer_back (Some (Validation n)) = refl

pub read_apart_lem : ReadApart
read_apart_lem a b e c = sym (answer_back a) ∙ (λ i. answer_of (e i) (c i)) ∙ answer_back b

-- ---- `nophtris_read`

module _ (text : List ℕ) where
  counted : {o : ReadOutcome} → Way text o → (c : ℕ) → 4 ≤ o.number → count_after o c ≡ o.count
  counted (long k) c h = absurd (omega (arith, h))
  counted (bytes k u) c h = absurd (omega (arith, h))
  counted (blank k u b) c h = absurd (omega (arith, h))
  counted (parse k u b p) c h = refl
  counted (validation k u b p v) c h = refl
  counted (accept k u b p v) c h = absurd (omega (arith, h))

  uncounted : {o : ReadOutcome} → Way text o → (c : ℕ) → o.number ≤ 3 → count_after o c ≡ c
  uncounted (long k) c h = refl
  uncounted (bytes k u) c h = refl
  uncounted (blank k u b) c h = refl
  uncounted (parse k u b p) c h = absurd (omega (arith, h))
  uncounted (validation k u b p v) c h = absurd (omega (arith, h))
  uncounted (accept k u b p v) c h = refl

  counted_first : (room : ℕ) {o : ReadOutcome} → Asked room text o → (c : ℕ) → 4 ≤ o.number → count_after o c ≡ o.count
  counted_first room (short k) c h = absurd (omega (arith, h))
  counted_first room (enough k) c h = counted (way text) c h

  uncounted_first : (room : ℕ) {o : ReadOutcome} → Asked room text o → (c : ℕ) → o.number ≤ 3 → count_after o c ≡ c
  uncounted_first room (short k) c h = refl
  uncounted_first room (enough k) c h = uncounted (way text) c h

pub c_read_numbered_lem : C-reading.ReadNumbered
c_read_numbered_lem text es es' c c' cs cs' r g = subst (Numbered (length es) text) (sym g.number)
    (numbered text (length es) (asked_first (length es) text))

pub c_read_errors_lem : C-reading.ReadErrors
c_read_errors_lem text es es' c c' cs cs' r g h =
    let k = subst (λ (n : ℕ). 4 ≤ n) g.number h in
    let a = asked_first (length es) text in
    listed text es es' c' a k (g.count ∙ counted_first text (length es) a c k) g.errors

pub c_read_untouched_lem : C-reading.ReadUntouched
c_read_untouched_lem text es es' c c' cs cs' r g h =
    let k = subst (λ (n : ℕ). n ≤ 3) g.number h in
    let a = asked_first (length es) text in
    ((unlisted text es es' a k g.errors).0, g.count ∙ uncounted_first text (length es) a c k)

module _ (text es es' : List ℕ) (c c' : ℕ) (cs cs' : List ℕ) (r : ℕ) (g : C.Read text es es' c c' cs cs' r) where
  -- with 0 the text is accepted, and its four are filled in
  pub c_read_accepted : r ≡ 0 → IsAccepted text (four_of_text text) × (cs' ≡ chord_bytes (four_of_text text))
  c_read_accepted e =
      let o = read_of (length es) text in
      let z : o.number ≡ 0 = sym g.number ∙ e in
      let x = accepted-four text (length es) (asked_first (length es) text) z in
      (x.1, g.chord ∙ ap (λ (n : ℕ). cond (eqb n 0) (chord_bytes o.four) cs) z ∙ ap chord_bytes x.0)

  -- with 4 and 5 the errors are counted
  pub c_counted : 1028 ≤ length es → 4 ≤ r → c' ≡ (answer_to text).count
  c_counted k h =
      let a = asked_first (length es) text in
      g.count ∙ counted_first text (length es) a c (subst (λ (n : ℕ). 4 ≤ n) g.number h) ∙ ap (λ o. o.count) (long_list (length es) text k)

  c_read_filled : (r ≡ 0 → ⊥) → cs' ≡ cs
  c_read_filled n =
      let o = read_of (length es) text in
      g.chord ∙ ap (λ (b : Bool). cond b (chord_bytes o.four) cs) (ne_eqb o.number 0 (λ e. n (g.number ∙ e)))

pub c_read_record_lem : C-reading.ReadRecord
c_read_record_lem text es es' c c' cs cs' r g = (
  λ e.
      let f = four_of_text text in
      let x = c_read_accepted text es es' c c' cs cs' r g e in
      let z = fifty_one_bytes text f x.0 in (
        ap four_in x.1 ∙ decoded text f x.0,
        ap length x.1 ∙ z.0,
        λ i. subst (λ (q : List ℕ). get_or q i 0 < 256) (sym x.1) (z.1 i),
        root_or_blank text f x.0,
      ),
  c_read_filled text es es' c c' cs cs' r g,
)

-- an accepted text is read with 0, and its four are filled in
pub c_reads : (text es es' : List ℕ) (c c' : ℕ) (cs cs' : List ℕ) (r : ℕ) (f : Four) → IsAccepted text f → 1028 ≤ length es
    → C.Read text es es' c c' cs cs' r
    → (r ≡ 0) × (cs' ≡ chord_bytes f)
c_reads text es es' c c' cs cs' r f a h g =
    let e = g.number ∙ (reads_as (length es) text f a h).0 in
    let x = c_read_accepted text es es' c c' cs cs' r g e in
    (e, x.1 ∙ ap chord_bytes a.four)
