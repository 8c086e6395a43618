-- The questions put to a card, by their answers: what each makes the outcome, and from the outcome back to them. Every theorem on a
-- reading goes by these. Assumes nothing.
use mathlib.Core.Bool.{Bool, true, false, cond}
use mathlib.Core.List.{List, [], ◌∷◌}
use mathlib.Core.Path.{◌≡◌, refl, ap}
use Prim.Native.Nat.{ℕ, ◌≤◌, ◌<◌}
use lib.Dec.{ltb}
use lib.ListN.{length}
use borrow.Author.Tests.{le-ltb, lt-ltb, ltb-false, ltb-true}
use Rattle.evaluator.specs.Evaluator.{eval_set}
use Rattle.expression.specs.declared.expression.Exp.{Exp}
use Rattle.expression.specs.declared.parser_error.ParserError.{ParserError}
use Rattle.parser.specs.Parser.{parse_of, root_of}
use Rattle.utf8.specs.Utf8.{well_formed}
use Rattle.validator.specs.Validator.{validation_of}
use Rattle.reader.specs.Reader.{ReadOutcome, accepted, answer_to, found, is_blank, judge, parsed, read_of, refused, silent, tokens_in}

-- ---- from the questions to the outcome

module _ (room : ℕ) (text : List ℕ) where
  pub short-list : room < 1028 → read_of room text ≡ refused 1
  unfolding read_of
  short-list h = ap (λ (b : Bool). cond b (refused 1) (answer_to text)) (lt-ltb room 1028 h)

  pub long_list : 1028 ≤ room → read_of room text ≡ answer_to text
  unfolding read_of
  long_list h = ap (λ (b : Bool). cond b (refused 1) (answer_to text)) (le-ltb room 1028 h)

module _ (text : List ℕ) where
  -- the three questions of a text
  abbrev asked : Bool → Bool → Bool → ReadOutcome
  asked b c d = cond b (refused 2) (cond c (cond d silent (parsed (tokens_in text))) (refused 3))

  pub long_text : 256 < length text → answer_to text ≡ refused 2
  unfolding answer_to
  long_text h = ap (λ (b : Bool). asked b (well_formed text) (is_blank text)) (lt-ltb 256 (length text) h)

  pub not_utf8 : length text ≤ 256 → well_formed text ≡ false → answer_to text ≡ refused 3
  unfolding answer_to
  not_utf8 h u = λ i. asked (le-ltb 256 (length text) h i) (u i) (is_blank text)

  pub is-blank : length text ≤ 256 → well_formed text ≡ true → is_blank text ≡ true → answer_to text ≡ silent
  unfolding answer_to
  is-blank h u b = λ i. asked (le-ltb 256 (length text) h i) (u i) (b i)

  pub is-text : length text ≤ 256 → well_formed text ≡ true → is_blank text ≡ false → answer_to text ≡ parsed (tokens_in text)
  unfolding answer_to
  is-text h u b = λ i. asked (le-ltb 256 (length text) h i) (u i) (b i)

  -- ---- and back

  abbrev exps_in : List Exp
  exps_in = (parse_of (tokens_in text)).exps

  abbrev parse_errors : List ParserError
  parse_errors = (parse_of (tokens_in text)).errs

  abbrev validation_errors : List ParserError
  validation_errors = validation_of exps_in (eval_set exps_in)

  -- which question got no, with the outcome that it makes; a blank text; and the last is any other accepted one
  pub data Way : ReadOutcome → Type 0 where
    long : 256 < length text → Way (refused 2)
    bytes : length text ≤ 256 → well_formed text ≡ false → Way (refused 3)
    blank : length text ≤ 256 → well_formed text ≡ true → is_blank text ≡ true → Way silent
    parse : {x : ParserError} {e : List ParserError} → length text ≤ 256 → well_formed text ≡ true → is_blank text ≡ false
        → parse_errors ≡ x ∷ e → Way (found 4 (x ∷ e))
    validation : {x : ParserError} {e : List ParserError} → length text ≤ 256 → well_formed text ≡ true → is_blank text ≡ false
        → parse_errors ≡ [] → validation_errors ≡ x ∷ e → Way (found 5 (x ∷ e))
    accept : length text ≤ 256 → well_formed text ≡ true → is_blank text ≡ false → parse_errors ≡ [] → validation_errors ≡ []
        → Way (accepted (root_of (tokens_in text)) exps_in)

  pub way : Way (answer_to text)
  unfolding answer_to
  way = by (ltb 256 (length text)) (well_formed text) (is_blank text) parse_errors validation_errors refl refl refl refl refl
    where
      outcome : List ParserError → List ParserError → ReadOutcome
      outcome e d = judge e 4 (judge d 5 (accepted (root_of (tokens_in text)) exps_in))

      by : (l c b : Bool) (e d : List ParserError) → ltb 256 (length text) ≡ l → well_formed text ≡ c → is_blank text ≡ b → parse_errors ≡ e
          → validation_errors ≡ d → Way (cond l (refused 2) (cond c (cond b silent (outcome e d)) (refused 3)))
      by true c b e d q u s p v = long (ltb-true 256 (length text) q)
      by false false b e d q u s p v = bytes (ltb-false 256 (length text) q) u
      by false true true e d q u s p v = blank (ltb-false 256 (length text) q) u s
      by false true false (x ∷ e) d q u s p v = parse (ltb-false 256 (length text) q) u s p
      by false true false [] (x ∷ d) q u s p v = validation (ltb-false 256 (length text) q) u s p v
      by false true false [] [] q u s p v = accept (ltb-false 256 (length text) q) u s p v

-- the first question, with what it makes of the rest
pub data Asked (room : ℕ) (text : List ℕ) : ReadOutcome → Type 0 where
  short : room < 1028 → Asked room text (refused 1)
  enough : 1028 ≤ room → Asked room text (answer_to text)

pub asked_first : (room : ℕ) (text : List ℕ) → Asked room text (read_of room text)
unfolding read_of
asked_first room text = by (ltb room 1028) refl
  where
    by : (b : Bool) → ltb room 1028 ≡ b → Asked room text (cond b (refused 1) (answer_to text))
    by true e = short (ltb-true room 1028 e)
    by false e = enough (ltb-false room 1028 e)
