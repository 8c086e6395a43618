-- The same tokens at other positions get the same answer but for its positions. The set, the bass and the display list go by what the
-- expressions are and not by where they stand; validation finds the same errors in each expression, and counts and sets are the same.
-- Assumes nothing.
use mathlib.Core.Bool.{Bool, cond, ◌&&◌, ◌||◌}
use mathlib.Core.List.{List, [], ◌++◌}
use mathlib.Core.Path.{◌≡◌, refl, ap, ap₂, subst, ◌∙◌}
use Prim.Native.Nat.{ℕ, zero, suc, ◌+◌, ◌%◌, max}
use lib.Dec.{eqb, ltb}
use lib.ListN.{get_or}
use Rattle.chord.specs.Chord.{Four, no_chord}
use Rattle.display.specs.Display.{first_sus, sus_of}
use Rattle.evaluator.specs.Evaluator.{add, adds_of, alter, alts_of, any, bass_of, direct, eval_set, ext_of, fold_left, form_of, is_maj, is_sus4, omit, omits_of, seed, slash_bass, transition}
use Rattle.evaluator.specs.declared.ast.BaseForm.TheVariants as form
use Rattle.evaluator.specs.declared.ast.BaseForm.{BaseForm}
use Rattle.expression.specs.ParserError.{all_numbers, numbers_of}
use Rattle.expression.specs.declared.expression.Exp.{Exp}
use Rattle.expression.specs.declared.parser_error.ParserError.TheVariants.{DuplicateModifier, InconsistentExtension, ThreeConsecutiveSemitones}
use Rattle.expression.specs.declared.parser_error.ParserError.{ParserError}
use Rattle.intervals.specs.Interval.{Set, empty}
use Rattle.std.specs.declared.option.Option.TheVariants as optional
use Rattle.note.specs.Note.{OptionalNote}
use Rattle.parser.specs.Parser.{parse_of, root_of}
use Rattle.reader.specs.Reader.{ReadOutcome, accepted, four_by, judge, parsed, validated}
use Rattle.token.specs.declared.Token.{Token}
use Rattle.validator.specs.Validator.{all_from, conflict_at, extension_fault, first_from, first_wrong, last_below, neighbours_at, only, or_else, others, present, priority_of, repeated_at, reported, seeing, semitone_errors, three, times_of, validation_of}
use Rattle.positions.proofs.Pairs.{Pairs, none, more, Same, pairs_append, pairs_if, pairs_length}
use Rattle.positions.proofs.Parses.{parse_same, root-same}
use Rattle.positions.proofs.Steps.{Shape, itself as the_same, extension, add as an-add, omit as an-omit, SameError, rows, SameExp}
use Rattle.positions.specs.Positions.{moved, moved_outcome}

-- an outcome by its parts
abbrev pub outcome : ℕ → ℕ → Four → List ℕ → ReadOutcome
outcome n c o l = record { number = n; count = c; four = o; errs = l }

-- what the stages and the checks ask of an expression
record Traits : Type 0 where
  direct : Set → Set
  alts : List ℕ
  omits : List ℕ
  adds : List ℕ
  is_sus4 : Bool
  is_maj : Bool
  ext : ℕ
  form : BaseForm
  bass : OptionalNote → OptionalNote
  sus : ℕ → ℕ
  priority : ℕ
  seeing : Set → Set

abbrev traits : Exp → Traits
traits e =
    record {
      direct = λ s. direct s e;
      alts = alts_of e;
      omits = omits_of e;
      adds = adds_of e;
      is_sus4 = is_sus4 e;
      is_maj = is_maj e;
      ext = ext_of e;
      form = form_of e;
      bass = λ b. bass_of b e;
      sus = sus_of e;
      priority = priority_of e;
      seeing = λ s. seeing s e;
    }

-- none of it goes by a position
traits_same : {e d : Exp} → Shape e d → traits e ≡ traits d
traits_same (the_same e) = refl
traits_same (extension i p q) = refl
traits_same (an-add i p q) = refl
traits_same (an-omit i p q) = refl

module _ (f g : ℕ → ℕ) where
  abbrev Exps : List Exp → List Exp → Type 0
  Exps = Pairs (SameExp f g)

  abbrev Errors : List ParserError → List ParserError → Type 0
  Errors = Pairs (SameError f g)

  -- a list of expressions from left to right, and whether one has a trait
  fold_same {ℓ} : {B : Type ℓ} {l m : List Exp} (v : B → Traits → B) → Exps l m → (b : B)
      → fold_left (λ c e. v c (traits e)) b l ≡ fold_left (λ c e. v c (traits e)) b m
  fold_same v none b = refl
  fold_same v (more {b = d} {l = l} s r) b =
      ap (λ t. fold_left (λ c e. v c (traits e)) (v b t) l) (traits_same s.shape) ∙ fold_same v r (v b (traits d))

  any_same : {l m : List Exp} (v : Traits → Bool) → Exps l m → any (λ e. v (traits e)) l ≡ any (λ e. v (traits e)) m
  any_same v none = refl
  any_same v (more s r) = ap₂ (λ t b. v t || b) (traits_same s.shape) (any_same v r)

  set_same : {l m : List Exp} → Exps l m → eval_set l ≡ eval_set m
  set_same r =
      rw (
        fold_same (λ s t. t.direct s) r seed,
        fold_same (λ b t. transition b t.form) r form.Major,
        fold_same (λ n t. max n t.ext) r 0,
        any_same (λ t. t.is_sus4) r,
        any_same (λ t. t.is_maj) r,
        fold_same (λ s t. fold_left alter s t.alts) r _,
        fold_same (λ s t. fold_left omit s t.omits) r _,
        fold_same (λ s t. fold_left add s t.adds) r _,
      )

  bass-same : {l m : List Exp} → Exps l m → slash_bass l ≡ slash_bass m
  bass-same r = fold_same (λ b t. t.bass b) r optional.None

  sus-same : {l m : List Exp} → Exps l m → first_sus l ≡ first_sus m
  sus-same none = refl
  sus-same (more s r) = ap₂ (λ t n. t.sus n) (traits_same s.shape) (sus-same r)

  four_same : {l m : List Exp} (n : OptionalNote) → Exps l m → four_by n l ≡ four_by n m
  four_same n r = rw (bass-same r, set_same r, sus-same r)

  -- ---- validation
  or_else-same : {a b c d : List ParserError} → Errors a b → Errors c d → Errors (or_else a c) (or_else b d)
  or_else-same none s = s
  or_else-same (more x r) s = more x r

  wrong_same : {l m : List Exp} → Exps l m → Errors (first_wrong l) (first_wrong m)
  unfolding first_wrong
  wrong_same none = none
  wrong_same (more s r) = or_else-same s.wrong (wrong_same r)

  fault_same : {l m : List Exp} (seen : Set) → Exps l m → Errors (extension_fault seen l) (extension_fault seen m)
  unfolding extension_fault
  fault_same seen none = none
  fault_same seen (more {a = e} {b = d} {l = l} {m = m} s r) =
      or_else-same (s.fault seen)
      (subst (λ t. Errors (extension_fault (seeing seen e) l) (extension_fault (t.seeing seen) m)) (traits_same s.shape)
      (fault_same (seeing seen e) r))

  times_same : {l m : List Exp} (p : ℕ) → Exps l m → times_of l p ≡ times_of m p
  unfolding times_of
  times_same p none = refl
  times_same p (more s r) = ap₂ (λ t n. cond (eqb t.priority p) 1 0 + n) (traits_same s.shape) (times_same p r)

  -- one check after the other, of which each finds the same
  first_same : (v w : ℕ → List ParserError) → ((i : ℕ) → Errors (v i) (w i)) → (n i : ℕ) → Errors (first_from v n i) (first_from w n i)
  unfolding first_from
  first_same v w h zero i = none
  first_same v w h (suc n) i = or_else-same (h i) (first_same v w h n (suc i))

  all_same : (v : ℕ → List ParserError) → ((i : ℕ) → Errors (v i) (v i)) → (n i : ℕ) → Errors (all_from v n i) (all_from v n i)
  unfolding all_from
  all_same v h zero i = none
  all_same v h (suc n) i = pairs_append (h i) (all_same v h n (suc i))

  -- an error without a position is the same on both sides
  only_same : (b c : Bool) (e : ParserError) → b ≡ c → moved f (numbers_of e) ≡ moved g (numbers_of e) → Errors (only b e) (only c e)
  only_same b c e h s = pairs_if h (more (rows s) none) none

  set-errors : (s : Set) → Errors (all_from (conflict_at s) 8 0) (all_from (conflict_at s) 8 0)
  set-errors s = all_same (conflict_at s) at_pair 8 0
    where
      at_pair : (i : ℕ) → Errors (conflict_at s i) (conflict_at s i)
      at_pair i =
          let b = s (get_or reported i 0) && s (get_or others i 0) in
          only_same b b (InconsistentExtension (get_or reported i 0)) refl refl

  semitones-same : (s : Set) → Errors (semitone_errors s) (semitone_errors s)
  unfolding semitone_errors
  semitones-same s = all_same (neighbours_at (present s) last) at_class 12 0
    where
      last : ℕ → ℕ
      last = last_below 23 s

      at_class : (c : ℕ) → Errors (neighbours_at (present s) last c) (neighbours_at (present s) last c)
      at_class c =
          let b = three (present s) c in
          only_same b b (ThreeConsecutiveSemitones (last c) (last ((c + 1) % 12)) (last ((c + 2) % 12))) refl refl

  validation_same : {l m : List Exp} (s : Set) → Exps l m → Errors (validation_of l s) (validation_of m s)
  unfolding validation_of
  validation_same {l} {m} s r =
      pairs_append (or_else-same (wrong_same r) (first_same (repeated_at (times_of l)) (repeated_at (times_of m)) twice 15 0))
      (pairs_append (or_else-same (fault_same empty r) (set-errors s)) (semitones-same s))
    where
      twice : (p : ℕ) → Errors (repeated_at (times_of l) p) (repeated_at (times_of m) p)
      twice p = only_same (ltb 1 (times_of l p)) (ltb 1 (times_of m p)) (DuplicateModifier p) (ap (ltb 1) (times_same p r)) refl

  -- ---- the answer
  numbers-same : {es ds : List ParserError} → Errors es ds → moved f (all_numbers es) ≡ moved g (all_numbers ds)
  numbers-same none = refl
  numbers-same (more (rows s) r) = ap₂ ◌++◌ s (numbers-same r)

  judge-same : {es ds : List ParserError} (o d : ReadOutcome) (n : ℕ) → Errors es ds → moved_outcome f o ≡ moved_outcome g d
      → moved_outcome f (judge es n o) ≡ moved_outcome g (judge ds n d)
  judge-same o d n none e = e
  judge-same o d n (more s r) e = ap₂ (λ c l. outcome n c no_chord l) (pairs_length (more s r)) (numbers-same (more s r))

  validated-same : {l m : List Exp} (n : OptionalNote) → Exps l m → moved_outcome f (validated n l) ≡ moved_outcome g (validated n m)
  validated-same {l} {m} n r =
      judge-same (accepted n l) (accepted n m) 5
      (subst (λ s. Errors (validation_of l (eval_set l)) (validation_of m s)) (set_same r) (validation_same (eval_set l) r))
      (ap (λ o. outcome 0 0 o []) (four_same n r))

  module _ (origin : f 0 ≡ g 0) where
    pub parsed-same : {ts us : List Token} → Pairs (Same f g) ts us → moved_outcome f (parsed ts) ≡ moved_outcome g (parsed us)
    parsed-same {ts} {us} l =
        let s = parse_same f g origin l in
        judge-same (validated (root_of ts) (parse_of ts).exps) (validated (root_of us) (parse_of us).exps) 4 s.errs
        (validated-same (root_of ts) s.exps ∙ ap (λ n. moved_outcome g (validated n (parse_of us).exps)) (root-same f g origin l))
