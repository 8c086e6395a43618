-- Which fours some accepted text has, and that the house spelling of these is accepted and has them. The text half is `text_lemma`, the set half
-- is house_parts `round_at` and `struct`; what validation finds in the set is carried over. No chord is read from the empty text.
-- Assumes nothing.
use mathlib.Core.Bool.{Bool, true, false, not, ◌&&◌}
use mathlib.Core.List.{List, [], ◌∷◌, ◌++◌}
use mathlib.Core.Logic.{◌↔◌}
use mathlib.Core.Path.{◌≡◌, refl, sym, ap, subst, fun_ext, ◌∙◌}
use Prim.Native.Nat.{ℕ, ◌≤◌}
use native.Mathlib.Omega.{arith}
use lib.Dec.{T, ltb}
use lib.ListN.{length}
use borrow.Author.Tests.{ltb-false, ltb-true}
use Rattle.chord.specs.Chord.{Four, no_chord}
use Rattle.intervals.specs.Stored.{within}
use Rattle.intervals.specs.Interval.{Set, empty}
use Rattle.note.specs.declared.Note.{Note}
use Rattle.note.specs.declared.NoteLiteral.TheVariants.{C, D, E, F, G, A, B}
use Rattle.note.specs.declared.NoteLiteral.{NoteLiteral}
use Rattle.std.specs.declared.option.Option.TheVariants.{None, Some}
use Rattle.note.specs.Note.{OptionalNote}
use Rattle.display.specs.Display.{display_of, first_sus, order}
use Rattle.evaluator.specs.Evaluator.{eval_set}
use Rattle.expression.specs.declared.expression.Exp.{Exp}
use Rattle.expression.specs.declared.parser_error.ParserError.TheVariants.{InconsistentExtension}
use Rattle.expression.specs.declared.parser_error.ParserError.{ParserError}
use Rattle.house_text.proofs.Accepted.{spelled_valid}
use Rattle.house_text.proofs.Allowed.{allowed_of, nil, none_of}
use Rattle.house_text.proofs.Back.{bass-back, kind-back}
use Rattle.house_text.proofs.Beyond.{beyond, spelled_allowed}
use Rattle.house_parts.proofs.Bools.{and_left, and_right, both_pass}
use Rattle.house_text.proofs.Displayed.{display-by, kind_displayed}
use Rattle.house_text.proofs.Invariants.{struct}
use Rattle.house_text.proofs.Low.{Low, low_of, within_of}
use Rattle.house_text.proofs.Round.{round_at}
use Rattle.house_text.proofs.Struct.{Struct, apart, together}
use Rattle.house_parts.proofs.Nothing.{Narrow, no_chord-realizable, rootless-says}
use Rattle.house_parts.proofs.Tests.{passed, same_lists, same_self}
use Rattle.house_parts.specs.House.{display_by, kind_in, kind_of, parts, spell_exps}
use Rattle.house_parts.specs.declared.kind.SusKind.{SusKind}
use Rattle.house_parts.specs.Question.{all, clauses, realizable, realizable_by, same_list}
use Rattle.parser.proofs.Laws.{expressions_sound, root_note}
use Rattle.parser.specs.All.{All}
use Rattle.parser.specs.Parser.{parse_of, root_of}
use Rattle.house_text.proofs.Length.{length-spelled}
use Rattle.house_text.proofs.TextLemma.{places, text_lemma}
use Rattle.house_text.proofs.WellFormed.{blank_utf8, spelled_utf8}
use Rattle.house_text.specs.Spelling.{house, house_by, letter_text, sign_text, spell, texts, written}
use Rattle.reader.proofs.Answers.{Way, accept, blank, bytes, is-blank, is-text, long, parse, validation, way}
use Rattle.reader.specs.Reader.{IsAccepted, ReadOutcome, accepted, answer_to, is_blank, judge, tokens_in}
use Rattle.expression.specs.Bounds.{Sound}
use Rattle.utf8.specs.Utf8.{well_formed}
use Rattle.validator.specs.Validator.{all_from, conflict_at, expression_errors, extension_errors, extension_fault, first_wrong, is_nil, only, or_else, repeated, semitone_errors, set_valid, validation_of}

-- what parsing finds
abbrev exps_in : List ℕ → List Exp
exps_in t = (parse_of (tokens_in t)).exps

-- ---- what validation says of the set is carried over

cons_nil : {x : ParserError} {l : List ParserError} → x ∷ l ≡ [] → {X : Type 0} → X
cons_nil e = let z = ap length e in absurd (omega (arith, z))

none_both : (a b : List ParserError) → a ++ b ≡ [] → (a ≡ []) × (b ≡ [])
none_both [] b e = (refl, e)
none_both (x ∷ a) b e = cons_nil e

-- what validation's test of the set says
pub record SetValid (s : Set) : Type 0 where
  pub conflicts : all_from (conflict_at s) 8 0 ≡ []
  pub semitones : semitone_errors s ≡ []

nil_passes : (l : List ParserError) → l ≡ [] → T (is_nil l)
nil_passes [] e = tt
nil_passes (x ∷ l) e = cons_nil e

set_passes : (s : Set) → T (set_valid s) → SetValid s
unfolding set_valid
set_passes s t =
    let a = is_nil (all_from (conflict_at s) 8 0) in
    let b = is_nil (semitone_errors s) in
    record { conflicts = nil (all_from (conflict_at s) 8 0) (and_left a b t); semitones = nil (semitone_errors s) (and_right a b t) }

passes_set : (s : Set) → SetValid s → T (set_valid s)
unfolding set_valid
passes_set s v =
    both_pass (is_nil (all_from (conflict_at s) 8 0)) (is_nil (semitone_errors s)) (nil_passes (all_from (conflict_at s) 8 0) v.conflicts) (nil_passes (semitone_errors s) v.semitones)

set_valid_lem : (l : List Exp) (s : Set) → validation_of l s ≡ [] → (first_wrong l ≡ []) × SetValid s
unfolding validation_of
set_valid_lem l s e =
    let a = none_both (expression_errors l) (extension_errors l s ++ semitone_errors s) e in
    let b = none_both (extension_errors l s) (semitone_errors s) a.1 in
    ((none_of (first_wrong l) (repeated l) a.0).0, record { conflicts = (none_of (extension_fault empty l) (all_from (conflict_at s) 8 0) b.0).1; semitones = b.1 })

all_valid : (l : List Exp) (s : Set) → first_wrong l ≡ [] → repeated l ≡ [] → extension_fault empty l ≡ [] → SetValid s → validation_of l s ≡ []
unfolding validation_of
all_valid l s w r f v = λ i. or_else (w i) (r i) ++ (or_else (f i) (v.conflicts i) ++ v.semitones i)

-- no two thirds: the first row of INCOMPAT_SET
unlit : (a b : Bool) (e : ParserError) (r : List ParserError) → only (a && b) e ++ r ≡ [] → T (not (b && a))
unlit true true e r h = cons_nil h
unlit true false e r h = tt
unlit false true e r h = tt
unlit false false e r h = tt

one_third : (s : Set) → SetValid s → T (not (s 3 && s 4))
unfolding all_from
one_third s v = unlit (s 4) (s 3) (InconsistentExtension 4) (all_from (conflict_at s) 7 1) v.conflicts

-- ---- the spelling is accepted

-- the answer to a text that has passed the layers
is_read : (t : List ℕ) → length t ≤ 256 → well_formed t ≡ true → is_blank t ≡ false → (parse_of (tokens_in t)).errs ≡ []
    → validation_of (exps_in t) (eval_set (exps_in t)) ≡ [] → answer_to t ≡ accepted (root_of (tokens_in t)) (exps_in t)
is_read t h u b p v = is-text t h u b ∙ (λ i. judge (p i) 4 (judge (v i) 5 (accepted (root_of (tokens_in t)) (exps_in t))))

-- a spelling begins with its root's letter
not-blank : (r : Note) (b : OptionalNote) (n : Set) (k : SusKind) → is_blank (spell r b n k) ≡ false
unfolding is_blank
not-blank r b n k = by r.literal
  where
    by : (l : NoteLiteral) → is_blank ((letter_text l ++ sign_text r.modifier) ++ written (parts (λ i. 0) b n k) (texts b)) ≡ false
    by C = refl
    by D = refl
    by E = refl
    by F = refl
    by G = refl
    by A = refl
    by B = refl

-- a blank text is accepted as no chord, and so is the empty one, which is the house spelling of no chord
pub blank-accepted : (t : List ℕ) → length t ≤ 256 → is_blank t ≡ true → IsAccepted t no_chord
blank-accepted t h b =
    let e = is-blank t h (blank_utf8 t b) b in
    record { number = ap (λ (x : ReadOutcome). x.number) e; four = ap (λ (x : ReadOutcome). x.four) e }

pub empty-accepted : IsAccepted [] no_chord
unfolding is_blank
empty-accepted = blank-accepted [] (omega arith) refl

-- ---- which fours some accepted text has

-- a root with a set that the clauses and validation allow; or no chord
pub data Sounding (f : Four) : Type 0 where
  rooted : (r : Note) → f.root ≡ Some r → Struct f.normalized (kind_in f.normalized f.display) → SetValid f.normalized
      → Sounding f
  silence : f ≡ no_chord → Sounding f

-- what the test `realizable` says, and that there is no member outside the table
pub record Realizable (f : Four) : Type 0 where
  pub sounding : Sounding f
  pub within : Low f.normalized
  pub displayed : f.display ≡ display_by (kind_in f.normalized f.display) f.normalized

-- no chord, whose display list is the empty one that its set gives
no_chord-shown : [] ≡ display_by (kind_in empty []) empty
unfolding display_of order
no_chord-shown = refl

no_chord_lem : (f : Four) → f ≡ no_chord → Realizable f
no_chord_lem f e = subst Realizable (sym e) (record { sounding = silence refl; within = λ j h. refl; displayed = no_chord-shown })

module _ (r : Note) (b : OptionalNote) (n : Set) (k : SusKind) (c : Struct n k) (v : SetValid n) (w : Low n) where
  abbrev text : List ℕ
  text = spell r b n k

  abbrev l' : List Exp
  l' = spell_exps (places r n k) b n k

  -- below 23 by the round trip, from 23 on neither has a member
  same : eval_set l' ≡ n
  same = fun_ext λ j. by j (ltb j 23) refl
    where
      by : (j : ℕ) (t : Bool) → ltb j 23 ≡ t → eval_set l' j ≡ n j
      by j true e = round_at (places r n k) b n k c (one_third n v) j (ltb-true j 23 e)
      by j false e = beyond l' (spelled_allowed (places r n k) b n k) j (ltb-false j 23 e) ∙ sym (w j (ltb-false j 23 e))

  exps : exps_in text ≡ l'
  exps = (text_lemma r b n k).1

  validates : validation_of (exps_in text) (eval_set (exps_in text)) ≡ []
  validates =
      let s = spelled_valid (places r n k) b n k in
      ap (λ (x : List Exp). validation_of x (eval_set x)) exps ∙ ap (λ (q : Set). validation_of l' q) same ∙ all_valid l' n s.0 s.1 s.2 v

  reads : answer_to text ≡ accepted (root_of (tokens_in text)) (exps_in text)
  reads =
      let h = length-spelled r b n k in
      is_read text (omega (arith, h)) (spelled_utf8 r b n k) (not-blank r b n k) (text_lemma r b n k).0 validates

  display : display_of (first_sus l') (eval_set l') ≡ display_by k n
  display = ap (display_of (first_sus l')) same ∙ display-by (first_sus l') n ∙ ap (λ (q : SusKind). display_by q n) (kind-back (places r n k) b n k)

  -- the spelling of any root and bass with such a set and K is accepted, with these four
  spelled-reads : answer_to text ≡ record {
    number = 0;
    count = 0;
    four = record { root = Some r; bass = b; normalized = n; display = display_by k n };
    errs = [];
  }
  spelled-reads =
      reads
      ∙ (λ i. accepted ((text_lemma r b n k).2 i) (exps i))
      ∙ (λ i. record {
        number = 0;
        count = 0;
        four = record { root = Some r; bass = bass-back (places r n k) b n k i; normalized = same i; display = display i };
        errs = [];
      })

-- the house spelling of a realizable four is accepted, and has these four
pub spelling_realizes : (f : Four) → Realizable f → IsAccepted (house f) f
spelling_realizes f h = by h.sounding
  where
    by : Sounding f → IsAccepted (house f) f
    by (rooted r q c v) =
        let k = kind_in f.normalized f.display in
        let t : house f ≡ spell r f.bass f.normalized k = ap (λ (x : OptionalNote). house_by x f) q in
        let z = ap answer_to t ∙ spelled-reads r f.bass f.normalized k c v h.within in
        record {
          number = ap (λ (x : ReadOutcome). x.number) z;
          four = ap (λ (x : ReadOutcome). x.four) z
              ∙ (λ i. record { root = sym q i; bass = f.bass; normalized = f.normalized; display = sym h.displayed i });
        }
    by (silence e) = subst (λ (g : Four). IsAccepted (house g) g) (sym e) empty-accepted

-- so is what an accepted text was read as, by the questions that it passed
read-realizable : (t : List ℕ) {o : ReadOutcome} → Way t o → o.number ≡ 0 → Realizable o.four
read-realizable t (long h) e = absurd (omega (arith, e))
read-realizable t (bytes h u) e = absurd (omega (arith, e))
read-realizable t (blank h u b) e = no_chord_lem no_chord refl
read-realizable t (parse h u b p) e = absurd (omega (arith, e))
read-realizable t (validation h u b p v) e = absurd (omega (arith, e))
read-realizable t (accept h u b p v) e =
    let l = exps_in t in
    let n = eval_set l in
    let q = root_note (tokens_in t) p in
    let c = set_valid_lem l n v in
    let o = allowed_of (All Sound) (λ e m s. s) l (expressions_sound (tokens_in t)) c.0 in
    let s = struct l o in
    let k : kind_in n (display_of (first_sus l) n) ≡ kind_of (first_sus l) = kind_displayed (first_sus l) n s.s11a s.s11b s.s11c in
    record {
      sounding = rooted q.0 q.1 (subst (Struct n) (sym k) s) c.1;
      within = beyond l o;
      displayed = display-by (first_sus l) n ∙ ap (λ (x : SusKind). display_by x n) (sym k);
    }

-- the four of an accepted text are realizable
pub accepted-realizable : (t : List ℕ) (f : Four) → IsAccepted t f → Realizable f
accepted-realizable t f a = subst Realizable a.four (read-realizable t (way t) a.number)

-- ---- the test

-- with a root it asks for these
with_root : (r : Note) (f : Four) → f.root ≡ Some r
    → realizable f ≡ within f.normalized && realizable_by (kind_in f.normalized f.display) f.normalized f.display
with_root r f q = ap realizable (λ i. record { root = q i; bass = f.bass; normalized = f.normalized; display = f.display })

-- what it says of a record with a root
told : (r : Note) (f : Four) → f.root ≡ Some r → Narrow f.normalized
    → T (within f.normalized && realizable_by (kind_in f.normalized f.display) f.normalized f.display) → Realizable f
told r f e w t =
    let n = f.normalized in
    let d = f.display in
    let k = kind_in n d in
    let v = and_right (within n) (realizable_by k n d) t in
    let u = and_right (all (clauses n k)) (set_valid n && same_list d (display_by k n)) v in
    let c = apart n k (and_left (all (clauses n k)) (set_valid n && same_list d (display_by k n)) v) in
    record {
      sounding = rooted r e c (set_passes n (and_left (set_valid n) (same_list d (display_by k n)) u));
      within = low_of n (passed (within n) (and_left (within n) (realizable_by k n d) t)) w;
      displayed = same_lists d (display_by k n) (and_right (set_valid n) (same_list d (display_by k n)) u);
    }

pub test_says : (f : Four) → Narrow f.normalized → realizable f ≡ true → Realizable f
test_says f w e = by f.root refl
  where
    by : (r : OptionalNote) → f.root ≡ r → Realizable f
    by (Some r) q = told r f q w (subst T (sym e ∙ with_root r f q) tt)
    by None q = no_chord_lem f (rootless-says f q w e)

pub says_test : (f : Four) → Realizable f → realizable f ≡ true
says_test f h = by h.sounding
  where
    by : Sounding f → realizable f ≡ true
    by (rooted r q c v) =
        let n = f.normalized in
        let d = f.display in
        let k = kind_in n d in
        let s : T (same_list d (display_by k n)) = subst (λ (x : List ℕ). T (same_list d x)) h.displayed (same_self d) in
        let w : T (within n) = subst T (sym (within_of n h.within)) tt in
        let t = both_pass (within n) (realizable_by k n d) w
        (both_pass (all (clauses n k)) (set_valid n && same_list d (display_by k n)) (together n k c)
        (both_pass (set_valid n) (same_list d (display_by k n)) (passes_set n v) s)) in
        with_root r f q ∙ passed (within n && realizable_by k n d) t
    by (silence e) = no_chord-realizable f e

-- "Has some accepted text exactly these four?": exactly when the test passes
pub some-text : (f : Four) → Narrow f.normalized → (realizable f ≡ true) ↔ ((t : List ℕ) × IsAccepted t f)
some-text f w = (λ e. (house f, spelling_realizes f (test_says f w e)), λ a. says_test f (accepted-realizable a.0 f a.1))
