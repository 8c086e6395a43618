-- Which errors there are: each of a kind that occurs, and not more than there is room for. An effect of a token has at most one, and so has
-- each check of validation; the lists are appended. Assumes nothing.
use mathlib.Core.Bool.{Bool, true, false, not, ◌&&◌, ◌||◌, cond}
use mathlib.Core.List.{List, [], ◌∷◌, ◌++◌}
use mathlib.Core.Path.{◌≡◌, subst}
use Prim.Native.Nat.{ℕ, zero, suc, ◌+◌, ◌*◌, ◌%◌, ◌≤◌, ◌<◌}
use native.Mathlib.Omega.{arith}
use lib.Dec.{T, eqb, ltb}
use lib.IntN.{pos}
use lib.ListN.{drop, get_or, length, length-append}
use Rattle.lookahead.specs.Next.{is_end, is_maj7, is_number, is_sign, note_from, number_in, sign_in}
use Rattle.lookahead.specs.declared.Ahead.{Ahead}
use Rattle.lookahead.specs.declared.Next.{Next}
use Rattle.intervals.specs.Interval.{elem, Set, empty, semitones}
use Rattle.std.specs.declared.option.Option.TheVariants as optional
use Rattle.note.specs.Note.{OptionalNote}
use Rattle.note.specs.declared.RootModifier.TheVariants.{Natural, Sharp, Flat}
use Rattle.note.specs.declared.RootModifier.{RootModifier}
use Rattle.expression.specs.ParserError.{all_numbers, row_of}
use Rattle.expression.specs.declared.expression.Exp.TheVariants as exp
use Rattle.expression.specs.declared.expression.Exp.{Exp}
use Rattle.expression.specs.declared.parser_error.ParserError.TheVariants.{DuplicateModifier, InconsistentExtension, DuplicateExtension, InvalidExtension, WrongExpressionTarget, ThreeConsecutiveSemitones}
use Rattle.expression.specs.declared.parser_error.ParserError.{ParserError}
use Rattle.parser.specs.All.{All}
use Rattle.parser.specs.Parser.{Parsing, ahead_of, applied, blank, effect_at, error_of, here_of, itself, next_at, parse_of, root_effect, root_of, stack_turn, token_turn, walk}
use Rattle.step.specs.Effect.{taking}
use Rattle.step.specs.Interval.{interval_of}
use Rattle.step.specs.Step.{add_interval, add_signed, add_target, inside_of, interval_alone, is_power, modifier_step, note_step, omit_target, placed, six_nine, step_of, sus_allows}
use Rattle.step.specs.declared.context.Context.TheVariants as context
use Rattle.step.specs.declared.context.Context.{Context}
use Rattle.step.specs.declared.effect.Effect.{Effect}
use Rattle.step.specs.declared.effect.Here.{Here}
use Rattle.step.specs.Effect.{OptionalError}
use Rattle.token.specs.Token.{bracket_kind, type_of}
use Rattle.token.specs.declared.Token.{Token}
use Rattle.token.specs.declared.Bracket.TheVariants.{Opens, Closes, Ends, Other}
use Rattle.token.specs.declared.Bracket.{Bracket}
use Rattle.token.specs.declared.TokenType.TheVariants as type
use Rattle.token.specs.declared.TokenType.{TokenType}
use Rattle.validator.specs.Validator.{only, or_else, first_from, all_from, wrong_of, first_wrong, times_of, repeated_at, repeated, expression_errors, add_targets, omit_targets, bad_extensions, fault_of, seeing, extension_fault, reported, others, conflict_at, extension_errors, last_below, neighbours_at, present, three, semitone_errors, validation_of}
use Rattle.parser.proofs.Laws.{all_append, errors-most}

-- 1 to 17 but for 13
abbrev pub occurs : ℕ → Bool
occurs k = ltb 0 k && (ltb k 18 && not (eqb k 13))

abbrev Occurs : ParserError → Type 0
Occurs e = T (occurs (row_of e).kind)

-- the kind of an error is the first of its four numbers
pub kind_at : (l : List ParserError) → All Occurs l → (i : ℕ) → i < length l → T (occurs (get_or (all_numbers l) (4 * i) 0))
kind_at [] o i h = absurd (omega (arith, h))
kind_at (e ∷ l) o zero h = o.0
kind_at (e ∷ l) o (suc i) h =
    let q : suc (suc (suc (suc (4 * i)))) ≡ 4 * suc i = omega arith in
    subst (λ (n : ℕ). T (occurs (get_or (all_numbers (e ∷ l)) n 0))) q (kind_at l o.1 i (omega (arith, h)))

-- ---- the effect of a token

abbrev Fine : OptionalError → Type 0
Fine optional.None = Unit
Fine (optional.Some e) = Occurs e

abbrev Calm : Effect → Type 0
Calm e = Fine e.error

choice : (P : Effect → Type 0) (b : Bool) {x y : Effect} → P x → P y → P (cond b x y)
choice P true f g = f
choice P false f g = g

module _ (h : Here) where
  alone : (i p : ℕ) → Calm (interval_alone h i p)
  alone i p = choice Calm (eqb i 5) tt (choice Calm (eqb i 6) tt tt)

  added : (c : Context) (i p : ℕ) → Calm (add_interval c h i p)
  added context.None i p = alone i p
  added context.Sus i p = choice Calm (sus_allows i) tt tt
  added (context.Group g) i p = choice Calm g.active tt (alone i p)

  place : (i p q : ℕ) → Calm (placed h i p q)
  place i p q = choice Calm (eqb i 23) tt (added h.context i p)

  modifier : (m : RootModifier) (nx : Next) → Calm (modifier_step m h nx)
  modifier m nx = choice Calm (is_number nx) (place (interval_of m (number_in nx)) h.pos (h.pos + 1)) tt

  omit : (nx : Next) → Calm (omit_target h nx)
  omit nx = choice Calm (eqb (number_in nx) 5) tt (choice Calm (eqb (number_in nx) 3) tt tt)

  target : (k : ℕ) (m : RootModifier) (nx : Next) (q : ℕ) → Calm (add_target k m h nx q)
  target k m nx q = choice Calm (is_number nx) (choice (λ (e : Effect). Calm (taking (k + 1) e)) (eqb (interval_of m (number_in nx)) 23) tt tt)
      (choice Calm (is_maj7 nx) tt tt)

  add : (a : Ahead) → Calm (add_signed h a)
  add a = choice Calm (is_sign a.first) (target 1 (sign_in a.first) a.second a.pos2) (target 0 Natural a.first a.pos)

  bass : (n : OptionalNote) (a : Ahead) → Calm (note_step n h a)
  bass (optional.Some n) a = choice Calm (is_sign a.second) (choice Calm (is_end a.third) tt tt) (choice Calm (is_end a.second) tt tt)
  bass optional.None a = tt

step_calm : (k : TokenType) (h : Here) (a : Ahead) → Calm (step_of k h a)
step_calm (type.Note l) h a = tt
step_calm type.Sharp h a = modifier h Sharp a.first
step_calm type.Flat h a = modifier h Flat a.first
step_calm type.Aug h a = choice Calm (eqb (number_in a.first) 5) tt tt
step_calm type.Dim h a = tt
step_calm type.Dim7 h a = tt
step_calm type.HalfDim h a = tt
step_calm (type.Extension n) h a = choice Calm (is_power n h.context) tt (place h (interval_of Natural n) h.pos h.pos)
step_calm type.Add h a = add h a
step_calm type.Omit h a = omit h a.first
step_calm type.Alt h a = tt
step_calm type.Sus h a = choice Calm (is_number a.first || is_sign a.first) tt tt
step_calm type.Minor h a = tt
step_calm type.Hyphen h a = choice Calm (eqb (number_in a.first) 5) tt tt
step_calm type.Maj h a = tt
step_calm type.Maj7 h a = tt
step_calm type.Slash h a = choice Calm (six_nine h a.first) (choice Calm (is_end a.second) tt tt)
    (bass h (note_from a.first (sign_in a.second)) a)
step_calm type.LParent h a = tt
step_calm type.RParent h a = tt
step_calm type.Comma h a = tt
step_calm type.Bass h a = tt
step_calm type.Illegal h a = tt
step_calm type.Eof h a = tt

inside_calm : (b : Bracket) (q : ℕ) (k : TokenType) (h : Here) (a : Ahead) → Calm (inside_of b q k h a)
inside_calm Closes q k h a = tt
inside_calm Ends q k h a = tt
inside_calm Opens q k h a = tt
inside_calm Other q k h a = step_calm k h a

effect_calm : (stk : List ℕ) (k : TokenType) (h : Here) (a : Ahead) → Calm (effect_at stk k h a)
effect_calm [] k h a = step_calm k h a
effect_calm (q ∷ qs) k h a = inside_calm (bracket_kind k) q k h a

-- ---- the tokens

error_occurs : (e : OptionalError) → Fine e → All Occurs (error_of itself e)
error_occurs optional.None f = tt
error_occurs (optional.Some e) f = (f, tt)

turn_occur : (n : ℕ) (stk : List ℕ) (s : Parsing ParserError) (t : Token) (ts : List Token) → All Occurs s.errs
    → All Occurs (token_turn itself n stk s t ts).errs
turn_occur zero stk s t ts o =
    let e = effect_at stk (type_of t.kind) (here_of t s) (ahead_of ts) in
    all_append Occurs s.errs (error_of itself e.error) o
    (error_occurs e.error (effect_calm stk (type_of t.kind) (here_of t s) (ahead_of ts)))
turn_occur (suc n) stk s t ts o = o

walk_occur : (stk : List ℕ) (s : Parsing ParserError) (ts : List Token) → All Occurs s.errs → All Occurs (walk itself stk s ts).errs
unfolding walk
walk_occur stk s [] o = o
walk_occur stk s (t ∷ ts) o =
    walk_occur (stack_turn s.skip stk t) (token_turn itself s.skip stk s t ts) ts (turn_occur s.skip stk s t ts o)

root_occurs : (n : OptionalNote) (nx : Next) → All Occurs (applied itself (root_effect n nx) blank).errs
root_occurs (optional.Some n) nx = tt
root_occurs optional.None nx = (tt, tt)

parse_occur : (ts : List Token) → All Occurs (parse_of ts).errs
parse_occur ts =
    walk_occur [] (applied itself (root_effect (root_of ts) (next_at ts 1)) blank) (drop 1 ts) (root_occurs (root_of ts) (next_at ts 1))

-- n errors at most, of kinds that occur
pub record Errors (n : ℕ) (l : List ParserError) : Type 0 where
  pub few : length l ≤ n
  pub each : All Occurs l

pub parse_errors_lem : (ts : List Token) → length ts ≤ 257 → Errors 257 (parse_of ts).errs
parse_errors_lem ts h = record { few = errors-most ts h; each = parse_occur ts }

-- ---- validation

nil_errors : (n : ℕ) → Errors n []
nil_errors n = record { few = omega arith; each = tt }

-- those of a, and then those of b
both : {n m : ℕ} (r : ℕ) (a b : List ParserError) → n + m ≤ r → Errors n a → Errors m b → Errors r (a ++ b)
both r a b h e f = record { few = omega (arith, h, e.few, f.few, length-append a b); each = all_append Occurs a b e.each f.each }

wider : {n : ℕ} (m : ℕ) {l : List ParserError} → n ≤ m → Errors n l → Errors m l
wider m h e = record { few = omega (arith, h, e.few); each = e.each }

one_error : (e : ParserError) → Occurs e → Errors 1 (e ∷ [])
one_error e o = record { few = omega arith; each = (o, tt) }

only-errors : (b : Bool) (e : ParserError) → Occurs e → Errors 1 (only b e)
only-errors true e o = one_error e o
only-errors false e o = nil_errors 1

else_errors : {n : ℕ} (a b : List ParserError) → Errors n a → Errors n b → Errors n (or_else a b)
else_errors [] b e f = f
else_errors (x ∷ a) b e f = e

module _ (f : ℕ → List ParserError) (each : (i : ℕ) → Errors 1 (f i)) where
  first_errors : (n i : ℕ) → Errors 1 (first_from f n i)
  unfolding first_from
  first_errors zero i = nil_errors 1
  first_errors (suc n) i = else_errors (f i) (first_from f n (suc i)) (each i) (first_errors n (suc i))

  all-errors : (n i : ℕ) → Errors n (all_from f n i)
  unfolding all_from
  all-errors zero i = nil_errors 0
  all-errors (suc n) i = both (suc n) (f i) (all_from f n (suc i)) (omega arith) (each i) (all-errors n (suc i))

wrong_errors : (e : Exp) → Errors 1 (wrong_of e)
wrong_errors exp.Power = nil_errors 1
wrong_errors exp.Bass = nil_errors 1
wrong_errors exp.Maj = nil_errors 1
wrong_errors exp.Maj7 = nil_errors 1
wrong_errors exp.Minor = nil_errors 1
wrong_errors exp.HalfDim = nil_errors 1
wrong_errors exp.Dim = nil_errors 1
wrong_errors exp.Dim7 = nil_errors 1
wrong_errors exp.Alt = nil_errors 1
wrong_errors exp.Aug = nil_errors 1
wrong_errors (exp.Sus x) = nil_errors 1
wrong_errors (exp.Extension x p) = nil_errors 1
wrong_errors (exp.Add x p) = only-errors (not (elem x add_targets)) (WrongExpressionTarget p) tt
wrong_errors (exp.Omit x p) = only-errors (not (elem x omit_targets)) (WrongExpressionTarget p) tt
wrong_errors (exp.SlashBass n) = nil_errors 1

first_wrong-errors : (l : List Exp) → Errors 1 (first_wrong l)
unfolding first_wrong
first_wrong-errors [] = nil_errors 1
first_wrong-errors (e ∷ l) = else_errors (wrong_of e) (first_wrong l) (wrong_errors e) (first_wrong-errors l)

fault_at-errors : (b : Bool) (seen : Set) (x p : ℕ)
    → Errors 1 (cond b (InvalidExtension p ∷ []) (only (seen (semitones x)) (DuplicateExtension p)))
fault_at-errors true seen x p = one_error (InvalidExtension p) tt
fault_at-errors false seen x p = only-errors (seen (semitones x)) (DuplicateExtension p) tt

fault_errors : (seen : Set) (e : Exp) → Errors 1 (fault_of seen e)
fault_errors seen exp.Power = nil_errors 1
fault_errors seen exp.Bass = nil_errors 1
fault_errors seen exp.Maj = nil_errors 1
fault_errors seen exp.Maj7 = nil_errors 1
fault_errors seen exp.Minor = nil_errors 1
fault_errors seen exp.HalfDim = nil_errors 1
fault_errors seen exp.Dim = nil_errors 1
fault_errors seen exp.Dim7 = nil_errors 1
fault_errors seen exp.Alt = nil_errors 1
fault_errors seen exp.Aug = nil_errors 1
fault_errors seen (exp.Sus x) = nil_errors 1
fault_errors seen (exp.Extension x p) = fault_at-errors (elem x bad_extensions) seen x p
fault_errors seen (exp.Add x p) = nil_errors 1
fault_errors seen (exp.Omit x p) = nil_errors 1
fault_errors seen (exp.SlashBass n) = nil_errors 1

extension_fault-errors : (seen : Set) (l : List Exp) → Errors 1 (extension_fault seen l)
unfolding extension_fault
extension_fault-errors seen [] = nil_errors 1
extension_fault-errors seen (e ∷ l) = else_errors (fault_of seen e) (extension_fault (seeing seen e) l) (fault_errors seen e)
    (extension_fault-errors (seeing seen e) l)

repeated-errors : (l : List Exp) → Errors 1 (repeated l)
repeated-errors l = first_errors (repeated_at (times_of l)) (λ p. only-errors (ltb 1 (times_of l p)) (DuplicateModifier p) tt) 15 0

expression_errors_lem : (l : List Exp) → Errors 1 (expression_errors l)
expression_errors_lem l = else_errors (first_wrong l) (repeated l) (first_wrong-errors l) (repeated-errors l)

conflict_errors : (s : Set) (i : ℕ) → Errors 1 (conflict_at s i)
conflict_errors s i = only-errors (s (get_or reported i 0) && s (get_or others i 0)) (InconsistentExtension (get_or reported i 0)) tt

extension_errors_lem : (l : List Exp) (s : Set) → Errors 8 (extension_errors l s)
extension_errors_lem l s =
    else_errors (extension_fault empty l) (all_from (conflict_at s) 8 0) (wider 8 (omega arith) (extension_fault-errors empty l))
    (all-errors (conflict_at s) (conflict_errors s) 8 0)

semitone_errors_lem : (s : Set) → Errors 12 (semitone_errors s)
unfolding semitone_errors
semitone_errors_lem s =
    let last = last_below 23 s in
    all-errors (neighbours_at (present s) last)
    (λ c. only-errors (three (present s) c) (ThreeConsecutiveSemitones (last c) (last ((c + 1) % 12)) (last ((c + 2) % 12))) tt) 12 0

-- one of the expressions, one for each of eight pairs and one for each of twelve classes, at most
validation_21 : (l : List Exp) (s : Set) → Errors 21 (validation_of l s)
unfolding validation_of
validation_21 l s =
    both 21 (expression_errors l) (extension_errors l s ++ semitone_errors s) (omega arith) (expression_errors_lem l)
    (both 20 (extension_errors l s) (semitone_errors s) (omega arith) (extension_errors_lem l s) (semitone_errors_lem s))

pub validation_errors_lem : (l : List Exp) (s : Set) → Errors 257 (validation_of l s)
validation_errors_lem l s = wider 257 (omega arith) (validation_21 l s)
