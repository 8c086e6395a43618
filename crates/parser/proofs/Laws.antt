-- Laws of `parse_of`: at most 257 errors and 257 expressions, intervals below 23 and no extension #4, and no root only with an error. All
-- come from one record of what a token can add, carried over the tokens by one induction.
use mathlib.Core.List.{List, [], ◌∷◌, ◌++◌}
use mathlib.Core.Path.{◌≡◌, refl, ap}
use Prim.Native.Nat.{ℕ, zero, suc, ◌+◌, ◌≤◌}
use native.Mathlib.Omega.{arith}
use lib.ListN.{length, drop, length-append}
use Rattle.note.specs.declared.Note.{Note}
use Rattle.std.specs.declared.option.Option.TheVariants as optional
use Rattle.note.specs.Note.{OptionalNote}
use Rattle.step.proofs.Laws.{inside-small, inside-sound, step_small, step-sound}
use Rattle.expression.specs.Bounds.{Sound}
use Rattle.expression.specs.declared.parser_error.ParserError.{ParserError}
use Rattle.step.specs.Bounds.{Small, SoundGains, gains_count, sus_bit}
use Rattle.step.specs.declared.effect.Effect.{Effect}
use Rattle.step.specs.declared.effect.Gains.TheVariants as gains
use Rattle.step.specs.declared.effect.Gains.{Gains}
use Rattle.step.specs.declared.effect.Here.{Here}
use Rattle.lookahead.specs.declared.Ahead.{Ahead}
use Rattle.lookahead.specs.declared.Next.{Next}
use Rattle.token.specs.Token.{bracket_kind, type_of}
use Rattle.token.specs.declared.Token.{Token}
use Rattle.token.specs.declared.TokenType.{TokenType}
use Rattle.parser.specs.All.{All}
use Rattle.parser.specs.Parser.{Parsing, ahead_of, applied, blank, effect_at, error_of, gains_of, here_of, itself, next_at, parse_of, root_effect, root_of, skipping, stack_turn, token_turn, walk}
use Rattle.parser.proofs.Effects.{error_most, gains-length}

-- n tokens led from s to r: each added at most one error and one expression, and a sus still owes its expression
record Grown (n : ℕ) (s r : Parsing ParserError) : Type 0 where
  errs : length r.errs ≤ length s.errs + n
  least : length s.errs ≤ length r.errs
  exps : length r.exps + sus_bit r.context ≤ length s.exps + sus_bit s.context + n
  sound : All Sound s.exps → All Sound r.exps

-- nothing was added
grown-none : (n k : ℕ) (s : Parsing ParserError) → Grown n s (skipping k s)
grown-none n k s = record { errs = omega arith; least = omega arith; exps = omega arith; sound = λ h. h }

-- one token, and then n
grown_then : {n : ℕ} {s m r : Parsing ParserError} → Grown 1 s m → Grown n m r → Grown (suc n) s r
grown_then a b =
    record {
      errs = omega (arith, a.errs, b.errs);
      least = omega (arith, a.least, b.least);
      exps = omega (arith, a.exps, b.exps);
      sound = λ h. b.sound (a.sound h);
    }

-- what holds of each of two lists' elements holds of each of both
pub all_append : {A : Type 0} (P : A → Type 0) (a b : List A) → All P a → All P b → All P (a ++ b)
all_append P [] b h k = k
all_append P (x ∷ a) b h k = (h.0, all_append P a b h.1 k)

-- the expressions that a sound effect gains
all-gains : (g : Gains) → SoundGains g → All Sound (gains_of g)
all-gains gains.None h = tt
all-gains (gains.One e) h = (h, tt)
all-gains (gains.Two e f) h = (h.0, (h.1, tt))

-- an effect that gains little, and only what is sound, is such a token
grown_effect : (e : Effect) (s : Parsing ParserError) → gains_count e.gains + sus_bit e.context ≤ 1 + sus_bit s.context → SoundGains e.gains → Grown 1 s (applied itself e s)
grown_effect e s h g =
    let k = error_most e.error in
    let l = length-append s.errs (error_of itself e.error) in
    let m = length-append s.exps (gains_of e.gains) in
    record {
      errs = omega (arith, l, k);
      least = omega (arith, l);
      exps = omega (arith, m, gains-length e.gains, h);
      sound = λ a. all_append Sound s.exps (gains_of e.gains) a (all-gains e.gains g);
    }

-- the effect of a token does little, outside any bracket and inside one
effect_small : (stk : List ℕ) (k : TokenType) (h : Here) (a : Ahead) → Small h (effect_at stk k h a)
effect_small [] k h a = step_small k h a
effect_small (q ∷ qs) k h a = inside-small (bracket_kind k) q k h a

-- and gains only what is sound
effect_sound : (stk : List ℕ) (k : TokenType) (h : Here) (a : Ahead) → SoundGains (effect_at stk k h a).gains
effect_sound [] k h a = step-sound k h a
effect_sound (q ∷ qs) k h a = inside-sound (bracket_kind k) q k h a

-- the first token, which is the root or should be
grown-root : (n : OptionalNote) (nx : Next) → Grown 1 blank (applied itself (root_effect n nx) blank)
grown-root (optional.Some n) nx = grown_effect (root_effect (optional.Some n) nx) blank (omega arith) tt
grown-root optional.None nx = grown_effect (root_effect optional.None nx) blank (omega arith) tt

-- any other; it adds nothing where it is taken already
grown_turn : (n : ℕ) (stk : List ℕ) (s : Parsing ParserError) (t : Token) (ts : List Token) → Grown 1 s (token_turn itself n stk s t ts)
grown_turn zero stk s t ts =
    let k = type_of t.kind in
    grown_effect (effect_at stk k (here_of t s) (ahead_of ts)) s (effect_small stk k (here_of t s) (ahead_of ts)).gained (effect_sound stk k (here_of t s) (ahead_of ts))
grown_turn (suc n) stk s t ts = grown-none 1 n s

-- the tokens behind it
grown-walk : (stk : List ℕ) (s : Parsing ParserError) (ts : List Token) → Grown (length ts) s (walk itself stk s ts)
unfolding walk
grown-walk stk s [] = grown-none 0 0 s
grown-walk stk s (t ∷ ts) = grown_then (grown_turn s.skip stk s t ts) (grown-walk (stack_turn s.skip stk t) (token_turn itself s.skip stk s t ts) ts)

-- all tokens
grown-all : (ts : List Token) → Grown (suc (length (drop 1 ts))) blank (parse_of ts)
grown-all ts = grown_then (grown-root (root_of ts) (next_at ts 1)) (grown-walk [] (applied itself (root_effect (root_of ts) (next_at ts 1)) blank) (drop 1 ts))

-- 257 tokens are the first and 256 others; no tokens count as one, since the root is missing then
behind-root : (ts : List Token) → length ts ≤ 257 → suc (length (drop 1 ts)) ≤ 257
behind-root [] h = omega arith
behind-root (t ∷ ts) h = h

-- "at most 257 errors"
pub errors-most : (ts : List Token) → length ts ≤ 257 → length (parse_of ts).errs ≤ 257
errors-most ts h = omega (arith, (grown-all ts).errs, behind-root ts h)

-- and as many expressions
pub expressions_most : (ts : List Token) → length ts ≤ 257 → length (parse_of ts).exps ≤ 257
expressions_most ts h = omega (arith, (grown-all ts).exps, behind-root ts h)

-- "intervals below 23, no Extension(#4)"
pub expressions_sound : (ts : List Token) → All Sound (parse_of ts).exps
expressions_sound ts = (grown-all ts).sound tt

-- where the root is no note there is an error: for a caller that matches on the root and wants no second case
pub root_there : (ts : List Token) → (parse_of ts).errs ≡ [] → root_of ts ≡ optional.None → ⊥
root_there ts e r =
    let s = applied itself (root_effect (root_of ts) (next_at ts 1)) blank in
    let g = grown-walk [] s (drop 1 ts) in
    let none : length (parse_of ts).errs ≡ 0 = ap length e in
    let one : length s.errs ≡ 1 = ap (λ (n : OptionalNote). length (applied itself (root_effect n (next_at ts 1)) blank).errs) r in
    absurd (omega (arith, g.least, none, one))

-- the same, with the note
pub root_note : (ts : List Token) → (parse_of ts).errs ≡ [] → (n : Note) × (root_of ts ≡ optional.Some n)
root_note ts e = by (root_of ts) (root_there ts e)
  where
    by : (r : OptionalNote) → (r ≡ optional.None → ⊥) → (n : Note) × (r ≡ optional.Some n)
    by (optional.Some n) h = (n, refl)
    by optional.None h = absurd (h refl)
