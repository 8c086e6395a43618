-- Laws of the effect of every token: how much it does at most, and that its intervals are below 23 and no extension is #4.
use mathlib.Core.Bool.{Bool, true, false, cond, ◌||◌}
use mathlib.Core.List.{List, [], ◌∷◌}
use mathlib.Core.Path.{◌≡◌, refl}
use mathlib.Mathlib.Data.Bool.Basic.{or-eq-false-eq-eq-false-and-eq-false as or-false}
use Prim.Native.Nat.{ℕ, zero, suc, ◌+◌, ◌≤◌, ◌<◌, max}
use native.Mathlib.Omega.{arith}
use borrow.Author.Tests.{eqb-false}
use lib.IntN.{pos}
use Rattle.lookahead.specs.declared.Ahead.{Ahead}
use Rattle.lookahead.specs.declared.Next.{Next}
use Rattle.token.specs.declared.Bracket.TheVariants.{Opens, Closes, Ends, Other}
use Rattle.token.specs.declared.Bracket.{Bracket}
use Rattle.token.specs.declared.TokenType.TheVariants as type
use Rattle.token.specs.declared.TokenType.{TokenType}
use Rattle.step.proofs.Count.{near}
use Rattle.expression.specs.Bounds.{Sound}
use Rattle.lookahead.specs.Next.{is_end, is_maj7, is_number, is_sign, note_from, number_in, sign_in}
use Rattle.step.specs.Step.{add_interval, add_signed, add_target, inside_of, interval_alone, is_power, then_end, modifier_step, note_step, omit_target, placed, six_nine, step_of, sus_allows}
use Rattle.step.specs.declared.context.Context.TheVariants as context
use Rattle.step.specs.declared.context.GroupKind.TheVariants as group
use lib.{Dec.eqb, Dec.ltb, ListN.get_or, Signed.lt_z}
use Rattle.std.specs.declared.option.Option.TheVariants.{Some, None}
use Rattle.note.specs.Note.{OptionalNote}
use Rattle.note.specs.declared.RootModifier.{RootModifier, TheVariants.Natural, TheVariants.Sharp, TheVariants.Flat}
use Rattle.step.specs.{Bounds.Small, Bounds.SoundGains, Bounds.sus_bit, Context.member_of, Context.on_comma, Context.start_group, Effect.taking, Effect.within, Interval.interval_of, Interval.intervals_by}
use Rattle.step.specs.declared.{context.Context.Context, context.GroupKind.GroupKind, effect.Effect.Effect, effect.Here.Here}

-- both laws of an effect
abbrev Good : Here → Effect → Type 0
Good h e = Small h e × SoundGains e.gains

-- what each of two has where it is chosen, the chosen one has
choice : {A : Type 0} (P : A → Type 0) (b : Bool) {x y : A} → (b ≡ true → P x) → (b ≡ false → P y) → P (cond b x y)
choice P true f g = f refl
choice P false f g = g refl

-- no entry of a row is above its largest
abbrev largest : List ℕ → ℕ
largest [] = 0
largest (x ∷ xs) = max x (largest xs)

entry_most : (l : List ℕ) (n : ℕ) → get_or l n 0 ≤ largest l
entry_most [] n = omega arith
entry_most (x ∷ xs) zero = omega arith
entry_most (x ∷ xs) (suc n) = omega (arith, entry_most xs n)

-- that of each row is 23, so an interval that is not 23 is below it
below : (m : RootModifier) (n : ℕ) → eqb (interval_of m n) 23 ≡ false → interval_of m n < 23
below m n e =
    let t : largest (intervals_by m) ≡ 23 = elim m as (λ k. largest (intervals_by k) ≡ 23) [ Natural ↦ refl | Sharp ↦ refl | Flat ↦ refl ] in
    let l : interval_of m n ≤ 23 = choice (λ (i : ℕ). i ≤ 23) (ltb n 14) (omega (arith, entry_most (intervals_by m) n)) (omega arith) in
    omega (arith, eqb-false (interval_of m n) 23 e)

-- an interval that sus does not take is not #4
not_allowed : (i : ℕ) → sus_allows i ≡ false → eqb i 6 ≡ false
not_allowed i e = ((or-false (eqb i 5) (eqb i 6)).0 ((or-false (eqb i 2) _).0 ((or-false (eqb i 1) _).0 e).1).1).1

-- a group or a comma begins no sus
group_calm : (c : Context) (k : GroupKind) (b : Bool) → sus_bit (start_group c k b) ≤ sus_bit c
group_calm c k b = elim b as (λ x. sus_bit (start_group c k x) ≤ sus_bit c) [ true ↦ omega arith | false ↦ omega arith ]

comma_calm : (c : Context) → sus_bit (on_comma c) ≤ sus_bit c
comma_calm c = elim c as (λ x. sus_bit (on_comma x) ≤ sus_bit x) [ context.None ↦ omega arith | context.Sus ↦ omega arith | context.Group g ↦ omega arith ]

module _ (h : Here) where
  -- an interval below 23, by the state
  module _ (i p : ℕ) (l : i < 23) where
    alone : Good h (interval_alone h i p)
    alone = choice (Good h) (eqb i 5) (omega arith) (λ d. choice (Good h) (eqb i 6) (omega arith) (λ e. (omega arith, (l, e))))

    added : (c : Context) → sus_bit c ≤ sus_bit h.context → Good h (add_interval c h i p)
    added context.None s = alone
    added context.Sus s =
        choice (λ (e : Effect). Good h (within context.None e)) (sus_allows i) (omega arith) (λ e. (omega arith, (omega arith, (l, not_allowed i e))))
    added (context.Group g) s =
        choice (Good h) g.active (λ e. (omega arith, elim g.kind as (λ k. Sound (member_of k i p)) [ group.Omit ↦ l | group.Add ↦ l ])) (λ e. alone)

  -- any number, without a sign and with one
  place : (m : RootModifier) (n p q : ℕ) → Good h (placed h (interval_of m n) p q)
  place m n p q = choice (Good h) (eqb (interval_of m n) 23) (omega arith) (λ e. added (interval_of m n) p (below m n e) h.context (omega arith))

  modifier : (m : RootModifier) (nx : Next) → Good h (modifier_step m h nx)
  modifier m nx = let g = place m (number_in nx) h.pos (h.pos + 1) in choice (Good h) (is_number nx) (λ e. (omega (arith, g.0), g.1)) (omega arith)

  -- the targets of Omit and Add, in the state c that they leave
  module _ (c : Context) (s : sus_bit c ≤ sus_bit h.context) where
    abbrev Left : Effect → Type 0
    Left e = Good h (within c e)

    omit : (nx : Next) → Left (omit_target h nx)
    omit nx = choice Left (eqb (number_in nx) 5) (omega arith) (λ e. choice Left (eqb (number_in nx) 3) (omega arith) (omega arith))

    target : (k : ℕ) (m : RootModifier) (nx : Next) (q : ℕ) → k ≤ 1 → Left (add_target k m h nx q)
    target k m nx q t =
        choice Left (is_number nx)
        (λ d. choice (λ (e : Effect). Left (taking (k + 1) e)) (eqb (interval_of m (number_in nx)) 23) (omega arith) (λ e. omega (arith, below m (number_in nx) e)))
        (λ d. choice Left (is_maj7 nx) (omega arith) (omega arith))

    add : (a : Ahead) → Left (add_signed h a)
    add a =
        choice Left (is_sign a.first) (λ e. target 1 (sign_in a.first) a.second a.pos2 (omega arith)) (λ e. target 0 Natural a.first a.pos (omega arith))

  -- the end of a slash, and a note behind it
  ended : (nx : Next) {e : Effect} → Good h e → Good h (then_end h nx e)
  ended nx g = choice (Good h) (is_end nx) (λ e. g) (λ e. (omega (arith, g.0), g.1))

  bass : (n : OptionalNote) (a : Ahead) → Good h (note_step n h a)
  bass (Some n) a = choice (Good h) (is_sign a.second) (λ e. ended a.third (omega arith)) (λ e. ended a.second (omega arith))
  bass None a = omega arith

-- the effect of a token outside any bracket, and inside one
step_good : (k : TokenType) (h : Here) (a : Ahead) → Good h (step_of k h a)
step_good (type.Note l) h a = omega arith
step_good type.Sharp h a = modifier h Sharp a.first
step_good type.Flat h a = modifier h Flat a.first
step_good type.Aug h a = choice (Good h) (eqb (number_in a.first) 5) (omega arith) (omega arith)
step_good type.Dim h a = omega arith
step_good type.Dim7 h a = omega arith
step_good type.HalfDim h a = omega arith
step_good (type.Extension n) h a = choice (Good h) (is_power n h.context) (omega arith) (λ e. place h Natural n h.pos h.pos)
step_good type.Add h a = add h _ (group_calm h.context group.Add (lt_z (pos 0) h.count)) a
step_good type.Omit h a = omit h _ (group_calm h.context group.Omit (lt_z (pos 0) h.count)) a.first
step_good type.Alt h a = omega arith
step_good type.Sus h a = choice (Good h) (is_number a.first || is_sign a.first) (omega arith) (omega arith)
step_good type.Minor h a = omega arith
step_good type.Hyphen h a = choice (Good h) (eqb (number_in a.first) 5) (λ e. (omega arith, (omega arith, refl))) (omega arith)
step_good type.Maj h a = omega arith
step_good type.Maj7 h a = omega arith
step_good type.Slash h a =
    choice (Good h) (six_nine h a.first) (λ e. ended h a.second (omega arith)) (λ e. bass h (note_from a.first (sign_in a.second)) a)
step_good type.LParent h a = omega (arith, near h.count)
step_good type.RParent h a = omega (arith, near h.count)
step_good type.Comma h a = omega (arith, comma_calm h.context)
step_good type.Bass h a = omega arith
step_good type.Illegal h a = omega arith
step_good type.Eof h a = omega arith

inside_good : (b : Bracket) (q : ℕ) (k : TokenType) (h : Here) (a : Ahead) → Good h (inside_of b q k h a)
inside_good Closes q k h a = omega (arith, near h.count)
inside_good Ends q k h a = omega arith
inside_good Opens q k h a = omega (arith, near h.count)
inside_good Other q k h a = step_good k h a

-- the two laws of each
pub step_small : (k : TokenType) (h : Here) (a : Ahead) → Small h (step_of k h a)
step_small k h a = (step_good k h a).0

pub inside-small : (b : Bracket) (q : ℕ) (k : TokenType) (h : Here) (a : Ahead) → Small h (inside_of b q k h a)
inside-small b q k h a = (inside_good b q k h a).0

pub step-sound : (k : TokenType) (h : Here) (a : Ahead) → SoundGains (step_of k h a).gains
step-sound k h a = (step_good k h a).1

pub inside-sound : (b : Bracket) (q : ℕ) (k : TokenType) (h : Here) (a : Ahead) → SoundGains (inside_of b q k h a).gains
inside-sound b q k h a = (inside_good b q k h a).1
