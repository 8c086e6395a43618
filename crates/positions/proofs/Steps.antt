-- What a token does goes by its kind, by the state and by the kinds of the tokens after it; positions only go into what it adds. So the
-- same token at another position has the same effect, with errors and expressions that are the same but for their positions.
-- Assumes nothing.
use mathlib.Core.Bool.{Bool, true, false, cond, not, ◌&&◌, ◌||◌}
use mathlib.Core.List.{[], ◌∷◌}
use mathlib.Core.Path.{◌≡◌, refl, ap}
use Prim.Native.Nat.{ℕ, ◌+◌}
use lib.Dec.{T, eqb}
use lib.IntN.{ℤ, pos}
use lib.Signed.{lt_z}
use Rattle.intervals.specs.Interval.{Set, augmented_fourth, diminished_fifth, elem, major_seventh, major_third, ninth, perfect_fifth, perfect_fourth, semitones}
use Rattle.note.specs.declared.Note.{Note}
use Rattle.std.specs.declared.option.Option.TheVariants as optional
use Rattle.note.specs.Note.{OptionalNote}
use Rattle.note.specs.declared.RootModifier.TheVariants.{Natural, Sharp, Flat}
use Rattle.note.specs.declared.RootModifier.{RootModifier}
use Rattle.expression.specs.ParserError.{numbers_of}
use Rattle.expression.specs.declared.expression.Exp.TheVariants.{Power, Bass, Maj, Maj7, Minor, HalfDim, Dim, Dim7, Alt, Aug, Sus, Extension, Add, Omit, SlashBass}
use Rattle.expression.specs.declared.expression.Exp.{Exp}
use Rattle.expression.specs.declared.parser_error.ParserError.TheVariants.{WrongExpressionTarget}
use Rattle.expression.specs.declared.parser_error.ParserError.{ParserError}
use Rattle.lookahead.specs.Next.{is_end, is_maj7, is_number, is_sign, note_from, number_in, sign_in}
use Rattle.lookahead.specs.declared.Ahead.{Ahead}
use Rattle.lookahead.specs.declared.Next.{Next}
use Rattle.step.specs.Context.{member_of, on_comma, start_group}
use Rattle.step.specs.Effect.{erring, failing, kept, pushing, taking, within}
use Rattle.step.specs.Interval.{interval_of, no_interval}
use Rattle.step.specs.Step.{add_interval, add_step, add_target, aug_step, bass_step, hyphen_step, inside_of, interval_alone, interval_in_sus, is_power, modifier_step, note_step, number_step, omit_step, open_step, placed, slash_step, step_of, sus_allows, sus_step, then_end}
use Rattle.step.specs.declared.context.Context.TheVariants as context
use Rattle.step.specs.declared.context.Context.{Context}
use Rattle.step.specs.declared.context.GroupKind.TheVariants as group
use Rattle.step.specs.declared.context.GroupKind.{GroupKind}
use Rattle.step.specs.declared.effect.Effect.{Effect}
use Rattle.step.specs.declared.effect.Gains.TheVariants as gains
use Rattle.step.specs.declared.effect.Gains.{Gains}
use Rattle.step.specs.declared.effect.Here.{Here}
use Rattle.step.specs.Effect.{OptionalError}
use Rattle.token.specs.declared.Bracket.TheVariants.{Opens, Closes, Ends, Other}
use Rattle.token.specs.declared.Bracket.{Bracket}
use Rattle.token.specs.declared.TokenType.TheVariants as type
use Rattle.token.specs.declared.TokenType.{TokenType}
use Rattle.validator.specs.Validator.{add_targets, bad_extensions, fault_of, only, omit_targets, wrong_of}
use Rattle.positions.proofs.Pairs.{Pairs, none, more, is_modifier, pairs_if}
use Rattle.positions.specs.Positions.{moved}

-- the same expression but for its position
pub data Shape : Exp → Exp → Type 0 where
  itself : (e : Exp) → Shape e e
  extension : (i p q : ℕ) → Shape (Extension i p) (Extension i q)
  add : (i p q : ℕ) → Shape (Add i p) (Add i q)
  omit : (i p q : ℕ) → Shape (Omit i p) (Omit i q)

module _ (f g : ℕ → ℕ) where
  -- the same error but for its position: f of the one's is g of the other's
  pub data SameError : ParserError → ParserError → Type 0 where
    rows : {e d : ParserError} → moved f (numbers_of e) ≡ moved g (numbers_of d) → SameError e d

  -- the same expression but for its position, and validation finds the same errors in both
  pub record SameExp (e d : Exp) : Type 0 where
    pub shape : Shape e d
    pub wrong : Pairs SameError (wrong_of e) (wrong_of d)
    pub fault : (seen : Set) → Pairs SameError (fault_of seen e) (fault_of seen d)

  -- what an effect adds
  pub data SameGains : Gains → Gains → Type 0 where
    nothing : SameGains gains.None gains.None
    one : {e d : Exp} → SameExp e d → SameGains (gains.One e) (gains.One d)
    two : {e d e' d' : Exp} → SameExp e d → SameExp e' d' → SameGains (gains.Two e e') (gains.Two d d')

  pub data SameOptional : OptionalError → OptionalError → Type 0 where
    fine : SameOptional optional.None optional.None
    wrong : {e d : ParserError} → SameError e d → SameOptional (optional.Some e) (optional.Some d)

  pub record SameEffect (e d : Effect) : Type 0 where
    pub taken : e.taken ≡ d.taken
    pub count : e.count ≡ d.count
    pub context : e.context ≡ d.context
    pub gains : SameGains e.gains d.gains
    pub error : SameOptional e.error d.error

  -- an error's numbers, with the position p in the one and q in the other
  numbered : {p q : ℕ} (k v : ℕ) → f p ≡ g q → (k ∷ f p ∷ v ∷ 0 ∷ []) ≡ (k ∷ g q ∷ v ∷ 0 ∷ [])
  numbered k v r = ap (λ x. k ∷ x ∷ v ∷ 0 ∷ []) r

  -- an error that comes if b
  only_same : {e d : ParserError} (b : Bool) → SameError e d → Pairs SameError (only b e) (only b d)
  only_same b s = pairs_if {b = b} refl (more s none) none

  -- expressions with a position
  extension_same : {p q : ℕ} (i : ℕ) → f p ≡ g q → SameExp (Extension i p) (Extension i q)
  extension_same {p} {q} i r =
      record {
        shape = extension i p q;
        wrong = none;
        fault = λ seen.
            pairs_if {b = elem i bad_extensions} refl (more (rows (numbered 6 0 r)) none)
            (only_same (seen (semitones i)) (rows (numbered 5 0 r)));
      }

  target_same : {p q : ℕ} (b : Bool) → f p ≡ g q → Pairs SameError (only b (WrongExpressionTarget p)) (only b (WrongExpressionTarget q))
  target_same b r = only_same b (rows (numbered 7 0 r))

  add_same : {p q : ℕ} (i : ℕ) → f p ≡ g q → SameExp (Add i p) (Add i q)
  add_same {p} {q} i r = record { shape = add i p q; wrong = target_same (not (elem i add_targets)) r; fault = λ seen. none }

  omit-same : {p q : ℕ} (i : ℕ) → f p ≡ g q → SameExp (Omit i p) (Omit i q)
  omit-same {p} {q} i r = record { shape = omit i p q; wrong = target_same (not (elem i omit_targets)) r; fault = λ seen. none }

  -- expressions in which validation finds nothing, whatever position they have
  abbrev Quiet : Exp → Type 0
  Quiet e = (wrong_of e ≡ []) × ((seen : Set) → fault_of seen e ≡ [])

  quiet : {e d : Exp} → Shape e d → Quiet e → Quiet d → SameExp e d
  quiet s x y = record { shape = s; wrong = rw (x.0, y.0) none; fault = λ seen. rw (x.1 seen, y.1 seen) none }

  word : (e : Exp) → Quiet e → SameExp e e
  word e x = quiet (itself e) x x

  sus-same : (i : ℕ) → SameExp (Sus i) (Sus i)
  sus-same i = word (Sus i) (refl, λ seen. refl)

  member_same : {p q : ℕ} (k : GroupKind) (i : ℕ) → f p ≡ g q → SameExp (member_of k i p) (member_of k i q)
  member_same group.Omit i r = omit-same i r
  member_same group.Add i r = add_same i r

  effect_if : {e d e' d' : Effect} (b : Bool) → SameEffect e d → SameEffect e' d' → SameEffect (cond b e e') (cond b d d')
  effect_if true s s' = s
  effect_if false s s' = s'

  taking-same : {e d : Effect} (n : ℕ) → SameEffect e d → SameEffect (taking n e) (taking n d)
  taking-same n s = record { taken = refl; count = s.count; context = s.context; gains = s.gains; error = s.error }

  within_same : {e d : Effect} (c : Context) → SameEffect e d → SameEffect (within c e) (within c d)
  within_same c s = record { taken = s.taken; count = s.count; context = refl; gains = s.gains; error = s.error }

  erring-same : {e d : Effect} {x y : ParserError} → SameError x y → SameEffect e d → SameEffect (erring x e) (erring y d)
  erring-same r s = record { taken = s.taken; count = s.count; context = s.context; gains = s.gains; error = wrong r }

  -- a token at p, and the same at q: of l bytes, with z open brackets, in the state c; b tells whether the last expression is the
  -- extension 6
  module _ (p q l : ℕ) (z : ℤ) (c : Context) (b : Bool) (r : f p ≡ g q) where
    abbrev h : Here
    h = record { pos = p; len = l; count = z; context = c; six = b }

    abbrev h' : Here
    h' = record { pos = q; len = l; count = z; context = c; six = b }

    kept_same : SameEffect (kept h) (kept h')
    kept_same = record { taken = refl; count = refl; context = refl; gains = nothing; error = fine }

    pushing-same : {e d : Exp} → SameExp e d → SameEffect (pushing h e) (pushing h' d)
    pushing-same s = record { taken = refl; count = refl; context = refl; gains = one s; error = fine }

    word_same : (e : Exp) → Quiet e → SameEffect (pushing h e) (pushing h' e)
    word_same e x = pushing-same (word e x)

    failing-same : {e d : ParserError} → SameError e d → SameEffect (failing h e) (failing h' d)
    failing-same s = record { taken = refl; count = refl; context = refl; gains = nothing; error = wrong s }

    alone_same : {a a' : ℕ} (i : ℕ) → f a ≡ g a' → SameEffect (interval_alone h i a) (interval_alone h' i a')
    alone_same i s =
        effect_if (eqb i perfect_fourth) (pushing-same (sus-same perfect_fourth))
        (effect_if (eqb i augmented_fourth) (failing-same (rows (numbered 6 0 s))) (pushing-same (extension_same i s)))

    in_sus_same : {a a' : ℕ} (i : ℕ) → f a ≡ g a' → SameEffect (interval_in_sus h i a) (interval_in_sus h' i a')
    in_sus_same i s =
        within_same context.None
        (effect_if (sus_allows i) (pushing-same (sus-same i))
        (record { taken = refl; count = refl; context = refl; gains = two (sus-same perfect_fourth) (extension_same i s); error = fine }))

    interval_same : {a a' : ℕ} (x : Context) (i : ℕ) → f a ≡ g a' → SameEffect (add_interval x h i a) (add_interval x h' i a')
    interval_same context.None i s = alone_same i s
    interval_same context.Sus i s = in_sus_same i s
    interval_same (context.Group y) i s = effect_if y.active (pushing-same (member_same y.kind i s)) (alone_same i s)

    placed_same : {a a' d d' : ℕ} (i : ℕ) → f a ≡ g a' → f d ≡ g d' → SameEffect (placed h i a d) (placed h' i a' d')
    placed_same i s s' = effect_if (eqb i no_interval) (failing-same (rows (numbered 6 0 s'))) (interval_same c i s)

    modifier_same : (m : RootModifier) (nx : Next) → f (p + 1) ≡ g (q + 1) → SameEffect (modifier_step m h nx) (modifier_step m h' nx)
    modifier_same m nx s =
        effect_if (is_number nx) (taking-same 1 (placed_same (interval_of m (number_in nx)) r s)) (failing-same (rows (numbered 8 0 r)))

    number_same : (n : ℕ) → SameEffect (number_step n h) (number_step n h')
    number_same n = effect_if (is_power n c) (word_same Power (refl, λ seen. refl)) (placed_same (interval_of Natural n) r r)

    aug_same : (nx : Next) → SameEffect (aug_step h nx) (aug_step h' nx)
    aug_same nx =
        let s = word_same Aug (refl, λ seen. refl) in
        effect_if (eqb (number_in nx) 5) (taking-same 1 s) s

    hyphen_same : (nx : Next) → SameEffect (hyphen_step h nx) (hyphen_step h' nx)
    hyphen_same nx =
        effect_if (eqb (number_in nx) 5) (taking-same 1 (pushing-same (extension_same diminished_fifth r)))
        (word_same Minor (refl, λ seen. refl))

    sus_step-same : (nx : Next) → SameEffect (sus_step h nx) (sus_step h' nx)
    sus_step-same nx =
        effect_if (is_number nx || is_sign nx) (within_same context.Sus kept_same)
        (within_same context.None (pushing-same (sus-same perfect_fourth)))

    omit_step-same : (nx : Next) → SameEffect (omit_step h nx) (omit_step h' nx)
    omit_step-same nx =
        within_same (start_group c group.Omit (lt_z (pos 0) z))
        (effect_if (eqb (number_in nx) 5)
        (taking-same 1 (pushing-same (quiet (omit perfect_fifth (p + l) (q + l)) (refl, λ seen. refl) (refl, λ seen. refl))))
        (effect_if (eqb (number_in nx) 3)
        (taking-same 1 (pushing-same (quiet (omit major_third (p + l) (q + l)) (refl, λ seen. refl) (refl, λ seen. refl))))
        (failing-same (rows (numbered 12 l r)))))

    add_target-same : {a a' : ℕ} (k : ℕ) (m : RootModifier) (nx : Next) → f a ≡ g a'
        → SameEffect (add_target k m h nx a) (add_target k m h' nx a')
    add_target-same k m nx s =
        let i = interval_of m (number_in nx) in
        effect_if (is_number nx)
        (taking-same (k + 1) (effect_if (eqb i no_interval) (failing-same (rows (numbered 6 0 r))) (pushing-same (add_same i s))))
        (effect_if (is_maj7 nx)
        (taking-same (k + 1) (pushing-same (quiet (add major_seventh (p + l) (q + l)) (refl, λ seen. refl) (refl, λ seen. refl))))
        (taking-same k (failing-same (rows (numbered 11 l r)))))

    then_end-same : {e d : Effect} (nx : Next) → SameEffect e d → SameEffect (then_end h nx e) (then_end h' nx d)
    then_end-same nx s = effect_if (is_end nx) s (erring-same (rows (numbered 14 0 r)) s)

    -- the tokens ahead: the next two at a and d in the one, at a' and d' in the other
    module _ (n₁ n₂ n₃ : Next) (a d a' d' : ℕ) (r₁ : f a ≡ g a') (r₂ : f d ≡ g d') where
      abbrev next : Ahead
      next = record { first = n₁; second = n₂; third = n₃; pos = a; pos2 = d }

      abbrev next' : Ahead
      next' = record { first = n₁; second = n₂; third = n₃; pos = a'; pos2 = d' }

      add_step-same : SameEffect (add_step h next) (add_step h' next')
      add_step-same =
          within_same (start_group c group.Add (lt_z (pos 0) z))
          (effect_if (is_sign n₁) (add_target-same 1 (sign_in n₁) n₂ r₂) (add_target-same 0 Natural n₁ r₁))

      bass-same : (n : Note) → SameEffect (bass_step n h next) (bass_step n h' next')
      bass-same n =
          let s = word_same (SlashBass n) (refl, λ seen. refl) in
          effect_if (is_sign n₂) (then_end-same n₃ (taking-same 2 s)) (then_end-same n₂ (taking-same 1 s))

      note_same : (n : OptionalNote) → SameEffect (note_step n h next) (note_step n h' next')
      note_same (optional.Some n) = bass-same n
      note_same optional.None = taking-same 1 (failing-same (rows (numbered 14 0 r)))

      slash_same : SameEffect (slash_step h next) (slash_step h' next')
      slash_same =
          effect_if (eqb (number_in n₁) 9 && b) (then_end-same n₂ (taking-same 1 (pushing-same (add_same ninth r₁))))
          (note_same (note_from n₁ (sign_in n₂)))

      open_same : SameEffect (open_step h) (open_step h')
      open_same = record { taken = refl; count = refl; context = refl; gains = nothing; error = fine }

      pub step_same : (k : TokenType) → (T (is_modifier k) → f (p + 1) ≡ g (q + 1)) → SameEffect (step_of k h next) (step_of k h' next')
      step_same (type.Note m) w = failing-same (rows (numbered 2 0 r))
      step_same type.Sharp w = modifier_same Sharp n₁ (w tt)
      step_same type.Flat w = modifier_same Flat n₁ (w tt)
      step_same type.Aug w = aug_same n₁
      step_same type.Dim w = word_same Dim (refl, λ seen. refl)
      step_same type.Dim7 w = word_same Dim7 (refl, λ seen. refl)
      step_same type.HalfDim w = word_same HalfDim (refl, λ seen. refl)
      step_same (type.Extension n) w = number_same n
      step_same type.Add w = add_step-same
      step_same type.Omit w = omit_step-same n₁
      step_same type.Alt w = word_same Alt (refl, λ seen. refl)
      step_same type.Sus w = sus_step-same n₁
      step_same type.Minor w = word_same Minor (refl, λ seen. refl)
      step_same type.Hyphen w = hyphen_same n₁
      step_same type.Maj w = word_same Maj (refl, λ seen. refl)
      step_same type.Maj7 w = word_same Maj7 (refl, λ seen. refl)
      step_same type.Slash w = slash_same
      step_same type.LParent w = open_same
      step_same type.RParent w =
          record { taken = refl; count = refl; context = refl; gains = nothing; error = wrong (rows (numbered 15 0 r)) }
      step_same type.Comma w = within_same (on_comma c) kept_same
      step_same type.Bass w = word_same Bass (refl, λ seen. refl)
      step_same type.Illegal w = failing-same (rows (numbered 1 0 r))
      step_same type.Eof w = kept_same

      -- inside the bracket opened at x, and at y
      pub inside-same : {x y : ℕ} (k : TokenType) (o : Bracket) → f x ≡ g y → (T (is_modifier k) → f (p + 1) ≡ g (q + 1))
          → SameEffect (inside_of o x k h next) (inside_of o y k h' next')
      inside-same k Closes s w = record { taken = refl; count = refl; context = refl; gains = nothing; error = fine }
      inside-same k Ends s w = failing-same (rows (numbered 16 0 s))
      inside-same k Opens s w = erring-same (rows (numbered 17 0 s)) open_same
      inside-same k Other s w = step_same k w
