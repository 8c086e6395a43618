-- The walk, token by token.
use Rattle.std.proofs.Common.{Bool, true, false, cond, Option, List, [], ◌∷◌, ◌≡◌, ℕ, zero, suc, ◌+◌, ◌*◌, ◌≤◌, ◌<◌, length, drop, refl, sym, ap, subst, ◌∙◌, arith}
use Rattle.std.proofs.lemmas.List.{drop-drop, drop_all, drop_more}
use Rattle.std.specs.declared.option.Option.TheVariants.{None, Some}
use lib.Dec.{T as IsTrue}
use Rattle.note.specs.Note.{OptionalNote}
use Rattle.note.specs.declared.RootModifier.{RootModifier}
use Rattle.lookahead.specs.Next.{note_from, sign_in}
use Rattle.expression.proofs.Wrote.{later}
use Rattle.expression.specs.ParserError.{numbers_of}
use Rattle.expression.specs.declared.expression.Exp.{Exp}
use Rattle.step.specs.declared.effect.Effect.{Effect}
use Rattle.step.specs.declared.effect.Here.{Here}
use Rattle.lookahead.specs.declared.Ahead.{Ahead}
use Rattle.lookahead.specs.declared.Next.{Next}
use Rattle.token.specs.Token.{at, token, type_of}
use Rattle.token.specs.declared.Token.{Token}
use Rattle.token.specs.declared.Bracket.TheVariants.{Opens, Closes, Ends, Other}
use Rattle.token.specs.declared.Bracket.{Bracket}
use Rattle.token.specs.declared.TokenType.{TokenType}
use Rattle.parser.specs.Parser.{Parsing, ahead_of, applied, blank, bracket_of, effect_at, ends, enter, leave, next_at, opens, parse_by, root_effect, root_of, skipping, walk}
use Rattle.parser.specs.State.{EffectDone, Kept, Ready, TookToken, Read, Parsed, bracket_by, effect_by, effect_in, here_in, stack_by, start, view}
use Rattle.parser.specs.declared.state.State.{State}
use Rattle.parser.proofs.Coded.{parse_errors_lem, parse_exps}

-- tokens that are taken already are passed over
skips : (n : ℕ) (stk : List ℕ) (s : Parsing ℕ) (ts : List Token) → walk numbers_of stk (skipping n s) ts ≡ walk numbers_of stk (skipping 0 s) (drop n ts)
unfolding walk
skips zero stk s ts = refl
skips (suc n) stk s [] = refl
skips (suc n) stk s (t ∷ ts) = skips n stk s ts

pub kept-none : (st : State) (es : List ℕ) (xs : List Exp) → Kept st st es es xs xs
kept-none st es xs = record { more = omega arith; gains = omega arith; rest = refl; others = refl }

pub kept_then : {st m r : State} {e₀ e₁ e₂ : List ℕ} {x₀ x₁ x₂ : List Exp} → Kept st m e₀ e₁ x₀ x₁ → Kept m r e₁ e₂ x₁ x₂ → Kept st r e₀ e₂ x₀ x₂
kept_then {st} {m} {r} {e₀} {e₁} {e₂} {x₀} {x₁} {x₂} a b =
    record {
      more = omega (arith, a.more, b.more);
      gains = omega (arith, a.gains, b.gains);
      rest = b.rest ∙ later e₁ e₀ (4 * m.errors) (4 * r.errors) (omega (arith, b.more)) a.rest;
      others = b.others ∙ later x₁ x₀ m.exps r.exps b.gains a.others;
    }

-- going on after an effect is going on from the state that the code has then
pub did_walk : (T : List Token) (stk : List ℕ) {e : Effect} {st r : State} {es es' : List ℕ} {xs xs' : List Exp} → EffectDone e st r es es' xs xs'
    → walk numbers_of stk (applied numbers_of e (view st es xs)) (drop (st.at + 1) T) ≡ walk numbers_of stk (view r es' xs') (drop r.at T)
did_walk T stk {e} {st} {r} {es} {es'} {xs} {xs'} d =
    skips e.taken stk (applied numbers_of e (view st es xs)) (drop (st.at + 1) T)
    ∙ ap (λ (l : List Token). walk numbers_of stk (skipping 0 (applied numbers_of e (view st es xs))) l) (drop-drop e.taken (st.at + 1) T)
    ∙ (λ i. walk numbers_of stk (sym d.same i) (drop (sym d.moved i) T))

-- the token at the end of a bracket leaves it; outside any bracket there is none to leave
left : (inside : Option ℕ) (b : Bracket) (stk : List ℕ) → leave b (stack_by inside stk) ≡ cond (ends (bracket_by inside b)) stk (stack_by inside stk)
left (Some q) b stk = refl
left None b stk = elim b as (λ d. leave d [] ≡ []) [ Opens ↦ refl | Closes ↦ refl | Ends ↦ refl | Other ↦ refl ]

effect_same : (inside : Option ℕ) (stk : List ℕ) (k : TokenType) (h : Here) (a : Ahead) → effect_at (stack_by inside stk) k h a ≡ effect_by inside k h a
effect_same (Some q) stk k h a = refl
effect_same None stk k h a = refl

-- outside any bracket no token ends one
none-ends : (inside : Option ℕ) (b : Bracket) {A : Type 0} → ends (bracket_by inside b) ≡ true → inside ≡ None → A
none-ends inside b h n = absurd (subst IsTrue (sym h ∙ ap (λ (o : Option ℕ). ends (bracket_by o b)) n) tt)

-- tokens were taken, after which the same brackets are open as before, whatever brackets are open around them
pub record Within (ts : List Token) (inside : Option ℕ) (st r : State) (es es' : List ℕ) (xs xs' : List Exp) : Type 0 where
  pub same : (stk : List ℕ) → walk numbers_of (stack_by inside stk) (view st es xs) (drop st.at ts) ≡ walk numbers_of (stack_by inside stk) (view r es' xs') (drop r.at ts)
  pub kept : Kept st r es es' xs xs'
  pub ready : Ready r
  pub forward : st.at ≤ r.at

module _ (ts : List Token) where
  -- the brackets that are open after the token at st, where stk was open around it
  abbrev beyond : State → List ℕ → List ℕ
  beyond st stk = enter (bracket_of (at ts st.at)) (at ts st.at).pos stk

  -- one token
  turned : (stk : List ℕ) (st : State) (es : List ℕ) (xs : List Exp) → st.at < length ts
      → walk numbers_of stk (view st es xs) (drop st.at ts)
      ≡ walk numbers_of (beyond st (leave (bracket_of (at ts st.at)) stk))
      (applied numbers_of (effect_at stk (type_of (at ts st.at).kind) (here_in (at ts st.at) xs st) (ahead_of (drop (st.at + 1) ts))) (view st es xs)) (drop (st.at + 1) ts)
  unfolding walk
  turned stk st es xs h = ap (λ (l : List Token). walk numbers_of stk (view st es xs) l) (drop_more ts st.at (token 0 0 0) h)

  -- the token at st had the effect e, which the token step decided
  module _ (inside : Option ℕ) (st : State) (es : List ℕ) (xs : List Exp) {e : Effect} (he : e ≡ effect_in ts xs st inside) where
    -- going on after it, with the bracket that it opens
    opened : {u : State} {es₁ : List ℕ} {xs₁ : List Exp} (c : Bool) → opens (bracket_of (at ts st.at)) ≡ c → EffectDone e st u es es₁ xs xs₁ → (stk : List ℕ)
        → walk numbers_of (beyond st stk) (applied numbers_of (effect_in ts xs st inside) (view st es xs)) (drop (st.at + 1) ts)
        ≡ walk numbers_of (cond c ((at ts st.at).pos ∷ stk) stk) (view u es₁ xs₁) (drop u.at ts)
    opened c o d stk =
        (λ i. walk numbers_of (cond (o i) ((at ts st.at).pos ∷ stk) stk) (applied numbers_of (sym he i) (view st es xs)) (drop (st.at + 1) ts))
        ∙ did_walk ts (cond c ((at ts st.at).pos ∷ stk) stk) d

    -- it opens none
    pub took_alone : {r : State} {es' : List ℕ} {xs' : List Exp} → opens (bracket_of (at ts st.at)) ≡ false
        → EffectDone e st r es es' xs xs'
        → TookToken ts inside st r es es' xs xs'
    took_alone o d =
        record { went = record { same = opened false o d; ready = d.ready }; kept = d.kept; forward = omega (arith, d.moved) }

    -- it opens one, which was read from a copy of the state and back
    pub took_bracket : {u v w r : State} {es₁ es₂ : List ℕ} {xs₁ xs₂ : List Exp} → opens (bracket_of (at ts st.at)) ≡ true
        → EffectDone e st u es es₁ xs xs₁
        → v ≡ u → Read ts (Some (at ts st.at).pos) v w es₁ es₂ xs₁ xs₂ → r ≡ w → TookToken ts inside st r es es₂ xs xs₂
    took_bracket {u} {v} {w} {r} {es₁} {es₂} {xs₁} {xs₂} o d copy read back =
        let i : Read ts (Some (at ts st.at).pos) u w es₁ es₂ xs₁ xs₂ =
        subst (λ (x : State). Read ts (Some (at ts st.at).pos) x w es₁ es₂ xs₁ xs₂) copy read in
        subst (λ (x : State). TookToken ts inside st x es es₂ xs xs₂) (sym back)
        (record {
          went = record { same = λ stk. opened true o d stk ∙ i.went.same stk; ready = i.went.ready };
          kept = kept_then d.kept i.kept;
          forward = omega (arith, d.moved, i.forward);
        })

  module _ (inside : Option ℕ) where
    pub within_none : (st : State) (es : List ℕ) (xs : List Exp) → Ready st → Within ts inside st st es es xs xs
    within_none st es xs h = record { same = λ stk. refl; kept = kept-none st es xs; ready = h; forward = omega arith }

    pub within_then : {st u r : State} {es es₁ es₂ : List ℕ} {xs xs₁ xs₂ : List Exp} → Within ts inside st u es es₁ xs xs₁
        → Within ts inside u r es₁ es₂ xs₁ xs₂ → Within ts inside st r es es₂ xs xs₂
    within_then a b =
        record { same = λ stk. a.same stk ∙ b.same stk; kept = kept_then a.kept b.kept; ready = b.ready; forward = omega (arith, a.forward, b.forward) }

    -- no token is left: a bracket stays open, and gives nothing
    pub read_none : {st r : State} {es es' : List ℕ} {xs xs' : List Exp} → length ts ≤ r.at → Within ts inside st r es es' xs xs'
        → Read ts inside st r es es' xs xs'
    unfolding walk
    read_none {st} {r} {es} {es'} {xs} {xs'} h w =
        let e = drop_all r.at ts h in
        record {
          went = record {
            same = λ stk.
                w.same stk
                ∙ ap (λ (l : List Token). walk numbers_of (stack_by inside stk) (view r es' xs') l) e
                ∙ sym (ap (λ (l : List Token). walk numbers_of stk (view r es' xs') l) e);
            ready = w.ready;
          };
          kept = w.kept;
          forward = w.forward;
          whole = λ _. h;
        }

    module _ (st : State) (es : List ℕ) (xs : List Exp) (h : st.at < length ts) where
      -- one token and its effect
      one : (stk : List ℕ) (c : Bool) → ends (bracket_by inside (bracket_of (at ts st.at))) ≡ c
          → walk numbers_of (stack_by inside stk) (view st es xs) (drop st.at ts)
          ≡ walk numbers_of (beyond st (cond c stk (stack_by inside stk)))
          (applied numbers_of (effect_in ts xs st inside) (view st es xs)) (drop (st.at + 1) ts)
      one stk c o =
          let f = effect_same inside stk (type_of (at ts st.at).kind) (here_in (at ts st.at) xs st) (ahead_of (drop (st.at + 1) ts)) in
          let l : leave (bracket_of (at ts st.at)) (stack_by inside stk) ≡ cond c stk (stack_by inside stk) =
          left inside (bracket_of (at ts st.at)) stk ∙ ap (λ (d : Bool). cond d stk (stack_by inside stk)) o in
          turned (stack_by inside stk) st es xs h
          ∙ (λ i. walk numbers_of (beyond st (l i)) (applied numbers_of (f i) (view st es xs)) (drop (st.at + 1) ts))

      -- it ends the bracket
      pub read-ends : {r : State} {es' : List ℕ} {xs' : List Exp} → ends (bracket_by inside (bracket_of (at ts st.at))) ≡ true
          → TookToken ts inside st r es es' xs xs'
          → Read ts inside st r es es' xs xs'
      read-ends o t =
          record {
            went = record { same = λ stk. one stk true o ∙ t.went.same stk; ready = t.went.ready };
            kept = t.kept;
            forward = omega (arith, t.forward);
            whole = none-ends inside (bracket_of (at ts st.at)) o;
          }

      -- it does not, and tokens are read on
      pub within-one : {u : State} {es₁ : List ℕ} {xs₁ : List Exp} → ends (bracket_by inside (bracket_of (at ts st.at))) ≡ false
          → TookToken ts inside st u es es₁ xs xs₁
          → Within ts inside st u es es₁ xs xs₁
      within-one o t =
          record { same = λ stk. one stk false o ∙ t.went.same (stack_by inside stk); kept = t.kept; ready = t.went.ready; forward = omega (arith, t.forward) }

    -- what was read from there on, after tokens that ended nothing
    pub read_then : {st u r : State} {es es₁ es₂ : List ℕ} {xs xs₁ xs₂ : List Exp} → Within ts inside st u es es₁ xs xs₁
        → Read ts inside u r es₁ es₂ xs₁ xs₂ → Read ts inside st r es es₂ xs xs₂
    read_then w b =
        record {
          went = record { same = λ stk. w.same stk ∙ b.went.same stk; ready = b.went.ready };
          kept = kept_then w.kept b.kept;
          forward = omega (arith, w.forward, b.forward);
          whole = b.whole;
        }

  -- the root, and then all tokens behind it
  pub parsed : {first second : Next} {m : RootModifier} {root : OptionalNote} {u r : State} {es es₁ es₂ : List ℕ} {xs xs₂ : List Exp}
      → first ≡ next_at ts 0 → second ≡ next_at ts 1 → m ≡ sign_in second → root ≡ note_from first m
      → EffectDone (root_effect root second) start u es es₁ xs xs → Read ts None u r es₁ es₂ xs xs₂
      → Parsed ts (record { root = root; errors = r.errors; exps = r.exps }) es es₂ xs xs₂
  unfolding walk
  parsed {first} {second} {m} {root} {u} {r} {es} {es₁} {es₂} {xs} {xs₂} ef en hm hr d w =
      let er : root ≡ root_of ts = hr ∙ (λ i. note_from (ef i) ((hm ∙ ap sign_in en) i)) in
      let read : view r es₂ xs₂ ≡ walk numbers_of [] (view u es₁ xs) (drop u.at ts) = sym (w.went.same [] ∙ ap (λ (l : List Token). walk numbers_of [] (view r es₂ xs₂) l) (drop_all r.at ts (w.whole refl))) in
      let v : view r es₂ xs₂ ≡ parse_by numbers_of ts = read ∙ sym (did_walk ts [] d) ∙ (λ i. walk numbers_of [] (applied numbers_of (root_effect (er i) (en i)) blank) (drop 1 ts)) in
      let k = kept_then d.kept w.kept in
      record {
        root = er;
        errs = ap (λ (s : Parsing ℕ). s.errs) v ∙ parse_errors_lem ts;
        rest = k.rest;
        exps = ap (λ (s : Parsing ℕ). s.exps) v ∙ parse_exps ts;
        others = k.others;
        few = w.went.ready.errs;
        fewer = w.went.ready.exps;
      }
