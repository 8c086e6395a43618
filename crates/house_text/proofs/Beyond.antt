-- Which members are from 23 on: none. Every stage of the evaluation inserts only numbers below 23 where the expressions are allowed, so stage
-- by stage a set without a member from 23 on stays such a set. The spelled expressions are allowed, part by part. So the set of spelled
-- expressions is the set that was spelled at every number: below 23 by `back_at`, from 23 on since both have no member.
-- Assumes nothing.
use mathlib.Core.Bool.{Bool, true, false, not, ◌&&◌, ◌||◌, cond, and-false}
use mathlib.Core.List.{List, [], ◌∷◌}
use mathlib.Core.Path.{◌≡◌, refl, sym, ◌∙◌, ap, ap₂, fun_ext}
use Prim.Native.Nat.{ℕ, ◌≤◌, ◌<◌}
use native.Mathlib.Omega.{arith}
use lib.Dec.{T, eqb, ltb, ltb→lt}
use borrow.Author.Tests.{ltb-false, ltb-true, ne_eqb}
use Rattle.intervals.specs.Interval.{elem, Set, empty, insert, remove, remove_then_add}
use Rattle.note.specs.Note.{OptionalNote}
use Rattle.display.specs.Display.{first_sus}
use Rattle.evaluator.specs.Evaluator.{fold_left, any, direct, alter, omit, add, alter_by, omit_by, add_by, alterations, alts_of, omits_of, adds_of, apply_form, apply_sus, base_form, imply, imply7, imply9, imply11, implied, implied9, implied11, implied13, is_maj, is_major, is_sus4, max_ext, prune6, prune11, remove_thirds, seed, eval_set}
use Rattle.evaluator.specs.declared.ast.BaseForm.TheVariants as form
use Rattle.evaluator.specs.declared.ast.BaseForm.{BaseForm}
use Rattle.expression.specs.declared.expression.Exp.TheVariants.{Power, Bass, Maj, Maj7, Minor, HalfDim, Dim, Dim7, Alt, Aug, Sus, Extension, Add, Omit, SlashBass}
use Rattle.expression.specs.declared.expression.Exp.{Exp}
use Rattle.house_parts.specs.House.{Part, part, kind_of, parts, select, spell_exps}
use Rattle.house_parts.specs.declared.kind.SusKind.{SusKind}
use Rattle.house_text.proofs.Back.{back_at}
use Rattle.house_parts.proofs.Bools.{and_left, and_right, both_pass}
use Rattle.house_text.proofs.Low.{Low}
use Rattle.house_text.proofs.Struct.{allowed, allows}

-- a number below 23 is no number from 23 on
apart : (i j : ℕ) → i < 23 → 23 ≤ j → eqb i j ≡ false
apart i j a b = ne_eqb i j (λ (e : i ≡ j). absurd (omega (arith, a, b, e)))

-- a number below 23 may be put in
low-insert : (i : ℕ) → T (ltb i 23) → (s : Set) → Low s → Low (insert s i)
unfolding insert
low-insert i t s h j b = ap₂ ◌||◌ (apart i j (ltb→lt i 23 t) b) (h j b)

-- any number may be taken out
low-remove : (i : ℕ) (s : Set) → Low s → Low (remove s i)
unfolding remove
low-remove i s h j b = ap (λ (c : Bool). not (eqb i j) && c) (h j b) ∙ and-false (not (eqb i j))

-- one out, one in
low-replace : (i k : ℕ) → T (ltb k 23) → (s : Set) → Low s → Low (remove_then_add s i k)
low-replace i k t s h = low-insert k t (remove s i) (low-remove i s h)

-- one of two
low-cond : (c : Bool) (s r : Set) → Low s → Low r → Low (cond c s r)
low-cond true s r h g = h
low-cond false s r h g = g

-- the seed has 0, 4 and 8
low-seed : Low seed
low-seed = low-insert 8 tt _ (low-insert 4 tt _ (low-insert 0 tt empty (λ j b. refl)))

-- what an expression does at once
low-direct : (e : Exp) → T (allows e) → (s : Set) → Low s → Low (direct s e)
low-direct Power t s h = h
low-direct Bass t s h = low-remove 4 (remove s 8) (low-remove 8 s h)
low-direct Maj t s h = h
low-direct Maj7 t s h = low-insert 14 tt s h
low-direct Minor t s h = h
low-direct HalfDim t s h = h
low-direct Dim t s h = h
low-direct Dim7 t s h = h
low-direct Alt t s h = low-insert 13 tt s h
low-direct Aug t s h = h
low-direct (Sus x) t s h = h
low-direct (Extension x p) t s h = low-cond (elem x (11 ∷ 10 ∷ 13 ∷ [])) (insert s x) s (low-insert x (and_left (ltb x 23) _ t) s h) h
low-direct (Add x p) t s h = h
low-direct (Omit x p) t s h = h
low-direct (SlashBass n) t s h = h

-- the third and the fifth diminished, as three base forms have it
low_dims : (s : Set) → Low s → Low (remove_then_add (remove_then_add s 4 3) 8 7)
low_dims s h = low-replace 8 7 tt (remove_then_add s 4 3) (low-replace 4 3 tt s h)

-- the base form
low-form : (f : BaseForm) (s : Set) → Low s → Low (apply_form f s)
low-form form.Major s h = h
low-form form.Power s h = low-remove 4 s h
low-form form.Minor s h = low-replace 4 3 tt s h
low-form form.Dim s h = low_dims s h
low-form form.HalfDim s h = low-insert 13 tt _ (low_dims s h)
low-form form.Dim7 s h = low-insert 12 tt _ (low_dims s h)

-- without the thirds
low_thirds : (s : Set) → Low s → Low (remove_thirds s)
low_thirds s h = low-remove 4 (remove s 3) (low-remove 3 s h)

-- the fourth of a Sus
low-sus : (c : Bool) (s : Set) → Low s → Low (apply_sus c s)
low-sus true s h = low-insert 5 tt (remove_thirds s) (low_thirds s h)
low-sus false s h = h

-- one alteration
low-alter : (x : ℕ) → T (ltb x 23) → (s : Set) → Low s → Low (alter s x)
low-alter x t s h = low-cond (elem x (7 ∷ 9 ∷ 21 ∷ [])) (remove_then_add s 8 x) (insert s x) (low-replace 8 x t s h) (low-insert x t s h)

-- one omission
low-omit : (x : ℕ) → T (ltb x 23) → (s : Set) → Low s → Low (omit s x)
low-omit x t s h =
    low-cond (eqb x 8) (remove (remove (remove s 8) 9) 7) (cond (eqb x 4) (remove_thirds s) s)
    (low-remove 7 (remove (remove s 8) 9) (low-remove 9 (remove s 8) (low-remove 8 s h)))
    (low-cond (eqb x 4) (remove_thirds s) s (low_thirds s h) h)

-- one addition
low-add : (x : ℕ) → T (ltb x 23) → (s : Set) → Low s → Low (add s x)
low-add x t s h = low-insert x t (cond (eqb x 21) (remove s 8) s) (low-cond (eqb x 21) (remove s 8) s (low-remove 8 s h) h)

-- an implied extension, unless one that conflicts is there
low-imply : (x : ℕ) → T (ltb x 23) → (cs : List ℕ) (s : Set) → Low s → Low (imply x cs s)
low-imply x t cs s h = low-cond (any s cs) s (insert s x) h (low-insert x t s h)

-- the implied seventh
low-imply7 : (c : Bool) (s : Set) → Low s → Low (imply7 c s)
low-imply7 true s h = low-insert 14 tt s h
low-imply7 false s h = low-imply 13 tt (12 ∷ []) s h

-- the implied seventh and ninth
low_tall : (c : Bool) (s : Set) → Low s → Low (imply7 c (imply9 s))
low_tall c s h = low-imply7 c (imply9 s) (low-imply 17 tt (16 ∷ 18 ∷ []) s h)

-- what a 13 implies
low-implied13 : (m : Bool) (s : Set) → Low s → Low (implied13 m s)
low-implied13 m s h =
    low-cond m (insert s 22) (imply11 (insert s 22)) (low-insert 22 tt s h) (low-imply 19 tt (20 ∷ []) (insert s 22) (low-insert 22 tt s h))

-- what an 11 implies
low-implied11 : (m : Bool) (s : Set) → Low s → Low (implied11 m s)
low-implied11 m s h = low-cond m (remove_then_add s 4 5) (insert s 19) (low-replace 4 5 tt s h) (low-insert 19 tt s h)

-- what a 9 implies
low-implied9 : (c : Bool) (s : Set) → Low s → Low (implied9 c s)
low-implied9 c s h =
    low-cond (s 11 || s 10) (insert s 17) (imply7 c (insert s 17)) (low-insert 17 tt s h) (low-imply7 c (insert s 17) (low-insert 17 tt s h))

-- all that is implied
low-implied : (x : ℕ) (m c : Bool) (s : Set) → Low s → Low (implied x m c s)
low-implied x m c s h =
    low-cond (eqb x 22) _ _ (low_tall c (implied13 m s) (low-implied13 m s h))
    (low-cond (eqb x 19) _ _ (low_tall c (implied11 m s) (low-implied11 m s h))
    (low-cond (eqb x 17) _ _ (low-implied9 c s h) h))

-- 13 beside 6
low-prune6 : (s : Set) → Low s → Low (prune6 s)
low-prune6 s h = low-cond (s 11) (remove s 22) s (low-remove 22 s h) h

-- 11 beside 3
low-prune11 : (s : Set) → Low s → Low (prune11 s)
low-prune11 s h = low-cond (s 4 && s 19) (remove_then_add s 19 5) s (low-replace 19 5 tt s h) h

-- are all numbers of a list below 23?
abbrev lows : List ℕ → Bool
lows [] = true
lows (x ∷ l) = ltb x 23 && lows l

-- a number below 23, pushed or not
lows_if : (c : Bool) (x : ℕ) → T (ltb x 23) → T (lows (cond c (x ∷ []) []))
lows_if true x t = both_pass (ltb x 23) true t tt
lows_if false x t = tt

-- what a Sus pushes, by which of the three it is
lows_sus : (a b c : Bool) → T (lows (cond a (20 ∷ []) (cond b (16 ∷ []) (cond c (17 ∷ []) []))))
lows_sus true b c = tt
lows_sus false true c = tt
lows_sus false false true = tt
lows_sus false false false = tt

-- an allowed expression alters by numbers below 23
lows_alts : (e : Exp) → T (allows e) → T (lows (alts_of e))
lows_alts Power t = tt
lows_alts Bass t = tt
lows_alts Maj t = tt
lows_alts Maj7 t = tt
lows_alts Minor t = tt
lows_alts HalfDim t = tt
lows_alts Dim t = tt
lows_alts Dim7 t = tt
lows_alts Alt t = tt
lows_alts Aug t = tt
lows_alts (Sus x) t = lows_sus (eqb x 6) (eqb x 1) (eqb x 2)
lows_alts (Extension x p) t = lows_if (elem x alterations) x (and_left (ltb x 23) _ t)
lows_alts (Add x p) t = tt
lows_alts (Omit x p) t = tt
lows_alts (SlashBass n) t = tt

-- it omits such numbers
lows_omits : (e : Exp) → T (allows e) → T (lows (omits_of e))
lows_omits Power t = tt
lows_omits Bass t = tt
lows_omits Maj t = tt
lows_omits Maj7 t = tt
lows_omits Minor t = tt
lows_omits HalfDim t = tt
lows_omits Dim t = tt
lows_omits Dim7 t = tt
lows_omits Alt t = tt
lows_omits Aug t = tt
lows_omits (Sus x) t = tt
lows_omits (Extension x p) t = tt
lows_omits (Add x p) t = tt
lows_omits (Omit x p) t = lows_if true x (and_left (ltb x 23) _ t)
lows_omits (SlashBass n) t = tt

-- and it adds such numbers
lows_adds : (e : Exp) → T (allows e) → T (lows (adds_of e))
lows_adds Power t = tt
lows_adds Bass t = tt
lows_adds Maj t = tt
lows_adds Maj7 t = tt
lows_adds Minor t = tt
lows_adds HalfDim t = tt
lows_adds Dim t = tt
lows_adds Dim7 t = tt
lows_adds Alt t = tt
lows_adds Aug t = tt
lows_adds (Sus x) t = tt
lows_adds (Extension x p) t = tt
lows_adds (Add x p) t = lows_if true x (and_left (ltb x 23) _ t)
lows_adds (Omit x p) t = tt
lows_adds (SlashBass n) t = tt

-- a fold_left over numbers below 23, by steps that each keep it
low-numbers : (f : Set → ℕ → Set) → ((x : ℕ) → T (ltb x 23) → (s : Set) → Low s → Low (f s x)) → (l : List ℕ) → T (lows l) → (s : Set) → Low s → Low (fold_left f s l)
low-numbers f F [] t s h = h
low-numbers f F (x ∷ l) t s h = low-numbers f F l (and_right (ltb x 23) (lows l) t) (f s x) (F x (and_left (ltb x 23) (lows l) t) s h)

-- a fold_left over allowed expressions, by steps that each keep it
low-walk : (f : Set → Exp → Set) → ((e : Exp) → T (allows e) → (s : Set) → Low s → Low (f s e)) → (l : List Exp) → T (allowed l) → (s : Set) → Low s → Low (fold_left f s l)
low-walk f F [] t s h = h
low-walk f F (e ∷ l) t s h = low-walk f F l (and_right (allows e) (allowed l) t) (f s e) (F e (and_left (allows e) (allowed l) t) s h)

-- the alterations of one expression
low-alter_by : (e : Exp) → T (allows e) → (s : Set) → Low s → Low (alter_by s e)
low-alter_by e t = low-numbers alter low-alter (alts_of e) (lows_alts e t)

-- its omissions
low-omit_by : (e : Exp) → T (allows e) → (s : Set) → Low s → Low (omit_by s e)
low-omit_by e t = low-numbers omit low-omit (omits_of e) (lows_omits e t)

-- its additions
low-add_by : (e : Exp) → T (allows e) → (s : Set) → Low s → Low (add_by s e)
low-add_by e t = low-numbers add low-add (adds_of e) (lows_adds e t)

-- no member from 23 on, in the order of the stages
pub beyond : (l : List Exp) → T (allowed l) → (j : ℕ) → 23 ≤ j → eval_set l j ≡ false
beyond l o =
    low-prune11 _ (low-prune6 _
    (low-walk add_by low-add_by l o _
    (low-walk omit_by low-omit_by l o _
    (low-implied (max_ext l) (is_major (base_form l)) (any is_maj l) _
    (low-walk alter_by low-alter_by l o _
    (low-sus (any is_sus4 l) _
    (low-form (base_form l) _
    (low-walk direct low-direct l o seed low-seed))))))))

-- every part is allowed, selected or not
abbrev allowed_parts : List Part → Bool
allowed_parts [] = true
allowed_parts (part c e ∷ gs) = allows e && allowed_parts gs

-- then what is selected is allowed
allowed_select : (gs : List Part) → T (allowed_parts gs) → T (allowed (select gs))
allowed_select [] t = tt
allowed_select (part true e ∷ gs) t =
    both_pass (allows e) (allowed (select gs)) (and_left (allows e) (allowed_parts gs) t) (allowed_select gs (and_right (allows e) (allowed_parts gs) t))
allowed_select (part false e ∷ gs) t = allowed_select gs (and_right (allows e) (allowed_parts gs) t)

-- the spelled expressions are allowed
pub spelled_allowed : (p : ℕ → ℕ) (b : OptionalNote) (n : Set) (k : SusKind) → T (allowed (spell_exps p b n k))
spelled_allowed p b n k = allowed_select (parts p b n k) tt

-- two sets are the same where they agree below 23 and have no member from 23 on
same_low : (s r : Set) → ((j : ℕ) → j < 23 → s j ≡ r j) → Low s → Low r → s ≡ r
same_low s r e h g = fun_ext (λ j. go j (ltb j 23) refl)
  where
    go : (j : ℕ) (c : Bool) → ltb j 23 ≡ c → s j ≡ r j
    go j true q = e j (ltb-true j 23 q)
    go j false q = h j (ltb-false j 23 q) ∙ sym (g j (ltb-false j 23 q))

-- the set of allowed expressions, spelled with their K and evaluated again, is the same at every number, where the two thirds are not both there
pub same_set : (p : ℕ → ℕ) (b : OptionalNote) (l : List Exp) → T (allowed l) → T (not (eval_set l 3 && eval_set l 4))
    → eval_set (spell_exps p b (eval_set l) (kind_of (first_sus l))) ≡ eval_set l
same_set p b l o v =
    same_low (eval_set (spell_exps p b (eval_set l) (kind_of (first_sus l)))) (eval_set l) (back_at p b l o v)
    (beyond (spell_exps p b (eval_set l) (kind_of (first_sus l))) (spelled_allowed p b (eval_set l) (kind_of (first_sus l)))) (beyond l o)
