-- The structural clauses hold of every list of allowed expressions. Each clause is one Boolean test of a few members; that a stage
-- keeps it is a computed test over all expressions, base forms and values of these members.
-- Assumes nothing.
use mathlib.Core.Bool.{Bool, true, false, not, ◌&&◌, ◌||◌, cond, or-false}
use mathlib.Core.List.{List, [], ◌∷◌}
use mathlib.Core.Path.{◌≡◌, refl, sym, ◌∙◌, ap, ap₂, subst}
use Prim.Native.Nat.{ℕ, zero, suc, ◌<◌}
use native.Mathlib.Nat.{not-suc-le-zero, le_of_suc-le-suc}
use lib.Dec.{T, eqb, ltb, ltb→lt}
use lib.ListN.{get_or}
use Rattle.intervals.specs.Interval.{Set, empty, insert, remove, remove_then_add}
use Rattle.note.specs.Note.{note_of}
use Rattle.note.specs.declared.Note.{Note}
use Rattle.display.specs.Display.{first_sus, sus_of}
use Rattle.evaluator.specs.Evaluator.{fold_left, any, direct, alter_by, omit_by, add_by, apply_form, apply_sus, imply, imply7, imply9, imply11, implied, prune6, prune11, eval_set, seed, max_ext, base_form, is_major, is_maj, is_sus4, remove_thirds}
use Rattle.evaluator.specs.declared.ast.BaseForm.TheVariants as form
use Rattle.evaluator.specs.declared.ast.BaseForm.{BaseForm}
use Rattle.expression.specs.declared.expression.Exp.TheVariants.{Power, Bass, Maj, Maj7, Minor, HalfDim, Dim, Dim7, Alt, Aug, Sus, Extension, Add, Omit, SlashBass}
use Rattle.expression.specs.declared.expression.Exp.{Exp}
use Rattle.house_parts.specs.House.{is_flat2, is_second, is_sharp4, is_sus, kind_of}
use Rattle.house_parts.specs.declared.kind.SusKind.TheVariants.{Plain}
use Rattle.house_parts.specs.declared.kind.SusKind.{SusKind}
use Rattle.house_parts.specs.Question.{◌⇒◌}
use Rattle.house_text.proofs.Struct.{Struct, allowed, allows}
use Rattle.house_text.proofs.Bits.{Bitwise, full, bw_id, bw_insert, bw_remove, bw_replace, bw_remove2, bw_then, bw_direct, bw_alter_by, bw_omit_by, bw_add_by, prune6_at, prune11_at, prune_at}
use Rattle.house_parts.proofs.Bools.{and_left, and_right, mp}

-- ---- a test at each list of k Booleans
abbrev every_l : ℕ → (List Bool → Bool) → Bool
every_l zero q = q []
every_l (suc k) q = every_l k (λ l. q (true ∷ l)) && every_l k (λ l. q (false ∷ l))

abbrev count : List ℕ → ℕ
count [] = 0
count (j ∷ js) = suc (count js)

abbrev at : Set → List ℕ → List Bool
at s [] = []
at s (j ∷ js) = s j ∷ at s js

either : (p : Bool → Bool) → T (p true) → T (p false) → (b : Bool) → T (p b)
either p y n true = y
either p y n false = n

or_else : (a b : Bool) → T (a || b) → {C : Type 0} → (T a → C) → (T b → C) → C
or_else true b t f g = f tt
or_else false b t f g = g t

every_l_at : (js : List ℕ) (q : List Bool → Bool) (s : Set) → T (every_l (count js) q) → T (q (at s js))
every_l_at [] q s t = t
every_l_at (j ∷ js) q s t =
    either (λ b. q (b ∷ at s js))
    (every_l_at js (λ l. q (true ∷ l)) s (and_left (every_l (count js) (λ l. q (true ∷ l))) _ t))
    (every_l_at js (λ l. q (false ∷ l)) s (and_right (every_l (count js) (λ l. q (true ∷ l))) _ t))
    (s j)

-- ---- what a stage h makes of the members js, when they are l
abbrev act : (Set → Set) → List ℕ → List Bool → List Bool
act h [] l = []
act h (j ∷ js) [] = []
act h (j ∷ js) (b ∷ l) = (h empty j || h full j && b) ∷ act h js l

act_at : (h : Set → Set) → Bitwise h → (js : List ℕ) (s : Set) → at (h s) js ≡ act h js (at s js)
act_at h H [] s = refl
act_at h H (j ∷ js) s = λ i. H s j i ∷ act_at h H js s i

-- q before gives r after
abbrev turns : (Set → Set) → List ℕ → (List Bool → Bool) → (List Bool → Bool) → Bool
turns h js q r = every_l (count js) (λ l. q l ⇒ r (act h js l))

turn : (h : Set → Set) → Bitwise h → (js : List ℕ) (q r : List Bool → Bool) → T (turns h js q r) → (s : Set) → T (q (at s js)) → T (r (at (h s) js))
turn h H js q r t s a =
    subst (λ l. T (r l)) (sym (act_at h H js s)) (mp (q (at s js)) (r (act h js (at s js))) (every_l_at js (λ l. q l ⇒ r (act h js l)) s t) a)

-- ---- all expressions
abbrev every_below : ℕ → (ℕ → Bool) → Bool
every_below zero t = true
every_below (suc k) t = t 0 && every_below k (λ x. t (suc x))

below : (k : ℕ) (t : ℕ → Bool) → T (every_below k t) → (x : ℕ) → x < k → T (t x)
below zero t u x h = absurd (not-suc-le-zero h)
below (suc k) t u zero h = and_left (t 0) (every_below k (λ x. t (suc x))) u
below (suc k) t u (suc x) h = below k (λ x. t (suc x)) (and_right (t 0) (every_below k (λ x. t (suc x))) u) x (le_of_suc-le-suc h)

-- a test passes at every allowed expression
abbrev all_b : List Bool → Bool
all_b [] = true
all_b (b ∷ l) = b && all_b l

pick : (l : List Bool) → T (all_b l) → (k : ℕ) → T (get_or l k true)
pick [] t k = tt
pick (b ∷ l) t zero = and_left b (all_b l) t
pick (b ∷ l) t (suc k) = pick l (and_right b (all_b l) t) k

abbrev some_note : Note
some_note = note_of 0

abbrev tests : (Exp → Bool) → ℕ → Note → List Bool
tests t p n =
    t Power ∷ t Bass ∷ t Maj ∷ t Maj7 ∷ t Minor ∷ t HalfDim ∷ t Dim ∷ t Dim7 ∷ t Alt ∷ t Aug
    ∷ every_below 23 (λ x. t (Sus x)) ∷ every_below 23 (λ x. allows (Extension x p) ⇒ t (Extension x p))
    ∷ every_below 23 (λ x. allows (Add x p) ⇒ t (Add x p)) ∷ every_below 23 (λ x. t (Omit x p)) ∷ t (SlashBass n) ∷ []

abbrev every_exp : (Exp → Bool) → ℕ → Note → Bool
every_exp t p n = all_b (tests t p n)

every_exp_lem : (t : Exp → Bool) (v : (p : ℕ) (n : Note) → T (every_exp t p n)) (e : Exp) → T (allows e) → T (t e)
every_exp_lem t v Power h = pick (tests t 0 some_note) (v 0 some_note) 0
every_exp_lem t v Bass h = pick (tests t 0 some_note) (v 0 some_note) 1
every_exp_lem t v Maj h = pick (tests t 0 some_note) (v 0 some_note) 2
every_exp_lem t v Maj7 h = pick (tests t 0 some_note) (v 0 some_note) 3
every_exp_lem t v Minor h = pick (tests t 0 some_note) (v 0 some_note) 4
every_exp_lem t v HalfDim h = pick (tests t 0 some_note) (v 0 some_note) 5
every_exp_lem t v Dim h = pick (tests t 0 some_note) (v 0 some_note) 6
every_exp_lem t v Dim7 h = pick (tests t 0 some_note) (v 0 some_note) 7
every_exp_lem t v Alt h = pick (tests t 0 some_note) (v 0 some_note) 8
every_exp_lem t v Aug h = pick (tests t 0 some_note) (v 0 some_note) 9
every_exp_lem t v (Sus x) h = below 23 (λ x. t (Sus x)) (pick (tests t 0 some_note) (v 0 some_note) 10) x (ltb→lt x 23 h)
every_exp_lem t v (Extension x p) h =
    mp (allows (Extension x p)) (t (Extension x p))
    (below 23 (λ x. allows (Extension x p) ⇒ t (Extension x p)) (pick (tests t p some_note) (v p some_note) 11) x (ltb→lt x 23 (and_left (ltb x 23) _ h))) h
every_exp_lem t v (Add x p) h =
    mp (allows (Add x p)) (t (Add x p))
    (below 23 (λ x. allows (Add x p) ⇒ t (Add x p)) (pick (tests t p some_note) (v p some_note) 12) x (ltb→lt x 23 (and_left (ltb x 23) _ h))) h
every_exp_lem t v (Omit x p) h = below 23 (λ x. t (Omit x p)) (pick (tests t p some_note) (v p some_note) 13) x (ltb→lt x 23 (and_left (ltb x 23) _ h))
every_exp_lem t v (SlashBass n) h = pick (tests t 0 n) (v 0 n) 14

-- ---- a fold_left keeps q; and it reaches q where the list has an expression that brings it
abbrev Kept : (Set → Exp → Set) → List ℕ → (List Bool → Bool) → Type 0
Kept f js q = (p : ℕ) (n : Note) → T (every_exp (λ e. turns (λ s. f s e) js q q) p n)

module _ (f : Set → Exp → Set) (F : (e : Exp) → Bitwise (λ s. f s e)) (js : List ℕ) (q : List Bool → Bool) (v : Kept f js q) where
  keep : (l : List Exp) → T (allowed l) → (s : Set) → T (q (at s js)) → T (q (at (fold_left f s l) js))
  keep [] t s a = a
  keep (e ∷ l) t s a =
      keep l (and_right (allows e) (allowed l) t) (f s e)
      (turn (λ s. f s e) (F e) js q q (every_exp_lem (λ e. turns (λ s. f s e) js q q) v e (and_left (allows e) (allowed l) t)) s a)

  reach : (r : Exp → Bool) → ((p : ℕ) (n : Note) → T (every_exp (λ e. r e ⇒ turns (λ s. f s e) js (λ l. true) q) p n))
      → (l : List Exp) → T (allowed l) → T (any r l) → (s : Set) → T (q (at (fold_left f s l) js))
  reach r w [] t a s = absurd a
  reach r w (e ∷ l) t a s =
      or_else (r e) (any r l) a
      (λ b. keep l (and_right (allows e) (allowed l) t) (f s e)
      (turn (λ s. f s e) (F e) js (λ l. true) q
      (mp (r e) _ (every_exp_lem (λ e. r e ⇒ turns (λ s. f s e) js (λ l. true) q) w e (and_left (allows e) (allowed l) t)) b) s tt))
      (λ b. reach r w l (and_right (allows e) (allowed l) t) b (f s e))

-- ---- the stages that are no walks
abbrev dims : Set → Set
dims s = remove_then_add (remove_then_add s 4 3) 8 7

bw_dims : Bitwise dims
bw_dims = bw_then (λ s. remove_then_add s 4 3) (λ s. remove_then_add s 8 7) (bw_replace 4 3) (bw_replace 8 7)

bw_form : (f : BaseForm) → Bitwise (apply_form f)
bw_form form.Major = bw_id
bw_form form.Power = bw_remove 4
bw_form form.Minor = bw_replace 4 3
bw_form form.Dim = bw_dims
bw_form form.HalfDim = bw_then dims (λ s. insert s 13) bw_dims (bw_insert 13)
bw_form form.Dim7 = bw_then dims (λ s. insert s 12) bw_dims (bw_insert 12)

bw_sus : (c : Bool) → Bitwise (apply_sus c)
bw_sus true = bw_then remove_thirds (λ s. insert s 5) (bw_remove2 3 4) (bw_insert 5)
bw_sus false = bw_id

not_left : (a b : Bool) → T (not (a || b)) → a ≡ false
not_left true b t = absurd t
not_left false b t = refl

not_right : (a b : Bool) → T (not (a || b)) → T (not b)
not_right true b t = absurd t
not_right false b t = t

-- a member that implied_extensions does not touch
abbrev still5 : ℕ → Bool
still5 j = not (any (λ k. eqb k j) (4 ∷ 5 ∷ 13 ∷ 14 ∷ 17 ∷ 19 ∷ 22 ∷ []))

module _ (j : ℕ) (e4 : eqb 4 j ≡ false) (e5 : eqb 5 j ≡ false) (e13 : eqb 13 j ≡ false) (e14 : eqb 14 j ≡ false) (e17 : eqb 17 j ≡ false) (e19 : eqb 19 j ≡ false) (e22 : eqb 22 j ≡ false) where
  ins : (x : ℕ) → eqb x j ≡ false → (s : Set) → insert s x j ≡ s j
  unfolding insert remove
  ins x e s = ap (λ b. b || s j) e

  imp : (x : ℕ) (cs : List ℕ) → eqb x j ≡ false → (s : Set) → imply x cs s j ≡ s j
  unfolding insert remove
  imp x cs e s = go (any s cs)
    where
      go : (c : Bool) → cond c s (insert s x) j ≡ s j
      go true = refl
      go false = ap (λ b. b || s j) e

  imp7 : (mj : Bool) (s : Set) → imply7 mj s j ≡ s j
  imp7 true s = imp 14 [] e14 s
  imp7 false s = imp 13 (12 ∷ []) e13 s

  by13 : (M : Bool) (s : Set) → cond M (insert s 22) (imply11 (insert s 22)) j ≡ s j
  by13 true s = ins 22 e22 s
  by13 false s = imp 19 (20 ∷ []) e19 (insert s 22) ∙ ins 22 e22 s

  by11 : (M : Bool) (s : Set) → cond M (remove_then_add s 4 5) (insert s 19) j ≡ s j
  unfolding insert remove
  by11 true s = ap₂ (λ a b. a || not b && s j) e5 e4
  by11 false s = ins 19 e19 s

  by9 : (c mj : Bool) (s : Set) → cond c (insert s 17) (imply7 mj (insert s 17)) j ≡ s j
  by9 true mj s = ins 17 e17 s
  by9 false mj s = imp7 mj (insert s 17) ∙ ins 17 e17 s

  by : (c22 c19 c17 M mj : Bool) (s : Set)
      → cond c22 (imply7 mj (imply9 (cond M (insert s 22) (imply11 (insert s 22)))))
      (cond c19 (imply7 mj (imply9 (cond M (remove_then_add s 4 5) (insert s 19))))
      (cond c17 (cond (s 11 || s 10) (insert s 17) (imply7 mj (insert s 17))) s)) j ≡ s j
  by true c19 c17 M mj s = imp7 mj (imply9 (cond M (insert s 22) (imply11 (insert s 22)))) ∙ imp 17 (16 ∷ 18 ∷ []) e17 (cond M (insert s 22) (imply11 (insert s 22))) ∙ by13 M s
  by false true c17 M mj s = imp7 mj (imply9 (cond M (remove_then_add s 4 5) (insert s 19))) ∙ imp 17 (16 ∷ 18 ∷ []) e17 (cond M (remove_then_add s 4 5) (insert s 19)) ∙ by11 M s
  by false false true M mj s = by9 (s 11 || s 10) mj s
  by false false false M mj s = refl

implied_still : (ext : ℕ) (M mj : Bool) (s : Set) (j : ℕ) → T (still5 j) → implied ext M mj s j ≡ s j
implied_still ext M mj s j t4 =
    let t5 = not_right (eqb 4 j) _ t4 in
    let t13 = not_right (eqb 5 j) _ t5 in
    let t14 = not_right (eqb 13 j) _ t13 in
    let t17 = not_right (eqb 14 j) _ t14 in
    let t19 = not_right (eqb 17 j) _ t17 in
    let t22 = not_right (eqb 19 j) _ t19 in
    by j (not_left (eqb 4 j) _ t4) (not_left (eqb 5 j) _ t5) (not_left (eqb 13 j) _ t13) (not_left (eqb 14 j) _ t14) (not_left (eqb 17 j) _ t17) (not_left (eqb 19 j) _ t19) (not_left (eqb 22 j) _ t22)
    (eqb ext 22) (eqb ext 19) (eqb ext 17) M mj s

-- a member that prune does not touch
abbrev still8 : ℕ → Bool
still8 j = not (any (λ k. eqb k j) (5 ∷ 19 ∷ 22 ∷ []))

prune_still : (s : Set) (j : ℕ) → T (still8 j) → prune11 (prune6 s) j ≡ s j
unfolding insert remove
prune_still s j t = go (prune6 s 4 && prune6 s 19) ∙ go6 (s 11)
  where
    e5 : eqb 5 j ≡ false
    e5 = not_left (eqb 5 j) _ t

    e19 : eqb 19 j ≡ false
    e19 = not_left (eqb 19 j) _ (not_right (eqb 5 j) _ t)

    e22 : eqb 22 j ≡ false
    e22 = not_left (eqb 22 j) _ (not_right (eqb 19 j) _ (not_right (eqb 5 j) _ t))

    go : (c : Bool) → cond c (remove_then_add (prune6 s) 19 5) (prune6 s) j ≡ prune6 s j
    go true = ap₂ (λ a b. a || not b && prune6 s j) e5 e19
    go false = refl

    go6 : (c : Bool) → cond c (remove s 22) s j ≡ s j
    go6 true = ap (λ a. not a && s j) e22
    go6 false = refl

abbrev all_j : (ℕ → Bool) → List ℕ → Bool
all_j t [] = true
all_j t (j ∷ js) = t j && all_j t js

still_at : (t : ℕ → Bool) (h s : Set) → ((j : ℕ) → T (t j) → h j ≡ s j) → (js : List ℕ) → T (all_j t js) → at h js ≡ at s js
still_at t h s e [] u = refl
still_at t h s e (j ∷ js) u = λ i. e j (and_left (t j) (all_j t js) u) i ∷ still_at t h s e js (and_right (t j) (all_j t js) u) i

-- implied_extensions takes nothing out but the third
or_right : (a b : Bool) → T b → T (a || b)
or_right true b t = tt
or_right false b t = t

module _ (j : ℕ) where
  more : (x : ℕ) (cs : List ℕ) (s : Set) → T (s j) → T (imply x cs s j)
  unfolding insert remove
  more x cs s t = go (any s cs)
    where
      go : (c : Bool) → T (cond c s (insert s x) j)
      go true = t
      go false = or_right (eqb x j) (s j) t

  more7 : (mj : Bool) (s : Set) → T (s j) → T (imply7 mj s j)
  more7 true s t = more 14 [] s t
  more7 false s t = more 13 (12 ∷ []) s t

  more13 : (M : Bool) (s : Set) → T (s j) → T (cond M (insert s 22) (imply11 (insert s 22)) j)
  unfolding insert remove
  more13 true s t = or_right (eqb 22 j) (s j) t
  more13 false s t = more 19 (20 ∷ []) (insert s 22) (or_right (eqb 22 j) (s j) t)

  more11 : (M : Bool) (s : Set) → T (not (eqb 4 j)) → T (s j) → T (cond M (remove_then_add s 4 5) (insert s 19) j)
  unfolding insert remove
  more11 true s e t = or_right (eqb 5 j) (not (eqb 4 j) && s j) (subst (λ b. T (not b && s j)) (sym (not_left (eqb 4 j) false (subst (λ b. T (not b)) (sym (or-false (eqb 4 j))) e))) t)
  more11 false s e t = or_right (eqb 19 j) (s j) t

  more9 : (c mj : Bool) (s : Set) → T (s j) → T (cond c (insert s 17) (imply7 mj (insert s 17)) j)
  unfolding insert remove
  more9 true mj s t = or_right (eqb 17 j) (s j) t
  more9 false mj s t = more7 mj (insert s 17) (or_right (eqb 17 j) (s j) t)

  more_by : (c22 c19 c17 M mj : Bool) (s : Set) → T (not (eqb 4 j)) → T (s j)
      → T (cond c22 (imply7 mj (imply9 (cond M (insert s 22) (imply11 (insert s 22)))))
      (cond c19 (imply7 mj (imply9 (cond M (remove_then_add s 4 5) (insert s 19))))
      (cond c17 (cond (s 11 || s 10) (insert s 17) (imply7 mj (insert s 17))) s)) j)
  more_by true c19 c17 M mj s e t = more7 mj (imply9 (cond M (insert s 22) (imply11 (insert s 22)))) (more 17 (16 ∷ 18 ∷ []) (cond M (insert s 22) (imply11 (insert s 22))) (more13 M s t))
  more_by false true c17 M mj s e t = more7 mj (imply9 (cond M (remove_then_add s 4 5) (insert s 19))) (more 17 (16 ∷ 18 ∷ []) (cond M (remove_then_add s 4 5) (insert s 19)) (more11 M s e t))
  more_by false false true M mj s e t = more9 (s 11 || s 10) mj s t
  more_by false false false M mj s e t = t

-- ---- the whole evaluation
-- after the alterations; after the implied extensions
abbrev to4 : List Exp → Set
to4 l = fold_left alter_by (apply_sus (any is_sus4 l) (apply_form (base_form l) (fold_left direct seed l))) l

abbrev to5 : List Exp → Set
to5 l = implied (max_ext l) (is_major (base_form l)) (any is_maj l) (to4 l)

-- the computed tests of a clause: q up to the alterations, r from the omits on
abbrev early : List ℕ → (List Bool → Bool) → ℕ → Note → List Bool
early js q p n =
    q (at seed js)
    ∷ every_exp (λ e. turns (λ s. direct s e) js q q) p n
    ∷ turns (apply_form form.Major) js q q
    ∷ turns (apply_form form.Power) js q q
    ∷ turns (apply_form form.Minor) js q q
    ∷ turns (apply_form form.Dim) js q q
    ∷ turns (apply_form form.HalfDim) js q q
    ∷ turns (apply_form form.Dim7) js q q
    ∷ turns (apply_sus true) js q q
    ∷ turns (apply_sus false) js q q
    ∷ every_exp (λ e. turns (λ s. alter_by s e) js q q) p n
    ∷ []

abbrev late : List ℕ → (List Bool → Bool) → ℕ → Note → List Bool
late js r p n = every_exp (λ e. turns (λ s. omit_by s e) js r r) p n ∷ every_exp (λ e. turns (λ s. add_by s e) js r r) p n ∷ all_j still8 js ∷ []

module _ (js : List ℕ) (q : List Bool → Bool) (v : (p : ℕ) (n : Note) → T (all_b (early js q p n))) (l : List Exp) (o : T (allowed l)) where
  form_keeps : (f : BaseForm) (s : Set) → T (q (at s js)) → T (q (at (apply_form f s) js))
  form_keeps form.Major s t = turn (apply_form form.Major) (bw_form form.Major) js q q (pick (early js q 0 some_note) (v 0 some_note) 2) s t
  form_keeps form.Power s t = turn (apply_form form.Power) (bw_form form.Power) js q q (pick (early js q 0 some_note) (v 0 some_note) 3) s t
  form_keeps form.Minor s t = turn (apply_form form.Minor) (bw_form form.Minor) js q q (pick (early js q 0 some_note) (v 0 some_note) 4) s t
  form_keeps form.Dim s t = turn (apply_form form.Dim) (bw_form form.Dim) js q q (pick (early js q 0 some_note) (v 0 some_note) 5) s t
  form_keeps form.HalfDim s t = turn (apply_form form.HalfDim) (bw_form form.HalfDim) js q q (pick (early js q 0 some_note) (v 0 some_note) 6) s t
  form_keeps form.Dim7 s t = turn (apply_form form.Dim7) (bw_form form.Dim7) js q q (pick (early js q 0 some_note) (v 0 some_note) 7) s t

  sus_keeps : (c : Bool) (s : Set) → T (q (at s js)) → T (q (at (apply_sus c s) js))
  sus_keeps true s t = turn (apply_sus true) (bw_sus true) js q q (pick (early js q 0 some_note) (v 0 some_note) 8) s t
  sus_keeps false s t = turn (apply_sus false) (bw_sus false) js q q (pick (early js q 0 some_note) (v 0 some_note) 9) s t

  upto4 : T (q (at (to4 l) js))
  upto4 =
      keep alter_by bw_alter_by js q (λ p n. pick (early js q p n) (v p n) 10) l o _
      (sus_keeps (any is_sus4 l) _ (form_keeps (base_form l) _
      (keep direct bw_direct js q (λ p n. pick (early js q p n) (v p n) 1) l o seed (pick (early js q 0 some_note) (v 0 some_note) 0))))

  upto5 : T (all_j still5 js) → T (q (at (to5 l) js))
  upto5 t = subst (λ b. T (q b)) (sym (still_at still5 (to5 l) (to4 l) (implied_still (max_ext l) (is_major (base_form l)) (any is_maj l) (to4 l)) js t)) upto4

module _ (js : List ℕ) (r : List Bool → Bool) (v : (p : ℕ) (n : Note) → T (all_b (late js r p n))) (l : List Exp) (o : T (allowed l)) where
  from7 : (s : Set) → T (r (at s js)) → T (r (at (prune11 (prune6 (fold_left add_by s l))) js))
  from7 s a =
      subst (λ b. T (r b)) (sym (still_at still8 (prune11 (prune6 (fold_left add_by s l))) (fold_left add_by s l) (prune_still (fold_left add_by s l)) js (pick (late js r 0 some_note) (v 0 some_note) 2)))
      (keep add_by bw_add_by js r (λ p n. pick (late js r p n) (v p n) 1) l o s a)

  from6 : (s : Set) → T (r (at s js)) → T (r (at (prune11 (prune6 (fold_left add_by (fold_left omit_by s l) l))) js))
  from6 s a = from7 (fold_left omit_by s l) (keep omit_by bw_omit_by js r (λ p n. pick (late js r p n) (v p n) 0) l o s a)

-- a clause that every stage keeps
always : (js : List ℕ) (q : List Bool → Bool) → ((p : ℕ) (n : Note) → T (all_b (early js q p n))) → T (all_j still5 js) → ((p : ℕ) (n : Note) → T (all_b (late js q p n)))
    → (l : List Exp) → T (allowed l) → T (q (at (eval_set l) js))
always js q v t w l o = from6 js q w l o (to5 l) (upto5 js q v l o t)

abbrev first : List Bool → Bool
first [] = true
first (a ∷ l) = a

abbrev none : List Bool → Bool
none [] = true
none (a ∷ l) = not a

abbrev apart : List Bool → Bool
apart [] = true
apart (a ∷ []) = true
apart (a ∷ b ∷ l) = not (a && b)

abbrev seven : List Bool → Bool
seven [] = true
seven (d ∷ []) = true
seven (d ∷ a ∷ []) = true
seven (d ∷ a ∷ b ∷ l) = d ⇒ b

abbrev seven' : List Bool → Bool
seven' [] = true
seven' (d ∷ []) = true
seven' (d ∷ a ∷ []) = true
seven' (d ∷ a ∷ b ∷ l) = d && a ⇒ b

weaker : (d a b : Bool) → T (d ⇒ b) → T (d && a ⇒ b)
weaker true true b t = t
weaker true false b t = tt
weaker false a b t = tt

six : (a b : Bool) → T (not (a && (not a && b)))
six true b = tt
six false b = tt

eleven : (a b : Bool) → T (not (a && (not (a && b) && b)))
eleven true true = tt
eleven true false = tt
eleven false b = tt

implies : (a b : Bool) → (T a → T b) → T (a ⇒ b)
implies true b f = f tt
implies false b f = tt

-- ---- the kind: some Sus of the list gives it
or_left : (a b : Bool) → T a → T (a || b)
or_left true b t = tt
or_left false b t = absurd t

kind_at : (π : SusKind → Bool) (e : Exp) (x : ℕ) → T (π (kind_of (sus_of e x))) → T (π (kind_of (sus_of e 0)) || π (kind_of x))
kind_at π Power x t = or_right (π Plain) (π (kind_of x)) t
kind_at π Bass x t = or_right (π Plain) (π (kind_of x)) t
kind_at π Maj x t = or_right (π Plain) (π (kind_of x)) t
kind_at π Maj7 x t = or_right (π Plain) (π (kind_of x)) t
kind_at π Minor x t = or_right (π Plain) (π (kind_of x)) t
kind_at π HalfDim x t = or_right (π Plain) (π (kind_of x)) t
kind_at π Dim x t = or_right (π Plain) (π (kind_of x)) t
kind_at π Dim7 x t = or_right (π Plain) (π (kind_of x)) t
kind_at π Alt x t = or_right (π Plain) (π (kind_of x)) t
kind_at π Aug x t = or_right (π Plain) (π (kind_of x)) t
kind_at π (Sus y) x t = or_left (π (kind_of y)) (π (kind_of x)) t
kind_at π (Extension y p) x t = or_right (π Plain) (π (kind_of x)) t
kind_at π (Add y p) x t = or_right (π Plain) (π (kind_of x)) t
kind_at π (Omit y p) x t = or_right (π Plain) (π (kind_of x)) t
kind_at π (SlashBass n) x t = or_right (π Plain) (π (kind_of x)) t

abbrev gives : (SusKind → Bool) → Exp → Bool
gives π e = π (kind_of (sus_of e 0))

kind-any : (π : SusKind → Bool) → (T (π Plain) → ⊥) → (l : List Exp) → T (π (kind_of (first_sus l))) → T (any (gives π) l)
kind-any π z [] t = absurd (z t)
kind-any π z (e ∷ l) t =
    or_else (gives π e) (π (kind_of (first_sus l))) (kind_at π e (first_sus l) t)
    (λ a. or_left (gives π e) (any (gives π) l) a)
    (λ a. or_right (gives π e) (any (gives π) l) (kind-any π z l a))

module _ (l : List Exp) (o : T (allowed l)) where
  abbrev to7 : Set
  to7 = fold_left add_by (fold_left omit_by (to5 l) l) l

  pruned : (q : Bool → Bool → Bool) (i j : ℕ) (s : Set) → T (q (prune11_at (prune6_at s) i) (prune11_at (prune6_at s) j)) → T (q (prune11 (prune6 s) i) (prune11 (prune6 s) j))
  pruned q i j s t = subst (λ (n : Set). T (q (n i) (n j))) (sym (prune_at s)) t

  -- a member that the kind's alteration brings, and that the implied extensions leave
  brought : (j : ℕ) (π : SusKind → Bool) → T (not (eqb 4 j)) → (T (π Plain) → ⊥) → Kept alter_by (j ∷ []) first
      → ((p : ℕ) (n : Note) → T (every_exp (λ e. gives π e ⇒ turns (λ s. alter_by s e) (j ∷ []) (λ l. true) first) p n)) → T (π (kind_of (first_sus l))) → T (to5 l j)
  brought j π e z v w k =
      more_by j (eqb (max_ext l) 22) (eqb (max_ext l) 19) (eqb (max_ext l) 17) (is_major (base_form l)) (any is_maj l) (to4 l) e
      (reach alter_by bw_alter_by (j ∷ []) first v (gives π) w l o (kind-any π z l k) _)

  -- the clauses together
  pub struct : Struct (eval_set l) (kind_of (first_sus l))
  unfolding insert remove
  struct =
      record {
        s1 = always (0 ∷ []) first (λ p n. tt) tt (λ p n. tt) l o;
        s2a = always (1 ∷ []) none (λ p n. tt) tt (λ p n. tt) l o;
        s2b = always (6 ∷ []) none (λ p n. tt) tt (λ p n. tt) l o;
        s2c = always (15 ∷ []) none (λ p n. tt) tt (λ p n. tt) l o;
        s3 = always (8 ∷ 7 ∷ []) apart (λ p n. tt) tt (λ p n. tt) l o;
        s4 = always (8 ∷ 9 ∷ []) apart (λ p n. tt) tt (λ p n. tt) l o;
        s5 = always (8 ∷ 21 ∷ []) apart (λ p n. tt) tt (λ p n. tt) l o;
        s6 = always (8 ∷ 12 ∷ []) apart (λ p n. tt) tt (λ p n. tt) l o;
        s7 = from6 (12 ∷ 9 ∷ 7 ∷ []) seven' (λ p n. tt) l o (to5 l) (weaker (to5 l 12) (to5 l 9) (to5 l 7) (upto5 (12 ∷ 9 ∷ 7 ∷ []) seven (λ p n. tt) l o tt));
        s8 = pruned (λ a b. not (a && b)) 11 22 to7 (six (to7 11) (to7 22));
        s9 = pruned (λ a b. not (a && b)) 4 19 to7 (eleven (to7 4) (to7 19));
        s10 = implies (is_sus (kind_of (first_sus l))) _ (λ k. from7 (3 ∷ []) none (λ p n. tt) l o (fold_left omit_by (to5 l) l)
            (reach omit_by bw_omit_by (3 ∷ []) none (λ p n. tt) (gives is_sus) (λ p n. tt) l o (kind-any is_sus (λ z. z) l k) (to5 l)));
        s11a = implies (is_flat2 (kind_of (first_sus l))) _ (λ k. from6 (16 ∷ []) first (λ p n. tt) l o (to5 l) (brought 16 is_flat2 tt (λ z. z) (λ p n. tt) (λ p n. tt) k));
        s11b = implies (is_second (kind_of (first_sus l))) _ (λ k. from6 (17 ∷ []) first (λ p n. tt) l o (to5 l) (brought 17 is_second tt (λ z. z) (λ p n. tt) (λ p n. tt) k));
        s11c = implies (is_sharp4 (kind_of (first_sus l))) _ (λ k. from6 (20 ∷ []) first (λ p n. tt) l o (to5 l) (brought 20 is_sharp4 tt (λ z. z) (λ p n. tt) (λ p n. tt) k));
      }
