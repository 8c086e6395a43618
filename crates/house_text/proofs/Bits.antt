-- Every stage acts on each member by itself. So what a fold_left over the selected parts does to one member is a Boolean expression in the
-- conditions; at a written-out member and expression, the parts that do not touch it compute away. Put together, the evaluation of
-- selected parts is `eval_parts`, which `Round` computes at each member.
-- Assumes nothing.
use mathlib.Core.Bool.{Bool, true, false, not, ◌&&◌, ◌||◌, cond, and-true, and-false}
use mathlib.Core.List.{List, [], ◌∷◌}
use mathlib.Core.Path.{◌≡◌, refl, sym, ◌∙◌, ap, ap₂, fun_ext}
use Prim.Native.Nat.{ℕ, max}
use native.Mathlib.Omega.{arith}
use lib.Dec.{T, eqb, eqb→eq}
use Rattle.intervals.specs.Interval.{elem, Set, empty, insert, remove, remove_then_add}
use Rattle.evaluator.specs.Evaluator.{fold_left, any, direct, alter, omit, add, alter_by, omit_by, add_by, alts_of, omits_of, adds_of, remove_thirds, ext_of, ext_at, form_of, form_at, transition, is_major, apply_form, apply_sus, prune6, prune11, eval_set, is_sus4, is_maj, seed, implied, base_form}
use Rattle.evaluator.specs.declared.ast.BaseForm.TheVariants as form
use Rattle.evaluator.specs.declared.ast.BaseForm.{BaseForm}
use Rattle.expression.specs.declared.expression.Exp.TheVariants.{Power, Bass, Maj, Maj7, Minor, HalfDim, Dim, Dim7, Alt, Aug, Sus, Extension, Add, Omit, SlashBass}
use Rattle.expression.specs.declared.expression.Exp.{Exp}
use Rattle.house_parts.specs.House.{Part, part, select}
use Rattle.house_parts.proofs.Bools.{law, every, ◌≈◌, and_left, and_right}

abbrev pub full : Set
full j = true

-- member j of the result: put in, or there and kept
abbrev pub Bitwise : (Set → Set) → Type 0
Bitwise h = (s : Set) (j : ℕ) → h s j ≡ h empty j || h full j && s j

pub bw_id : Bitwise (λ s. s)
bw_id s j = refl

pub bw_insert : (i : ℕ) → Bitwise (λ s. insert s i)
unfolding insert remove
bw_insert i s j = (law 2 (λ a b. ◌≈◌ (a || b) ((a || false) || (a || true) && b)) tt (eqb i j) (s j))

pub bw_remove : (i : ℕ) → Bitwise (λ s. remove s i)
unfolding insert remove
bw_remove i s j = (law 2 (λ a b. ◌≈◌ (not a && b) (not a && false || not a && true && b)) tt (eqb i j) (s j))

pub bw_then : (f g : Set → Set) → Bitwise f → Bitwise g → Bitwise (λ s. g (f s))
bw_then f g F G s j =
    G (f s) j ∙ ap (λ b. g empty j || g full j && b) (F s j)
    ∙ (law 5 (λ a b c d e. ◌≈◌ (a || b && (c || d && e)) ((a || b && c) || (a || b && d) && e)) tt (g empty j) (g full j) (f empty j) (f full j) (s j))
    ∙ sym (ap₂ (λ b c. b || c && s j) (G (f empty) j) (G (f full) j))

pub bw_cond : (c : Bool) (f g : Set → Set) → Bitwise f → Bitwise g → Bitwise (λ s. cond c (f s) (g s))
bw_cond true f g F G = F
bw_cond false f g F G = G

pub bw_walk : (f : Set → ℕ → Set) → ((x : ℕ) → Bitwise (λ s. f s x)) → (l : List ℕ) → Bitwise (λ s. fold_left f s l)
bw_walk f F [] = bw_id
bw_walk f F (x ∷ l) = bw_then (λ s. f s x) (λ s. fold_left f s l) (F x) (bw_walk f F l)

-- the stages
pub bw_replace : (i k : ℕ) → Bitwise (λ s. remove_then_add s i k)
bw_replace i k = bw_then (λ s. remove s i) (λ s. insert s k) (bw_remove i) (bw_insert k)

pub bw_remove2 : (i k : ℕ) → Bitwise (λ s. remove (remove s i) k)
bw_remove2 i k = bw_then (λ s. remove s i) (λ s. remove s k) (bw_remove i) (bw_remove k)

pub bw_direct : (e : Exp) → Bitwise (λ s. direct s e)
bw_direct Power = bw_id
bw_direct Bass = bw_remove2 8 4
bw_direct Maj = bw_id
bw_direct Maj7 = bw_insert 14
bw_direct Minor = bw_id
bw_direct HalfDim = bw_id
bw_direct Dim = bw_id
bw_direct Dim7 = bw_id
bw_direct Alt = bw_insert 13
bw_direct Aug = bw_id
bw_direct (Sus x) = bw_id
bw_direct (Extension x p) = bw_cond (elem x (11 ∷ 10 ∷ 13 ∷ [])) (λ s. insert s x) (λ s. s) (bw_insert x) bw_id
bw_direct (Add x p) = bw_id
bw_direct (Omit x p) = bw_id
bw_direct (SlashBass n) = bw_id

pub bw_alter_by : (e : Exp) → Bitwise (λ s. alter_by s e)
bw_alter_by e = bw_walk alter (λ x. bw_cond (elem x (7 ∷ 9 ∷ 21 ∷ [])) (λ s. remove_then_add s 8 x) (λ s. insert s x) (bw_replace 8 x) (bw_insert x)) (alts_of e)

pub bw_omit_by : (e : Exp) → Bitwise (λ s. omit_by s e)
bw_omit_by e = bw_walk omit one (omits_of e)
  where
    one : (x : ℕ) → Bitwise (λ s. omit s x)
    one x =
        bw_cond (eqb x 8) (λ s. remove (remove (remove s 8) 9) 7) (λ s. cond (eqb x 4) (remove_thirds s) s)
        (bw_then (λ s. remove (remove s 8) 9) (λ s. remove s 7) (bw_remove2 8 9) (bw_remove 7))
        (bw_cond (eqb x 4) remove_thirds (λ s. s) (bw_remove2 3 4) bw_id)

pub bw_add_by : (e : Exp) → Bitwise (λ s. add_by s e)
bw_add_by e = bw_walk add one (adds_of e)
  where
    one : (x : ℕ) → Bitwise (λ s. add s x)
    one x =
        bw_then (λ s. cond (eqb x 21) (remove s 8) s) (λ s. insert s x)
        (bw_cond (eqb x 21) (λ s. remove s 8) (λ s. s) (bw_remove 8) bw_id) (bw_insert x)

-- a fold_left over the selected parts, at one member
abbrev pub bit : (Set → Exp → Set) → List Part → ℕ → Bool → Bool
bit f [] j b = b
bit f (part c e ∷ gs) j b = bit f gs j (f empty e j && c || (f full e j || not c) && b)

pub walk-select : (f : Set → Exp → Set) → ((e : Exp) → Bitwise (λ s. f s e)) → (gs : List Part) (s : Set) (j : ℕ) → fold_left f s (select gs) j ≡ bit f gs j (s j)
walk-select f F [] s j = refl
walk-select f F (part true e ∷ gs) s j =
    walk-select f F gs (f s e) j
    ∙ ap (bit f gs j) (F e s j ∙ (law 3 (λ a b c. ◌≈◌ (a || b && c) (a && true || (b || false) && c)) tt (f empty e j) (f full e j) (s j)))
walk-select f F (part false e ∷ gs) s j =
    walk-select f F gs s j
    ∙ ap (bit f gs j) ((law 3 (λ a b c. ◌≈◌ c (a && false || (b || true) && c)) tt (f empty e j) (f full e j) (s j)))

-- a test of the selected parts
abbrev pub some : (Exp → Bool) → List Part → Bool
some p [] = false
some p (part c e ∷ gs) = p e && c || some p gs

pub any-select : (p : Exp → Bool) (gs : List Part) → any p (select gs) ≡ some p gs
any-select p [] = refl
any-select p (part true e ∷ gs) = ap (λ b. p e || b) (any-select p gs) ∙ ap (λ b. b || some p gs) (sym (and-true (p e)))
any-select p (part false e ∷ gs) = any-select p gs ∙ ap (λ b. b || some p gs) (sym (and-false (p e)))

-- no part is an extension 9, 11 or 13
abbrev pub no_ext : List Part → Bool
no_ext [] = true
no_ext (part c e ∷ gs) = eqb (ext_of e) 0 && no_ext gs

max-zero : (n : ℕ) → max n 0 ≡ n
max-zero n = omega arith

pub max_ext-select : (gs : List Part) (n : ℕ) → T (no_ext gs) → fold_left ext_at n (select gs) ≡ n
max_ext-select [] n t = refl
max_ext-select (part true e ∷ gs) n t =
    max_ext-select gs (max n (ext_of e)) (and_right (eqb (ext_of e) 0) (no_ext gs) t)
    ∙ ap (max n) (eqb→eq (ext_of e) 0 (and_left (eqb (ext_of e) 0) (no_ext gs) t)) ∙ max-zero n
max_ext-select (part false e ∷ gs) n t = max_ext-select gs n (and_right (eqb (ext_of e) 0) (no_ext gs) t)

-- the base form of the selected parts
abbrev pub form_bit : BaseForm → List Part → BaseForm
form_bit f [] = f
form_bit f (part c e ∷ gs) = form_bit (cond (is_major (form_of e)) f (transition f (cond c (form_of e) form.Major))) gs

top : (f : BaseForm) → f ≡ transition f form.Major
top form.Major = refl
top form.Minor = refl
top form.Dim = refl
top form.HalfDim = refl
top form.Dim7 = refl
top form.Power = refl

form_in : (f g : BaseForm) → transition f g ≡ cond (is_major g) f (transition f g)
form_in f form.Major = sym (top f)
form_in f form.Minor = refl
form_in f form.Dim = refl
form_in f form.HalfDim = refl
form_in f form.Dim7 = refl
form_in f form.Power = refl

form_out : (f : BaseForm) (b : Bool) → f ≡ cond b f (transition f form.Major)
form_out f true = refl
form_out f false = top f

pub form-select : (gs : List Part) (f : BaseForm) → fold_left form_at f (select gs) ≡ form_bit f gs
form-select [] f = refl
form-select (part true e ∷ gs) f = form-select gs (transition f (form_of e)) ∙ ap (λ g. form_bit g gs) (form_in f (form_of e))
form-select (part false e ∷ gs) f = form-select gs f ∙ ap (λ g. form_bit g gs) (form_out f (is_major (form_of e)))

-- the stages that are no walks, at one member
abbrev pub minorish : BaseForm → Bool
minorish form.Major = false
minorish form.Minor = true
minorish form.Dim = true
minorish form.HalfDim = true
minorish form.Dim7 = true
minorish form.Power = false

abbrev pub dimish : BaseForm → Bool
dimish form.Major = false
dimish form.Minor = false
dimish form.Dim = true
dimish form.HalfDim = true
dimish form.Dim7 = true
dimish form.Power = false

abbrev pub is_half : BaseForm → Bool
is_half form.Major = false
is_half form.Minor = false
is_half form.Dim = false
is_half form.HalfDim = true
is_half form.Dim7 = false
is_half form.Power = false

abbrev pub is_dim7 : BaseForm → Bool
is_dim7 form.Major = false
is_dim7 form.Minor = false
is_dim7 form.Dim = false
is_dim7 form.HalfDim = false
is_dim7 form.Dim7 = true
is_dim7 form.Power = false

-- a3 is "this member is 3", and so on; b is "it was there"
abbrev pub form_atom : BaseForm → Bool → Bool → Bool → Bool → Bool → Bool → Bool → Bool
form_atom f a3 a4 a7 a8 a12 a13 b =
    a12 && is_dim7 f || a13 && is_half f
    || (a7 && dimish f || not (a8 && dimish f) && (a3 && minorish f || not (a4 && not (is_major f)) && b))

abbrev pub form_at_member : BaseForm → ℕ → Bool → Bool
form_at_member f j b = form_atom f (eqb 3 j) (eqb 4 j) (eqb 7 j) (eqb 8 j) (eqb 12 j) (eqb 13 j) b

atom : (f : BaseForm) → (p : Bool → Bool → Bool → Bool → Bool → Bool → Bool → Bool) → T (every 7 (λ a3 a4 a7 a8 a12 a13 b. ◌≈◌ (p a3 a4 a7 a8 a12 a13 b) (form_atom f a3 a4 a7 a8 a12 a13 b)))
    → (j : ℕ) (b : Bool) → p (eqb 3 j) (eqb 4 j) (eqb 7 j) (eqb 8 j) (eqb 12 j) (eqb 13 j) b ≡ form_at_member f j b
atom f p t j b =
    (law 7 (λ a3 a4 a7 a8 a12 a13 b. ◌≈◌ (p a3 a4 a7 a8 a12 a13 b) (form_atom f a3 a4 a7 a8 a12 a13 b)) t
    (eqb 3 j) (eqb 4 j) (eqb 7 j) (eqb 8 j) (eqb 12 j) (eqb 13 j) b)

pub apply_form-at : (f : BaseForm) (s : Set) (j : ℕ) → apply_form f s j ≡ form_at_member f j (s j)
unfolding insert remove
apply_form-at form.Major s j = atom form.Major (λ a3 a4 a7 a8 a12 a13 b. b) tt j (s j)
apply_form-at form.Power s j = atom form.Power (λ a3 a4 a7 a8 a12 a13 b. not a4 && b) tt j (s j)
apply_form-at form.Minor s j = atom form.Minor (λ a3 a4 a7 a8 a12 a13 b. a3 || not a4 && b) tt j (s j)
apply_form-at form.Dim s j = atom form.Dim (λ a3 a4 a7 a8 a12 a13 b. a7 || not a8 && (a3 || not a4 && b)) tt j (s j)
apply_form-at form.HalfDim s j = atom form.HalfDim (λ a3 a4 a7 a8 a12 a13 b. a13 || (a7 || not a8 && (a3 || not a4 && b))) tt j (s j)
apply_form-at form.Dim7 s j = atom form.Dim7 (λ a3 a4 a7 a8 a12 a13 b. a12 || (a7 || not a8 && (a3 || not a4 && b))) tt j (s j)

abbrev pub sus_at : Bool → ℕ → Bool → Bool
sus_at c j b = eqb 5 j && c || not (eqb 4 j && c) && not (eqb 3 j && c) && b

pub apply_sus-at : (c : Bool) (s : Set) (j : ℕ) → apply_sus c s j ≡ sus_at c j (s j)
unfolding insert remove
apply_sus-at true s j = (law 4 (λ a3 a4 a5 b. ◌≈◌ (a5 || not a4 && (not a3 && b)) (a5 && true || not (a4 && true) && not (a3 && true) && b)) tt (eqb 3 j) (eqb 4 j) (eqb 5 j) (s j))
apply_sus-at false s j = (law 4 (λ a3 a4 a5 b. ◌≈◌ b (a5 && false || not (a4 && false) && not (a3 && false) && b)) tt (eqb 3 j) (eqb 4 j) (eqb 5 j) (s j))

abbrev pub prune6_at : Set → ℕ → Bool
prune6_at s j = not (eqb 22 j && s 11) && s j

pub prune6-at : (s : Set) (j : ℕ) → prune6 s j ≡ prune6_at s j
unfolding insert remove
prune6-at s j = go (s 11)
  where
    go : (c : Bool) → cond c (remove s 22) s j ≡ not (eqb 22 j && c) && s j
    go true = (law 2 (λ a b. ◌≈◌ (not a && b) (not (a && true) && b)) tt (eqb 22 j) (s j))
    go false = (law 2 (λ a b. ◌≈◌ b (not (a && false) && b)) tt (eqb 22 j) (s j))

abbrev pub prune11_at : Set → ℕ → Bool
prune11_at s j = eqb 5 j && (s 4 && s 19) || not (eqb 19 j && (s 4 && s 19)) && s j

pub prune11-at : (s : Set) (j : ℕ) → prune11 s j ≡ prune11_at s j
unfolding insert remove
prune11-at s j = go (s 4 && s 19)
  where
    go : (c : Bool) → cond c (remove_then_add s 19 5) s j ≡ eqb 5 j && c || not (eqb 19 j && c) && s j
    go true = (law 3 (λ a5 a19 b. ◌≈◌ (a5 || not a19 && b) (a5 && true || not (a19 && true) && b)) tt (eqb 5 j) (eqb 19 j) (s j))
    go false = (law 3 (λ a5 a19 b. ◌≈◌ b (a5 && false || not (a19 && false) && b)) tt (eqb 5 j) (eqb 19 j) (s j))

pub prune_at : (s : Set) → prune11 (prune6 s) ≡ prune11_at (prune6_at s)
prune_at s = fun_ext (prune11-at (prune6 s)) ∙ ap prune11_at (fun_ext (prune6-at s))

-- the whole evaluation of selected parts, of which none is an extension 9, 11 or 13
abbrev pub eval_parts : List Part → Set
eval_parts gs =
    prune11_at (prune6_at (λ j. bit add_by gs j (bit omit_by gs j (bit alter_by gs j (sus_at (some is_sus4 gs) j (form_at_member (form_bit form.Major gs) j (bit direct gs j (seed j))))))))

-- stage by stage, as functions of the set
pub stage : (f : Set → Exp → Set) → ((e : Exp) → Bitwise (λ s. f s e)) → (gs : List Part) → ◌≡◌ {A = Set → Set} (λ s. fold_left f s (select gs)) (λ s j. bit f gs j (s j))
stage f F gs = fun_ext λ s. fun_ext (walk-select f F gs s)

pub eval_parts_lem : (gs : List Part) → T (no_ext gs) → eval_set (select gs) ≡ eval_parts gs
eval_parts_lem gs t =
    let p11 : prune11 ≡ prune11_at = fun_ext (λ s. fun_ext (prune11-at s)) in
    let p6 : prune6 ≡ prune6_at = fun_ext (λ s. fun_ext (prune6-at s)) in
    let sus : (c : Bool) → apply_sus c ≡ (λ s j. sus_at c j (s j)) = λ c. fun_ext (λ s. fun_ext (apply_sus-at c s)) in
    let base : (f : BaseForm) → apply_form f ≡ (λ s j. form_at_member f j (s j)) = λ f. fun_ext (λ s. fun_ext (apply_form-at f s)) in
    λ i. p11 i (p6 i
    (stage add_by bw_add_by gs i (stage omit_by bw_omit_by gs i
    (implied (max_ext-select gs 0 t i) (is_major (base_form (select gs))) (any is_maj (select gs))
    (stage alter_by bw_alter_by gs i
    (sus (any-select is_sus4 gs i) i
    (base (form-select gs form.Major i) i
    (stage direct bw_direct gs i seed))))))))
