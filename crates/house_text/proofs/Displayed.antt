-- The display list and K tell the same: the list depends on the first Sus only by its K, and K is read back off the set and the list. A first
-- Sus enters the list by three tests, and its K by the same three; so the list is that of one written-out Sus for each K. There the order is
-- closed, and whether a number is in the list computes to false or to its being a member of the set.
-- Assumes nothing.
use mathlib.Core.Bool.{Bool, true, false, not, ◌&&◌, ◌||◌, cond}
use mathlib.Core.List.{List, [], ◌∷◌}
use mathlib.Core.Path.{◌≡◌, refl, sym, ◌∙◌, ap, subst}
use Prim.Native.Nat.{ℕ}
use lib.Dec.{T, eqb, eqb→eq}
use Rattle.intervals.specs.Interval.{elem, Set, semitones}
use Rattle.display.specs.Display.{chosen, display_of, numbers, order, shown, sort_by}
use Rattle.evaluator.specs.Evaluator.{any}
use Rattle.house_parts.specs.House.{display_by, is_flat2, is_second, is_sharp4, kind_in, kind_of, sus_by}
use Rattle.house_parts.specs.declared.kind.SusKind.TheVariants.{Plain, Flat2, Second, Sharp4}
use Rattle.house_parts.specs.declared.kind.SusKind.{SusKind}
use Rattle.house_parts.specs.Question.{◌⇒◌}
use Rattle.house_parts.proofs.Bools.{law, ◌≈◌, ◌⊃◌}

-- what an interval is shown as, by the three tests of the first Sus
abbrev shown_by : Bool → Bool → Bool → ℕ → ℕ
shown_by a b c i = cond (a && eqb i 16) 1 (cond (b && eqb i 17) 2 (cond (c && eqb i 20) 6 i))

-- the display list by the three tests
abbrev list_by : Bool → Bool → Bool → Set → List ℕ
list_by a b c s = chosen s (shown_by a b c) (sort_by (λ i. semitones (shown_by a b c i)) numbers)

-- the first Sus that a test finds
found : (x y : ℕ) (s : Set) → eqb x y ≡ true → display_of x s ≡ display_of y s
found x y s e = ap (λ (z : ℕ). display_of z s) (eqb→eq x y (subst T (sym e) tt))

-- none of the three is found
plain : (x : ℕ) (s : Set) → eqb x 1 ≡ false → eqb x 2 ≡ false → eqb x 6 ≡ false → display_of x s ≡ display_of 0 s
unfolding display_of order
plain x s p q r = λ t. list_by (p t) (q t) (r t) s

-- by what the three tests say
by_tests : (x : ℕ) (s : Set) (a b c : Bool) → eqb x 1 ≡ a → eqb x 2 ≡ b → eqb x 6 ≡ c
    → display_of x s ≡ display_by (cond a Flat2 (cond b Second (cond c Sharp4 Plain))) s
by_tests x s true b c p q r = found x 1 s p
by_tests x s false true c p q r = found x 2 s q
by_tests x s false false true p q r = found x 6 s r
by_tests x s false false false p q r = plain x s p q r

-- the display list is that of the K of the first Sus
pub display-by : (x : ℕ) (s : Set) → display_of x s ≡ display_by (kind_of x) s
display-by x s = by_tests x s (eqb x 1) (eqb x 2) (eqb x 6) refl refl refl

-- first Sus of the same K give the same display list
pub display-kind : (x y : ℕ) (s : Set) → kind_of x ≡ kind_of y → display_of x s ≡ display_of y s
display-kind x y s e = display-by x s ∙ ap (λ (k : SusKind). display_by k s) e ∙ sym (display-by y s)

-- a number is in the list of the chosen where a member is shown as it
pub elem-chosen : (j : ℕ) (s : Set) (f : ℕ → ℕ) (l : List ℕ) → elem j (chosen s f l) ≡ any (λ i. eqb j (f i) && s i) l
elem-chosen j s f [] = refl
elem-chosen j s f (i ∷ l) = go (s i) (elem-chosen j s f l)
  where
    go : (b : Bool) → elem j (chosen s f l) ≡ any (λ i. eqb j (f i) && s i) l
        → elem j (cond b (f i ∷ chosen s f l) (chosen s f l)) ≡ eqb j (f i) && b || any (λ i. eqb j (f i) && s i) l
    go true e = (λ t. eqb j (f i) || e t) ∙ ap (λ (a : Bool). a || any (λ i. eqb j (f i) && s i) l) (law 1 (λ a. a ≈ a && true) tt (eqb j (f i)))
    go false e = e ∙ ap (λ (a : Bool). a || any (λ i. eqb j (f i) && s i) l) (law 1 (λ a. false ≈ a && false) tt (eqb j (f i)))

-- a high one that is a member and is shown as another is in the set and absent from the list
away : (b c : Bool) → T b → c ≡ false → b && not c ≡ true
away b c t e = ap (λ (a : Bool). b && not a) e ∙ law 1 (λ b. b ⊃ b && not false ≈ true) tt b t

-- one that is shown as itself is in the list where it is in the set
stays : (b c : Bool) → c ≡ b || false → b && not c ≡ false
stays b c e = ap (λ (a : Bool). b && not a) e ∙ law 1 (λ b. b && not (b || false) ≈ false) tt b

-- whether a number is in the list of a K, as the order tells it
abbrev in_list : SusKind → ℕ → Set → Bool
in_list k j s = any (λ i. eqb j (shown (sus_by k) i) && s i) (order (sus_by k))

-- and it is so
in_list_lem : (k : SusKind) (j : ℕ) (s : Set) → elem j (display_by k s) ≡ in_list k j s
unfolding display_of
in_list_lem k j s = elem-chosen j s (shown (sus_by k)) (order (sus_by k))

-- K read off a set and the list that it has by K
pub kind-by : (k : SusKind) (s : Set) → T (is_flat2 k ⇒ s 16) → T (is_second k ⇒ s 17) → T (is_sharp4 k ⇒ s 20) → kind_in s (display_by k s) ≡ k
unfolding order
kind-by Plain s f g h =
    let p = stays (s 16) _ (in_list_lem Plain 16 s) in
    let q = stays (s 17) _ (in_list_lem Plain 17 s) in
    let r = stays (s 20) _ (in_list_lem Plain 20 s) in
    λ t. cond (p t) Flat2 (cond (q t) Second (cond (r t) Sharp4 Plain))
kind-by Flat2 s f g h =
    let p = away (s 16) _ f (in_list_lem Flat2 16 s) in
    λ t. cond (p t) Flat2 (cond (s 17 && not (elem 17 (display_by Flat2 s))) Second (cond (s 20 && not (elem 20 (display_by Flat2 s))) Sharp4 Plain))
kind-by Second s f g h =
    let p = stays (s 16) _ (in_list_lem Second 16 s) in
    let q = away (s 17) _ g (in_list_lem Second 17 s) in
    λ t. cond (p t) Flat2 (cond (q t) Second (cond (s 20 && not (elem 20 (display_by Second s))) Sharp4 Plain))
kind-by Sharp4 s f g h =
    let p = stays (s 16) _ (in_list_lem Sharp4 16 s) in
    let q = stays (s 17) _ (in_list_lem Sharp4 17 s) in
    let r = away (s 20) _ h (in_list_lem Sharp4 20 s) in
    λ t. cond (p t) Flat2 (cond (q t) Second (cond (r t) Sharp4 Plain))

-- K read off a set and its display list is the K of the first Sus, where K b2 comes with b9, K 2 with 9, K #4 with #11
pub kind_displayed : (x : ℕ) (s : Set) → T (is_flat2 (kind_of x) ⇒ s 16) → T (is_second (kind_of x) ⇒ s 17) → T (is_sharp4 (kind_of x) ⇒ s 20)
    → kind_in s (display_of x s) ≡ kind_of x
kind_displayed x s f g h = ap (kind_in s) (display-by x s) ∙ kind-by (kind_of x) s f g h
