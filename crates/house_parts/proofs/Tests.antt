-- Tests on lists, as the code makes them: equal lists, a number of a list, and clauses that all hold.
-- Assumes nothing.
use mathlib.Core.Bool.{Bool, true, false, ◌&&◌, ◌||◌}
use mathlib.Core.List.{List, [], ◌∷◌}
use mathlib.Core.Logic.{◌↔◌}
use mathlib.Core.Path.{◌≡◌, refl, sym, ap, ap₂, subst, ◌∙◌}
use Prim.Native.Nat.{ℕ, suc, ◌+◌, ◌≤◌, ◌<◌}
use native.Mathlib.Omega.{arith}
use lib.Dec.{T, eqb, eqb_refl, eqb→eq}
use lib.ListN.{length, drop, drop_of_length-le, get_or}
use lib.Seq.{drop-cons}
use Rattle.std.proofs.lemmas.Bool.Decides.{nat_tests}
use Rattle.std.specs.List.{list_any}
use Rattle.intervals.specs.Interval.{elem}
use Rattle.house_parts.specs.Question.{all, same_list}
use Rattle.house_parts.proofs.Bools.{and_left, and_right, both_pass}

-- two tests that pass together
pub same_answer : (a b : Bool) → (a ≡ true → b ≡ true) → (b ≡ true → a ≡ true) → a ≡ b
same_answer true true f g = refl
same_answer true false f g = sym (f refl)
same_answer false true f g = g refl
same_answer false false f g = refl

-- a test that passed
pub passed : (b : Bool) → T b → b ≡ true
passed true t = refl
passed false t = absurd t

-- ---- equal lists

pub same_lists : (l m : List ℕ) → T (same_list l m) → l ≡ m
same_lists [] [] t = refl
same_lists [] (y ∷ m) t = absurd t
same_lists (x ∷ l) [] t = absurd t
same_lists (x ∷ l) (y ∷ m) t = ap₂ ◌∷◌ (eqb→eq x y (and_left (eqb x y) (same_list l m) t)) (same_lists l m (and_right (eqb x y) (same_list l m) t))

pub same_self : (l : List ℕ) → T (same_list l l)
same_self [] = tt
same_self (x ∷ l) = both_pass (eqb x x) (same_list l l) (eqb_refl x) (same_self l)

-- an answer that is true exactly when they are equal
pub same_test : (r : Bool) (l m : List ℕ) → (r ≡ true) ↔ (l ≡ m) → r ≡ same_list l m
same_test r l m f =
    let same : l ≡ m → T (same_list l m) = λ e. subst (λ (x : List ℕ). T (same_list l x)) e (same_self l) in
    same_answer r (same_list l m) (λ e. passed (same_list l m) (same (f.0 e))) (λ e. f.1 (same_lists l m (subst T (sym e) tt)))

-- ---- a number of a list, and clauses that all hold

flip : (x y : ℕ) → eqb y x ≡ eqb x y
flip x y = grind (arith, nat_tests)

pub elem_any : (x : ℕ) (l : List ℕ) → list_any (λ y. eqb y x) l ≡ elem x l
elem_any x [] = refl
elem_any x (y ∷ l) = ap₂ ◌||◌ (flip x y) (elem_any x l)

module _ (l : List Bool) (i : ℕ) where
  all-next : i < length l → all (drop i l) ≡ get_or l i true && all (drop (i + 1) l)
  all-next h = ap all (drop-cons l i true h) ∙ ap (λ (j : ℕ). get_or l i true && all (drop j l)) (let e : suc i ≡ i + 1 = omega arith in e)

  pub all_fails : i < length l → get_or l i true ≡ false → all (drop i l) ≡ false
  all_fails h e = all-next h ∙ ap (λ (t : Bool). t && all (drop (i + 1) l)) e

  pub all_past : i < length l → get_or l i true ≡ true → all (drop i l) ≡ all (drop (i + 1) l)
  all_past h e = all-next h ∙ ap (λ (t : Bool). t && all (drop (i + 1) l)) e

  pub all_end : length l ≤ i → all (drop i l) ≡ true
  all_end h = ap all (drop_of_length-le l h)
