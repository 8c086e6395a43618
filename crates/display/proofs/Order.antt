-- The order in which the numbers are shown, and the walk over it.
-- Assumes nothing.
use mathlib.Core.Bool.{Bool, true, false, ◌&&◌, cond}
use mathlib.Core.List.{List, [], ◌∷◌, ◌++◌, append_assoc}
use mathlib.Core.Path.{◌≡◌, refl, sym, ap, ◌∙◌}
use Prim.Native.Nat.{ℕ, zero, suc, ◌<◌}
use native.Mathlib.Nat.{not-suc-le-zero, le_of_suc-le-suc}
use native.Mathlib.Omega.{arith}
use lib.Dec.{T, eqb, eqb→eq, leb, ltb, ltb→lt}
use lib.ListN.{length, drop, get_or}
use lib.Seq.{drop-cons}
use mir.Facts.{and_yes}
use borrow.Author.Tests.{ne_eqb}
use Rattle.intervals.specs.Interval.{Set, semitones}
use Rattle.display.specs.Display.{chosen, display_of, numbers, order, place, shown, sort_by}
use Rattle.display.specs.State.{moved_at}

-- the entries of l are those of f, and below 23
abbrev lists : (ℕ → ℕ) → List ℕ → Bool
lists f [] = true
lists f (x ∷ l) = eqb (f 0) x && (ltb x 23 && lists (λ n. f (suc n)) l)

entry : (f : ℕ → ℕ) (l : List ℕ) → T (lists f l) → (j : ℕ) → j < length l → (f j ≡ get_or l j 0) × (f j < 23)
entry f [] t j h = absurd (not-suc-le-zero h)
entry f (x ∷ l) t zero h =
    let a = and_yes (eqb (f 0) x) (ltb x 23 && lists (λ n. f (suc n)) l) t in
    let e = eqb→eq (f 0) x a.0 in
    let b = ltb→lt x 23 (and_yes (ltb x 23) (lists (λ n. f (suc n)) l) a.1).0 in
    (e, omega (arith, e, b))
entry f (x ∷ l) t (suc j) h =
    let a = and_yes (eqb (f 0) x) (ltb x 23 && lists (λ n. f (suc n)) l) t in
    entry (λ n. f (suc n)) l (and_yes (ltb x 23) (lists (λ n. f (suc n)) l) a.1).1 j (le_of_suc-le-suc h)

-- a second or a fourth is shown: the high interval moves down behind it
pub at_flat2 : (j : ℕ) → j < 23 → (moved_at 1 16 j ≡ get_or (order 1) j 0) × (moved_at 1 16 j < 23)
unfolding order
at_flat2 j h = entry (moved_at 1 16) (order 1) tt j h

pub at_second : (j : ℕ) → j < 23 → (moved_at 2 17 j ≡ get_or (order 2) j 0) × (moved_at 2 17 j < 23)
unfolding order
at_second j h = entry (moved_at 2 17) (order 2) tt j h

pub at_sharp4 : (j : ℕ) → j < 23 → (moved_at 7 20 j ≡ get_or (order 6) j 0) × (moved_at 7 20 j < 23)
unfolding order
at_sharp4 j h = entry (moved_at 7 20) (order 6) tt j h

-- none is: the numbers as they are
abbrev order_by : Bool → Bool → Bool → List ℕ
order_by a b c = sort_by (λ i. semitones (cond (a && eqb i 16) 1 (cond (b && eqb i 17) 2 (cond (c && eqb i 20) 6 i)))) numbers

pub at_plain : (k j : ℕ) → (k ≡ 1 → ⊥) → (k ≡ 2 → ⊥) → (k ≡ 6 → ⊥) → j < 23 → j ≡ get_or (order k) j 0
unfolding order
at_plain k j a b c h =
    (entry (λ n. n) (order_by false false false) tt j h).0
    ∙ (λ t. get_or (order_by (sym (ne_eqb k 1 a) t) (sym (ne_eqb k 2 b) t) (sym (ne_eqb k 6 c) t)) j 0)

-- and the display list is the one of no sus
abbrev display_by : Bool → Bool → Bool → Set → List ℕ
display_by a b c s = chosen s (λ i. cond (a && eqb i 16) 1 (cond (b && eqb i 17) 2 (cond (c && eqb i 20) 6 i))) (order_by a b c)

pub shown-plain : (k : ℕ) (s : Set) → (k ≡ 1 → ⊥) → (k ≡ 2 → ⊥) → (k ≡ 6 → ⊥) → display_of k s ≡ display_of 0 s
unfolding order display_of
shown-plain k s a b c = λ t. display_by (ne_eqb k 1 a t) (ne_eqb k 2 b t) (ne_eqb k 6 c t) s

place-length : (f : ℕ → ℕ) (x : ℕ) (l : List ℕ) → length (place f x l) ≡ suc (length l)
place-length f x [] = refl
place-length f x (y ∷ l) = go (leb (f x) (f y)) (place-length f x l)
  where
    go : (b : Bool) → length (place f x l) ≡ suc (length l) → length (cond b (x ∷ y ∷ l) (y ∷ place f x l)) ≡ suc (suc (length l))
    go true e = refl
    go false e = ap suc e

sort_length : (f : ℕ → ℕ) (l : List ℕ) → length (sort_by f l) ≡ length l
sort_length f [] = refl
sort_length f (x ∷ l) = place-length f x (sort_by f l) ∙ ap suc (sort_length f l)

pub order-length : (k : ℕ) → length (order k) ≡ 23
unfolding order
order-length k = sort_length (λ i. semitones (shown k i)) numbers

pub append-nil : (l : List ℕ) → l ++ [] ≡ l
append-nil [] = refl
append-nil (x ∷ l) = ap (λ (q : List ℕ). x ∷ q) (append-nil l)

-- one number of the order
one : (a : List ℕ) (b : Bool) (x : ℕ) (r : List ℕ) → a ++ cond b (x ∷ r) r ≡ a ++ cond b (x ∷ []) [] ++ r
one a true x r = sym (append_assoc a (x ∷ []) r)
one a false x r = ap (λ (q : List ℕ). q ++ r) (sym (append-nil a))

pub display_turn : (a a' : List ℕ) (s : Set) (k i j : ℕ) → j < 23 → i ≡ get_or (order k) j 0 → a' ≡ a ++ cond (s i) (shown k i ∷ []) []
    → a ++ chosen s (shown k) (drop j (order k)) ≡ a' ++ chosen s (shown k) (drop (suc j) (order k))
display_turn a a' s k i j h e p =
    let n : j < length (order k) = rw (order-length k) h in
    ap (λ (l : List ℕ). a ++ chosen s (shown k) l) (drop-cons (order k) j 0 n)
    ∙ one a (s (get_or (order k) j 0)) (shown k (get_or (order k) j 0)) (chosen s (shown k) (drop (suc j) (order k)))
    ∙ ap (λ (m : ℕ). a ++ cond (s m) (shown k m ∷ []) [] ++ chosen s (shown k) (drop (suc j) (order k))) (sym e)
    ∙ ap (λ (l : List ℕ). l ++ chosen s (shown k) (drop (suc j) (order k))) (sym p)
