-- One step of each walk of the definitions, at an expression of the list or at a number; and the first error, and whether there is any, by the
-- place at which it stands.
-- Assumes nothing.
use mathlib.Core.Bool.{Bool, true, false, cond, not, true≢false, ◌&&◌, ◌||◌}
use mathlib.Core.List.{List, [], ◌∷◌, ◌++◌, append_assoc, append-nil}
use mathlib.Core.Path.{◌≡◌, refl, sym, ap, ◌∙◌}
use Prim.Native.Nat.{ℕ, zero, suc, ◌+◌, ◌%◌, ◌≤◌, ◌<◌}
use native.Mathlib.Omega.{arith}
use borrow.Author.Tests.{eqb-true, eqb-false, le-ltb, lt-ltb}
use lib.Dec.{eqb, ltb}
use lib.ListN.{length, drop, get_or, drop_of_length-le}
use lib.Seq.{drop-cons}
use Rattle.std.specs.Bool.{MatchBool, then_some}
use Rattle.std.specs.List.{AllWithin, HoldsAt, range_with_len}
use Rattle.std.proofs.lemmas.List.FromFn.{get_or-range_with_len, length-range_with_len}
use Rattle.std.specs.Option.{MatchOption, is_some}
use Rattle.std.specs.declared.option.Option.TheVariants.{None, Some}
use Rattle.std.specs.declared.option.Option.{Option}
use Rattle.intervals.specs.Interval.{Set, semitones}
use Rattle.expression.proofs.Wrote.{gained_as, gained_then}
use Rattle.expression.specs.State.{Gained}
use Rattle.expression.specs.declared.expression.Exp.TheVariants.{Power}
use Rattle.expression.specs.declared.expression.Exp.{Exp}
use Rattle.expression.specs.declared.parser_error.Errors.{Errors}
use Rattle.expression.specs.declared.parser_error.ParserError.TheVariants.{DuplicateModifier, ThreeConsecutiveSemitones}
use Rattle.expression.specs.declared.parser_error.ParserError.{ParserError}
use Rattle.validator.specs.Validator.{first_from, all_from, or_else, wrong_of, first_wrong, priority_of, times_of, fault_of, seeing, extension_fault, last_below, neighbours_at, only, is_nil, present, present_below, semitone_errors}
use Rattle.validator.specs.State.{error_of, last_in, neighbours_in, three_of}

-- the expressions from the i-th on
exps_cons : (xs : List Exp) (i : ℕ) (d : Exp) → i < length xs → drop i xs ≡ get_or xs i d ∷ drop (i + 1) xs
exps_cons xs i d h =
    let e : suc i ≡ i + 1 = omega arith in
    drop-cons xs i d h ∙ ap (λ (j : ℕ). get_or xs i d ∷ drop j xs) e

module _ (xs : List Exp) (i : ℕ) (d : Exp) (h : i < length xs) where
  pub count_step : (p : ℕ) → times_of (drop i xs) p ≡ cond (eqb (priority_of (get_or xs i d)) p) 1 0 + times_of (drop (i + 1) xs) p
  unfolding times_of
  count_step p = ap (λ (l : List Exp). times_of l p) (exps_cons xs i d h)

  pub fault_step : (seen : Set) → extension_fault seen (drop i xs) ≡ or_else (fault_of seen (get_or xs i d)) (extension_fault (seeing seen (get_or xs i d)) (drop (i + 1) xs))
  unfolding extension_fault
  fault_step seen = ap (extension_fault seen) (exps_cons xs i d h)

pub count_end : (xs : List Exp) (i : ℕ) → length xs ≤ i → (p : ℕ) → times_of (drop i xs) p ≡ 0
unfolding times_of
count_end xs i h p = ap (λ (l : List Exp). times_of l p) (drop_of_length-le xs h)

pub fault_end : (xs : List Exp) (i : ℕ) → length xs ≤ i → (seen : Set) → extension_fault seen (drop i xs) ≡ []
unfolding extension_fault
fault_end xs i h seen = ap (extension_fault seen) (drop_of_length-le xs h)

-- r is the first error of f i, f (i + 1), .., n in number
abbrev pub IsFirst : (ℕ → List ParserError) → ℕ → ℕ → Option ParserError → Type 0
IsFirst f n i r = MatchOption r ((k : ℕ) → i ≤ k → k < i + n → f k ≡ [])
    (λ e. (j : ℕ) × (i ≤ j) × (j < i + n) × (f j ≡ e ∷ []) × ((k : ℕ) → i ≤ k → k < j → f k ≡ []))

pub first_is : (f : ℕ → List ParserError) (n i : ℕ) (r : Option ParserError) → IsFirst f n i r → error_of r ≡ first_from f n i
unfolding first_from
first_is f zero i None h = refl
first_is f zero i (Some e) h = absurd (omega (arith, h.1, h.2))
first_is f (suc n) i None h = first_is f n (suc i) None (λ k l u. h k (omega arith) (omega arith))
    ∙ ap (λ (q : List ParserError). or_else q (first_from f n (suc i))) (sym (h i (omega arith) (omega arith)))
first_is f (suc n) i (Some e) h = go (eqb i h.0) refl (λ m. first_is f n (suc i) (Some e) (h.0, m, omega (arith, h.2), h.3, λ k l u. h.4 k (omega arith) u))
  where
    go : (t : Bool) → eqb i h.0 ≡ t → (suc i ≤ h.0 → e ∷ [] ≡ first_from f n (suc i)) → e ∷ [] ≡ or_else (f i) (first_from f n (suc i))
    go true p more = ap (λ (q : List ParserError). or_else q (first_from f n (suc i))) (sym (ap f (eqb-true i h.0 p) ∙ h.3))
    go false p more =
        let later : suc i ≤ h.0 = omega (arith, h.1, eqb-false i h.0 p) in
        more later
        ∙ ap (λ (q : List ParserError). or_else q (first_from f n (suc i))) (sym (h.4 i (omega arith) later))

-- the first wrong target, by its place
pub wrong_by_place : (xs : List Exp) (g : ℕ → List ParserError) (i : ℕ) → ((k : ℕ) → k < length xs → g (i + k) ≡ wrong_of (get_or xs k Power))
    → first_from g (length xs) i ≡ first_wrong xs
unfolding first_from first_wrong
wrong_by_place [] g i h = refl
wrong_by_place (x ∷ xs) g i h =
    let z : i ≡ i + 0 = omega arith in
    (λ t. or_else ((ap g z ∙ h 0 (omega arith)) t) (wrong_by_place xs g (suc i) (λ k l. let e : suc i + k ≡ i + suc k = omega arith in ap g e ∙ h (suc k) (omega arith)) t))

-- the same first error of two functions that agree
pub first_same : (f g : ℕ → List ParserError) (n i : ℕ) → ((k : ℕ) → k < i + n → f k ≡ g k) → first_from f n i ≡ first_from g n i
unfolding first_from
first_same f g zero i h = refl
first_same f g (suc n) i h = λ t. or_else (h i (omega arith) t) (first_same f g n (suc i) (λ k b. h k (omega arith)) t)

-- a priority that was counted more than once, and one that was not
pub repeats : (n p : ℕ) → 1 < n → only (ltb 1 n) (DuplicateModifier p) ≡ DuplicateModifier p ∷ []
repeats n p h = ap (λ (t : Bool). only t (DuplicateModifier p)) (lt-ltb 1 n h)

pub once : (n p : ℕ) → n ≤ 1 → only (ltb 1 n) (DuplicateModifier p) ≡ []
once n p h = ap (λ (t : Bool). only t (DuplicateModifier p)) (le-ltb 1 n h)

-- r is whether there is an error among f i, f (i + 1), .., n in number
abbrev pub IsAny : (ℕ → List ParserError) → ℕ → ℕ → Bool → Type 0
IsAny f n i r = MatchBool r ((k : ℕ) × (i ≤ k) × (k < i + n) × (is_nil (f k) ≡ false)) ((k : ℕ) → i ≤ k → k < i + n → is_nil (f k) ≡ true)

pub some_nil : (o : Option ParserError) → is_nil (error_of o) ≡ not (is_some o)
some_nil None = refl
some_nil (Some e) = refl

nil_both : (a b : List ParserError) → is_nil a && is_nil b ≡ is_nil (a ++ b)
nil_both [] b = refl
nil_both (x ∷ a) b = refl

pub any_is : (f : ℕ → List ParserError) (n i : ℕ) (r : Bool) → IsAny f n i r → r ≡ not (is_nil (all_from f n i))
unfolding all_from
any_is f zero i true h = absurd (omega (arith, h.1, h.2))
any_is f zero i false h = refl
any_is f (suc n) i false h = any_is f n (suc i) false (λ k l u. h k (omega arith) (omega arith))
    ∙ ap (λ (t : Bool). not (t && is_nil (all_from f n (suc i)))) (sym (h i (omega arith) (omega arith))) ∙ ap not (nil_both (f i) (all_from f n (suc i)))
any_is f (suc n) i true h = go (is_nil (f i)) refl (λ m. any_is f n (suc i) true (h.0, m, omega (arith, h.2), h.3)) ∙ ap not (nil_both (f i) (all_from f n (suc i)))
  where
    go : (t : Bool) → is_nil (f i) ≡ t → (suc i ≤ h.0 → true ≡ not (is_nil (all_from f n (suc i)))) → true ≡ not (is_nil (f i) && is_nil (all_from f n (suc i)))
    go false p more = ap (λ (t : Bool). not (t && is_nil (all_from f n (suc i)))) (sym p)
    go true p more =
        let ne : (i ≡ h.0) → ⊥ = λ q. true≢false (sym p ∙ ap (λ (k : ℕ). is_nil (f k)) q ∙ h.3) in
        more (omega (arith, h.1, ne)) ∙ ap (λ (t : Bool). not (t && is_nil (all_from f n (suc i)))) (sym p)

-- the same of `any` over the numbers below n
pub any_in_range : (f : ℕ → List ParserError) (n : ℕ) (r : Bool)
    → MatchBool r ((k : ℕ) × (k < length (range_with_len 0 n)) × HoldsAt (λ x. is_nil (f x) ≡ false) (range_with_len 0 n) k)
    (AllWithin (λ x. is_nil (f x) ≡ true) (range_with_len 0 n) 0 (length (range_with_len 0 n)))
    → r ≡ not (is_nil (all_from f n 0))
any_in_range f n r h = any_is f n 0 r (go r h)
  where
    at : (k : ℕ) → k < n → get_or (range_with_len 0 n) k 0 ≡ k
    at k l = omega (arith, get_or-range_with_len 0 n k 0 l)

    go : (r : Bool) → MatchBool r ((k : ℕ) × (k < length (range_with_len 0 n)) × HoldsAt (λ x. is_nil (f x) ≡ false) (range_with_len 0 n) k)
        (AllWithin (λ x. is_nil (f x) ≡ true) (range_with_len 0 n) 0 (length (range_with_len 0 n))) → IsAny f n 0 r
    go true h =
        let l : h.0 < n = omega (arith, h.1, length-range_with_len 0 n) in
        (h.0, omega arith, omega (arith, l), ap (λ (k : ℕ). is_nil (f k)) (sym (at h.0 l)) ∙ h.2 0)
    go false h = λ k _ u.
        let l : k < n = omega (arith, u) in
        ap (λ (j : ℕ). is_nil (f j)) (sym (at k l)) ∙ h k 0 (omega arith) (omega (arith, l, length-range_with_len 0 n))

-- all errors below i + 1 are those below i, and those of i
all_more : (f : ℕ → List ParserError) (n i : ℕ) → all_from f (suc n) i ≡ all_from f n i ++ f (i + n)
unfolding all_from
all_more f zero i =
    let e : i ≡ i + 0 = omega arith in
    append-nil (f i) ∙ ap f e
all_more f (suc n) i =
    let e : suc i + n ≡ i + suc n = omega arith in
    ap (λ (l : List ParserError). f i ++ l) (all_more f n (suc i)) ∙ sym (append_assoc (f i) (all_from f n (suc i)) (f (suc i + n))) ∙ ap (λ (j : ℕ). f i ++ all_from f n (suc i) ++ f j) e

pub all-step : (f : ℕ → List ParserError) (n : ℕ) → all_from f n 0 ++ f n ≡ all_from f (n + 1) 0
all-step f n =
    let e : suc n ≡ n + 1 = omega arith in
    let z : 0 + n ≡ n = omega arith in
    sym (ap (λ (m : ℕ). all_from f m 0) (sym e) ∙ all_more f n 0 ∙ ap (λ (j : ℕ). all_from f n 0 ++ f j) z)

pub all_start : (f : ℕ → List ParserError) → [] ≡ all_from f 0 0
unfolding all_from
all_start f = refl

-- the errors below i, and then those of i, came behind what a lent list began with
pub gained_more : (f : ℕ → List ParserError) (i : ℕ) {a b c : Errors} → Gained a b (all_from f i 0) → Gained b c (f i) → Gained a c (all_from f (i + 1) 0)
gained_more f i v w = gained_as (all-step f i) (gained_then v w)

-- the same errors of two functions that agree
all_same : (f g : ℕ → List ParserError) (n i : ℕ) → ((k : ℕ) → k < i + n → f k ≡ g k) → all_from f n i ≡ all_from g n i
unfolding all_from
all_same f g zero i h = refl
all_same f g (suc n) i h = λ t. h i (omega arith) t ++ all_same f g n (suc i) (λ k b. h k (omega arith)) t

-- n is the last of its class below n + 1, where it is in the set
pub last_step : (n : ℕ) (s : Set) (c : ℕ) → cond (s n && eqb (semitones n % 12) c) (Some n) (last_in n s c) ≡ last_in (n + 1) s c
unfolding last_below
last_step n s c =
    let e : suc n ≡ n + 1 = omega arith in
    go (s n && eqb (semitones n % 12) c) ∙ ap (λ (m : ℕ). last_in m s c) e
  where
    go : (t : Bool) → cond t (Some n) (last_in n s c) ≡ then_some (t || present_below n s c) (cond t n (last_below n s c))
    go true = refl
    go false = refl

-- a class is present where it has a last interval
last-present : (n : ℕ) (s : Set) (c : ℕ) → n ≤ 23 → ltb (last_below n s c) 23 ≡ present_below n s c
unfolding last_below
last-present zero s c h = refl
last-present (suc n) s c h = go (s n && eqb (semitones n % 12) c) (last-present n s c (omega arith))
  where
    go : (t : Bool) → ltb (last_below n s c) 23 ≡ present_below n s c → ltb (cond t n (last_below n s c)) 23 ≡ t || present_below n s c
    go true e = lt-ltb n 23 (omega arith)
    go false e = e

three_is : (a b c : Bool) (x y z : ℕ) → three_of (then_some a x) (then_some b y) (then_some c z) ≡ only (a && (b && c)) (ThreeConsecutiveSemitones x y z)
three_is false b c x y z = refl
three_is true false c x y z = refl
three_is true true false x y z = refl
three_is true true true x y z = refl

neighbours_same : (last : ℕ → Option ℕ) (s : Set) → ((k : ℕ) → k < 12 → last k ≡ last_in 23 s k) → (k : ℕ) → k < 12
    → neighbours_in last k ≡ neighbours_at (present s) (last_below 23 s) k
neighbours_same last s h k b =
    let d = (k + 1) % 12 in
    let e = (k + 2) % 12 in
    let u : d < 12 = omega arith in
    let v : e < 12 = omega arith in
    (λ i. three_of (h k b i) (h d u i) (h e v i))
    ∙ three_is (present s k) (present s d) (present s e) (last_below 23 s k) (last_below 23 s d) (last_below 23 s e)

pub semitones-same : (last : ℕ → Option ℕ) (s : Set) → ((k : ℕ) → k < 12 → last k ≡ last_in 23 s k)
    → all_from (neighbours_in last) 12 0 ≡ semitone_errors s
unfolding semitone_errors
semitones-same last s h =
    all_same (neighbours_in last) (neighbours_at (present s) (last_below 23 s)) 12 0 (λ k b. neighbours_same last s h k (omega arith))
