-- Errors written behind the first n: none, one, and some after others.
-- Assumes nothing.
use mathlib.Core.List.{List, [], ◌∷◌, ◌++◌, append_assoc, append-nil}
use mathlib.Core.Path.{◌≡◌, refl, sym, ap, ◌∙◌, subst}
use Prim.Native.Nat.{ℕ, ◌+◌, ◌*◌, ◌-◌, ◌≤◌}
use native.Mathlib.Omega.{arith}
use lib.ListN.{length, take, drop, length-append}
use lib.Seq.{drop_at, drop-drop, length-take-le, take_at}
use Rattle.expression.proofs.AllNumbers.{all_append}
use Rattle.expression.specs.ParserError.{all_numbers, numbers_of}
use Rattle.expression.specs.declared.parser_error.ParserError.{ParserError}
use Rattle.expression.specs.declared.parser_error.Errors.{Errors}
use Rattle.expression.specs.State.{Gained, Wrote}

-- what agrees from n on agrees from any later place on
pub later : {A : Type 0} (a b : List A) (n m : ℕ) → n ≤ m → drop n a ≡ drop n b → drop m a ≡ drop m b
later a b n m h e =
    let k : n + (m - n) ≡ m = omega arith in
    ap (λ (j : ℕ). drop j a) (sym k) ∙ sym (drop-drop (m - n) n a) ∙ ap (drop (m - n)) e ∙ drop-drop (m - n) n b ∙ ap (λ (j : ℕ). drop j b) k

pub wrote_none : (n : ℕ) (es : List ℕ) → Wrote n n [] es es
wrote_none n es = record { list = sym (append-nil (take (4 * n) es)); rest = refl; count = omega arith }

-- the four numbers of an error were stored
pub wrote_one : (n : ℕ) (x : ParserError) (es es' : List ℕ) → 4 * n + 4 ≤ length es
    → es' ≡ take (4 * n) es ++ numbers_of x ++ drop (4 * n + 4) es → Wrote n (n + 1) (x ∷ []) es es'
wrote_one n x es es' h e =
    let row = numbers_of x in
    let j : length (take (4 * n) es) ≡ 4 * n = length-take-le (4 * n) es (omega arith) in
    let k : length (take (4 * n) es ++ row) ≡ 4 * (n + 1) = omega (arith, j, length-append (take (4 * n) es) row) in
    let m : 4 * n + 4 ≡ 4 * (n + 1) = omega arith in
    record {
      list = ap (take (4 * (n + 1))) e ∙ take_at (take (4 * n) es ++ row) (drop (4 * n + 4) es) (4 * (n + 1)) k;
      rest = ap (drop (4 * (n + 1))) e ∙ drop_at (take (4 * n) es ++ row) (drop (4 * n + 4) es) (4 * (n + 1)) k ∙ ap (λ (i : ℕ). drop i es) m;
      count = omega arith;
    }

pub wrote_then : {n m r : ℕ} {a b : List ParserError} {es es' es'' : List ℕ} → Wrote n m a es es' → Wrote m r b es' es'' → Wrote n r (a ++ b) es es''
wrote_then {n} {m} {r} {a} {b} {es} {es'} {es''} v w =
    record {
      list = w.list ∙ ap (λ (q : List ℕ). q ++ all_numbers b) v.list ∙ append_assoc (take (4 * n) es) (all_numbers a) (all_numbers b)
          ∙ ap (λ (q : List ℕ). take (4 * n) es ++ q) (sym (all_append a b));
      rest = w.rest ∙ later es' es (4 * m) (4 * r) (omega (arith, w.count)) v.rest;
      count = omega (arith, v.count, w.count, length-append a b);
    }

-- the same errors by another name
pub wrote_as : {n r : ℕ} {a b : List ParserError} {es es' : List ℕ} → a ≡ b → Wrote n r a es es' → Wrote n r b es es'
wrote_as {n} {r} {a} {b} {es} {es'} e w = subst (λ (q : List ParserError). Wrote n r q es es') e w

-- the same of the errors that a lent list begins with
pub gained_none : (a : Errors) → Gained a a []
gained_none a = record { wrote = wrote_none a.count a.list.now; size = refl; place = refl }

pub gained_then : {a b c : Errors} {x y : List ParserError} → Gained a b x → Gained b c y → Gained a c (x ++ y)
gained_then v w = record { wrote = wrote_then v.wrote w.wrote; size = w.size ∙ v.size; place = w.place ∙ v.place }

pub gained_as : {a b : Errors} {x y : List ParserError} → x ≡ y → Gained a b x → Gained a b y
gained_as e v = record { wrote = wrote_as e v.wrote; size = v.size; place = v.place }

-- those of a list that was lent with none, once it is given back
pub written : {a b : Errors} {x : List ParserError} {es es' : List ℕ} → Gained a b x → a.count ≡ 0 → a.list.now ≡ es → es' ≡ b.list.now → Wrote 0 b.count x es es'
written {a} {b} {x} {es} {es'} v e f g =
    let w : Wrote 0 b.count x a.list.now b.list.now = subst (λ (n : ℕ). Wrote n b.count x a.list.now b.list.now) e v.wrote in
    subst (λ (l : List ℕ). Wrote 0 b.count x l es') f (subst (λ (l : List ℕ). Wrote 0 b.count x a.list.now l) (sym g) w)
