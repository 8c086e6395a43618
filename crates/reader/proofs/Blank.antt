-- Blank texts: each of their bytes is a space, and a text whose bytes all are is blank.
use Rattle.std.proofs.Common.{◌≡◌, ◌↔◌, ℕ, zero, suc, ◌<◌, List, [], ◌∷◌, Bool, true, false, ◌&&◌, refl, sym, ap, ◌∙◌, arith, length, get_or, eqb}
use borrow.Author.Tests.{eq-eqb, eqb-true}
use Rattle.reader.specs.Reader.{is_blank}

first : (a b : Bool) → (a && b) ≡ true → a ≡ true
first true b e = refl
first false b e = e

second : (a b : Bool) → (a && b) ≡ true → b ≡ true
second true b e = e
second false b e = absurd (both e)
  where
    both : false ≡ true → ⊥
    both e = search (arith, e)

pub each_space : (text : List ℕ) → is_blank text ≡ true → (k : ℕ) → k < length text → get_or text k 0 ≡ 0x20
unfolding is_blank
each_space [] e k h = absurd (omega arith)
each_space (x ∷ text) e zero h = eqb-true x 0x20 (first (eqb x 0x20) (is_blank text) e)
each_space (x ∷ text) e (suc k) h = each_space text (second (eqb x 0x20) (is_blank text) e) k (omega arith)

pub all_spaces : (text : List ℕ) → ((k : ℕ) → k < length text → get_or text k 0 ≡ 0x20) → is_blank text ≡ true
unfolding is_blank
all_spaces [] f = refl
all_spaces (x ∷ text) f =
    ap (λ (b : Bool). b && is_blank text) (eq-eqb x 0x20 (f 0 (omega arith))) ∙ all_spaces text (λ k h. f (suc k) (omega arith))

-- what says that each byte is a space says whether the text is blank
pub blank_by : (text : List ℕ) (b : Bool) → (b ≡ true) ↔ ((k : ℕ) → k < length text → get_or text k 0 ≡ 0x20) → b ≡ is_blank text
blank_by text true f = sym (all_spaces text (f.0 refl))
blank_by text false f = by (is_blank text) refl
  where
    by : (c : Bool) → is_blank text ≡ c → false ≡ c
    by false e = refl
    by true e = f.1 (each_space text e)
