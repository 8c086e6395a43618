-- Parts of a list that agree.
use mathlib.Core.List.{List, [], ◌∷◌}
use mathlib.Core.Path.{◌≡◌, sym, ap, ◌∙◌}
use Prim.Native.Nat.{ℕ, zero, suc, ◌+◌, ◌-◌, ◌≤◌}
use native.Mathlib.Omega.{arith}
use lib.ListN.{drop, take, get_or}
use lib.Seq.{drop-drop, take-nil, slice, get_or-drop}

-- what agrees from n on agrees from any later place on
pub later : {A : Type 0} (a b : List A) (n m : ℕ) → n ≤ m → drop n a ≡ drop n b → drop m a ≡ drop m b
later a b n m h e =
    let k : n + (m - n) ≡ m = omega arith in
    ap (λ (j : ℕ). drop j a) (sym k) ∙ sym (drop-drop (m - n) n a) ∙ ap (drop (m - n)) e ∙ drop-drop (m - n) n b ∙ ap (λ (j : ℕ). drop j b) k

slice-as : {A : Type 0} (f t : ℕ) (l : List A) → slice f t l ≡ take (t - f) (drop f l)
slice-as zero t l = let e : t ≡ t - 0 = omega arith in ap (λ (k : ℕ). take k l) e
slice-as (suc f) zero l = let e : 0 ≡ 0 - suc f = omega arith in ap (λ (k : ℕ). take k (drop (suc f) l)) e
slice-as (suc f) (suc t) [] = sym (take-nil (suc t - suc f))
slice-as (suc f) (suc t) (x ∷ l) = let e : t - f ≡ suc t - suc f = omega arith in slice-as f t l ∙ ap (λ (k : ℕ). take k (drop f l)) e

-- the part from f to t of lists that agree from n on
pub slice-later : {A : Type 0} (a b : List A) (n f t : ℕ) → n ≤ f → drop n a ≡ drop n b → slice f t a ≡ slice f t b
slice-later a b n f t h e = slice-as f t a ∙ ap (take (t - f)) (later a b n f h e) ∙ sym (slice-as f t b)

pub at-later : {A : Type 0} (a b : List A) (n j : ℕ) (d : A) → n ≤ j → drop n a ≡ drop n b → get_or a j d ≡ get_or b j d
at-later {A} a b n j d h e =
    let k : n + (j - n) ≡ j = omega arith in
    ap (λ (x : ℕ). get_or a x d) (sym k) ∙ sym (get_or-drop n a (j - n) d) ∙ ap (λ (l : List A). get_or l (j - n) d) e ∙ get_or-drop n b (j - n) d ∙ ap (λ (x : ℕ). get_or b x d) k
