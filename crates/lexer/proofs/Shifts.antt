-- Tokens that move up by one place, and a token put before them.
-- Assumes nothing.
use mathlib.Core.List.{List, ◌∷◌, ◌++◌}
use mathlib.Core.Path.{◌≡◌, refl, sym, ap, ap₂, ◌∙◌}
use Prim.Native.Nat.{ℕ, suc, ◌+◌, ◌-◌, ◌<◌, ◌≤◌}
use native.Mathlib.Numerals.{add-one}
use native.Mathlib.Omega.{arith}
use lib.ListN.{length, set, take, drop, length-set, take-append-drop}
use lib.Seq.{slice, slice-cons, slice_empty, take-set-le, drop-set-lt, take-take, get_or-take, get_or-set_same}
use Rattle.token.specs.Token.{token, at}
use Rattle.token.specs.declared.Token.{Token}
use Rattle.lexer.specs.State.{Inserted}
use Rattle.token.proofs.Parts.{slice-later}

-- a part whose first place was stored to
put_front : (R : List Token) (t : Token) (j m : ℕ) → j < m → m ≤ length R → slice j m (set R j t) ≡ t ∷ slice (j + 1) m R
put_front R t j m h b =
    let l : m ≤ length (set R j t) = simp length-set b in
    slice-cons j m (set R j t) (token 0 0 0) h l
    ∙ ap₂ (λ (x : Token) (q : List Token). x ∷ q) (get_or-set_same R j t (token 0 0 0) (omega arith))
    (ap (λ (k : ℕ). slice k m (set R j t)) (sym (add-one j)) ∙ slice-later (set R j t) R (j + 1) (j + 1) m (omega arith) (drop-set-lt (j + 1) R j t (omega arith)))

-- the first m are the first w and the part from w to m
pub in_parts : {A : Type 0} (R : List A) (w m : ℕ) → w ≤ m → take m R ≡ take w R ++ slice w m R
in_parts {A} R w m h = sym (take-append-drop w (take m R)) ∙ ap (λ (l : List A). l ++ slice w m R) (take-take w m R h)

-- a token that was stored before tokens that had moved up by one place
inserted : {t : Token} {w n : ℕ} {R₀ R' : List Token} (R : List Token) → w ≤ n → n + 1 ≤ length R → take w R ≡ take w R₀ → slice (w + 1) (n + 1) R ≡ slice w n R₀ → drop (n + 1) R ≡ drop (n + 1) R₀
    → R' ≡ set R w t → Inserted t w n R₀ R'
inserted {t} {w} {n} {R₀} {R'} R h b f m r s =
    record {
      list = ap (take (n + 1)) s ∙ in_parts (set R w t) w (n + 1) (omega arith)
          ∙ ap₂ (λ (x y : List Token). x ++ y) (take-set-le w R w t (omega arith) ∙ f) (put_front R t w (n + 1) (omega arith) b ∙ ap (λ (l : List Token). t ∷ l) m);
      rest = ap (drop (n + 1)) s ∙ drop-set-lt (n + 1) R w t (omega arith) ∙ r;
    }

-- what the loop keeps true: of the tokens R₀ those from j to n stand one place further
pub record Shifting (w n : ℕ) (R₀ R : List Token) (j : ℕ) : Type 0 where
  pub low : w ≤ j
  pub high : j ≤ n
  pub front : take j R ≡ take j R₀
  pub moved : slice (j + 1) (n + 1) R ≡ slice j n R₀
  pub rest : drop (n + 1) R ≡ drop (n + 1) R₀

module _ {w n : ℕ} where
  pub shifting_start : (R : List Token) → w ≤ n → Shifting w n R R n
  shifting_start R h = record { low = h; high = omega arith; front = refl; moved = slice_empty (n + 1) R ∙ sym (slice_empty n R); rest = refl }

  pub shifting_step : {R₀ R R' : List Token} {j : ℕ} → n + 1 ≤ length R → n ≤ length R₀ → w < j → Shifting w n R₀ R j → R' ≡ set R (j - 1 + 1) (at R (j - 1)) → Shifting w n R₀ R' (j - 1)
  shifting_step {R₀} {R} {R'} {j} b b₀ h S stored =
      let hi = S.high in
      let t = at R (j - 1) in
      let e : j - 1 + 1 ≡ j = omega arith in
      let s : R' ≡ set R j t = stored ∙ ap (λ (k : ℕ). set R k t) e in
      let e₂ : suc (j - 1) ≡ j = omega arith in
      let d = token 0 0 0 in
      let a : at R (j - 1) ≡ at R₀ (j - 1) = sym (get_or-take j R (j - 1) d (omega arith)) ∙ ap (λ (l : List Token). at l (j - 1)) S.front ∙ get_or-take j R₀ (j - 1) d (omega arith) in
      record {
        low = omega arith;
        high = omega arith;
        front = ap (take (j - 1)) s ∙ take-set-le (j - 1) R j t (omega arith) ∙ sym (take-take (j - 1) j R (omega arith)) ∙ ap (take (j - 1)) S.front ∙ take-take (j - 1) j R₀ (omega arith);
        moved = ap₂ (λ (k : ℕ) (l : List Token). slice k (n + 1) l) e s ∙ put_front R t j (n + 1) (omega arith) b
            ∙ ap₂ (λ (x : Token) (l : List Token). x ∷ l) a (S.moved ∙ ap (λ (k : ℕ). slice k n R₀) (sym e₂))
            ∙ sym (slice-cons (j - 1) n R₀ d (omega arith) b₀);
        rest = ap (drop (n + 1)) s ∙ drop-set-lt (n + 1) R j t (omega arith) ∙ S.rest;
      }

  pub shifting_end : {t : Token} {R₀ R R' : List Token} {j : ℕ} → n + 1 ≤ length R → j ≤ w → Shifting w n R₀ R j → R' ≡ set R w t → Inserted t w n R₀ R'
  shifting_end {t} {R₀} {R} {R'} {j} b h S s =
      let hi = S.high in
      let e : w ≡ j = omega (arith, S.low) in
      let f : take w R ≡ take w R₀ = ap (λ (k : ℕ). take k R) e ∙ S.front ∙ ap (λ (k : ℕ). take k R₀) (sym e) in
      let m : slice (w + 1) (n + 1) R ≡ slice w n R₀ = ap (λ (k : ℕ). slice (k + 1) (n + 1) R) e ∙ S.moved ∙ ap (λ (k : ℕ). slice k n R₀) (sym e) in
      inserted R (omega (arith, S.low)) b f m S.rest s
