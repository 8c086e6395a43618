-- The turns of `concat`: the first w tokens are what those before i have become, and what comes from i on is still to come.
use mathlib.Core.Bool.{Bool, true, false, ◌&&◌, cond}
use mathlib.Core.List.{List, [], ◌∷◌, ◌++◌, append_assoc, append-nil}
use mathlib.Core.Path.{◌≡◌, refl, sym, ap, ap₂, ◌∙◌}
use Prim.Native.Nat.{ℕ, suc, ◌+◌, ◌<◌, ◌≤◌}
use native.Mathlib.Decide.{dec_le}
use native.Mathlib.Numerals.{add-one}
use native.Mathlib.Omega.{arith}
use lib.Dec.{ltb}
use lib.ListN.{length, set, take, drop}
use lib.Seq.{take-suc-set, drop-set-lt, get_or-set_same}
use borrow.Author.Tests.{lt-ltb, ltb-true}
use Rattle.std.proofs.Common.{drop_of_length-le}
use Rattle.token.specs.Token.{token, at}
use Rattle.token.specs.declared.Token.{Token}
use Rattle.folding.specs.Folding.{is, seven, is_maj, maj7_with, concat}
use Rattle.folding.specs.State.{Turned, joins_at, TookFirst, Short}
use Rattle.folding.proofs.Places.{next-token}
use Rattle.token.proofs.Parts.{later, at-later}

both_left : (a b : Bool) → (a && b) ≡ true → a ≡ true
both_left true b h = refl
both_left false b h = h

concat-two : (x y : Token) (ts : List Token) (b : Bool) → ((is_maj x.kind) && (is seven y)) ≡ b → concat (x ∷ y ∷ ts) ≡ cond b (maj7_with x y ∷ concat ts) (x ∷ concat (y ∷ ts))
unfolding concat
concat-two x y ts b h = ap (λ (q : Bool). cond q (maj7_with x y ∷ concat ts) (x ∷ concat (y ∷ ts))) h

concat-last : (x : Token) → concat (x ∷ []) ≡ x ∷ concat []
unfolding concat
concat-last x = refl

module _ (R : List Token) (i : ℕ) (h : i < length R) where
  -- the test of the code on two tokens that are there
  test_as : i + 1 < length R → joins_at R i ≡ ((is_maj (at R i).kind) && (is seven (at R (i + 1))))
  test_as g = rw (lt-ltb (i + 1) (length R) g)

  two-more : i + 1 < length R → drop i R ≡ at R i ∷ at R (i + 1) ∷ drop (i + 1 + 1) R
  two-more g = next-token R i h ∙ ap (λ (l : List Token). at R i ∷ l) (next-token R (i + 1) g)

  next_there : joins_at R i ≡ true → i + 1 < length R
  next_there e = ltb-true (i + 1) (length R) (both_left (ltb (i + 1) (length R)) _ e)

  concat-joins : joins_at R i ≡ true → concat (drop i R) ≡ maj7_with (at R i) (at R (i + 1)) ∷ concat (drop (i + 2) R)
  concat-joins e =
      let g : i + 1 < length R = next_there e in
      let k : i + 1 + 1 ≡ i + 2 = omega arith in
      ap concat (two-more g) ∙ concat-two (at R i) (at R (i + 1)) (drop (i + 1 + 1) R) true (sym (test_as g) ∙ e)
      ∙ ap (λ (j : ℕ). maj7_with (at R i) (at R (i + 1)) ∷ concat (drop j R)) k

  concat_keeps : joins_at R i ≡ false → concat (drop i R) ≡ at R i ∷ concat (drop (i + 1) R)
  concat_keeps e = elim (dec_le (i + 2) (length R)) [
    | yes q ↦
        let g : i + 1 < length R = omega arith in
        ap concat (two-more g) ∙ concat-two (at R i) (at R (i + 1)) (drop (i + 1 + 1) R) false (sym (test_as g) ∙ e)
        ∙ ap (λ (l : List Token). at R i ∷ concat l) (sym (next-token R (i + 1) g))
    | no q ↦
        let z : drop (i + 1) R ≡ [] = drop_of_length-le R (omega arith) in
        ap concat (next-token R i h ∙ ap (λ (l : List Token). at R i ∷ l) z)
        ∙ concat-last (at R i) ∙ ap (λ (l : List Token). at R i ∷ concat l) (sym z)
  ]

module _ (R : List Token) (w i : ℕ) (b : w ≤ i) (h : i < length R) where
  took-one : (e : ℕ) (t : Token) → concat (drop i R) ≡ t ∷ concat (drop e R) → i < e → e ≤ length R → TookFirst i w e R (set R w t)
  took-one e t l g k =
      let a : at (set R w t) w ≡ t = get_or-set_same R w t (token 0 0 0) (omega arith) in
      record { list = l ∙ ap (λ (x : Token). x ∷ concat (drop e R)) (sym a); only = ap (set R w) (sym a); more = g; most = k }

  pub took-whole : joins_at R i ≡ true → TookFirst i w (i + 2) R (set R w (maj7_with (at R i) (at R (i + 1))))
  took-whole e =
      let g : i + 1 < length R = next_there R i h e in
      took-one (i + 2) (maj7_with (at R i) (at R (i + 1))) (concat-joins R i h e) (omega arith) (omega arith)

  pub took-kept : joins_at R i ≡ false → TookFirst i w (i + 1) R (set R w (at R i))
  took-kept e = took-one (i + 1) (at R i) (concat_keeps R i h e) (omega arith) (omega arith)

-- what the loop keeps true: R₀ are the tokens at its start
pub record Joining (R₀ R : List Token) (w i : ℕ) : Type 0 where
  pub low : w ≤ i
  pub high : i ≤ length R
  pub same : take w R ++ concat (drop i R) ≡ concat R₀
  pub rest : drop w R ≡ drop w R₀

pub joining_start : (R : List Token) → Joining R R 0 0
joining_start R = record { low = omega arith; high = omega arith; same = refl; rest = refl }

pub joining_step : {R₀ R R' : List Token} {w i e : ℕ} → length R' ≡ length R → Joining R₀ R w i → TookFirst i w e R R'
    → Joining R₀ R' (w + 1) e
joining_step {R₀} {R} {R'} {w} {i} {e} n J T =
    let t = at R' w in
    let d : drop (w + 1) R' ≡ drop (w + 1) R = ap (drop (w + 1)) T.only ∙ drop-set-lt (w + 1) R w t (omega arith) in
    let a : take (w + 1) R' ≡ take w R ++ (t ∷ []) =
    ap (λ (k : ℕ). take k R') (add-one w) ∙ ap (take (suc w)) T.only ∙ take-suc-set R w t (omega (arith, T.more, T.most, J.low)) in
    let s : drop e R' ≡ drop e R = later R' R (w + 1) e (omega (arith, T.more, J.low)) d in
    record {
      low = omega (arith, T.more, J.low);
      high = omega (arith, T.most);
      same = ap₂ (λ (x y : List Token). x ++ concat y) a s
          ∙ append_assoc (take w R) (t ∷ []) (concat (drop e R)) ∙ ap (λ (l : List Token). take w R ++ l) (sym T.list) ∙ J.same;
      rest = d ∙ later R R₀ w (w + 1) (omega arith) J.rest;
    }

pub joining_end : {R₀ R : List Token} {w i : ℕ} → length R ≤ i → length R ≡ length R₀ → Joining R₀ R w i → Turned concat w R₀ R
unfolding concat
joining_end {R₀} {R} {w} {i} h n J =
    record {
      list = sym (append-nil (take w R)) ∙ sym (ap (λ (l : List Token). take w R ++ concat l) (drop_of_length-le R h)) ∙ J.same;
      rest = J.rest;
      fewer = omega (arith, J.low, J.high);
    }

pub still_short : {R₀ R : List Token} {w i : ℕ} → length R ≡ length R₀ → Joining R₀ R w i → Short R₀
    → (j : ℕ) → i ≤ j → j < length R → (at R j).len ≤ 256
still_short {R₀} {R} {w} {i} n J S j h g =
    let e : (at R j).len ≡ (at R₀ j).len = ap (λ (x : Token). x.len) (at-later R R₀ w j (token 0 0 0) (omega (arith, J.low)) J.rest) in
    omega (arith, S j (omega arith))

-- what a turn of the loop, and the loop, ask for
pub ruleset took = (took-whole, took-kept)

pub ruleset joining = (joining_start, joining_step, joining_end, still_short)
