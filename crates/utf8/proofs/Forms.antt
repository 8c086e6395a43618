-- From the bytes that the code tests to the definition. Bytes of the right form are an encoding, which is found (`two-found` to
-- `four-found`; one byte: `Laws`); bytes that no encoding begins with are Bad (`rejected`), and what an encoding's bytes are goes by its row (`Lead`).
-- Assumes nothing.
use mathlib.Core.Bool.{Bool, true, false, ◌&&◌, cond, false≢true}
use mathlib.Core.List.{List, [], ◌∷◌}
use mathlib.Core.Path.{◌≡◌, refl, sym, ap, ◌∙◌, subst}
use Prim.Native.Nat.{ℕ, ◌+◌, ◌*◌, ◌-◌, ◌/◌, ◌%◌, ◌≤◌, ◌<◌}
use native.Mathlib.Nat.{div-div-eq-div-mul}
use native.Mathlib.Omega.{arith}
use lib.Dec.{T, leb}
use lib.ListN.{length, get_or, drop, get_or-append}
use borrow.Author.Tests.{lt-ltb, le-ltb, le-leb, leb-true}
use Rattle.std.specs.Prelude.{Option, Some, None}
use Rattle.utf8.specs.State.{More, character, found_of}
use Rattle.utf8.specs.Utf8.{is_scalar, encode, begins, bits, char_of}
use Rattle.utf8.specs.declared.Found.TheVariants.{Char, Bad, End}
use Rattle.utf8.proofs.Laws.{is_true, Row, one, two, three, four, row, scalar_high, low_scalar, high_scalar, found, begins-split}

pub two-found : (s : List ℕ) (c : ℕ) → 1 < length s → 128 ≤ c → c < 2048 → get_or s 0 0 ≡ 192 + c / 64 → get_or s 1 0 ≡ 128 + c % 64 → char_of s ≡ Char c 2
unfolding encode
two-found [] c l a b e f = absurd (omega arith)
two-found (x ∷ []) c l a b e f = absurd (omega arith)
two-found (x ∷ y ∷ s) c l a b e f =
    found (x ∷ y ∷ s) c 2 (low_scalar c (omega arith)) (rw (le-ltb c 128 a, lt-ltb c 2048 b)) (rw (le-ltb c 128 a, lt-ltb c 2048 b, ← e, ← f))

pub three-found : (s : List ℕ) (c : ℕ) → T (is_scalar c) → 2 < length s → 2048 ≤ c → c < 65536 → get_or s 0 0 ≡ 224 + c / 4096 → get_or s 1 0 ≡ 128 + c / 64 % 64 → get_or s 2 0 ≡ 128 + c % 64 → char_of s ≡ Char c 3
unfolding encode
three-found [] c t l a b e f g = absurd (omega arith)
three-found (x ∷ []) c t l a b e f g = absurd (omega arith)
three-found (x ∷ y ∷ []) c t l a b e f g = absurd (omega arith)
three-found (x ∷ y ∷ z ∷ s) c t l a b e f g =
    let m : 128 ≤ c = omega arith in
    found (x ∷ y ∷ z ∷ s) c 3 t (rw (le-ltb c 128 m, le-ltb c 2048 a, lt-ltb c 65536 b)) (rw (le-ltb c 128 m, le-ltb c 2048 a, lt-ltb c 65536 b, ← e, ← f, ← g))

pub four-found : (s : List ℕ) (c : ℕ) → 3 < length s → 65536 ≤ c → c < 1114112 → get_or s 0 0 ≡ 240 + c / 262144 → get_or s 1 0 ≡ 128 + c / 4096 % 64 → get_or s 2 0 ≡ 128 + c / 64 % 64 → get_or s 3 0 ≡ 128 + c % 64 → char_of s ≡ Char c 4
unfolding encode
four-found [] c l a b e f g h = absurd (omega arith)
four-found (x ∷ []) c l a b e f g h = absurd (omega arith)
four-found (x ∷ y ∷ []) c l a b e f g h = absurd (omega arith)
four-found (x ∷ y ∷ z ∷ []) c l a b e f g h = absurd (omega arith)
four-found (x ∷ y ∷ z ∷ w ∷ s) c l a b e f g h =
    let m : 128 ≤ c = omega arith in
    let n : 2048 ≤ c = omega arith in
    found (x ∷ y ∷ z ∷ w ∷ s) c 4 (high_scalar c (omega arith) b) (rw (le-ltb c 128 m, le-ltb c 2048 n, le-ltb c 65536 a)) (rw (le-ltb c 128 m, le-ltb c 2048 n, le-ltb c 65536 a, ← e, ← f, ← g, ← h))

begins-at : (p s : List ℕ) → begins p s ≡ true → (i : ℕ) → i < length p → get_or s i 0 ≡ get_or p i 0
begins-at p s e i h = ap (λ l. get_or l i 0) (begins-split p s e) ∙ get_or-append p (drop (length p) s) 0 i h

-- the bytes of a text that begins with the encoding of k
pub data Lead (k : ℕ) (s : List ℕ) : Type 0 where
  lead1 : k < 128 → get_or s 0 0 ≡ k → Lead k s
  lead2 : 128 ≤ k → k < 2048 → get_or s 0 0 ≡ 192 + k / 64 → get_or s 1 0 ≡ 128 + k % 64 → Lead k s
  lead3 : 2048 ≤ k → k < 65536 → get_or s 0 0 ≡ 224 + k / 4096 → get_or s 1 0 ≡ 128 + k / 64 % 64 → get_or s 2 0 ≡ 128 + k % 64 → Lead k s
  lead4 : 65536 ≤ k → get_or s 0 0 ≡ 240 + k / 262144 → get_or s 1 0 ≡ 128 + k / 4096 % 64 → get_or s 2 0 ≡ 128 + k / 64 % 64 → get_or s 3 0 ≡ 128 + k % 64 → Lead k s

lead : (k : ℕ) (s : List ℕ) → begins (encode k) s ≡ true → Lead k s
lead k s e = go (row k)
  where
    at : {l : List ℕ} → encode k ≡ l → (i : ℕ) → i < length l → get_or s i 0 ≡ get_or l i 0
    at {l} p i h = begins-at l s (ap (λ q. begins q s) (sym p) ∙ e) i h

    go : Row k → Lead k s
    go (one h p) = lead1 h (at p 0 (omega arith))
    go (two l h p) = lead2 l h (at p 0 (omega arith)) (at p 1 (omega arith))
    go (three l h p) =
        lead3 l h (at p 0 (omega arith)) (at p 1 (omega arith)) (at p 2 (omega arith))
    go (four l p) =
        lead4 l
        (at p 0 (omega arith))
        (at p 1 (omega arith))
        (at p 2 (omega arith))
        (at p 3 (omega arith))

-- a text that no encoding begins
pub rejected : (s : List ℕ) → 0 < length s → ((k : ℕ) → T (is_scalar k) → Lead k s → ⊥) → char_of s ≡ Bad
unfolding char_of
rejected [] l f = absurd (omega arith)
rejected (x ∷ s) l f = go (is_scalar (bits (x ∷ s))) (begins (encode (bits (x ∷ s))) (x ∷ s)) refl refl
  where
    go : (a b : Bool) → is_scalar (bits (x ∷ s)) ≡ a → begins (encode (bits (x ∷ s))) (x ∷ s) ≡ b → cond (a && b) (Char (bits (x ∷ s)) (length (encode (bits (x ∷ s))))) Bad ≡ Bad
    go true true p q = absurd (f (bits (x ∷ s)) (subst T (sym p) tt) (lead (bits (x ∷ s)) (x ∷ s) q))
    go true false p q = refl
    go false b p q = refl

-- bytes that begin no character, by the first that is wrong
module _ (s : List ℕ) (l : 0 < length s) where
  pub bad_lead : 128 ≤ get_or s 0 0 → get_or s 0 0 < 192 → char_of s ≡ Bad
  bad_lead a b = rejected s l go
    where
      go : (k : ℕ) → T (is_scalar k) → Lead k s → ⊥
      go k t (lead1 p e) = omega arith
      go k t (lead2 p q e f) = omega arith
      go k t (lead3 p q e f g) = omega arith
      go k t (lead4 p e f g h) = omega arith

  pub high_lead : 248 ≤ get_or s 0 0 → char_of s ≡ Bad
  high_lead a = rejected s l go
    where
      go : (k : ℕ) → T (is_scalar k) → Lead k s → ⊥
      go k t (lead1 p e) = omega arith
      go k t (lead2 p q e f) = omega arith
      go k t (lead3 p q e f g) = omega arith
      go k t (lead4 p e f g h) = omega (arith, scalar_high k t)

  pub bad_second : 192 ≤ get_or s 0 0 → (128 ≤ get_or s 1 0 → get_or s 1 0 < 192 → ⊥) → char_of s ≡ Bad
  bad_second a n = rejected s l go
    where
      go : (k : ℕ) → T (is_scalar k) → Lead k s → ⊥
      go k t (lead1 p e) = omega arith
      go k t (lead2 p q e f) = n (omega arith) (omega arith)
      go k t (lead3 p q e f g) = n (omega arith) (omega arith)
      go k t (lead4 p e f g h) = n (omega arith) (omega arith)

  pub bad_third : 224 ≤ get_or s 0 0 → (128 ≤ get_or s 2 0 → get_or s 2 0 < 192 → ⊥) → char_of s ≡ Bad
  bad_third a n = rejected s l go
    where
      go : (k : ℕ) → T (is_scalar k) → Lead k s → ⊥
      go k t (lead1 p e) = omega arith
      go k t (lead2 p q e f) = omega arith
      go k t (lead3 p q e f g) = n (omega arith) (omega arith)
      go k t (lead4 p e f g h) = n (omega arith) (omega arith)

  pub bad_fourth : 240 ≤ get_or s 0 0 → (128 ≤ get_or s 3 0 → get_or s 3 0 < 192 → ⊥) → char_of s ≡ Bad
  bad_fourth a n = rejected s l go
    where
      go : (k : ℕ) → T (is_scalar k) → Lead k s → ⊥
      go k t (lead1 p e) = omega arith
      go k t (lead2 p q e f) = omega arith
      go k t (lead3 p q e f g) = omega arith
      go k t (lead4 p e f g h) = n (omega arith) (omega arith)

-- A number that the bytes give is what they begin with if it is a character's and at least low; else no encoding begins them, where each
-- that does would be that of this number.
chosen : (s : List ℕ) (c low n : ℕ) {r : Option (ℕ × ℕ)} → r ≡ character c low n → 0 < length s → (T (is_scalar c) → low ≤ c → char_of s ≡ Char c n)
    → ((k : ℕ) → T (is_scalar k) → Lead k s → (c ≡ k) × (low ≤ k)) → found_of r ≡ char_of s
chosen s c low n {r} e l f g = ap found_of e ∙ go (leb low c) (is_scalar c) refl refl
  where
    wrong : (leb low c && is_scalar c) ≡ false → (k : ℕ) → T (is_scalar k) → Lead k s → ⊥
    wrong h k t d =
        let w = g k t d in
        let q : (leb low c && is_scalar c) ≡ true = rw (le-leb low c (omega (arith, w.0, w.1))) (ap is_scalar w.0 ∙ is_true (is_scalar k) t) in
        false≢true (sym h ∙ q)

    go : (a b : Bool) → leb low c ≡ a → is_scalar c ≡ b → found_of (cond (a && b) (Some (c, n)) None) ≡ char_of s
    go true true h i = sym (f (subst T (sym i) tt) (leb-true low c h))
    go true false h i = sym (rejected s l (wrong (rw (h, i))))
    go false b h i = sym (rejected s l (wrong (rw h)))

-- the number that the first byte a and the six bits of each further byte give
module _ (s : List ℕ) (a : ℕ) {r : Option (ℕ × ℕ)} (l : 0 < length s) (e : a ≡ get_or s 0 0) where
  pub two_char : (v : ℕ) → 192 ≤ a → a < 224 → More s 1 (a - 192) (Some v) → r ≡ character v 128 2 → found_of r ≡ char_of s
  two_char v p q m f =
      chosen s v 128 2 f l
      (λ t h. two-found s v m.0 h (omega (arith, m.1, m.2, m.3)) (omega (arith, m.1, m.2, m.3)) (omega (arith, m.1, m.2, m.3)))
      go
    where
      go : (k : ℕ) → T (is_scalar k) → Lead k s → (v ≡ k) × (128 ≤ k)
      go k t (lead1 b x) = absurd (omega arith)
      go k t (lead2 b i x y) = (omega (arith, m.1, m.3), b)
      go k t (lead3 b i x y z) = absurd (omega arith)
      go k t (lead4 b x y z w) = absurd (omega arith)

  pub three_char : (u v : ℕ) → 224 ≤ a → a < 240 → More s 1 (a - 224) (Some u) → More s 2 u (Some v) → r ≡ character v 2048 3 → found_of r ≡ char_of s
  three_char u v p q m o f =
      let w : v ≡ (a - 224) * 4096 + (get_or s 1 0 - 128) * 64 + (get_or s 2 0 - 128) = omega (arith, m.3, o.3) in
      chosen s v 2048 3 f l
      (λ t h. three-found s v t o.0 h
      (omega (arith, w, m.1, m.2, o.1, o.2)) (omega (arith, w, m.1, m.2, o.1, o.2)) (omega (arith, w, m.1, m.2, o.1, o.2)) (omega (arith, w, m.1, m.2, o.1, o.2)))
      go
    where
      go : (k : ℕ) → T (is_scalar k) → Lead k s → (v ≡ k) × (2048 ≤ k)
      go k t (lead1 b x) = absurd (omega arith)
      go k t (lead2 b i x y) = absurd (omega arith)
      go k t (lead3 b i x y z) = (omega (arith, m.1, m.3, o.1, o.3), b)
      go k t (lead4 b x y z w) = absurd (omega arith)

  pub four_char : (u v w : ℕ) → 240 ≤ a → a < 248 → More s 1 (a - 240) (Some u) → More s 2 u (Some v) → More s 3 v (Some w) → r ≡ character w 65536 4
      → found_of r ≡ char_of s
  four_char u v w p q m o i f =
      chosen s w 65536 4 f l
      (λ t h.
      let x : w ≡ (a - 240) * 262144 + (get_or s 1 0 - 128) * 4096 + (get_or s 2 0 - 128) * 64 + (get_or s 3 0 - 128) = omega (arith, m.3, o.3, i.3) in
      four-found s w i.0 h (scalar_high w t)
      (omega (arith, x, m.1, m.2, o.1, o.2, i.1, i.2)) (omega (arith, x, m.1, m.2, o.1, o.2, i.1, i.2))
      (omega (arith, x, m.1, m.2, o.1, o.2, i.1, i.2)) (omega (arith, x, m.1, m.2, o.1, o.2, i.1, i.2)))
      go
    where
      go : (k : ℕ) → T (is_scalar k) → Lead k s → (w ≡ k) × (65536 ≤ k)
      go k t (lead1 b x) = absurd (omega arith)
      go k t (lead2 b j x y) = absurd (omega arith)
      go k t (lead3 b j x y z) = absurd (omega arith)
      go k t (lead4 b x y z q) =
          let f : k / 64 / 64 ≡ k / 4096 = div-div-eq-div-mul k 64 64 in
          let g : k / 4096 / 64 ≡ k / 262144 = div-div-eq-div-mul k 4096 64 in
          (omega (arith, m.1, m.3, o.1, o.3, i.1, i.3), b)

-- bytes that begin no character
pub none_bad : {r : Option (ℕ × ℕ)} (s : List ℕ) → r ≡ None → char_of s ≡ Bad → found_of r ≡ char_of s
none_bad s e f = ap found_of e ∙ sym f

pub empty-end : (s : List ℕ) → length s ≡ 0 → char_of s ≡ End
unfolding char_of
empty-end [] e = refl
empty-end (x ∷ s) e = absurd (omega arith)
