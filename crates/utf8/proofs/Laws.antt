-- Decoding is RFC 3629, both directions. What is found is an encoding, by the definition; every encoding is found, since the bits of its
-- bytes are the character again (`bits-encode`); and so a text is accepted exactly when it is a run of encodings.
-- Assumes nothing.
use mathlib.Core.Bool.{Bool, true, false, ◌&&◌, ◌||◌, cond}
use mathlib.Core.List.{List, [], ◌∷◌, ◌++◌}
use mathlib.Core.Logic.{◌↔◌}
use mathlib.Core.Path.{◌≡◌, refl, sym, ap, ◌∙◌, subst}
use Prim.Native.Nat.{ℕ, zero, suc, ◌+◌, ◌-◌, ◌/◌, ◌%◌, ◌≤◌, ◌<◌}
use native.Mathlib.Nat.{div-div-eq-div-mul}
use native.Mathlib.Omega.{arith}
use lib.Dec.{T, eqb, ltb, ltb→lt}
use lib.ListN.{length, get_or, drop, length-append}
use lib.Seq.{drop-append_seam, drop-cons}
use borrow.Author.Tests.{lt-ltb, le-ltb, ltb-true, ltb-false, eqb-true, eq-eqb}
use Rattle.utf8.specs.Utf8.{is_scalar, encode, encode_all, all_scalar, WellFormed, begins, bits, char_of, char_at, after_char, well_from, well_formed}
use Rattle.utf8.specs.declared.Found.TheVariants.{Char, Bad, End}
use Rattle.utf8.specs.declared.Found.{Found}

-- the four rows of the table: the bytes of a character by its range
pub data Row (c : ℕ) : Type 0 where
  one : c < 128 → encode c ≡ c ∷ [] → Row c
  two : 128 ≤ c → c < 2048 → encode c ≡ (192 + c / 64) ∷ (128 + c % 64) ∷ [] → Row c
  three : 2048 ≤ c → c < 65536 → encode c ≡ (224 + c / 4096) ∷ (128 + c / 64 % 64) ∷ (128 + c % 64) ∷ [] → Row c
  four : 65536 ≤ c → encode c ≡ (240 + c / 262144) ∷ (128 + c / 4096 % 64) ∷ (128 + c / 64 % 64) ∷ (128 + c % 64) ∷ [] → Row c

pub row : (c : ℕ) → Row c
unfolding encode
row c = go (ltb c 128) (ltb c 2048) (ltb c 65536) refl refl refl
  where
    go : (a b d : Bool) → ltb c 128 ≡ a → ltb c 2048 ≡ b → ltb c 65536 ≡ d → Row c
    go true b d p q r = one (ltb-true c 128 p) (rw p)
    go false true d p q r = two (ltb-false c 128 p) (ltb-true c 2048 q) (rw (p, q))
    go false false true p q r = three (ltb-false c 2048 q) (ltb-true c 65536 r) (rw (p, q, r))
    go false false false p q r = four (ltb-false c 65536 r) (rw (p, q, r))

pub is_true : (b : Bool) → T b → b ≡ true
is_true true t = refl
is_true false t = absurd t

both : (a b : Bool) → T a → T b → T (a && b)
both true b t u = u
both false b t u = t

left : (a b : Bool) → T (a && b) → T a
left true b t = tt
left false b t = t

right : (a b : Bool) → T (a && b) → T b
right true b t = t
right false b t = absurd t

-- scalar values are below D800, or above DFFF and below 110000 (hexadecimal)
pub scalar_high : (c : ℕ) → T (is_scalar c) → c < 1114112
unfolding is_scalar
scalar_high c t = go (ltb c 55296) (ltb 57343 c) refl t
  where
    go : (a b : Bool) → ltb c 55296 ≡ a → T (a || b && ltb c 1114112) → c < 1114112
    go true b e t = let h : c < 55296 = ltb-true c 55296 e in omega arith
    go false true e t = ltb→lt c 1114112 t
    go false false e t = absurd t

pub no_surrogate : (c : ℕ) → T (is_scalar c) → 55296 ≤ c → 57344 ≤ c
unfolding is_scalar
no_surrogate c t h = go (ltb 57343 c) refl (subst (λ (a : Bool). T (a || ltb 57343 c && ltb c 1114112)) (le-ltb c 55296 h) t)
  where
    go : (b : Bool) → ltb 57343 c ≡ b → T (false || b && ltb c 1114112) → 57344 ≤ c
    go true e t = ltb-true 57343 c e
    go false e t = absurd t

pub low_scalar : (c : ℕ) → c < 55296 → T (is_scalar c)
unfolding is_scalar
low_scalar c h = rw (lt-ltb c 55296 h) tt

pub high_scalar : (c : ℕ) → 57344 ≤ c → c < 1114112 → T (is_scalar c)
unfolding is_scalar
high_scalar c l h = rw (le-ltb c 55296 (omega arith), lt-ltb 57343 c (omega arith), lt-ltb c 1114112 h) tt

-- the bits of an encoding are the character again
pub bits-encode : (c : ℕ) (r : List ℕ) → T (is_scalar c) → bits (encode c ++ r) ≡ c
unfolding bits
bits-encode c r t = go (row c)
  where
    go : Row c → bits (encode c ++ r) ≡ c
    go (one h e) = rw (e, lt-ltb c 128 h)
    go (two l h e) =
        rw e (simp (le-ltb (192 + c / 64) 128 (omega arith), lt-ltb (192 + c / 64) 224 (omega arith)) (omega arith))
    go (three l h e) =
        rw e (simp (
          le-ltb (224 + c / 4096) 128 (omega arith),
          le-ltb (224 + c / 4096) 224 (omega arith),
          lt-ltb (224 + c / 4096) 240 (omega arith),
        ) (omega arith))
    go (four l e) =
        let h : c < 1114112 = scalar_high c t in
        let q : c / 64 / 64 ≡ c / 4096 = div-div-eq-div-mul c 64 64 in
        let p : c / 4096 / 64 ≡ c / 262144 = div-div-eq-div-mul c 4096 64 in
        rw e (simp (
          le-ltb (240 + c / 262144) 128 (omega arith),
          le-ltb (240 + c / 262144) 224 (omega arith),
          le-ltb (240 + c / 262144) 240 (omega arith),
        ) (omega arith))

begins_append : (p r : List ℕ) → begins p (p ++ r) ≡ true
begins_append [] r = refl
begins_append (x ∷ p) r = rw (eq-eqb x x refl, begins_append p r)

-- what a text that begins with the encoding of its bits is found to begin with
found-begins : (s : List ℕ) (c : ℕ) → T (is_scalar c) → bits s ≡ c → begins (encode c) s ≡ true → char_of s ≡ Char c (length (encode c))
unfolding char_of
found-begins [] c t e b = absurd (go (row c))
  where
    go : Row c → ⊥
    go (one h p) = subst T (sym (rw p at b)) tt
    go (two l h p) = subst T (sym (rw p at b)) tt
    go (three l h p) = subst T (sym (rw p at b)) tt
    go (four l p) = subst T (sym (rw p at b)) tt
found-begins (x ∷ s) c t e b = rw (e, b, is_true (is_scalar c) t)

-- every encoding is found, whatever stands behind it
pub char_of-encode : (c : ℕ) (r : List ℕ) → T (is_scalar c) → char_of (encode c ++ r) ≡ Char c (length (encode c))
char_of-encode c r t = found-begins (encode c ++ r) c t (bits-encode c r t) (begins_append (encode c) r)

pub found : (s : List ℕ) (c n : ℕ) → T (is_scalar c) → n ≡ length (encode c) → s ≡ encode c ++ drop n s → char_of s ≡ Char c n
found s c n t e b = ap char_of b ∙ char_of-encode c (drop n s) t ∙ ap (Char c) (sym e)

-- a byte below 128 is a character of one byte, at the head of a text and at a position
pub one_found : (s : List ℕ) → 0 < length s → get_or s 0 0 < 128 → char_of s ≡ Char (get_or s 0 0) 1
unfolding encode
one_found [] l h = absurd (omega arith)
one_found (x ∷ s) l h = found (x ∷ s) x 1 (low_scalar x (omega arith)) (rw (lt-ltb x 128 h)) (rw (lt-ltb x 128 h))

pub ascii-at : (s : List ℕ) (i : ℕ) → i < length s → get_or s i 0 < 128 → char_at s i ≡ Char (get_or s i 0) 1
ascii-at s i l h = let e = drop-cons s i 0 l in ap char_of e ∙ one_found (get_or s i 0 ∷ drop (suc i) s) (omega arith) h

pub begins-split : (p s : List ℕ) → begins p s ≡ true → s ≡ p ++ drop (length p) s
begins-split [] s e = refl
begins-split (x ∷ p) [] e = absurd (subst T (sym e) tt)
begins-split (x ∷ p) (y ∷ s) e = go (eqb x y) refl e (begins-split p s)
  where
    go : (b : Bool) → eqb x y ≡ b → (b && begins p s) ≡ true → (begins p s ≡ true → s ≡ p ++ drop (length p) s) → y ∷ s ≡ x ∷ p ++ drop (length p) s
    go true q e f = λ i. sym (eqb-true x y q) i ∷ f e i
    go false q e f = absurd (subst T (sym e) tt)

-- what is found is the encoding of a scalar value
pub record Encoded (s : List ℕ) (c n : ℕ) : Type 0 where
  pub scalar : T (is_scalar c)
  pub size : n ≡ length (encode c)
  pub bytes : s ≡ encode c ++ drop n s

pub char_of-sound : (s : List ℕ) (c n : ℕ) → char_of s ≡ Char c n → Encoded s c n
unfolding char_of
char_of-sound [] c n e = absurd (let z : ◌≡◌ {A = ℕ} 0 1 = cc in omega arith)
char_of-sound (x ∷ s) c n e = go (is_scalar (bits (x ∷ s))) (begins (encode (bits (x ∷ s))) (x ∷ s)) refl refl e
  where
    go : (a b : Bool) → is_scalar (bits (x ∷ s)) ≡ a → begins (encode (bits (x ∷ s))) (x ∷ s) ≡ b → cond (a && b) (Char (bits (x ∷ s)) (length (encode (bits (x ∷ s))))) Bad ≡ Char c n → Encoded (x ∷ s) c n
    go true true p q e =
        let k : bits (x ∷ s) ≡ c = cc in
        let m : length (encode (bits (x ∷ s))) ≡ n = cc in
        record {
          scalar = subst T (sym p ∙ ap is_scalar k) tt;
          size = sym m ∙ ap (λ v. length (encode v)) k;
          bytes = begins-split (encode (bits (x ∷ s))) (x ∷ s) q ∙ ap (λ v. encode v ++ drop (length (encode (bits (x ∷ s)))) (x ∷ s)) k ∙ ap (λ v. encode c ++ drop v (x ∷ s)) m;
        }
    go true false p q e = absurd (let z : ◌≡◌ {A = ℕ} 0 1 = cc in omega arith)
    go false b p q e = absurd (let z : ◌≡◌ {A = ℕ} 0 1 = cc in omega arith)

-- a text after a character
pub well_skip : (k : ℕ) (s : List ℕ) → well_from k s ≡ well_from 0 (drop k s)
unfolding well_from
well_skip zero s = refl
well_skip (suc k) [] = refl
well_skip (suc k) (b ∷ s) = well_skip k s

-- a character has a byte at least
pub encode-length : (c : ℕ) → 1 ≤ length (encode c)
encode-length c = go (row c)
  where
    go : Row c → 1 ≤ length (encode c)
    go (one h p) = rw p (omega arith)
    go (two l h p) = rw p (omega arith)
    go (three l h p) = rw p (omega arith)
    go (four l p) = rw p (omega arith)

-- what is found has a byte at least
pub found-size : (s : List ℕ) (c n : ℕ) → char_of s ≡ Char c n → 1 ≤ n
found-size s c n e = omega (arith, (char_of-sound s c n e).size, encode-length c)

one_less : (m : ℕ) → suc m - 1 ≡ m
one_less m = omega arith

-- one step: a text that begins with a character is well formed if what comes behind it is
pub well_step : (s : List ℕ) (c n : ℕ) → char_of s ≡ Char c n → well_from 0 s ≡ well_from 0 (drop n s)
unfolding well_from char_of
well_step [] c n e = absurd (let z : ◌≡◌ {A = ℕ} 0 1 = cc in omega arith)
well_step (b ∷ s) c zero e = absurd (let h = found-size (b ∷ s) c zero e in omega arith)
well_step (b ∷ s) c (suc m) e = rw e (ap (λ k. well_from k s) (one_less m) ∙ well_skip m s)

-- accepted: a run of encodings
pub accepted_run : (k : ℕ) (s : List ℕ) → well_from k s ≡ true → WellFormed (drop k s)
unfolding well_from
accepted_run zero [] e = record { chars = []; scalars = tt; encoded = refl }
accepted_run (suc k) [] e = record { chars = []; scalars = tt; encoded = refl }
accepted_run (suc k) (b ∷ s) e = accepted_run k s e
accepted_run zero (b ∷ s) e = go (char_of (b ∷ s)) refl e (λ k. accepted_run k s)
  where
    go : (f : Found) → char_of (b ∷ s) ≡ f → after_char f (λ n. well_from (n - 1) s) ≡ true → ((k : ℕ) → well_from k s ≡ true → WellFormed (drop k s)) → WellFormed (b ∷ s)
    go (Char c zero) p e ih = absurd (let h = found-size (b ∷ s) c zero p in omega arith)
    go (Char c (suc m)) p e ih =
        let f = char_of-sound (b ∷ s) c (suc m) p in
        let w = ih m (ap (λ k. well_from k s) (sym (one_less m)) ∙ e) in
        record {
          chars = c ∷ w.chars;
          scalars = both (is_scalar c) (all_scalar w.chars) f.scalar w.scalars;
          encoded = ap (λ l. encode c ++ l) w.encoded ∙ sym f.bytes;
        }
    go Bad p e ih = absurd (subst T (sym e) tt)
    go End p e ih = absurd (subst T (sym e) tt)

-- a run of encodings: accepted
pub run_accepted : (cs : List ℕ) → T (all_scalar cs) → well_from 0 (encode_all cs) ≡ true
unfolding well_from
run_accepted [] t = refl
run_accepted (c ∷ cs) t =
    let f = char_of-encode c (encode_all cs) (left (is_scalar c) (all_scalar cs) t) in
    well_step (encode c ++ encode_all cs) c (length (encode c)) f
    ∙ ap (well_from 0) (drop-append_seam (encode c) (encode_all cs))
    ∙ run_accepted cs (right (is_scalar c) (all_scalar cs) t)

-- a text is accepted exactly when it is a run of encodings
pub well_formed-is : (s : List ℕ) → (well_formed s ≡ true) ↔ WellFormed s
well_formed-is s = ((λ e. accepted_run 0 s e), (λ w. subst (λ (t : List ℕ). well_formed t ≡ true) w.encoded (run_accepted w.chars w.scalars)))

-- what is found lies within the text
pub found_within : (s : List ℕ) (c n : ℕ) → char_of s ≡ Char c n → n ≤ length s
found_within s c n e =
    let f = char_of-sound s c n e in
    omega (arith, ap length f.bytes, length-append (encode c) (drop n s), f.size)

-- a text that begins with no character is not well formed
pub well_not : (s : List ℕ) → 0 < length s → ((c n : ℕ) → char_of s ≡ Char c n → ⊥) → well_from 0 s ≡ false
unfolding well_from
well_not [] h f = absurd (omega arith)
well_not (b ∷ s) h f = go (char_of (b ∷ s)) refl
  where
    go : (g : Found) → char_of (b ∷ s) ≡ g → after_char g (λ n. well_from (n - 1) s) ≡ false
    go (Char c n) e = absurd (f c n e)
    go Bad e = refl
    go End e = refl

-- in a run of encodings each character is found where its bytes begin
pub char_at_run : (xs ys : List ℕ) (c : ℕ) → T (is_scalar c) → char_at (encode_all xs ++ (encode c ++ encode_all ys)) (length (encode_all xs)) ≡ Char c (length (encode c))
char_at_run xs ys c t = ap char_of (drop-append_seam (encode_all xs) (encode c ++ encode_all ys)) ∙ char_of-encode c (encode_all ys) t
