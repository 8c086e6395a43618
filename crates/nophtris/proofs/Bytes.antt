-- The bytes of a record, and the record of bytes: one number, one set and one list at a time.
-- Assumes nothing.
use mathlib.Core.Bool.{Bool, true, false, false≢true, cond, ◌&&◌, ◌||◌}
use mathlib.Core.List.{List, [], ◌∷◌, ◌++◌}
use mathlib.Core.Path.{◌≡◌, refl, sym, ap, ap₂, ◌∙◌}
use Prim.Native.Nat.{ℕ, zero, suc, ◌+◌, ◌-◌, ◌≤◌, ◌<◌, zero-le}
use native.Mathlib.Omega.{arith}
use lib.Dec.{eqb, leb, ltb}
use lib.ListN.{drop, get_or, length, length-append, replicate, take, take-append-drop}
use lib.Seq.{get_or-drop, get_or-take, length-take-le}
use borrow.Author.Tests.{eqb-false, eqb-true, le-leb, leb-true, le-ltb, lt-ltb, ltb-true, ltb-false}
use Rattle.std.proofs.lemmas.List.{drop-replicate, take-replicate}
use Rattle.std.proofs.Math.Seq.{take-append_seam, take-append-add}
use Rattle.std.specs.Prelude.{◌↔◌, EachIndex}
use Rattle.std.specs.Int.{from_bool}
use Rattle.house_parts.proofs.Tests.{same_answer}
use Rattle.chord.specs.Chord.{Four}
use Rattle.intervals.specs.Stored.{listed}
use Rattle.intervals.specs.Interval.{Set, empty, insert}
use Rattle.intervals.specs.declared.IntervalList.{IntervalList}
use Rattle.std.specs.declared.option.Option.TheVariants.{None, Some}
use Rattle.note.specs.Note.{OptionalNote}
use Rattle.nophtris.specs.Boundary.{are_bits, chord_bytes, list_bytes, note_bytes, set_bytes}

-- ---- the bytes of a set and of a list: how many, and which

pub set-length : (n i : ℕ) (s : Set) → length (set_bytes n i s) ≡ n
set-length zero i s = refl
set-length (suc n) i s = ap suc (set-length n (suc i) s)

set-from : (n i j : ℕ) (s : Set) → j < n → get_or (set_bytes n i s) j 0 ≡ cond (s (i + j)) 1 0
set-from zero i j s h = absurd (omega (arith, h))
set-from (suc n) i zero s h = let e : i ≡ i + 0 = omega arith in ap (λ (k : ℕ). cond (s k) 1 0) e
set-from (suc n) i (suc j) s h =
    let e : suc i + j ≡ i + suc j = omega arith in
    set-from n (suc i) j s (omega (arith, h)) ∙ ap (λ (k : ℕ). cond (s k) 1 0) e

pub set_at : (s : Set) (j : ℕ) → j < 23 → get_or (set_bytes 23 0 s) j 0 ≡ cond (s j) 1 0
set_at s j h = let e : 0 + j ≡ j = omega arith in set-from 23 0 j s h ∙ ap (λ (k : ℕ). cond (s k) 1 0) e

-- one number more
set_more : (n i : ℕ) (s : Set) → set_bytes n i s ++ (cond (s (i + n)) 1 0 ∷ []) ≡ set_bytes (suc n) i s
set_more zero i s = let e : i + 0 ≡ i = omega arith in ap (λ (k : ℕ). cond (s k) 1 0 ∷ []) e
set_more (suc n) i s =
    let e : i + suc n ≡ suc i + n = omega arith in
    ap (λ (k : ℕ). cond (s i) 1 0 ∷ (set_bytes n (suc i) s ++ (cond (s k) 1 0 ∷ []))) e
    ∙ ap (λ (q : List ℕ). cond (s i) 1 0 ∷ q) (set_more n (suc i) s)

pub set_next : (n : ℕ) (s : Set) → set_bytes n 0 s ++ (cond (s n) 1 0 ∷ []) ≡ set_bytes (n + 1) 0 s
set_next n s =
    let e : n ≡ 0 + n = omega arith in
    let k : suc n ≡ n + 1 = omega arith in
    ap (λ (j : ℕ). set_bytes n 0 s ++ (cond (s j) 1 0 ∷ [])) e ∙ set_more n 0 s ∙ ap (λ (j : ℕ). set_bytes j 0 s) k

pub byte_is : (b : Bool) → from_bool b ≡ cond b 1 0
byte_is true = refl
byte_is false = refl

-- the numbers of a list, and zeros up to 23
abbrev zeros : List ℕ
zeros = replicate 23 0

abbrev pub padded : List ℕ → List ℕ
padded d = take 23 (d ++ zeros)

pub list_length : (d : List ℕ) → length (padded d) ≡ 23
list_length d = length-take-le 23 (d ++ zeros) (omega (arith, length-append d zeros))

-- the first numbers of the array and the last of 23 zeros
pub list_parts : (l : IntervalList) (n : ℕ) → n ≡ length (listed l) → n ≤ 23
    → (n ∷ []) ++ (take n l.numbers ++ take (23 - n) (drop n zeros)) ≡ list_bytes (listed l)
unfolding listed
list_parts l n e h =
    let d = listed l in
    let t : take n l.numbers ≡ d =
    ap₂ take e (sym (take-append-drop l.len l.numbers)) ∙ take-append_seam d (drop l.len l.numbers)
    in
    let m : length d + (23 - n) ≡ 23 = omega (arith, e, h) in
    let z : take (23 - n) (drop n zeros) ≡ take (23 - n) zeros =
    ap (take (23 - n)) (drop-replicate n 23 0) ∙ take-replicate (23 - n) (23 - n) 0 (omega arith) ∙ sym (take-replicate (23 - n) 23 0 (omega arith))
    in
    let p : d ++ take (23 - n) zeros ≡ padded d = sym (take-append-add d zeros (23 - n)) ∙ ap (λ (k : ℕ). take k (d ++ zeros)) m in
    ap₂ (λ (k : ℕ) (q : List ℕ). k ∷ q) e (ap₂ (λ (a b : List ℕ). a ++ b) t z ∙ p)

-- the bytes of a record are 51
pub note_length : (n : OptionalNote) → length (note_bytes n) ≡ 2
note_length None = refl
note_length (Some n) = refl

pub chord-length : (f : Four) → length (chord_bytes f) ≡ 51
unfolding chord_bytes
chord-length f =
    let a = note_bytes f.root in
    let b = note_bytes f.bass in
    let s = set_bytes 23 0 f.normalized in
    let d = list_bytes f.display in
    omega (arith, note_length f.root, note_length f.bass, set-length 23 0 f.normalized, list_length f.display, length-append a (b ++ (s ++ d)), length-append b (s ++ d), length-append s d)

-- a byte of the 23 behind the fourth
pub byte_at : (bs : List ℕ) (i : ℕ) → i < 23 → get_or (take 23 (drop 4 bs)) i 0 ≡ get_or bs (4 + i) 0
byte_at bs i h = get_or-take 23 (drop 4 bs) i 0 h ∙ get_or-drop 4 bs i 0

-- ---- bits: each byte is at most 1

both : (a b : Bool) → a && b ≡ true → (a ≡ true) × (b ≡ true)
both true b e = (refl, e)
both false b e = (e, absurd (false≢true e))

bits-each : (l : List ℕ) → are_bits l ≡ true → EachIndex l (λ k. get_or l k 0 ≤ 1)
bits-each [] e k h = absurd (omega (arith, h))
bits-each (x ∷ l) e zero h = leb-true x 1 (both (leb x 1) (are_bits l) e).0
bits-each (x ∷ l) e (suc k) h = bits-each l (both (leb x 1) (are_bits l) e).1 k (omega (arith, h))

each-bits : (l : List ℕ) → EachIndex l (λ k. get_or l k 0 ≤ 1) → are_bits l ≡ true
each-bits [] v = refl
each-bits (x ∷ l) v =
    ap (λ (t : Bool). t && are_bits l) (le-leb x 1 (v 0 (omega arith))) ∙ each-bits l (λ k h. v (suc k) (omega (arith, h)))

pub bits_by : (b : Bool) (l : List ℕ) → (b ≡ true) ↔ EachIndex l (λ k. get_or l k 0 ≤ 1) → b ≡ are_bits l
bits_by b l h = same_answer b (are_bits l) (λ e. each-bits l (h.0 e)) (λ e. h.1 (bits-each l e))

-- ---- the set of 51 bytes: with the first i right, and one more

further : (k i : ℕ) → (k ≡ i → ⊥) → ltb k i ≡ ltb k (i + 1)
further k i n = go (ltb k i) refl
  where
    go : (t : Bool) → ltb k i ≡ t → t ≡ ltb k (i + 1)
    go true e = let h : k < i = ltb-true k i e in sym (lt-ltb k (i + 1) (omega arith))
    go false e = let h : i ≤ k = ltb-false k i e in sym (le-ltb k (i + 1) (omega arith))

pub none_yet : (f : ℕ → Bool) (k : ℕ) → empty k ≡ ltb k 0 && f k
none_yet f k = ap (λ (t : Bool). t && f k) (sym (le-ltb k 0 zero-le))

-- at another number nothing changes; at i the byte decides
with_next : (t b : Bool) (s : Set) (i k : ℕ) → eqb i k ≡ t → cond b (insert s i) s k ≡ b && t || s k
unfolding insert
with_next t true s i k e = ap (λ (x : Bool). x || s k) e
with_next t false s i k e = refl

inserted : (s : Set) (f : ℕ → Bool) (i : ℕ) → ((k : ℕ) → s k ≡ ltb k i && f k) → (k : ℕ) → cond (f i) (insert s i) s k ≡ ltb k (i + 1) && f k
inserted s f i v k = go (eqb i k) refl
  where
    at : (b : Bool) → b && true || false ≡ b
    at true = refl
    at false = refl

    off : (b : Bool) (c : Bool) → b && false || c ≡ c
    off true c = refl
    off false c = refl

    go : (t : Bool) → eqb i k ≡ t → cond (f i) (insert s i) s k ≡ ltb k (i + 1) && f k
    go true e =
        let p : i ≡ k = eqb-true i k e in
        let n : s k ≡ false = v k ∙ ap (λ (t : Bool). t && f k) (le-ltb k i (omega (arith, p))) in
        with_next true (f i) s i k e
        ∙ ap (λ (t : Bool). f i && true || t) n
        ∙ at (f i)
        ∙ ap f p
        ∙ ap (λ (t : Bool). t && f k) (sym (lt-ltb k (i + 1) (omega (arith, p))))
    go false e =
        with_next false (f i) s i k e
        ∙ off (f i) (s k)
        ∙ v k
        ∙ ap (λ (t : Bool). t && f k) (further k i (λ q. eqb-false i k e (sym q)))

pub member_next : (s t : Set) (f : ℕ → Bool) (i : ℕ) → ((k : ℕ) → s k ≡ ltb k i && f k) → f i ≡ true → t ≡ insert s i
    → (k : ℕ) → t k ≡ ltb k (i + 1) && f k
member_next s t f i v b e k =
    ap (λ (q : Set). q k) e ∙ ap (λ (x : Bool). cond x (insert s i) s k) (sym b) ∙ inserted s f i v k

pub none_next : (s : Set) (f : ℕ → Bool) (i : ℕ) → ((k : ℕ) → s k ≡ ltb k i && f k) → f i ≡ false → (k : ℕ) → s k ≡ ltb k (i + 1) && f k
none_next s f i v b k = ap (λ (x : Bool). cond x (insert s i) s k) (sym b) ∙ inserted s f i v k
