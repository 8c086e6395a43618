-- What is put into a buffer, and what is put behind that: stores one behind another are one run of stores, and none behind the end stores.
-- Assumes nothing.
use mathlib.Core.List.{List, [], ◌∷◌, ◌++◌}
use mathlib.Core.Path.{◌≡◌, refl, sym, ap, subst, ◌∙◌}
use Prim.Native.Nat.{ℕ, suc, ◌+◌, ◌-◌, ◌≤◌, ◌<◌, min}
use native.Mathlib.Omega.{arith}
use lib.Dec.{ltb}
use mathlib.Core.Bool.{Bool, true, false}
use borrow.Author.Tests.{ltb-true, ltb-false}
use lib.ListN.{length, length-append, set, take, get_or, replicate, replicate-append-replicate}
use lib.Seq.{length-sets, set_out, sets, take-suc}
use Rattle.output.specs.Output.{Put}

-- stores behind the end leave the list as it is
sets_out : (l : List ℕ) (i : ℕ) (t : List ℕ) → length l ≤ i → sets l i t ≡ l
sets_out l i [] h = refl
sets_out l i (x ∷ t) h =
    let e : set l i x ≡ l = set_out l i x h in
    ap (λ (k : List ℕ). sets k (suc i) t) e ∙ sets_out l (suc i) t (omega arith)

sets_append : (l : List ℕ) (i : ℕ) (s t : List ℕ) → sets (sets l i s) (i + length s) t ≡ sets l i (s ++ t)
sets_append l i [] t = let e : i + 0 ≡ i = omega arith in ap (λ (k : ℕ). sets l k t) e
sets_append l i (x ∷ s) t =
    let e : i + suc (length s) ≡ suc i + length s = omega arith in
    ap (λ (k : ℕ). sets (sets (set l i x) (suc i) s) k t) e ∙ sets_append (set l i x) (suc i) s t

pub put-length : {n r : ℕ} {t b b' : List ℕ} → Put t n r b b' → length b' ≡ length b
put-length {n} {r} {t} {b} {b'} p = ap length p.bytes ∙ length-sets b n t

-- the place where t went is that behind s, or both lie behind the end
put-at : (n m : ℕ) (s t b : List ℕ) → m ≡ n + min (length s) (length b - n) → (full : Bool) →
    ltb (length b - n) (length s) ≡ full → sets (sets b n s) m t ≡ sets b n (s ++ t)
put-at n m s t b e false f =
    let h : length s ≤ length b - n = ltb-false (length b - n) (length s) f in
    let k : m ≡ n + length s = omega arith in
    ap (λ (j : ℕ). sets (sets b n s) j t) k ∙ sets_append b n s t
put-at n m s t b e true f =
    let h : length b - n < length s = ltb-true (length b - n) (length s) f in
    let l : length (sets b n s) ≡ length b = length-sets b n s in
    sets_out (sets b n s) m t (omega arith)
    ∙ sym (sets_out (sets b n s) (n + length s) t (omega arith))
    ∙ sets_append b n s t

pub put_then : {n m r : ℕ} {s t b b' b'' : List ℕ} → Put s n m b b' → Put t m r b' b'' → Put (s ++ t) n r b b''
put_then {n} {m} {r} {s} {t} {b} {b'} {b''} p q =
    let l : length b' ≡ length b = put-length p in
    record {
      bytes = q.bytes ∙ ap (λ (k : List ℕ). sets k m t) p.bytes ∙ put-at n m s t b p.count (ltb (length b - n) (length s)) refl;
      count = omega (arith, p.count, q.count, length-append s t);
    }

-- the same bytes by another name
pub put_as : {n r : ℕ} {s t b b' : List ℕ} → s ≡ t → Put s n r b b' → Put t n r b b'
put_as {n} {r} {s} {t} {b} {b'} e p = subst (λ (k : List ℕ). Put k n r b b') e p

-- from the same place by another name
pub put_from : {m n r : ℕ} {t b b' : List ℕ} → m ≡ n → Put t m r b b' → Put t n r b b'
put_from {m} {n} {r} {t} {b} {b'} e p = subst (λ (k : ℕ). Put t k r b b') e p

-- one more byte of a text
pub put_next : {n m r : ℕ} {b b' b'' : List ℕ} (t : List ℕ) (i : ℕ) → i < length t →
    Put (take i t) n m b b' → Put (get_or t i 0 ∷ []) m r b' b'' → Put (take (i + 1) t) n r b b''
put_next {n} {m} {r} t i h p q =
    let k : suc i ≡ i + 1 = omega arith in
    put_as (sym (take-suc t i 0 h) ∙ ap (λ (j : ℕ). take j t) k) (put_then p q)

-- one more of the same
pub put_again : {n m r x : ℕ} {b b' b'' : List ℕ} (i : ℕ) →
    Put (replicate i x) n m b b' → Put (x ∷ []) m r b' b'' → Put (replicate (i + 1) x) n r b b''
put_again {n} {m} {r} {x} i p q = put_as (replicate-append-replicate i 1 x) (put_then p q)
