-- Bytes written behind the first n of a buffer: none, one, a run, some after others, and a text byte by byte.
-- Assumes nothing.
use mathlib.Core.List.{List, [], ◌∷◌, ◌++◌, append_assoc, append-nil}
use mathlib.Core.Path.{◌≡◌, refl, sym, ap, ◌∙◌, subst}
use Prim.Native.Nat.{ℕ, suc, ◌+◌, ◌-◌, ◌≤◌, ◌<◌}
use native.Mathlib.Omega.{arith}
use lib.ListN.{length, take, drop, get_or, set, length-append, length-drop, take-append-drop}
use lib.Seq.{drop-set-lt, drop_at, length-take-le, take_at, take-suc, take-suc-set}
use Rattle.expression.proofs.Wrote.{later}
use Rattle.writer.specs.State.{Grew, Put}
use Rattle.writer.specs.declared.buffer.Buffer.{Buffer}

-- nothing was written
pub put-none : (n : ℕ) (bs : List ℕ) → Put n n [] bs bs
put-none n bs = record { list = sym (append-nil (take n bs)); rest = refl; count = omega arith }

-- a byte was
pub put_one : (n b : ℕ) (bs : List ℕ) → n < length bs → Put n (n + 1) (b ∷ []) bs (set bs n b)
put_one n b bs h =
    let k : suc n ≡ n + 1 = omega arith in
    record {
      list = ap (λ (j : ℕ). take j (set bs n b)) (sym k) ∙ take-suc-set bs n b h;
      rest = drop-set-lt (n + 1) bs n b (omega arith);
      count = omega arith;
    }

-- a run of bytes was
pub put_run : (n : ℕ) (t bs bs' : List ℕ) → n + length t ≤ length bs → bs' ≡ take n bs ++ t ++ drop (n + length t) bs
    → Put n (n + length t) t bs bs'
put_run n t bs bs' h e =
    let j : length (take n bs) ≡ n = length-take-le n bs (omega arith) in
    let k : length (take n bs ++ t) ≡ n + length t = omega (arith, j, length-append (take n bs) t) in
    record {
      list = ap (take (n + length t)) e ∙ take_at (take n bs ++ t) (drop (n + length t) bs) (n + length t) k;
      rest = ap (drop (n + length t)) e ∙ drop_at (take n bs ++ t) (drop (n + length t) bs) (n + length t) k;
      count = refl;
    }

-- some after others
pub put_then : {n m r : ℕ} {a b : List ℕ} {bs bs' bs'' : List ℕ} → Put n m a bs bs' → Put m r b bs' bs'' → Put n r (a ++ b) bs bs''
put_then {n} {m} {r} {a} {b} {bs} {bs'} {bs''} v w =
    record {
      list = w.list ∙ ap (λ (q : List ℕ). q ++ b) v.list ∙ append_assoc (take n bs) a b;
      rest = w.rest ∙ later bs' bs m r (omega (arith, w.count)) v.rest;
      count = omega (arith, v.count, w.count, length-append a b);
    }

-- the same bytes by another name
pub put_as : {n r : ℕ} {a b : List ℕ} {bs bs' : List ℕ} → a ≡ b → Put n r a bs bs' → Put n r b bs bs'
put_as {n} {r} {a} {b} {bs} {bs'} e w = subst (λ (q : List ℕ). Put n r q bs bs') e w

-- from the same place in the same buffer, by other names
pub put_from : {n m r : ℕ} {a bs cs bs' : List ℕ} → n ≡ m → bs ≡ cs → Put n r a bs bs' → Put m r a cs bs'
put_from {n} {m} {r} {a} {bs} {cs} {bs'} e f w =
    subst (λ (j : ℕ). Put j r a cs bs') e (subst (λ (q : List ℕ). Put n r a q bs') f w)

-- the buffer keeps its length
pub put-length : {n r : ℕ} {a : List ℕ} {bs bs' : List ℕ} → Put n r a bs bs' → r ≤ length bs → length bs' ≡ length bs
put-length {n} {r} {a} {bs} {bs'} w h =
    let d : length bs' - r ≡ length bs - r = sym (length-drop r bs') ∙ ap length w.rest ∙ length-drop r bs in
    let t : length (take r bs') ≡ length (take n bs ++ a) = ap length w.list in
    let f : length (take n bs) ≡ n = length-take-le n bs (omega (arith, w.count)) in
    let l : length (take r bs') + length (drop r bs') ≡ length bs' = sym (length-append (take r bs') (drop r bs')) ∙ ap length (take-append-drop r bs') in
    omega (arith, d, t, f, l, length-append (take n bs) a, w.count, length-drop r bs')

-- one more byte of a text
pub put_next : {n m r j : ℕ} {bs bs' bs'' : List ℕ} (t : List ℕ) → j < length t → Put n m (take j t) bs bs' → Put m r (get_or t j 0 ∷ []) bs' bs'' → Put n r (take (j + 1) t) bs bs''
put_next {n} {m} {r} {j} t h v w =
    let k : suc j ≡ j + 1 = omega arith in
    put_as (sym (take-suc t j 0 h) ∙ ap (λ (i : ℕ). take i t) k) (put_then v w)

-- what was written from the start on is what the buffer begins with
pub put_whole : {r : ℕ} {t : List ℕ} {bs bs' : List ℕ} → Put 0 r t bs bs' → bs' ≡ t ++ drop (length t) bs
put_whole {r} {t} {bs} {bs'} w =
    let k : r ≡ length t = omega (arith, w.count) in
    sym (take-append-drop r bs')
    ∙ ap (λ (q : List ℕ). q ++ drop r bs') w.list
    ∙ ap (λ (q : List ℕ). t ++ q) w.rest
    ∙ ap (λ (i : ℕ). t ++ drop i bs) k

-- the same of a lent buffer
pub grew_none : (a : Buffer) → Grew a a []
grew_none a = record { put = put-none a.len a.bytes.now; size = refl; place = refl }

pub grew_then : {a b c : Buffer} {s t : List ℕ} → Grew a b s → Grew b c t → Grew a c (s ++ t)
grew_then v w = record { put = put_then v.put w.put; size = w.size ∙ v.size; place = w.place ∙ v.place }

pub grew_as : {a b : Buffer} {s t : List ℕ} → s ≡ t → Grew a b s → Grew a b t
grew_as e v = record { put = put_as e v.put; size = v.size; place = v.place }
