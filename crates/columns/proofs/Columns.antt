-- One more number behind those that were put.
-- Assumes nothing.
use Rattle.std.proofs.Common.{◌≡◌, ℕ, List, [], ◌∷◌, ◌++◌, length, ◌+◌, ◌<◌, suc, refl, sym, ap, subst, ◌∙◌, take, get_or, arith}
use lib.Seq.{take-suc}
use Rattle.output.specs.Output.{PutNumber}
use Rattle.columns.specs.Columns.{PutAll}

put_behind : (xs : List ℕ) (x n m r : ℕ) (b b' b'' : List ℕ) →
    PutAll xs n m b b' → PutNumber x 4 m r b' b'' → PutAll (xs ++ x ∷ []) n r b b''
put_behind [] x n m r b b' b'' p q = record { count = r; bytes = b''; first = rw (← p.0, ← p.1) q; second = (refl, refl) }
put_behind (y ∷ ys) x n m r b b' b'' p q =
    record { count = p.count; bytes = p.bytes; first = p.first; second = put_behind ys x p.count m r p.bytes b' b'' p.second q }

pub put_next : (xs : List ℕ) (i n m r : ℕ) (b b' b'' : List ℕ) → i < length xs →
    PutAll (take i xs) n m b b' → PutNumber (get_or xs i 0) 4 m r b' b'' → PutAll (take (i + 1) xs) n r b b''
put_next xs i n m r b b' b'' h p q =
    let k : suc i ≡ i + 1 = omega arith in
    let e : take i xs ++ get_or xs i 0 ∷ [] ≡ take (i + 1) xs = sym (take-suc xs i 0 h) ∙ ap (λ (j : ℕ). take j xs) k in
    subst (λ (l : List ℕ). PutAll l n r b b'') e (put_behind (take i xs) (get_or xs i 0) n m r b b' b'' p q)
