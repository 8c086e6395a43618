-- How many tokens a text has, before folding and after.
-- Assumes nothing.
use mathlib.Core.Bool.{Bool, true, false, ◌&&◌, cond}
use mathlib.Core.List.{List, [], ◌∷◌, ◌++◌}
use Prim.Native.Nat.{ℕ, zero, suc, ◌+◌, ◌-◌, ◌≤◌}
use native.Mathlib.Omega.{arith}
use lib.Dec.{eqb}
use lib.ListN.{length, length-append}
use Rattle.folding.specs.Folding.{is, seven, dim, dim7, maj, maj7, is_maj, maj7_with, concat, count, paired, join, taken, fold_on, fold7, pre_process}
use Rattle.lexer.specs.Lexer.{head_of, emit, lex, end_of, illegal, tokens_of}
use Rattle.lexer.specs.declared.Head.TheVariants as head
use Rattle.lexer.specs.declared.Head.{Head}
use Rattle.reader.specs.Reader.{tokens_in}
use Rattle.token.specs.Token.{token}
use Rattle.token.specs.declared.Token.{Token}

-- a head is one token at most, or holds one
emit-few : (h : Head) (held : List Token) (p m : ℕ) (more : ℕ → List Token → List Token)
    → ((k : ℕ) (g : List Token) → length (more k g) ≤ length g + m)
    → length (emit h held p more) ≤ length held + suc m
emit-few head.Space held p m more f = omega (arith, length-append held (more 0 []), f 0 [])
emit-few (head.Sign k n) held p m more f = omega (arith, length-append held (token k p 1 ∷ more (n - 1) []), f (n - 1) [])
emit-few (head.Word k n) held p m more f = omega (arith, length-append held (token k p n ∷ more (n - 1) []), f (n - 1) [])
emit-few (head.Number k l n) held p m more f = omega (arith, f (n - 1) held)
emit-few (head.Digit n) held p m more f = omega (arith, f (n - 1) (token illegal p 1 ∷ held))

lex-few : (s : List ℕ) (k : ℕ) (held : List Token) (p : ℕ) → length (lex k held p s) ≤ length held + length s
unfolding lex
lex-few [] k held p = omega arith
lex-few (b ∷ s) zero held p = emit-few (head_of (b ∷ s)) held p (length s) (λ k g. lex k g (p + 1) s) (λ k g. lex-few s k g (p + 1))
lex-few (b ∷ s) (suc k) held p = omega (arith, lex-few s k held (p + 1))

-- a token for each byte at most, and End
tokens_few : (s : List ℕ) → length (tokens_of s) ≤ length s + 1
tokens_few s = omega (arith, length-append (lex 0 [] 0 s) (end_of s ∷ []), lex-few s 0 [] 0)

concat-few : (ts : List Token) → length (concat ts) ≤ length ts
unfolding concat
concat-few [] = omega arith
concat-few (x ∷ []) = omega arith
concat-few (x ∷ y ∷ ts) = go (is_maj x.kind && is seven y) (concat-few ts) (concat-few (y ∷ ts))
  where
    go : (b : Bool) → length (concat ts) ≤ length ts → length (concat (y ∷ ts)) ≤ suc (length ts)
        → length (cond b (maj7_with x y ∷ concat ts) (x ∷ concat (y ∷ ts))) ≤ suc (suc (length ts))
    go true f g = omega (arith, f)
    go false f g = omega (arith, g)

join-few : (k r : ℕ) (t : Token) (xs : List Token) → length (join k r t xs) ≤ suc (length xs)
unfolding join
join-few k r t [] = omega arith
join-few k r t (x ∷ xs) = go (eqb (count k xs) 0 && is k x) (join-few k r t xs)
  where
    go : (b : Bool) → length (join k r t xs) ≤ suc (length xs)
        → length (cond b (paired r x t ∷ xs) (x ∷ join k r t xs)) ≤ suc (suc (length xs))
    go true f = omega arith
    go false f = omega (arith, f)

taken-few : (m r : ℕ) (out : List Token) (t : Token) → length (taken m r out t) ≤ suc (length out)
taken-few m r out t = go (is m t) (is seven t)
  where
    go : (a b : Bool) → length (cond a (join seven r t out) (cond b (join m r t out) (out ++ (t ∷ [])))) ≤ suc (length out)
    go true b = join-few seven r t out
    go false true = join-few m r t out
    go false false = omega (arith, length-append out (t ∷ []))

fold_few : (m r : ℕ) (out ts : List Token) → length (fold_on m r out ts) ≤ length out + length ts
unfolding fold_on
fold_few m r out [] = omega arith
fold_few m r out (t ∷ ts) = omega (arith, fold_few m r (taken m r out t) ts, taken-few m r out t)

-- folding makes them no more
pre_process-few : (ts : List Token) → length (pre_process ts) ≤ length ts
pre_process-few ts = omega (arith, fold_few maj maj7 [] (fold7 dim dim7 (concat ts)), fold_few dim dim7 [] (concat ts), concat-few ts)

-- so a text of at most 256 bytes has at most 257
pub tokens_most : (text : List ℕ) → length text ≤ 256 → length (tokens_in text) ≤ 257
tokens_most text h = omega (arith, h, pre_process-few (tokens_of text), tokens_few text)
