-- The tokens of a text lie within it: a head has no more bytes than are left, so that no position passes the text's length, and End stands
-- one behind it.
-- Assumes nothing.
use mathlib.Core.List.{List, [], ◌∷◌}
use mathlib.Core.Path.{◌≡◌, sym, ap, ◌∙◌, subst}
use Prim.Native.Nat.{ℕ, zero, suc, ◌+◌, ◌-◌, ◌≤◌, ◌<◌}
use native.Mathlib.Omega.{arith}
use lib.ListN.{length, take}
use lib.Seq.{get_or-take}
use Rattle.token.specs.Token.{token, at, Ranged}
use Rattle.token.specs.declared.Token.{Token}
use Rattle.lexer.specs.Lexer.{head_of, emit, lex, end_of, tokens_of}
use Rattle.lexer.specs.State.{Written, Scanned}
use Rattle.lexer.specs.declared.Head.TheVariants as head
use Rattle.lexer.specs.declared.Head.{Head}
use Rattle.lexer.proofs.Heads.{Sized, head_sized}
use Rattle.token.proofs.Ranges.{ranged_append, ranged-at}

module _ (q l : ℕ) where
  -- a head at p, of a text that ends at q or before
  emit-ranged : (h : Head) (s : List ℕ) (held : List Token) (p : ℕ) (more : ℕ → List Token → List Token) → Sized h s → p + length s ≤ q → length s ≤ l
      → Ranged q l held → ((k : ℕ) (g : List Token) → Ranged q l g → Ranged q l (more k g)) → Ranged q l (emit h held p more)
  emit-ranged head.Space s held p more z b w r f = ranged_append q l held (more 0 []) r (f 0 [] tt)
  emit-ranged (head.Sign k n) s held p more z b w r f =
      ranged_append q l held _ r (omega (arith, z.within), omega (arith, z.some, z.within), f (n - 1) [] tt)
  emit-ranged (head.Word k n) s held p more z b w r f =
      ranged_append q l held _ r (omega (arith, z.within), omega (arith, z.within), f (n - 1) [] tt)
  emit-ranged (head.Number k t n) s held p more z b w r f = (omega arith, omega (arith, z.short, z.within), f (n - 1) held r)
  emit-ranged (head.Digit n) s held p more z b w r f = f (n - 1) (token 21 p 1 ∷ held) (omega arith, omega (arith, z.short, z.within), r)

  lex-ranged : (s : List ℕ) (k : ℕ) (held : List Token) (p : ℕ) → p + length s ≤ q → length s ≤ l → Ranged q l held → Ranged q l (lex k held p s)
  unfolding lex
  lex-ranged [] k held p b w r = r
  lex-ranged (x ∷ s) zero held p b w r =
      emit-ranged (head_of (x ∷ s)) (x ∷ s) held p (λ k g. lex k g (p + 1) s) (head_sized (x ∷ s) (omega arith)) b w r
      (λ k g h. lex-ranged s k g (p + 1) (omega arith) (omega arith) h)
  lex-ranged (x ∷ s) (suc k) held p b w r = lex-ranged s k held (p + 1) (omega arith) (omega arith) r

pub tokens_ranged : (s : List ℕ) → Ranged (length s + 1) (length s) (tokens_of s)
tokens_ranged s =
    ranged_append (length s + 1) (length s) (lex 0 [] 0 s) (end_of s ∷ []) (lex-ranged (length s + 1) (length s) s 0 [] 0 (omega arith) (omega arith) tt) (omega arith, omega arith, tt)

-- what was written, with its ranges
pub scanned : {text : List ℕ} {n : ℕ} {R R' : List Token} → Written (tokens_of text) n R R' → n ≤ length text + 1 → Scanned text n R R'
scanned {text} w h = record { written = w; few = h; ranged = subst (Ranged (length text + 1) (length text)) (sym w.list) (tokens_ranged text) }

-- each token that was written is no longer than the text
pub scanned_short : {text : List ℕ} {n : ℕ} {R R' : List Token} → Scanned text n R R' → (j : ℕ) → j < n → (at R' j).len ≤ length text
scanned_short {text} {n} {R} {R'} s j h =
    let c : length (take n R') ≡ n = ap length s.written.list ∙ sym s.written.count in
    subst (λ (t : Token). t.len ≤ length text) (get_or-take n R' j (token 0 0 0) h) (ranged-at (length text + 1) (length text) (take n R') s.ranged j (omega arith)).1
