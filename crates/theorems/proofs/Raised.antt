-- The tokens of a text are those of its plain form, positions mapped back, and so is the answer. Where a character begins in the plain form
-- is mapped to where it begins in the text (`back_at`), and one past it where it is no digit (`back-next`). Both scans go from head to head
-- over the bytes of as many characters, since the heads are alike; so they give the same tokens, each at its own place (`tokens_alike`),
-- and the same tokens get the same answer, positions mapped.
-- Assumes nothing.
use mathlib.Core.Bool.{Bool, true, false, cond}
use mathlib.Core.List.{List, [], ◌∷◌, ◌++◌, map}
use mathlib.Core.Path.{◌≡◌, refl, sym, ap, ap₂, subst, ◌∙◌}
use Prim.Native.Nat.{ℕ, zero, suc, ◌+◌, ◌-◌, ◌≤◌, ◌<◌, min}
use native.Mathlib.Decide.{dec_le}
use native.Mathlib.Nat.{zero-add, add-zero, suc-add, add-sub_cancel_left, min-eq_left, min-eq_right}
use native.Mathlib.Omega.{arith}
use lib.Dec.{T, ltb}
use lib.ListN.{get_or, length, length-append}
use borrow.Author.Tests.{lt-ltb, le-ltb, ltb-false, ltb-true}
use mir.Facts.{and_yes}
use Rattle.positions.proofs.Answers.{outcome, parsed-same}
use Rattle.positions.proofs.Folds.{folded_same}
use Rattle.positions.proofs.Pairs.{Pairs, none, more, Same, is_modifier, pairs_append}
use Rattle.positions.specs.Positions.{mapped, moved, moved_outcome}
use Rattle.intervals.specs.Interval.{elem}
use Rattle.lexer.specs.Lexer.{emit, head_of, illegal, is_digit, lex, size_of, tokens_of}
use Rattle.lexer.specs.declared.Head.{Head}
use Rattle.theorems.proofs.RaisedCharacters.{plain-blank, plain_other, plain-scalars, plain-short, plain-width}
use Rattle.theorems.proofs.RaisedHeads.{Begun, a_space, a_sign, a_word, a_number, a_digit, head_begun, heads_alike, resized}
use Rattle.theorems.proofs.RaisedRuns.{bytes, more_bytes}
use Rattle.theorems.specs.Raised.{RaisedAnswer, RaisedTokens, back, plain, plain_char, width}
use Rattle.token.specs.Token.{token, type_of}
use Rattle.token.specs.declared.Token.{Token}
use Rattle.reader.specs.Reader.{answer_to, is_blank, parsed, silent, tokens_in}
use Rattle.utf8.proofs.Laws.{encode-length, run_accepted}
use Rattle.utf8.specs.Utf8.{is_scalar, all_scalar, encode, encode_all}

-- the place of the first character, and of what stands behind it
back_start : (cs : List ℕ) → back cs 0 ≡ 0
back_start [] = refl
back_start (c ∷ cs) = rw (lt-ltb 0 (width (plain_char c)) (encode-length (plain_char c)))

back_past : (c : ℕ) (cs : List ℕ) (p : ℕ) → back (c ∷ cs) (width (plain_char c) + p) ≡ width c + back cs p
back_past c cs p =
    let w = width (plain_char c) in
    rw (le-ltb (w + p) w (omega arith)) (ap (λ q. width c + back cs q) (add-sub_cancel_left w p))

-- the place where a character begins
back_at : (n : ℕ) (cs : List ℕ) → back cs (bytes n (map plain_char cs)) ≡ bytes n cs
back_at zero cs = back_start cs
back_at (suc n) [] = refl
back_at (suc n) (c ∷ cs) =
    ap (back (c ∷ cs)) (more_bytes n (plain_char c) (map plain_char cs)) ∙ back_past c cs _ ∙ ap (λ p. width c + p) (back_at n cs)
    ∙ sym (more_bytes n c cs)

-- a place behind the last character
back-behind : (cs : List ℕ) (p : ℕ) → back cs (length (plain cs) + p) ≡ length (encode_all cs) + p
back-behind [] p = refl
back-behind (c ∷ cs) p =
    let l = length-append (encode (plain_char c)) (plain cs) in
    let m = length-append (encode c) (encode_all cs) in
    let e : length (plain (c ∷ cs)) + p ≡ width (plain_char c) + (length (plain cs) + p) = omega arith in
    ap (back (c ∷ cs)) e ∙ back_past c cs _ ∙ ap (λ n. width c + n) (back-behind cs p) ∙ omega arith

-- one byte past the beginning of a character that is no digit: its second byte, or the first of the next one
back-next : (n : ℕ) (cs : List ℕ) → is_digit (get_or cs n 0) ≡ false → back cs (bytes n (map plain_char cs) + 1) ≡ bytes n cs + 1
back-next zero [] e = refl
back-next zero (c ∷ cs) e = go (ltb 1 (width (plain_char c))) refl
  where
    go : (b : Bool) → ltb 1 (width (plain_char c)) ≡ b → cond b 1 (width c + back cs (1 - width (plain_char c))) ≡ 1
    go true h = refl
    go false h =
        let w : width (plain_char c) ≡ 1 = omega (arith, ltb-false 1 (width (plain_char c)) h, encode-length (plain_char c)) in
        let v : width c ≡ 1 = rw (plain_other c e) at w in
        rw (w, v, back_start cs)
back-next (suc n) [] e = refl
back-next (suc n) (c ∷ cs) e =
    let l = more_bytes n (plain_char c) (map plain_char cs) in
    let h : bytes (suc n) (map plain_char (c ∷ cs)) + 1 ≡ width (plain_char c) + (bytes n (map plain_char cs) + 1) = omega arith in
    ap (back (c ∷ cs)) h ∙ back_past c cs _ ∙ ap (λ p. width c + p) (back-next n cs e) ∙ omega (arith, more_bytes n c cs)

-- a smaller position stays the smaller
back-order : (cs : List ℕ) (p q : ℕ) → p ≤ q → back cs p ≤ back cs q
back-order [] p q h = h
back-order (c ∷ cs) p q h =
    go (ltb p w) (ltb q w) refl refl (back-order cs (p - w) (q - w) (omega arith))
  where
    w : ℕ
    w = width (plain_char c)

    go : (a b : Bool) → ltb p w ≡ a → ltb q w ≡ b → back cs (p - w) ≤ back cs (q - w)
        → cond a p (width c + back cs (p - w)) ≤ cond b q (width c + back cs (q - w))
    go true true d e i = h
    go true false d e i = omega (arith, ltb-true p w d, plain-width c)
    go false true d e i = absurd (omega (arith, ltb-false p w d, ltb-true q w e))
    go false false d e i = omega arith

-- g maps where each character begins, with p as the first place in the plain form and q in the text, and one past it where it is no digit
record Agree (g : ℕ → ℕ) (p q : ℕ) (cs : List ℕ) : Type 0 where
  starts : (n : ℕ) → g (p + bytes n (map plain_char cs)) ≡ q + bytes n cs
  nexts : (n : ℕ) → is_digit (get_or cs n 0) ≡ false → g (p + bytes n (map plain_char cs) + 1) ≡ q + bytes n cs + 1

agree_past : (g : ℕ → ℕ) (p q c : ℕ) (cs : List ℕ) → Agree g p q (c ∷ cs) → Agree g (p + width (plain_char c)) (q + width c) cs
agree_past g p q c cs a = record { starts = starts; nexts = nexts }
  where
    starts : (n : ℕ) → g (p + width (plain_char c) + bytes n (map plain_char cs)) ≡ q + width c + bytes n cs
    starts n =
        let l = more_bytes n (plain_char c) (map plain_char cs) in
        let e : p + width (plain_char c) + bytes n (map plain_char cs) ≡ p + bytes (suc n) (map plain_char (c ∷ cs)) = omega arith in
        ap g e ∙ a.starts (suc n) ∙ omega (arith, more_bytes n c cs)

    nexts : (n : ℕ) → is_digit (get_or cs n 0) ≡ false
        → g (p + width (plain_char c) + bytes n (map plain_char cs) + 1) ≡ q + width c + bytes n cs + 1
    nexts n d =
        let l = more_bytes n (plain_char c) (map plain_char cs) in
        let e : p + width (plain_char c) + bytes n (map plain_char cs) + 1 ≡ p + bytes (suc n) (map plain_char (c ∷ cs)) + 1 = omega arith in
        ap g e ∙ a.nexts (suc n) d ∙ omega (arith, more_bytes n c cs)

-- the scan over bytes that it skips, and at a head
lex_past : (u r : List ℕ) (k : ℕ) (held : List Token) (p : ℕ) → lex (length u + k) held p (u ++ r) ≡ lex k held (p + length u) r
unfolding lex
lex_past [] r k held p = rw (zero-add, add-zero)
lex_past (b ∷ u) r k held p =
    let e : p + 1 + length u ≡ p + suc (length u) = omega arith in
    rw suc-add (lex_past u r k held (p + 1) ∙ ap (λ q. lex k held q r) e)

lex_head : (s : List ℕ) (held : List Token) (p : ℕ) → 0 < length s → lex 0 held p s ≡ emit (head_of s) held p (λ k h. lex (suc k) h p s)
unfolding lex
lex_head [] held p l = absurd (omega arith)
lex_head (b ∷ s) held p l = refl

-- tokens of the plain form and of the text: the same, positions mapped by g
abbrev Alike : (ℕ → ℕ) → List Token → List Token → Type 0
Alike g = Pairs (Same g (λ p. p))

-- What alike heads give, where what comes after them is alike: `other` goes on in the plain form, `own` in the text. d tells whether a
-- digit stands first; where none does, g maps one past the place too.
module _ (g : ℕ → ℕ) (other own : ℕ → List Token → List Token) (p q : ℕ) (start : g p ≡ q) (d : Bool)
    (next : d ≡ false → g (p + 1) ≡ q + 1) where
  same-token : (k l : ℕ) → (T (is_modifier (type_of k)) → g (p + 1) ≡ q + 1) → Same g (λ r. r) (token k p l) (token k q l)
  same-token k l h = record { kind = refl; len = refl; pos = start; next = h }

  -- behind a head, whose first byte is gone
  after : {held kept : List Token} (n m : ℕ) → 1 ≤ n → 1 ≤ m → Alike g (other m held) (own n kept)
      → Alike g (other (suc (m - 1)) held) (own (suc (n - 1)) kept)
  after n m l l' e = let a : suc (n - 1) ≡ n = omega arith in let b : suc (m - 1) ≡ m = omega arith in rw (a, b) e

  emit_alike : {held kept : List Token} {x : Head} (m : ℕ) → 1 ≤ size_of x → 1 ≤ size_of (resized x m) → Begun d x → Alike g held kept
      → ((h k : List Token) → Alike g h k → Alike g (other (size_of (resized x m)) h) (own (size_of x) k))
      → Alike g (emit (resized x m) held p (λ k h. other (suc k) h)) (emit x kept q (λ k h. own (suc k) h))
  unfolding type_of
  emit_alike m l l' a_space a f = pairs_append a (f [] [] none)
  emit_alike m l l' (a_sign {k = k} {n = n} b) a f = pairs_append a (more (same-token k 1 (λ h. next b)) (after n n l l' (f [] [] none)))
  emit_alike m l l' (a_word {k = k} {n = n} b) a f = pairs_append a (more (same-token k n (λ h. next b)) (after n n l l' (f [] [] none)))
  emit_alike m l l' (a_number {k = k} {l = t} {n = n} b) a f = more (same-token k t (λ h. absurd (subst T b h))) (after n m l l' (f _ _ a))
  emit_alike m l l' (a_digit {n = n}) a f = after n m l l' (f _ _ (more (same-token illegal 1 (λ h. absurd h)) a))

-- the same tokens, after the first n characters of a text and of its plain form
abbrev Onward : (ℕ → ℕ) → ℕ → ℕ → List ℕ → ℕ → Type 0
Onward g p q cs n =
    (held kept : List Token) → Alike g held kept
    → Alike g (lex (bytes n (map plain_char cs)) held p (plain cs)) (lex (bytes n cs) kept q (encode_all cs))

module _ (g : ℕ → ℕ) (p q c : ℕ) (cs : List ℕ) where
  -- one character is skipped
  past : (n : ℕ) → Onward g (p + width (plain_char c)) (q + width c) cs n → Onward g p q (c ∷ cs) (suc n)
  past n e held kept a =
      rw (
        more_bytes n c cs,
        more_bytes n (plain_char c) (map plain_char cs),
        lex_past (encode c) (encode_all cs) (bytes n cs) kept q,
        lex_past (encode (plain_char c)) (plain cs) (bytes n (map plain_char cs)) held p,
      ) (e held kept a)

  -- one character is skipped, or a head stands there
  onward : T (all_scalar (c ∷ cs)) → Agree g p q (c ∷ cs) → ((n : ℕ) → Onward g (p + width (plain_char c)) (q + width c) cs n)
      → (n : ℕ) → Onward g p q (c ∷ cs) n
  onward t a f (suc n) held kept e = past n (f n) held kept e
  onward t a f zero held kept e =
      let s = encode_all (c ∷ cs) in
      let ps = map plain_char (c ∷ cs) in
      let heads = heads_alike c cs t in
      let n = heads.more in
      let m = size_of (head_of (encode_all ps)) in
      let size : size_of (resized (head_of s) m) ≡ bytes (suc n) ps = sym (ap size_of heads.same) ∙ heads.plain_size in
      let w = encode-length c in
      let w' = encode-length (plain_char c) in
      rw (
        lex_head s kept q (omega (arith, length-append (encode c) (encode_all cs))),
        lex_head (encode_all ps) held p (omega (arith, length-append (encode (plain_char c)) (plain cs))),
        heads.same,
      )
      (emit_alike g (λ k h. lex k h p (encode_all ps)) (λ k h. lex k h q s) p q (rw (add-zero p, add-zero q) at (a.starts 0)) (is_digit c)
      (rw (add-zero p, add-zero q) at (a.nexts 0))
      m
      (omega (arith, heads.own_size, more_bytes n c cs))
      (omega (arith, size, more_bytes n (plain_char c) (map plain_char cs)))
      (head_begun c cs t) e
      (λ h k b. rw (size, heads.own_size) (past n (f n) h k b)))

-- from any place on
tokens_alike : (g : ℕ → ℕ) (p q : ℕ) (cs : List ℕ) → T (all_scalar cs) → Agree g p q cs → (n : ℕ) → Onward g p q cs n
unfolding lex
tokens_alike g p q [] t a n held kept e = e
tokens_alike g p q (c ∷ cs) t a n held kept e =
    let u = (and_yes (is_scalar c) (all_scalar cs) t).1 in
    onward g p q c cs t a (tokens_alike g (p + width (plain_char c)) (q + width c) cs u (agree_past g p q c cs a)) n held kept e

-- the whole text, with End
all_alike : (cs : List ℕ) → T (all_scalar cs) → Alike (back cs) (tokens_of (plain cs)) (tokens_of (encode_all cs))
unfolding type_of
all_alike cs t =
    let a : Agree (back cs) 0 0 cs =
    record { starts = λ n. simp zero-add (back_at n cs); nexts = λ n d. simp zero-add (back-next n cs d) } in
    pairs_append (tokens_alike (back cs) 0 0 cs t a 0 [] [] none)
    (more (record { kind = refl; len = refl; pos = back-behind cs 1; next = λ h. absurd h }) none)

mapped-is : (g : ℕ → ℕ) {ts us : List Token} → Alike g ts us → us ≡ map (mapped g) ts
mapped-is g none = refl
mapped-is g (more {a = t} {b = u} s r) = ap₂ ◌∷◌ (rw (s.kind, s.pos, s.len)) (mapped-is g r)

pub raised_tokens_lem : RaisedTokens
raised_tokens_lem t w = mapped-is (back w.chars) (rw w.encoded at (all_alike w.chars w.scalars))

-- no position is mapped
unmoved : (l : List ℕ) → moved (λ p. p) l ≡ l
unmoved [] = refl
unmoved (k ∷ []) = refl
unmoved (k ∷ a ∷ []) = refl
unmoved (k ∷ a ∷ b ∷ []) = refl
unmoved (k ∷ a ∷ b ∷ c ∷ l) = ap₂ (λ x m. k ∷ x ∷ b ∷ c ∷ m) (go (elem k (3 ∷ 4 ∷ 9 ∷ 10 ∷ []))) (unmoved l)
  where
    go : (d : Bool) → cond d a a ≡ a
    go true = refl
    go false = refl

-- of two positions the smaller one is mapped to the smaller
back_least : (cs : List ℕ) (a b p q : ℕ) → back cs a ≡ p → back cs b ≡ q → back cs (min a b) ≡ min p q
back_least cs a b p q d e = elim (dec_le a b) [
  | yes h ↦ ap (back cs) (min-eq_left h) ∙ d ∙ sym (min-eq_left (omega (arith, back-order cs a b h)))
  | no h ↦ ap (back cs) (min-eq_right (omega arith)) ∙ e ∙ sym (min-eq_right (omega (arith, back-order cs b a (omega arith))))
]

-- the tokens that the parser reads are alike too, and so are the answers
parsed_alike : (cs : List ℕ) → T (all_scalar cs) → parsed (tokens_in (encode_all cs)) ≡ moved_outcome (back cs) (parsed (tokens_in (plain cs)))
parsed_alike cs t =
    let o = parsed (tokens_in (encode_all cs)) in
    ap (λ l. outcome o.number o.count o.four l) (sym (unmoved o.errs))
    ∙ sym (parsed-same (back cs) (λ p. p) (back_start cs) (folded_same (back cs) (λ p. p) (back_least cs) (all_alike cs t)))

answers_alike : (cs : List ℕ) → T (all_scalar cs) → length (encode_all cs) ≤ 256
    → answer_to (encode_all cs) ≡ moved_outcome (back cs) (answer_to (plain cs))
unfolding answer_to
answers_alike cs t h =
    let k = plain-short cs in
    rw (
      le-ltb 256 (length (encode_all cs)) h,
      le-ltb 256 (length (plain cs)) (omega arith),
      run_accepted cs t,
      run_accepted (map plain_char cs) (plain-scalars cs t),
      plain-blank cs,
    )
    (go (is_blank (encode_all cs)))
  where
    go : (b : Bool)
        → cond b silent (parsed (tokens_in (encode_all cs))) ≡ moved_outcome (back cs) (cond b silent (parsed (tokens_in (plain cs))))
    go true = refl
    go false = parsed_alike cs t

pub raised_answer_lem : RaisedAnswer
raised_answer_lem t w = rw w.encoded at (answers_alike w.chars w.scalars)
