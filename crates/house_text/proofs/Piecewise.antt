-- Each piece of the house spelling behind its head, by itself: how it is cut into tokens, folded and parsed, whatever stands before and
-- behind it. The bytes of a piece are closed and the rest is a variable, so that the definitions compute up to the rest; only where the
-- definitions look past the piece's end (`concat`) or leave an empty list behind (`walk`) a law is called.
-- Assumes nothing.
use mathlib.Core.Bool.{Bool, true, false, not, ◌&&◌, ◌||◌, cond, true≢false}
use mathlib.Core.List.{List, [], ◌∷◌, ◌++◌, append_assoc, append-nil}
use mathlib.Core.Path.{◌≡◌, refl, sym, ap, ◌∙◌}
use Prim.Native.Nat.{ℕ, ◌+◌}
use native.Mathlib.Omega.{arith}
use lib.IntN.{pos}
use Rattle.lookahead.specs.Next.{is_sign, sign_in}
use Rattle.intervals.specs.Interval.{Set, minor_second, major_second, major_third, perfect_fourth, augmented_fourth, diminished_fifth, perfect_fifth, augmented_fifth, minor_sixth, major_sixth, diminished_seventh, minor_seventh, major_seventh, flat_ninth, ninth, sharp_ninth, eleventh, sharp_eleventh, flat_thirteenth, thirteenth}
use Rattle.note.specs.declared.RootModifier.TheVariants.{Natural}
use Rattle.expression.specs.declared.expression.Exp.TheVariants.{Sus, Extension, Add, Omit}
use Rattle.expression.specs.declared.expression.Exp.{Exp}
use Rattle.folding.specs.Folding.{concat, count, dim, is, is_maj, maj, seven, maj7_with}
use Rattle.house_parts.specs.House.{is_flat2, is_second, is_sharp4, is_sus, omit3, omit5}
use Rattle.house_parts.specs.declared.kind.SusKind.{SusKind}
use Rattle.lexer.specs.Lexer.{digit_of, head_of, lex, sign_of}
use Rattle.lexer.specs.Text.{ascii}
use Rattle.lexer.specs.Words.{by_ends, is_letter, run_end, word_to, words}
use Rattle.expression.specs.declared.parser_error.ParserError.{ParserError}
use Rattle.parser.specs.Parser.{Parsing, itself, last_six, next_at, walk}
use Rattle.step.specs.declared.context.Context.TheVariants as context
use Rattle.token.specs.Token.{type_of}
use Rattle.token.specs.declared.Token.{Token}
use Rattle.utf8.specs.Utf8.{bits, char_of, encode, is_scalar}

-- `piece c t make i spot`: the text t, if c. Its expression is `make (spot q)` where t begins at q; `parts` calls that place p i
pub data Piece : Type 0 where
  piece : Bool → List ℕ → (ℕ → Exp) → ℕ → (ℕ → ℕ) → Piece

-- a place some bytes on, by single steps as the lexer goes
abbrev pub after : List ℕ → ℕ → ℕ
after [] q = q
after (b ∷ t) q = after t (q + 1)

-- the parts behind the head and before the bass
abbrev pub pieces : Set → SusKind → List Piece
pieces n k =
    piece (n diminished_fifth && not (n diminished_seventh)) (ascii ",b5") (Extension diminished_fifth) 7 (λ q. q + 1)
    ∷ piece (n augmented_fifth) (ascii ",#5") (Extension augmented_fifth) 9 (λ q. q + 1)
    ∷ piece (n minor_seventh) (ascii ",7") (Extension minor_seventh) 13 (λ q. q + 1)
    ∷ piece (is_flat2 k) (ascii ",susb2") (λ p. Sus minor_second) 23 (λ q. 0)
    ∷ piece (is_second k) (ascii ",sus2") (λ p. Sus major_second) 23 (λ q. 0)
    ∷ piece (is_sharp4 k) (ascii ",sus#4") (λ p. Sus augmented_fourth) 23 (λ q. 0)
    ∷ piece (omit3 n k) (ascii ",omit3") (Omit major_third) 0 (λ q. q + 1 + 4)
    ∷ piece (omit5 n) (ascii ",omit5") (Omit perfect_fifth) 1 (λ q. q + 1 + 4)
    ∷ piece (n major_second) (ascii ",add2") (Add major_second) 2 (after (ascii ",add"))
    ∷ piece (n major_third && (is_sus k || n diminished_seventh)) (ascii ",add3") (Add major_third) 4 (after (ascii ",add"))
    ∷ piece (n perfect_fourth) (ascii ",add4") (Add perfect_fourth) 5 (after (ascii ",add"))
    ∷ piece (n minor_sixth) (ascii ",addb6") (Add minor_sixth) 10 (after (ascii ",addb"))
    ∷ piece (n major_sixth) (ascii ",add6") (Add major_sixth) 11 (after (ascii ",add"))
    ∷ piece (n major_seventh) (ascii ",addMaj7") (Add major_seventh) 14 (λ q. q + 1 + 3)
    ∷ piece (n flat_ninth && not (is_flat2 k)) (ascii ",addb9") (Add flat_ninth) 16 (after (ascii ",addb"))
    ∷ piece (n ninth && not (is_second k)) (ascii ",add9") (Add ninth) 17 (after (ascii ",add"))
    ∷ piece (n sharp_ninth) (ascii ",add#9") (Add sharp_ninth) 18 (after (ascii ",add#"))
    ∷ piece (n eleventh) (ascii ",add11") (Add eleventh) 19 (after (ascii ",add"))
    ∷ piece (n sharp_eleventh && not (is_sharp4 k)) (ascii ",add#11") (Add sharp_eleventh) 20 (after (ascii ",add#"))
    ∷ piece (n flat_thirteenth) (ascii ",addb13") (Add flat_thirteenth) 21 (after (ascii ",addb"))
    ∷ piece (n thirteenth) (ascii ",add13") (Add thirteenth) 22 (after (ascii ",add"))
    ∷ []

-- a text that goes on with no letter and no digit
pub data Border : List ℕ → Type 0 where
  at-end : Border []
  at_comma : (r : List ℕ) → Border (44 ∷ r)
  at_slash : (r : List ℕ) → Border (47 ∷ r)

-- by what a text goes on with
pub by_border : (X : List ℕ → Type 0) → X [] → ((r : List ℕ) → X (44 ∷ r)) → ((r : List ℕ) → X (47 ∷ r)) → (r : List ℕ) → Border r → X r
by_border X e c s _ at-end = e
by_border X e c s _ (at_comma r) = c r
by_border X e c s _ (at_slash r) = s r

-- the text t at q is cut into tokens without regard to the rest r
abbrev pub Apart : ℕ → List ℕ → List ℕ → Type 0
Apart q t r = lex 0 [] q (t ++ r) ≡ lex 0 [] q t ++ lex 0 [] (after t q) r

-- what has been found at a border: expressions only
abbrev pub found : List Exp → Parsing ParserError
found xs = record { skip = 0; count = pos 0; context = context.None; errs = []; exps = xs }

-- the tokens of a text that begins at q, before folding
abbrev pub toks : ℕ → List ℕ → List Token
toks q t = concat (lex 0 [] q t)

-- no sign comes first
abbrev pub Unsigned : List Token → Type 0
Unsigned ts = (is_sign (next_at ts 0) ≡ false) × (sign_in (next_at ts 0) ≡ Natural)

-- is the last token no Maj, so that no 7 behind it is taken in?
abbrev pub plain_end : List Token → Bool
plain_end [] = true
plain_end (x ∷ []) = not (is_maj x.kind)
plain_end (x ∷ y ∷ ts) = plain_end (y ∷ ts)

-- what ends plainly does so without its first token
plain-rest : (x : Token) (ts : List Token) → plain_end (x ∷ ts) ≡ true → plain_end ts ≡ true
plain-rest x [] h = refl
plain-rest x (y ∷ ts) h = h

-- a choice between two lists that both end in c
both_end : (m : Bool) (a b a' b' c : List Token) → a ≡ a' ++ c → b ≡ b' ++ c → cond m a b ≡ cond m a' b' ++ c
both_end true a b a' b' c e f = e
both_end false a b a' b' c e f = f

-- a choice that a token makes which is no Maj
not_taken : (m s : Bool) (a b : List Token) → not m ≡ true → cond (m && s) a b ≡ b
not_taken true true a b h = absurd (true≢false (sym h))
not_taken true false a b h = refl
not_taken false s a b h = refl

-- `concat` goes by parts where the first ends plainly
pub concat_in_two : (a b : List Token) → plain_end a ≡ true → concat (a ++ b) ≡ concat a ++ concat b
unfolding concat
concat_in_two [] b h = refl
concat_in_two (x ∷ []) [] h = refl
concat_in_two (x ∷ []) (y ∷ b) h = not_taken (is_maj x.kind) (is seven y) _ _ h
concat_in_two (x ∷ y ∷ ts) b h =
    both_end (is_maj x.kind && is seven y) _ _ _ _ (concat b)
    (ap (λ (l : List Token). maj7_with x y ∷ l) (concat_in_two ts b (plain-rest y ts h)))
    (ap (λ (l : List Token). x ∷ l) (concat_in_two (y ∷ ts) b h))

-- a text that is cut by itself and ends plainly is folded by `concat` by itself
pub cut : (q : ℕ) (t r : List ℕ) (z : List Token) → Apart q t r → plain_end (lex 0 [] q t) ≡ true → concat (lex 0 [] q (t ++ r) ++ z) ≡ toks q t ++ concat (lex 0 [] (after t q) r ++ z)
cut q t r z h e =
    ap (λ (l : List Token). concat (l ++ z)) h
    ∙ ap concat (append_assoc (lex 0 [] q t) (lex 0 [] (after t q) r) z)
    ∙ concat_in_two (lex 0 [] q t) (lex 0 [] (after t q) r ++ z) e

-- two lists without a kind are together without it
pub none_in_two : (k : ℕ) (a b : List Token) → count k a ≡ 0 → count k b ≡ 0 → count k (a ++ b) ≡ 0
unfolding count
none_in_two k [] b h g = g
none_in_two k (x ∷ a) b h g = let e : count k (a ++ b) ≡ 0 = none_in_two k a b (omega arith) g in omega arith

-- what is asked of the text t of the expression e
pub record Good (t : List ℕ) (e : ℕ → Exp) : Type 0 where
  pub border : (r : List ℕ) → Border (t ++ r)
  pub lexed : (q : ℕ) (r : List ℕ) → Border r → Apart q t r
  pub plain : (q : ℕ) → plain_end (lex 0 [] q t) ≡ true
  pub no_dim : (q : ℕ) → count dim (toks q t) ≡ 0
  pub no_maj : (q : ℕ) → count maj (toks q t) ≡ 0
  pub unsigned : (q : ℕ) (z : List Token) → Unsigned (toks q t ++ z)
  pub parsed : (q : ℕ) (xs : List Exp) (z : List Token) → walk itself [] (found xs) (toks q t ++ z) ≡ walk itself [] (found (xs ++ (e q ∷ []))) z

-- all pieces are good
abbrev pub Goods : List Piece → Type 0
Goods [] = Unit {0}
Goods (piece c t e i f ∷ gs) = Good t (λ q. e (f q)) × Goods gs

-- the comma gains nothing
once : (xs : List Exp) (e : Exp) (z : List Token) → walk itself [] (found ((xs ++ []) ++ (e ∷ []))) z ≡ walk itself [] (found (xs ++ (e ∷ []))) z
once xs e z = ap (λ (l : List Exp). walk itself [] (found (l ++ (e ∷ []))) z) (append-nil xs)

-- nor does Sus itself
twice : (xs : List Exp) (e : Exp) (z : List Token) → walk itself [] (found (((xs ++ []) ++ []) ++ (e ∷ []))) z ≡ walk itself [] (found (xs ++ (e ∷ []))) z
twice xs e z = ap (λ (l : List Exp). walk itself [] (found (l ++ (e ∷ []))) z) (append-nil (xs ++ []) ∙ append-nil xs)

-- one after the other, without brackets
infixr 5 ◌and◌
◌and◌ : {P Q : Type 0} → P → Q → P × Q
p and q = (p, q)

-- each piece is good
pub goods : (n : Set) (k : SusKind) → Goods (pieces n k)
unfolding head_of digit_of is_letter lex sign_of by_ends run_end word_to words concat count is_maj last_six walk type_of bits char_of encode is_scalar
goods n k =
    record { border = λ r. at_comma _; lexed = λ q. by_border (Apart q (ascii ",b5")) refl (λ r. refl) (λ r. refl); plain = λ q. refl; no_dim = λ q. refl; no_maj = λ q. refl; unsigned = λ q z. (refl, refl); parsed = λ q xs z. once xs _ z }
    and record { border = λ r. at_comma _; lexed = λ q. by_border (Apart q (ascii ",#5")) refl (λ r. refl) (λ r. refl); plain = λ q. refl; no_dim = λ q. refl; no_maj = λ q. refl; unsigned = λ q z. (refl, refl); parsed = λ q xs z. once xs _ z }
    and record { border = λ r. at_comma _; lexed = λ q. by_border (Apart q (ascii ",7")) refl (λ r. refl) (λ r. refl); plain = λ q. refl; no_dim = λ q. refl; no_maj = λ q. refl; unsigned = λ q z. (refl, refl); parsed = λ q xs z. once xs _ z }
    and record { border = λ r. at_comma _; lexed = λ q. by_border (Apart q (ascii ",susb2")) refl (λ r. refl) (λ r. refl); plain = λ q. refl; no_dim = λ q. refl; no_maj = λ q. refl; unsigned = λ q z. (refl, refl); parsed = λ q xs z. twice xs _ z }
    and record { border = λ r. at_comma _; lexed = λ q. by_border (Apart q (ascii ",sus2")) refl (λ r. refl) (λ r. refl); plain = λ q. refl; no_dim = λ q. refl; no_maj = λ q. refl; unsigned = λ q z. (refl, refl); parsed = λ q xs z. twice xs _ z }
    and record { border = λ r. at_comma _; lexed = λ q. by_border (Apart q (ascii ",sus#4")) refl (λ r. refl) (λ r. refl); plain = λ q. refl; no_dim = λ q. refl; no_maj = λ q. refl; unsigned = λ q z. (refl, refl); parsed = λ q xs z. twice xs _ z }
    and record { border = λ r. at_comma _; lexed = λ q. by_border (Apart q (ascii ",omit3")) refl (λ r. refl) (λ r. refl); plain = λ q. refl; no_dim = λ q. refl; no_maj = λ q. refl; unsigned = λ q z. (refl, refl); parsed = λ q xs z. once xs _ z }
    and record { border = λ r. at_comma _; lexed = λ q. by_border (Apart q (ascii ",omit5")) refl (λ r. refl) (λ r. refl); plain = λ q. refl; no_dim = λ q. refl; no_maj = λ q. refl; unsigned = λ q z. (refl, refl); parsed = λ q xs z. once xs _ z }
    and record { border = λ r. at_comma _; lexed = λ q. by_border (Apart q (ascii ",add2")) refl (λ r. refl) (λ r. refl); plain = λ q. refl; no_dim = λ q. refl; no_maj = λ q. refl; unsigned = λ q z. (refl, refl); parsed = λ q xs z. once xs _ z }
    and record { border = λ r. at_comma _; lexed = λ q. by_border (Apart q (ascii ",add3")) refl (λ r. refl) (λ r. refl); plain = λ q. refl; no_dim = λ q. refl; no_maj = λ q. refl; unsigned = λ q z. (refl, refl); parsed = λ q xs z. once xs _ z }
    and record { border = λ r. at_comma _; lexed = λ q. by_border (Apart q (ascii ",add4")) refl (λ r. refl) (λ r. refl); plain = λ q. refl; no_dim = λ q. refl; no_maj = λ q. refl; unsigned = λ q z. (refl, refl); parsed = λ q xs z. once xs _ z }
    and record { border = λ r. at_comma _; lexed = λ q. by_border (Apart q (ascii ",addb6")) refl (λ r. refl) (λ r. refl); plain = λ q. refl; no_dim = λ q. refl; no_maj = λ q. refl; unsigned = λ q z. (refl, refl); parsed = λ q xs z. once xs _ z }
    and record { border = λ r. at_comma _; lexed = λ q. by_border (Apart q (ascii ",add6")) refl (λ r. refl) (λ r. refl); plain = λ q. refl; no_dim = λ q. refl; no_maj = λ q. refl; unsigned = λ q z. (refl, refl); parsed = λ q xs z. once xs _ z }
    and record { border = λ r. at_comma _; lexed = λ q. by_border (Apart q (ascii ",addMaj7")) refl (λ r. refl) (λ r. refl); plain = λ q. refl; no_dim = λ q. refl; no_maj = λ q. refl; unsigned = λ q z. (refl, refl); parsed = λ q xs z. once xs _ z }
    and record { border = λ r. at_comma _; lexed = λ q. by_border (Apart q (ascii ",addb9")) refl (λ r. refl) (λ r. refl); plain = λ q. refl; no_dim = λ q. refl; no_maj = λ q. refl; unsigned = λ q z. (refl, refl); parsed = λ q xs z. once xs _ z }
    and record { border = λ r. at_comma _; lexed = λ q. by_border (Apart q (ascii ",add9")) refl (λ r. refl) (λ r. refl); plain = λ q. refl; no_dim = λ q. refl; no_maj = λ q. refl; unsigned = λ q z. (refl, refl); parsed = λ q xs z. once xs _ z }
    and record { border = λ r. at_comma _; lexed = λ q. by_border (Apart q (ascii ",add#9")) refl (λ r. refl) (λ r. refl); plain = λ q. refl; no_dim = λ q. refl; no_maj = λ q. refl; unsigned = λ q z. (refl, refl); parsed = λ q xs z. once xs _ z }
    and record { border = λ r. at_comma _; lexed = λ q. by_border (Apart q (ascii ",add11")) refl (λ r. refl) (λ r. refl); plain = λ q. refl; no_dim = λ q. refl; no_maj = λ q. refl; unsigned = λ q z. (refl, refl); parsed = λ q xs z. once xs _ z }
    and record { border = λ r. at_comma _; lexed = λ q. by_border (Apart q (ascii ",add#11")) refl (λ r. refl) (λ r. refl); plain = λ q. refl; no_dim = λ q. refl; no_maj = λ q. refl; unsigned = λ q z. (refl, refl); parsed = λ q xs z. once xs _ z }
    and record { border = λ r. at_comma _; lexed = λ q. by_border (Apart q (ascii ",addb13")) refl (λ r. refl) (λ r. refl); plain = λ q. refl; no_dim = λ q. refl; no_maj = λ q. refl; unsigned = λ q z. (refl, refl); parsed = λ q xs z. once xs _ z }
    and record { border = λ r. at_comma _; lexed = λ q. by_border (Apart q (ascii ",add13")) refl (λ r. refl) (λ r. refl); plain = λ q. refl; no_dim = λ q. refl; no_maj = λ q. refl; unsigned = λ q z. (refl, refl); parsed = λ q xs z. once xs _ z }
    and tt
