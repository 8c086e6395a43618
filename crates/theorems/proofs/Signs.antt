-- Tokens that are the same with every position taken as 0 are the same but for their positions, where every position is mapped to 0; the
-- rest is the law of crate positions. Document 01's tokens are those of [6] at other positions.
-- Assumes nothing.
use mathlib.Core.List.{List, [], ◌∷◌, map}
use mathlib.Core.Path.{◌≡◌, refl, ap}
use Prim.Native.Nat.{ℕ, ◌+◌}
use native.Mathlib.Omega.{arith}
use Rattle.folding.specs.Folding.{concat, count, fold_on, is_maj, join}
use Rattle.lexer.specs.Lexer.{digit_of, head_of, lex, sign_of, tokens_of}
use Rattle.lexer.specs.Words.{by_ends, is_letter, run_end, word_to, words}
use Rattle.parser.specs.Parser.{last_six, walk}
use Rattle.positions.proofs.Answers.{parsed-same}
use Rattle.positions.proofs.Folds.{folded_same}
use Rattle.positions.proofs.Pairs.{Pairs, none, more, Same}
use Rattle.positions.specs.Positions.{mapped}
use Rattle.token.specs.Token.{type_of}
use Rattle.token.specs.declared.Token.{Token}
use Rattle.utf8.specs.Utf8.{bits, char_at, char_of, encode, is_scalar}
use Rattle.theorems.specs.Signs.{BeforeAsSaid, PositionsAlone, SameTokens, SignsAlone, sign_bytes}

abbrev zero : ℕ → ℕ
zero p = 0

-- the same kinds and lengths, one by one
pairs_of : (ts us : List Token) → SameTokens ts us → Pairs (Same zero zero) ts us
pairs_of [] [] e = none
pairs_of [] (u ∷ us) e = let z : ◌≡◌ {A = ℕ} 0 1 = cc in absurd (omega arith)
pairs_of (t ∷ ts) [] e = let z : ◌≡◌ {A = ℕ} 0 1 = cc in absurd (omega arith)
pairs_of (t ∷ ts) (u ∷ us) e =
    let h : mapped zero t ≡ mapped zero u = cc in
    let r : SameTokens ts us = cc in
    more (record { kind = ap (λ x. x.kind) h; len = ap (λ x. x.len) h; pos = refl; next = λ m. refl }) (pairs_of ts us r)

-- and where only positions are mapped
pairs_mapped : (g : ℕ → ℕ) (ts : List Token) → Pairs (Same zero zero) ts (map (mapped g) ts)
pairs_mapped g [] = none
pairs_mapped g (t ∷ ts) = more (record { kind = refl; len = refl; pos = refl; next = λ h. refl }) (pairs_mapped g ts)

pub positions_alone_lem : PositionsAlone
positions_alone_lem ts us e = parsed-same zero zero refl (pairs_of ts us e)

pub signs_alone_lem : SignsAlone
signs_alone_lem text =
    let l = pairs_mapped (λ p. p + sign_bytes (char_at text p)) (tokens_of text) in
    parsed-same zero zero refl (folded_same zero zero (λ a b p q d e. refl) l)

pub before_as_said_lem : BeforeAsSaid
unfolding head_of digit_of is_letter lex sign_of by_ends run_end word_to words concat count fold_on is_maj join last_six walk type_of bits char_of encode is_scalar
before_as_said_lem = (refl, refl, refl)
