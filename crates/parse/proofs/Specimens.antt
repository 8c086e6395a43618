-- Document 01's specimens of parsing, from the bytes of the text to its expressions and errors, computed.
use mathlib.Core.List.{List, [], ◌∷◌}
use mathlib.Core.Path.{◌≡◌, refl}
use Prim.Native.Nat.{ℕ}
use Rattle.expression.specs.ParserError.{all_numbers}
use Rattle.expression.specs.declared.expression.Exp.TheVariants.{Add, Extension, Omit}
use Rattle.expression.specs.declared.expression.Exp.{Exp}
use Rattle.folding.specs.Folding.{concat, count, fold_on, is_maj, join, pre_process}
use Rattle.lexer.specs.Lexer.{digit_of, head_of, lex, sign_of, tokens_of}
use Rattle.lexer.specs.Text.{ascii}
use Rattle.lexer.specs.Words.{by_ends, is_letter, run_end, word_to, words}
use Rattle.parser.specs.Parser.{last_six, parse_of, walk}
use Rattle.token.specs.Token.{type_of}
use Rattle.utf8.specs.Utf8.{bits, char_of, encode, is_scalar}

abbrev errors : List ℕ → List ℕ
errors text = all_numbers (parse_of (pre_process (tokens_of text))).errs

abbrev expressions : List ℕ → List Exp
expressions text = (parse_of (pre_process (tokens_of text))).exps

-- "empty: kind 9"; "`C)` then gives 15 at 1, `C((` gives 17 at 1 and 16 at 2, and `C(/` gives 14 at 2" (document 02 [6])
refused : (errors [] ≡ 9 ∷ 0 ∷ 0 ∷ 0 ∷ [])
    × (errors (ascii "C)") ≡ 15 ∷ 1 ∷ 0 ∷ 0 ∷ [])
    × (errors (ascii "C((") ≡ 17 ∷ 1 ∷ 0 ∷ 0 ∷ 16 ∷ 2 ∷ 0 ∷ 0 ∷ [])
    × (errors (ascii "C(/") ≡ 14 ∷ 2 ∷ 0 ∷ 0 ∷ [])
unfolding head_of digit_of is_letter lex sign_of by_ends run_end word_to words concat count fold_on is_maj join last_six walk type_of bits char_of encode is_scalar
refused = (refl, refl, refl, refl)

-- `C(omit3,)5` and `C6/9`: the group outlives its bracket, and the 9 behind a 6 is added
accepted : (errors (ascii "C(omit3,)5") ≡ [])
    × (expressions (ascii "C(omit3,)5") ≡ Omit 4 6 ∷ Omit 8 9 ∷ [])
    × (errors (ascii "C6/9") ≡ [])
    × (expressions (ascii "C6/9") ≡ Extension 11 1 ∷ Add 17 3 ∷ [])
unfolding head_of digit_of is_letter lex sign_of by_ends run_end word_to words concat count fold_on is_maj join last_six walk type_of bits char_of encode is_scalar
accepted = (refl, refl, refl, refl)
