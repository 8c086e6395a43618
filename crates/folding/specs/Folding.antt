-- What folding makes of the lexer's tokens (document 01, the last rule of "From bytes to tokens").
use Rattle.std.specs.Prelude.{Bool, true, false, ◌&&◌, ◌||◌, cond, List, [], ◌∷◌, ◌++◌, ℕ, ◌+◌, min, eqb}
use Rattle.token.specs.Token.{token, type_number}
use Rattle.token.specs.declared.Token.{Token}
use Rattle.token.specs.declared.TokenType.TheVariants.{Dim, Dim7, Extension, Maj, Maj7}

abbrev pub dim : ℕ
dim = type_number Dim

abbrev pub dim7 : ℕ
dim7 = type_number Dim7

abbrev pub seven : ℕ
seven = type_number (Extension 7)

abbrev pub maj : ℕ
maj = type_number Maj

abbrev pub maj7 : ℕ
maj7 = type_number Maj7

abbrev pub is : ℕ → Token → Bool
is k t = eqb t.kind k

abbrev pub one : Bool → ℕ
one true = 1
one false = 0

-- how many tokens are of kind k
unfoldable pub count : ℕ → List Token → ℕ
count k [] = 0
count k (t ∷ ts) = one (is k t) + count k ts

-- "`concat_maj7` adds both lengths": a Maj or Maj7 and the 7 right after it
abbrev pub maj7_with : Token → Token → Token
maj7_with a b = token maj7 a.pos (a.len + b.len)

unfoldable pub is_maj : ℕ → Bool
is_maj k = eqb k maj || eqb k maj7

-- each Maj or Maj7 takes in a 7 right after it
unfoldable pub concat : List Token → List Token
concat [] = []
concat (x ∷ []) = x ∷ []
concat (x ∷ y ∷ ts) = cond (is_maj x.kind && is seven y) (maj7_with x y ∷ concat ts) (x ∷ concat (y ∷ ts))

-- "The pair stands in the earlier one's place, with the smaller position and the earlier one's length."
abbrev pub paired : ℕ → Token → Token → Token
paired r a b = token r (min a.pos b.pos) a.len

-- t pairs with the latest token of kind k, in that one's place; where there is none, t comes last
unfoldable pub join : ℕ → ℕ → Token → List Token → List Token
join k r t [] = t ∷ []
join k r t (x ∷ xs) = cond (eqb (count k xs) 0 && is k x) (paired r x t ∷ xs) (x ∷ join k r t xs)

-- "A 7 anywhere pairs with the latest unpaired partner before it, and a partner with the latest unpaired 7." Partners are of kind m, a pair
-- of kind r; what is neither a 7 nor a partner comes last.
abbrev pub taken : ℕ → ℕ → List Token → Token → List Token
taken m r out t = cond (is m t) (join seven r t out) (cond (is seven t) (join m r t out) (out ++ (t ∷ [])))

-- `out` holds what the tokens so far have become. A pair is of another kind, so that each 7 and each partner in it is unpaired.
unfoldable pub fold_on : ℕ → ℕ → List Token → List Token → List Token
fold_on m r out [] = out
fold_on m r out (t ∷ ts) = fold_on m r (taken m r out t) ts

abbrev pub fold7 : ℕ → ℕ → List Token → List Token
fold7 m r ts = fold_on m r [] ts

-- "`concat_maj7`, then `fold_7` for Dim, then for Maj"
abbrev pub pre_process : List Token → List Token
pre_process ts = fold7 maj maj7 (fold7 dim dim7 (concat ts))
