-- Folded lists, computed.
use mathlib.Core.List.{[], ◌∷◌}
use mathlib.Core.Path.{◌≡◌, refl}
use Rattle.token.specs.Token.{token}
use Rattle.folding.specs.Folding.{is_maj, concat, fold_on, join, count, pre_process}

-- C7dim: the pair stands in the place of the 7
pub c7dim : pre_process (token 64 0 1 ∷ token 39 1 1 ∷ token 4 2 3 ∷ token 22 6 0 ∷ []) ≡ token 64 0 1 ∷ token 5 1 1 ∷ token 22 6 0 ∷ []
unfolding is_maj concat fold_on join count
c7dim = refl

-- two Dim and two 7: the later Dim is the partner of the earlier 7
pub nested : pre_process (token 4 1 3 ∷ token 4 5 3 ∷ token 39 8 1 ∷ token 39 9 1 ∷ []) ≡ token 5 1 3 ∷ token 5 5 3 ∷ []
unfolding is_maj concat fold_on join count
nested = refl

-- Maj 7 7: only the first 7 is taken in
pub maj77 : pre_process (token 14 0 3 ∷ token 39 3 1 ∷ token 39 4 1 ∷ []) ≡ token 15 0 4 ∷ token 39 4 1 ∷ []
unfolding is_maj concat fold_on join count
maj77 = refl
