-- Folding goes by the kinds of tokens, so that the same tokens at other positions are folded into the same ones: a pair has the smaller
-- position of two, and that of a smaller one has to stay the smaller.
-- Assumes nothing.
use mathlib.Core.Bool.{false, ◌&&◌}
use mathlib.Core.List.{List, []}
use mathlib.Core.Path.{◌≡◌, refl, ap, ap₂, subst}
use Prim.Native.Nat.{ℕ, ◌+◌, min}
use lib.Dec.{T, eqb}
use Rattle.folding.specs.Folding.{concat, count, dim, dim7, fold_on, is_maj, join, maj, maj7, one, paired, pre_process, seven, taken}
use Rattle.token.specs.Token.{type_of}
use Rattle.token.specs.declared.Token.{Token}
use Rattle.positions.proofs.Pairs.{Pairs, none, more, Same, is_modifier, pairs_append, pairs_if}

module _ (f g : ℕ → ℕ) (least : (a b p q : ℕ) → f a ≡ g p → f b ≡ g q → f (min a b) ≡ g (min p q)) where
  abbrev Tokens : List Token → List Token → Type 0
  Tokens = Pairs (Same f g)

  concat-same : {ts us : List Token} → Tokens ts us → Tokens (concat ts) (concat us)
  unfolding concat type_of
  concat-same none = none
  concat-same (more s none) = more s none
  concat-same (more {a = t} {b = u} s (more {a = t'} {b = u'} s' r)) =
      pairs_if (ap₂ (λ a b. is_maj a && eqb b seven) s.kind s'.kind)
      (more (record { kind = refl; len = ap₂ ◌+◌ s.len s'.len; pos = s.pos; next = λ x. absurd x }) (concat-same r))
      (more s (concat-same (more s' r)))

  count_same : (k : ℕ) {ts us : List Token} → Tokens ts us → count k ts ≡ count k us
  unfolding count
  count_same k none = refl
  count_same k (more s r) = ap₂ (λ a n. one (eqb a k) + n) s.kind (count_same k r)

  -- a token that pairs: what comes of it is of kind r, which is no sharp and no flat
  module _ (k r : ℕ) (no : is_modifier (type_of r) ≡ false) where
    paired_same : (x x' t u : Token) → Same f g x x' → Same f g t u → Same f g (paired r x t) (paired r x' u)
    paired_same x x' t u s s' =
        record {
          kind = refl;
          len = s.len;
          pos = least x.pos t.pos x'.pos u.pos s.pos s'.pos;
          next = λ h. absurd (subst T no h);
        }

    join-same : (t u : Token) {ts us : List Token} → Same f g t u → Tokens ts us → Tokens (join k r t ts) (join k r u us)
    unfolding join
    join-same t u s none = more s none
    join-same t u s (more {a = x} {b = x'} e rest) =
        pairs_if (ap₂ (λ n a. eqb n 0 && eqb a k) (count_same k rest) e.kind)
        (more (paired_same x x' t u e s) rest) (more e (join-same t u s rest))

  module _ (m r : ℕ) (no : is_modifier (type_of r) ≡ false) where
    taken-same : (t u : Token) {ts us : List Token} → Tokens ts us → Same f g t u → Tokens (taken m r ts t) (taken m r us u)
    taken-same t u l s =
        pairs_if (ap (λ a. eqb a m) s.kind) (join-same seven r no t u s l)
        (pairs_if (ap (λ a. eqb a seven) s.kind) (join-same m r no t u s l) (pairs_append l (more s none)))

    fold_same : {ts us : List Token} (o p : List Token) → Tokens o p → Tokens ts us → Tokens (fold_on m r o ts) (fold_on m r p us)
    unfolding fold_on
    fold_same o p l none = l
    fold_same o p l (more {a = t} {b = u} s rest) = fold_same (taken m r o t) (taken m r p u) (taken-same t u l s) rest

  pub folded_same : {ts us : List Token} → Pairs (Same f g) ts us → Pairs (Same f g) (pre_process ts) (pre_process us)
  unfolding type_of
  folded_same l = fold_same maj maj7 refl [] [] none (fold_same dim dim7 refl [] [] none (concat-same l))
