-- Bookkeeping of contracts between our own functions; no promise of an entry point rests on it.
-- What the code keeps while it folds, and what a step does.
use Rattle.std.specs.Prelude.{Bool, cond, ◌&&◌, List, ◌∷◌, ◌≡◌, ◌≢◌, ℕ, ◌+◌, ◌-◌, ◌≤◌, ◌<◌, eqb, ltb, length, take, drop, set, Option, MatchOption}
use Rattle.token.specs.Token.{at}
use Rattle.token.specs.declared.Token.{Token}
use Rattle.folding.specs.Folding.{count, seven, is_maj, join, taken, concat}
use Rattle.folding.specs.declared.Out.{Out}

-- r is the latest place that holds a token of kind k, or None where there is none
abbrev pub Latest : ℕ → List Token → Option ℕ → Type 0
Latest k ts r =
    MatchOption r ((j : ℕ) → j < length ts → (at ts j).kind ≢ k)
    (λ i. (i < length ts) × ((at ts i).kind ≡ k) × ((j : ℕ) → i < j → j < length ts → (at ts j).kind ≢ k))

-- the kind of a pair is neither that of a partner nor 7
pub record Apart (m r : ℕ) : Type 0 where
  pub partner : m ≡ seven → ⊥
  pub result : r ≡ m → ⊥
  pub last : r ≡ seven → ⊥

-- the unpaired tokens are counted
pub record Counted (m : ℕ) (o : Out) (R : List Token) : Type 0 where
  pub partners : o.partners ≡ count m (take o.at R)
  pub sevens : o.sevens ≡ count seven (take o.at R)

-- token i joined the first w, of which `waiting` are of kind k, and there are e now
pub record Joined (k r i waiting w e : ℕ) (R R' : List Token) : Type 0 where
  pub list : take e R' ≡ join k r (at R i) (take w R)
  pub rest : drop e R' ≡ drop e R
  pub came : waiting ≡ 0 → e ≡ w + 1
  pub stayed : 0 < waiting → e ≡ w

-- how many of its own kind and of the others wait after a token: it pairs with one of the others, or waits for one
abbrev pub came : ℕ → ℕ → ℕ × ℕ
came own others = cond (eqb others 0) (own + 1, 0) (own, others - 1)

-- token i was taken: o and the tokens R became o' and R'
pub record Stepped (m r i : ℕ) (o o' : Out) (R R' : List Token) : Type 0 where
  pub list : take o'.at R' ≡ taken m r (take o.at R) (at R i)
  pub rest : drop o'.at R' ≡ drop o'.at R
  pub more : o.at ≤ o'.at
  pub most : o'.at ≤ o.at + 1
  pub counted : Counted m o' R'

-- the tokens R became the first e of R', as f says, and the rest is untouched
pub record Turned (f : List Token → List Token) (e : ℕ) (R R' : List Token) : Type 0 where
  pub list : take e R' ≡ f R
  pub rest : drop e R' ≡ drop e R
  pub fewer : e ≤ length R

-- there is a token after token i, and the two make a Maj7
abbrev pub joins_at : List Token → ℕ → Bool
joins_at R i = ltb (i + 1) (length R) && (is_maj (at R i).kind && eqb (at R (i + 1)).kind seven)

-- place w holds what comes first of the tokens from i on, and those from e on are still to come
pub record TookFirst (i w e : ℕ) (R R' : List Token) : Type 0 where
  pub list : concat (drop i R) ≡ at R' w ∷ concat (drop e R)
  pub only : R' ≡ set R w (at R' w)
  pub more : i < e
  pub most : e ≤ length R

-- each token is short enough that the sum of two lengths fits
abbrev pub Short : List Token → Type 0
Short R = (j : ℕ) → j < length R → (at R j).len ≤ 256
