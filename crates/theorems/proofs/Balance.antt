-- "For any sequence of chords begun in silence, each key's ons less its offs equals 1 if it is wanted by the last chord not refused, and 0
-- if not." Of the messages from one set of keys to another a key has an on if only the second has it, and an off if only the first has it;
-- a sequence is one such change after the other. Assumes nothing.
use mathlib.Core.Bool.{Bool, true, false, not, cond, ◌&&◌, and-false, and-true}
use mathlib.Core.List.{List, [], ◌∷◌, ◌++◌, append_assoc}
use mathlib.Core.Path.{◌≡◌, refl, sym, ap, ap₂, ◌∙◌}
use Prim.Native.Nat.{ℕ, zero, suc, ◌+◌, ◌≤◌, ◌<◌}
use native.Mathlib.Omega.{arith}
use lib.Dec.{eqb, ltb}
use borrow.Author.Tests.{eq-eqb, ltb-false, ltb-true, ne_eqb}
use Rattle.intervals.specs.Interval.{Set, empty}
use Rattle.keys.specs.Keys.{ascending, minus, up_from}
use Rattle.midi.specs.Midi.{between, messages, offs, ons}
use Rattle.theorems.specs.Midi.{Balanced, Said, all_written, count_of, last_wanted, offs_of, one, ons_of}

-- ---- how often a key stands in a list

times : ℕ → List ℕ → ℕ
times k [] = 0
times k (j ∷ js) = one (eqb j k) + times k js

times_append : (k : ℕ) (a b : List ℕ) → times k (a ++ b) ≡ times k a + times k b
unfolding times
times_append k [] b = omega arith
times_append k (j ∷ a) b = let e = times_append k a b in omega arith

-- a message is counted for its key if it is of the kind that is counted
module _ (a v k : ℕ) (l : List ℕ) where
  own : (ks : List ℕ) → count_of a k v (messages a v ks ++ l) ≡ times k ks + count_of a k v l
  unfolding count_of messages times
  own [] = omega arith
  own (j ∷ ks) =
      let e = own ks in
      let b = ap₂ (λ (x y : Bool). one (x && (eqb j k && y))) (eq-eqb a a refl) (eq-eqb v v refl) ∙ ap one (and-true (eqb j k)) in
      omega arith

  other : (b u : ℕ) → eqb b a ≡ false → (ks : List ℕ) → count_of a k v (messages b u ks ++ l) ≡ count_of a k v l
  unfolding count_of messages
  other b u h [] = refl
  other b u h (j ∷ ks) =
      let e = other b u h ks in
      let f = ap (λ (x : Bool). one (x && (eqb j k && eqb u v))) h in
      omega arith

-- ---- a set's member stands once among its members in ascending order

module _ (s : Set) (k : ℕ) where
  head_same : (b : Bool) (i : ℕ) → i ≡ k → times k (cond b (i ∷ []) []) ≡ one b
  unfolding times
  head_same true i e = let q = ap one (eq-eqb i k e) in omega arith
  head_same false i e = refl

  head_other : (b : Bool) (i : ℕ) → (i ≡ k → ⊥) → times k (cond b (i ∷ []) []) ≡ 0
  unfolding times
  head_other true i n = let q = ap one (ne_eqb i k n) in omega arith
  head_other false i n = refl

  split : (n i : ℕ) → times k (up_from i (suc n) s) ≡ times k (cond (s i) (i ∷ []) []) + times k (up_from (suc i) n s)
  unfolding up_from
  split n i = times_append k (cond (s i) (i ∷ []) []) (up_from (suc i) n s)

  none_of : (i : ℕ) → times k (up_from i 0 s) ≡ 0
  unfolding up_from times
  none_of i = refl

  not_there : (n i : ℕ) → ((j : ℕ) → i ≤ j → j < i + n → j ≡ k → ⊥) → times k (up_from i n s) ≡ 0
  not_there zero i f = none_of i
  not_there (suc n) i f =
      let a = head_other (s i) i (f i (omega arith) (omega arith)) in
      let b = not_there n (suc i) (λ j g h. f j (omega arith) (omega arith)) in
      omega (arith, split n i)

  there : (n i : ℕ) → i ≤ k → k < i + n → times k (up_from i n s) ≡ one (s k)
  there zero i g h = absurd (omega arith)
  there (suc n) i g h = go (ltb i k) refl (λ x. there n (suc i) x (omega arith))
    where
      go : (t : Bool) → ltb i k ≡ t → (suc i ≤ k → times k (up_from (suc i) n s) ≡ one (s k)) → times k (up_from i (suc n) s) ≡ one (s k)
      go true p ih =
          let x : i < k = ltb-true i k p in
          let a = head_other (s i) i (λ e. omega arith) in
          let b = ih (omega arith) in
          omega (arith, split n i)
      go false p ih =
          let x : k ≤ i = ltb-false i k p in
          let e : i ≡ k = omega arith in
          let a = head_same (s i) i e in
          let b = not_there n (suc i) (λ j u v w. omega arith) in
          let c = ap (λ (j : ℕ). one (s j)) e in
          omega (arith, split n i)

-- no member above 127
abbrev pub Low : Set → Type 0
Low s = (j : ℕ) → 128 ≤ j → s j ≡ false

times_ascending : (s : Set) → Low s → (k : ℕ) → times k (ascending s) ≡ one (s k)
unfolding ascending
times_ascending s f k = go (ltb k 128) refl
  where
    go : (t : Bool) → ltb k 128 ≡ t → times k (up_from 0 128 s) ≡ one (s k)
    go true p = let h : k < 128 = ltb-true k 128 p in there s k 128 0 (omega arith) (omega arith)
    go false p =
        let h : 128 ≤ k = ltb-false k 128 p in
        not_there s k 128 0 (λ j a b e. omega arith) ∙ sym (ap one (f k h))

minus-low : (s w : Set) → Low s → Low (minus s w)
unfolding minus
minus-low s w f j h = ap (λ (b : Bool). not (w j) && b) (f j h) ∙ and-false (not (w j))

-- ---- what the messages from one set to another are for a key

module _ (s w : Set) (f : Low s) (g : Low w) (k : ℕ) (l : List ℕ) where
  ons-between : ons_of k (between s w ++ l) ≡ one (minus w s k) + ons_of k l
  ons-between =
      let a = ascending (minus s w) in
      let b = ascending (minus w s) in
      ap (ons_of k) (append_assoc (offs a) (ons b) l) ∙ other 0x90 64 k (ons b ++ l) 0x80 0 refl a ∙ own 0x90 64 k l b
      ∙ ap (λ (n : ℕ). n + ons_of k l) (times_ascending (minus w s) (minus-low w s g) k)

  offs-between : offs_of k (between s w ++ l) ≡ one (minus s w k) + offs_of k l
  offs-between =
      let a = ascending (minus s w) in
      let b = ascending (minus w s) in
      ap (offs_of k) (append_assoc (offs a) (ons b) l) ∙ own 0x80 0 k (ons b ++ l) a
      ∙ ap₂ ◌+◌ (times_ascending (minus s w) (minus-low s w f) k) (other 0x80 0 k l 0x90 64 refl b)

  balance : one (minus w s k) + one (s k) ≡ one (minus s w k) + one (w k)
  unfolding minus
  balance = go (s k) (w k)
    where
      go : (x y : Bool) → one (not x && y) + one x ≡ one (not y && x) + one y
      go true true = refl
      go true false = refl
      go false true = refl
      go false false = refl

-- ---- a sequence

-- from the keys s on each call is refused and writes nothing, or sends the messages to the keys that it wants
pub data Sends : Set → List Said → Type 0 where
  ends : {s : Set} → Sends s []
  stays : {s : Set} {c : Said} {cs : List Said} → (c.number ≡ 0 → ⊥) → c.bytes ≡ [] → Sends s cs → Sends s (c ∷ cs)
  moves : {s : Set} {c : Said} {cs : List Said} → c.number ≡ 0 → c.bytes ≡ between s c.wanted → Low c.wanted → Sends c.wanted cs
      → Sends s (c ∷ cs)

sums : (s : Set) (cs : List Said) (k : ℕ) (t : Set) → Type 0
sums s cs k t = ons_of k (all_written cs) + one (s k) ≡ offs_of k (all_written cs) + one (t k)

from-keys : (s : Set) (cs : List Said) → Sends s cs → Low s → (k : ℕ) → sums s cs k (last_wanted s cs)
unfolding count_of sums
from-keys s [] ends f k = refl
from-keys s (c ∷ cs) (stays n e r) f k =
    let a : all_written (c ∷ cs) ≡ all_written cs = ap (λ (b : List ℕ). b ++ all_written cs) e in
    let t : last_wanted s (c ∷ cs) k ≡ last_wanted s cs k =
    ap (λ (b : Bool). last_wanted (cond b c.wanted s) cs k) (ne_eqb c.number 0 n)
    in
    ap (λ (l : List ℕ). ons_of k l + one (s k)) a ∙ from-keys s cs r f k ∙ sym (ap₂ (λ (l : List ℕ) (b : Bool). offs_of k l + one b) a t)
from-keys s (c ∷ cs) (moves n e g r) f k =
    let w = c.wanted in
    let l = all_written cs in
    let a : all_written (c ∷ cs) ≡ between s w ++ l = ap (λ (b : List ℕ). b ++ l) e in
    let t : last_wanted s (c ∷ cs) k ≡ last_wanted w cs k =
    ap (λ (b : Bool). last_wanted (cond b w s) cs k) (eq-eqb c.number 0 n)
    in
    let ih = from-keys w cs r g k in
    let q : ons_of k (between s w ++ l) + one (s k) ≡ offs_of k (between s w ++ l) + one (last_wanted w cs k) =
    omega (arith, ih, ons-between s w f g k l, offs-between s w f g k l, balance s w f g k l)
    in
    ap (λ (l : List ℕ). ons_of k l + one (s k)) a ∙ q ∙ sym (ap₂ (λ (l : List ℕ) (b : Bool). offs_of k l + one b) a t)

pub balanced : (cs : List Said) → Sends empty cs → Balanced cs
unfolding sums
balanced cs r k = let e = from-keys empty cs r (λ j h. refl) k in omega (arith, e)
