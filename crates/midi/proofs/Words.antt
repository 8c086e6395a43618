-- Messages for the digits of a number: how far the writing has come; and how long the messages from one set of keys to another are.
-- Assumes nothing.
use mathlib.Core.List.{List, [], ◌∷◌, ◌++◌, append_assoc, append-nil}
use mathlib.Core.Path.{◌≡◌, refl, sym, ap, ◌∙◌}
use Prim.Native.Nat.{ℕ, ◌+◌, ◌-◌, ◌*◌, ◌^◌, ◌<◌, ◌≤◌}
use native.Mathlib.Omega.{arith}
use lib.Count.{count_trailing_zeros}
use lib.ListN.{length, length-append}
use lib.Pow.{pow_pos}
use Rattle.intervals.specs.Interval.{Set}
use Rattle.keys.proofs.Places.{FirstAt, first, places-none}
use Rattle.keys.specs.Keys.{ascending, minus}
use Rattle.keys.specs.Stored.{places}
use Rattle.midi.specs.Midi.{between, messages, offs, ons}
use Rattle.writer.proofs.Puts.{grew_none, grew_then, grew_as}
use Rattle.writer.specs.State.{Grew}
use Rattle.writer.specs.declared.buffer.Buffer.{Buffer}

module _ (a v : ℕ) where
  pub messages-length : (ks : List ℕ) → length (messages a v ks) ≡ 3 * length ks
  unfolding messages
  messages-length [] = refl
  messages-length (k ∷ ks) = let e = messages-length ks in omega arith

  pub messages_append : (ks js : List ℕ) → messages a v (ks ++ js) ≡ messages a v ks ++ messages a v js
  unfolding messages
  messages_append [] js = refl
  messages_append (k ∷ ks) js = ap (λ (l : List ℕ). a ∷ k ∷ v ∷ l) (messages_append ks js)

  messages-one : (k : ℕ) → messages a v (k ∷ []) ≡ a ∷ k ∷ v ∷ []
  unfolding messages
  messages-one k = refl

  messages-none : messages a v [] ≡ []
  unfolding messages
  messages-none = refl

-- of the messages a, key, v for the digits of a number, written to the buffer b, which is b' now: those of the keys `done` are written,
-- and those of the digits that are left are not
pub record Progress (a v from bits : ℕ) (b b' : Buffer) (left : ℕ) : Type 0 where
  pub small : left < 2 ^ 64
  pub done : List ℕ
  pub list : done ++ places 64 from left ≡ places 64 from bits
  pub grew : Grew b b' (messages a v done)

pub start : (a v from bits : ℕ) (b : Buffer) → bits < 2 ^ 64 → Progress a v from bits b b bits
start a v from bits b h = record { small = h; done = []; list = refl; grew = grew_as (sym (messages-none a v)) (grew_none b) }

module _ {a v from bits : ℕ} {b b' : Buffer} {left : ℕ} (p : Progress a v from bits b b' left) where
  module _ (h : 0 < left) where
    pub next_place : FirstAt (count_trailing_zeros 64 left) 64 from left
    next_place = first 64 from left h p.small

    pub room : b.len + 3 * length (places 64 from bits) ≤ length b.bytes.now → b'.len + 3 ≤ length b'.bytes.now
    room g =
        let l : length p.done + length (places 64 from left) ≡ length (places 64 from bits) =
        sym (length-append p.done (places 64 from left)) ∙ ap length p.list
        in
        omega (arith, g, p.grew.put.count, messages-length a v p.done, l, p.grew.size, ap length next_place.list)

    pub step : {b'' : Buffer} → Grew b' b'' (a ∷ (from + count_trailing_zeros 64 left) ∷ v ∷ [])
        → Progress a v from bits b b'' (left - 2 ^ count_trailing_zeros 64 left)
    step w =
        let t = count_trailing_zeros 64 left in
        let k = from + t in
        let e = ap (λ (l : List ℕ). p.done ++ l) (sym next_place.list) in
        let f = ap (λ (l : List ℕ). messages a v p.done ++ l) (sym (messages-one a v k)) in
        record {
          small = omega (arith, p.small);
          done = p.done ++ (k ∷ []);
          list = append_assoc p.done (k ∷ []) (places 64 from (left - 2 ^ t)) ∙ e ∙ p.list;
          grew = grew_as (f ∙ sym (messages_append a v p.done (k ∷ []))) (grew_then p.grew w);
        }

    pub less : left - 2 ^ count_trailing_zeros 64 left < left
    less = omega (arith, pow_pos (count_trailing_zeros 64 left), next_place.small)

  pub finish : left ≡ 0 → Grew b b' (messages a v (places 64 from bits))
  finish e =
      let f = ap (places 64 from) e ∙ places-none 64 from in
      let d : p.done ≡ places 64 from bits = sym (append-nil p.done) ∙ ap (λ (l : List ℕ). p.done ++ l) (sym f) ∙ p.list in
      grew_as (ap (messages a v) d) p.grew

-- three bytes for each key that only one of two sets has, whichever of them come first
pub between-length : (s w : Set) → length (between s w) ≡ 3 * (length (ascending (minus s w)) + length (ascending (minus w s)))
between-length s w =
    let a = ascending (minus s w) in
    let b = ascending (minus w s) in
    let c = length-append (offs a) (ons b) in
    let d = length-append (ons b) (offs a) in
    omega (arith, c, d, messages-length 0x80 0 a, messages-length 0x90 64 b)
