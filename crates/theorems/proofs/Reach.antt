-- What a caller plans MIDI out with: no messages are longer than 384 bytes, and with a base key from 12 to 95 no key falls outside.
-- Assumes nothing.
use mathlib.Core.Bool.{Bool, true, false, not, cond, ◌&&◌, ◌||◌}
use mathlib.Core.List.{List, [], ◌∷◌, ◌++◌}
use mathlib.Core.Path.{◌≡◌, refl, sym, ap, ◌∙◌}
use Prim.Native.Nat.{ℕ, zero, suc, ◌+◌, ◌-◌, ◌≤◌, ◌<◌}
use native.Mathlib.Omega.{arith}
use lib.Dec.{ltb}
use lib.IntN.{ℤ}
use lib.ListN.{length, length-append}
use borrow.Author.Tests.{lt-leb, ltb-true, ltb-false}
use Rattle.intervals.proofs.Semitones.{semitones-order}
use Rattle.intervals.specs.Interval.{Set, semitones}
use Rattle.keys.proofs.Wanting.{no_semitones, sub_twelve}
use Rattle.keys.specs.Keys.{ascending, bass_keys, display_keys, is_outside, keys_over, minus, outside, up_from}
use Rattle.midi.proofs.Words.{between-length}
use Rattle.midi.specs.Midi.{between, messages}
use Rattle.note.specs.Note.{pitch_class}
use Rattle.note.specs.declared.Note.{Note}
use Rattle.std.specs.declared.option.Option.TheVariants.{None, Some}
use Rattle.note.specs.Note.{OptionalNote}

-- ---- messages

-- no key goes off and comes on
heads : (s w : Set) (i : ℕ) → length (cond (minus s w i) (i ∷ []) []) + length (cond (minus w s i) (i ∷ []) []) ≤ 1
unfolding minus
heads s w i = go (s i) (w i)
  where
    go : (a b : Bool) → length (cond (not b && a) (i ∷ []) []) + length (cond (not a && b) (i ∷ []) []) ≤ 1
    go true true = omega arith
    go true false = omega arith
    go false true = omega arith
    go false false = omega arith

at_most : (n i : ℕ) (s w : Set) → length (up_from i n (minus s w)) + length (up_from i n (minus w s)) ≤ n
unfolding up_from
at_most zero i s w = omega arith
at_most (suc n) i s w =
    let r = at_most n (suc i) s w in
    let h = heads s w i in
    let a = length-append (cond (minus s w i) (i ∷ []) []) (up_from (suc i) n (minus s w)) in
    let b = length-append (cond (minus w s i) (i ∷ []) []) (up_from (suc i) n (minus w s)) in
    omega arith

pub between-most : (s w : Set) → length (between s w) ≤ 384
unfolding ascending
between-most s w = let h = at_most 128 0 s w in omega (arith, between-length s w)

-- from a set to itself there are none
same_none : (n i : ℕ) (s : Set) → up_from i n (minus s s) ≡ []
unfolding up_from minus
same_none zero i s = refl
same_none (suc n) i s =
    ap (λ (b : Bool). cond b (i ∷ []) [] ++ up_from (suc i) n (minus s s)) (go (s i)) ∙ same_none n (suc i) s
  where
    go : (b : Bool) → (not b && b) ≡ false
    go true = refl
    go false = refl

pub between-same : (s : Set) → between s s ≡ []
unfolding ascending messages
between-same s = ap (λ (l : List ℕ). messages 0x80 0 l ++ messages 0x90 64 l) (same_none 128 0 s)

-- ---- keys

semitones-most : (i : ℕ) → semitones i ≤ 21
semitones-most i = go (ltb i 23) refl
  where
    go : (t : Bool) → ltb i 23 ≡ t → semitones i ≤ 21
    go true p = let h : i < 23 = ltb-true i 23 p in semitones-order i 22 (omega arith) (omega arith)
    go false p = let e = no_semitones i (ltb-false i 23 p) in omega arith

display-inside : (from : ℕ) → from ≤ 106 → (l : List ℕ) (zs : List ℤ) → outside (display_keys from l ++ zs) ≡ outside zs
unfolding display_keys outside
display-inside from h [] zs = refl
display-inside from h (i ∷ l) zs =
    let s = semitones-most i in
    ap (λ (b : Bool). b || outside (display_keys from l ++ zs)) (lt-leb 128 (from + semitones i) (omega arith)) ∙ display-inside from h l zs

class_low : (n : Note) → pitch_class n < 12
class_low n = omega arith

module _ (base : ℕ) (h : 12 ≤ base) (g : base ≤ 95) where
  bass-inside : (b : OptionalNote) → outside (bass_keys base b) ≡ false
  unfolding bass_keys outside
  bass-inside None = refl
  bass-inside (Some n) =
      let k = base + pitch_class n in
      ap (λ (z : ℤ). is_outside z || false) (sym (sub_twelve k (omega (arith, class_low n))))
      ∙ ap (λ (b : Bool). b || false) (lt-leb 128 (k - 12) (omega (arith, class_low n)))

  pub none-outside : (root bass : OptionalNote) (l : List ℕ) → outside (keys_over base root bass l) ≡ false
  unfolding keys_over outside
  none-outside None bass l = refl
  none-outside (Some n) bass l =
      display-inside (base + pitch_class n) (omega (arith, class_low n)) l (bass_keys base bass) ∙ bass-inside bass
