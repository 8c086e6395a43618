-- The record without a root and with nothing else is the one of no chord: bass, set and list are tested one after the other.
-- Assumes nothing.
use mathlib.Core.Bool.{Bool, true, false, not, ◌&&◌}
use mathlib.Core.List.{[]}
use mathlib.Core.Logic.{◌↔◌}
use mathlib.Core.Path.{◌≡◌, refl, sym, ap, fun_ext, subst, ◌∙◌}
use Prim.Native.Nat.{ℕ, ◌+◌, ◌≤◌, zero-le}
use lib.Dec.{T, ltb}
use borrow.Author.Tests.{ltb-false, ltb-true}
use Rattle.chord.specs.Chord.{Four, no_chord}
use Rattle.intervals.proofs.Whole.{none-says}
use Rattle.intervals.specs.Interval.{Set, empty}
use Rattle.intervals.specs.Stored.{none_from, outside}
use Rattle.std.specs.declared.option.Option.TheVariants.{None, Some}
use Rattle.note.specs.Note.{OptionalNote}
use Rattle.house_parts.specs.House.{is_some}
use Rattle.house_parts.specs.Question.{nothing_else, realizable, same_list}
use Rattle.house_parts.proofs.Bools.{and_left, and_right}
use Rattle.house_parts.proofs.Tests.{passed, same_answer, same_lists}

-- no member from 32 on; so it is of every record, whose set has 32 digits, and then the tests see every member
abbrev pub Narrow : Set → Type 0
Narrow s = (j : ℕ) → 32 ≤ j → s j ≡ false

no_note : (n : OptionalNote) → T (not (is_some n)) → n ≡ None
no_note None t = refl
no_note (Some n) t = absurd t

no_member : (s : Set) → Narrow s → none_from 0 (23 + outside) s ≡ true → s ≡ empty
no_member s w e = fun_ext λ j. by j (ltb j 32) refl
  where
    by : (j : ℕ) (t : Bool) → ltb j 32 ≡ t → s j ≡ empty j
    by j true p = none-says s (23 + outside) 0 e j zero-le (ltb-true j 32 p)
    by j false p = w j (ltb-false j 32 p)

-- no chord has nothing else, and so passes the question
pub no_chord-realizable : (f : Four) → f ≡ no_chord → realizable f ≡ true
no_chord-realizable f e = ap realizable e

module _ (f : Four) (e : f.root ≡ None) (w : Narrow f.normalized) where
  -- what the tests say, from the last to the first
  nothing-says : T (nothing_else f) → f ≡ no_chord
  nothing-says t =
      let none = none_from 0 (23 + outside) f.normalized in
      let rest = none && same_list f.display [] in
      let u = and_right (not (is_some f.bass)) rest t in
      let b = no_note f.bass (and_left (not (is_some f.bass)) rest t) in
      let n = no_member f.normalized w (passed none (and_left none (same_list f.display []) u)) in
      let d = same_lists f.display [] (and_right none (same_list f.display []) u) in
      λ i. record { root = e i; bass = b i; normalized = n i; display = d i }

  -- without a root the question is whether there is nothing else
  rootless : realizable f ≡ nothing_else f
  rootless = ap realizable (λ i. record { root = e i; bass = f.bass; normalized = f.normalized; display = f.display })

  pub rootless-says : realizable f ≡ true → f ≡ no_chord
  rootless-says h = nothing-says (subst T (sym h ∙ rootless) tt)

-- an answer that is true exactly of no chord
pub no_chord_test : (r : Bool) (f : Four) → f.root ≡ None → Narrow f.normalized → (r ≡ true) ↔ (f ≡ no_chord) → r ≡ realizable f
no_chord_test r f none w t = same_answer r (realizable f) (λ h. no_chord-realizable f (t.0 h)) (λ h. t.1 (rootless-says f none w h))
