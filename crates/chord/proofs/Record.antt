-- A record is found again from its four, and the four from the record: part by part.
-- Assumes nothing.
use mathlib.Core.Bool.{false}
use mathlib.Core.Path.{◌≡◌}
use Prim.Native.Nat.{ℕ, ◌≤◌}
use native.Mathlib.Omega.{arith}
use lib.ListN.{length}
use Rattle.intervals.proofs.Whole.{empty-none, list_back, set_back}
use Rattle.chord.specs.Chord.{Four, four_of, no_chord, record_of}

pub four-back : (f : Four) → ((j : ℕ) → 32 ≤ j → f.normalized j ≡ false) → length f.display ≤ 23 → four_of (record_of f) ≡ f
four-back f n h =
    let s = set_back f.normalized n in
    let d = list_back f.display h in
    λ i. record { root = f.root; bass = f.bass; normalized = s i; display = d i }

pub no_chord-back : four_of (record_of no_chord) ≡ no_chord
no_chord-back = four-back no_chord (λ j h. empty-none j) (omega arith)
