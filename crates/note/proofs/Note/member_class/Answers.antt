-- The last interval has the most semitones, 21, so that the sum fits.
-- Assumes nothing.
use Prim.Native.Nat.{◌≤◌}
use native.Mathlib.Omega.{arith}
use Rattle.intervals.specs.Interval.{semitones}
use Rattle.intervals.proofs.Semitones.{semitones-order}
use Rattle.note.proofs.Note.member_class.Goals as goal

pub overflow_add-result : goal.overflow_add-result
overflow_add-result c =
    let i = c.args.interval in
    let h : semitones i ≤ 21 = semitones-order i 22 (omega (arith, c.requires)) (omega arith) in
    omega (arith, c.pitch_class.ensures.1, c.st.ensures, h)
