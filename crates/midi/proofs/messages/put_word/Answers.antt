-- The next digit is below the 64th and its message has room, since the digits that are left have; it is taken off, which makes the rest
-- smaller. Where none is left, all messages are written.
-- Assumes nothing.
use mathlib.Core.Path.{◌≡◌}
use Prim.Native.Nat.{◌*◌, ◌%◌, ◌^◌, ◌<◌}
use native.Mathlib.Omega.{arith}
use lib.Count.{count_trailing_zeros}
use Rattle.intervals.proofs.Bits.{power}
use Rattle.midi.proofs.Words.{finish, less, next_place, room, start, step}
use Rattle.midi.proofs.messages.put_word.Goals as goal

pub loop-left-init : goal.loop-left-init
loop-left-init c =
    let a = c.args in
    start a.touch.status a.touch.velocity a.from a.bits a.out.now c.ranges.bits.fits

pub put_message-requires : goal.put_message-requires
put_message-requires c =
    let h : 0 < c.loop-left.left = omega (arith, c.loop-left-test.true) in
    room c.loop-left.invariant h c.requires.1

pub overflow_sub-left : goal.overflow_sub-left
overflow_sub-left c =
    let l = c.loop-left in
    let t = count_trailing_zeros 64 l.left in
    let h : 0 < l.left = omega (arith, c.loop-left-test.true) in
    let f = next_place l.invariant h in
    let e : (1 * 2 ^ t) % 2 ^ 64 ≡ 2 ^ t = power 64 t f.place in
    rw e f.small

pub loop-left-smaller : goal.loop-left-smaller
loop-left-smaller c =
    let l = c.loop-left in
    let t = count_trailing_zeros 64 l.left in
    let h : 0 < l.left = omega (arith, c.loop-left-test.true) in
    let e : (1 * 2 ^ t) % 2 ^ 64 ≡ 2 ^ t = power 64 t (next_place l.invariant h).place in
    rw e (less l.invariant h)

pub loop-left-preserved : goal.loop-left-preserved
loop-left-preserved c =
    let l = c.loop-left in
    let t = count_trailing_zeros 64 l.left in
    let h : 0 < l.left = omega (arith, c.loop-left-test.true) in
    let e : (1 * 2 ^ t) % 2 ^ 64 ≡ 2 ^ t = power 64 t (next_place l.invariant h).place in
    rw e (step l.invariant h c.put_message.ensures)

pub returns : goal.returns
returns c = finish c.loop-left.invariant c.loop-left-test.false
