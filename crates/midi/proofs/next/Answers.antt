-- The code asks the definition's questions in its order.
-- Assumes nothing.
use mathlib.Core.Bool.{false}
use mathlib.Core.Path.{◌≡◌, sym, ap, ◌∙◌}
use Prim.Native.Nat.{◌≤◌, ◌<◌}
use native.Mathlib.Omega.{arith}
use lib.ListN.{length}
use Rattle.chord.specs.Chord.{four_of}
use Rattle.intervals.specs.Interval.{Set}
use Rattle.keys.proofs.Wanting.{same_set}
use Rattle.keys.specs.Keys.{keys_of, outside, wants}
use Rattle.keys.specs.Stored.{members}
use Rattle.midi.proofs.Answers.{gave_refused, gave_sent, next-no_text, next-outside, next-sent, next-short}
use Rattle.midi.specs.Midi.{between}
use Rattle.midi.specs.declared.Refusal.TheVariants.{NoText, OutsideKeys, ShortOutput}
use Rattle.writer.proofs.Answers.{is_test, negated}
use Rattle.writer.proofs.Puts.{put_as, put_from}
use Rattle.midi.proofs.next.Goals as goal

pub returns-then-not-has_text-clause-next : goal.returns-then-not-has_text-clause-next
returns-then-not-has_text-clause-next c =
    let a = c.args in
    let s = members a.sounding.now in
    let t = c.has_text in
    let e = is_test a.chord t.result t.ensures ∙ negated _ _ c.if-not-has_text.true-raw in
    gave_refused NoText a.sounding.now a.out.now (next-no_text _ s a.base (four_of a.chord) e)

pub returns-then-wanted-clause-next : goal.returns-then-wanted-clause-next
returns-then-wanted-clause-next c =
    let a = c.args in
    let s = members a.sounding.now in
    let t = c.has_text in
    let e = is_test a.chord t.result t.ensures ∙ negated _ _ c.if-not-has_text.false-raw in
    let o = sym c.keys_of-wanted.ensures.others ∙ c.if-wanted.true in
    gave_refused OutsideKeys a.sounding.now a.out.now (next-outside _ s a.base (four_of a.chord) e o)

pub returns-then-out-length_between-clause-next : goal.returns-then-out-length_between-clause-next
returns-then-out-length_between-clause-next c =
    let a = c.args in
    let s = members a.sounding.now in
    let f = four_of a.chord in
    let t = c.has_text in
    let w = c.keys_of-wanted.ensures in
    let e = is_test a.chord t.result t.ensures ∙ negated _ _ c.if-not-has_text.false-raw in
    let o : outside (keys_of a.base f) ≡ false = sym w.others ∙ c.if-wanted.false in
    let l = ap (λ (u : Set). length (between s u)) (same_set (keys_of a.base f) w o) in
    let h : length a.out.now < length (between s (wants (keys_of a.base f))) =
    omega (arith, c.if-out-length_between.true, c.length_between.ensures, l)
    in
    gave_refused ShortOutput a.sounding.now a.out.now (next-short _ s a.base f e o h)

pub returns-clause-next : goal.returns-clause-next
returns-clause-next c =
    let a = c.args in
    let s = members a.sounding.now in
    let f = four_of a.chord in
    let t = c.has_text in
    let w = c.keys_of-wanted.ensures in
    let e = is_test a.chord t.result t.ensures ∙ negated _ _ c.if-not-has_text.false-raw in
    let o : outside (keys_of a.base f) ≡ false = sym w.others ∙ c.if-wanted.false in
    let q = same_set (keys_of a.base f) w o in
    let l = ap (λ (u : Set). length (between s u)) q in
    let h : length (between s (wants (keys_of a.base f))) ≤ length a.out.now =
    omega (arith, c.if-out-length_between.false, c.length_between.ensures, l)
    in
    let b = c.new-written.ensures in
    let g = c.put_between.ensures in
    gave_sent _ (next-sent _ s a.base f e o h) q
    (put_as (ap (between s) q) (put_from b.0 b.1 (rw (c.out-1.given.1.1 (sym (g.place ∙ b.2))) g.put)))

pub put_between-requires : goal.put_between-requires
put_between-requires c =
    let b = c.new-written.ensures in
    omega (arith, b.0, ap length b.1, c.if-out-length_between.false, c.length_between.ensures)
