-- The invariant: the keys of the numbers passed are wanted.
use Rattle.std.proofs.Common.{[], ◌∷◌, ◌++◌, ◌≡◌, ℕ, ℤ, pos, ◌+◌, ◌<◌, ◌≤◌, refl, sym, ap, ◌∙◌, subst, arith, length, get_or, take, List}
use Rattle.intervals.specs.Stored.{listed}
use Rattle.intervals.specs.Interval.{semitones}
use Rattle.keys.proofs.Wanting.{display-all, display-next, display-start, want_as, want_none}
use Rattle.keys.specs.Keys.{display_keys}
use Rattle.keys.proofs.wanted.add_list.Goals as goal

pub loop-interval-init : goal.loop-interval-init
loop-interval-init c = want_as (display-start c.args.from (listed c.args.list)) (want_none refl c.new.ensures)

pub loop-interval-preserved : goal.loop-interval-preserved
loop-interval-preserved c =
    let a = c.args in
    let l = listed a.list in
    let i = c.loop-interval.interval-index in
    let ys = c.as_slice-interval-items in
    let h : i < length l = subst (λ (m : List ℕ). i < length m) ys.ensures c.loop-interval-test.true in
    let e : c.from.result ≡ semitones (get_or l i 0) =
    c.from.ensures ∙ c.semitones_or_zero.ensures.0 ∙ ap (λ (m : List ℕ). semitones (get_or m i 0)) ys.ensures
    in
    let f = ap (λ (x : ℕ). display_keys a.from (take i l) ++ (pos (a.from + x) ∷ [])) e in
    want_as (f ∙ display-next a.from l i h) (c.add-w.ensures _ c.loop-interval.invariant)

pub returns : goal.returns
returns c =
    let l = listed c.args.list in
    let n : length c.as_slice-interval-items.result.now ≡ length l = ap length c.as_slice-interval-items.ensures in
    let h : length l ≤ c.loop-interval.interval-index = omega arith in
    want_as (display-all c.args.from l c.loop-interval.interval-index h) c.loop-interval.invariant
