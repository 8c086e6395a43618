-- A turn puts one number more to its place; at the end all 23 stand there.
use Rattle.std.proofs.Common.{◌≡◌, ℕ, List, ◌∷◌, [], ◌++◌, ◌+◌, ◌<◌, suc, sym, ap, ◌∙◌, arith, drop, length, take, get_or}
use lib.ListN.{length-drop, length-set, set}
use lib.Seq.{get_or-drop, take_all, take-suc, take-suc-set}
use Rattle.intervals.specs.Stored.{listed}
use Rattle.nophtris.specs.Boundary.{values_in}
use Rattle.nophtris.proofs.list_in.Goals as goal

-- the array after the store at i
listed_next : (l t : List ℕ) (i b : ℕ) → i < length l → i < length t → b ≡ get_or t i 0 → take i l ≡ take i t → take (i + 1) (set l i b) ≡ take (i + 1) t
listed_next l t i b h g e v =
    let k : suc i ≡ i + 1 = omega arith in
    ap (λ (j : ℕ). take j (set l i b)) (sym k)
    ∙ take-suc-set l i b h
    ∙ ap (λ (q : List ℕ). q ++ (b ∷ [])) v
    ∙ ap (λ (x : ℕ). take i t ++ (x ∷ [])) e
    ∙ sym (take-suc t i 0 g)
    ∙ ap (λ (j : ℕ). take j t) k

pub loop-i-preserved : goal.loop-i-preserved
loop-i-preserved c =
    let bs = c.args.bytes.now in
    let l = c.loop-i.numbers in
    let i = c.loop-i.i in
    let e = c.loop-i.invariant.0 in
    let b = get_or bs (28 + i) 0 in (
      length-set l i b ∙ e,
      listed_next l (drop 28 bs) i b (omega (arith, e, c.loop-i-test.true)) (omega (arith, length-drop 28 bs, c.told-bytes, c.loop-i-test.true)) (sym (get_or-drop 28 bs i 0)) c.loop-i.invariant.1,
    )

pub returns : goal.returns
unfolding listed values_in
returns c =
    let bs = c.args.bytes.now in
    let l = c.loop-i.numbers in
    let e : c.loop-i.i ≡ 23 = omega (arith, c.loop-i-test.false) in
    ap (λ (n : ℕ). take n l) c.from.ensures
    ∙ ap (take (get_or bs 27 0)) (sym (take_all c.loop-i.i l (omega (arith, c.loop-i.invariant.0, e))) ∙ c.loop-i.invariant.1 ∙ ap (λ (j : ℕ). take j (drop 28 bs)) e)
