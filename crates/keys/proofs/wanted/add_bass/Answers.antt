-- By whether there is a bass, and whether its key is below 0.
-- Assumes nothing.
use mathlib.Core.List.{List, [], ◌∷◌, ◌++◌, append-nil}
use mathlib.Core.Path.{refl, sym, ap, ◌∙◌}
use Prim.Native.Nat.{◌+◌}
use lib.IntN.{ℤ}
use Rattle.keys.proofs.Wanting.{add_below, bass-none, bass-some, sub_twelve, want_as}
use Rattle.keys.proofs.wanted.add_bass.Goals as goal

pub returns-then-key-ge12 : goal.returns-then-key-ge12
returns-then-key-ge12 c =
    let a = c.args in
    let p = c.key_of-key in
    let k : _ = sub_twelve p.result c.if-key-ge12.true in
    let e : _ = bass-some a.base p.result a.bass c.in-Some.is p.ensures.0 in
    λ zs h. want_as (ap (λ (l : List ℤ). zs ++ l) (ap (λ (z : ℤ). z ∷ []) k ∙ e)) (c.add.ensures zs h)

pub returns-in-None : goal.returns-in-None
returns-in-None c =
    let a = c.args in
    λ zs h. want_as (sym (append-nil zs) ∙ ap (λ (l : List ℤ). zs ++ l) (bass-none a.base a.bass c.in-None.is)) h

pub returns-else-key-ge12 : goal.returns-else-key-ge12
returns-else-key-ge12 c =
    let a = c.args in
    let p = c.key_of-key in
    let e : _ = bass-some a.base p.result a.bass c.in-Some.is p.ensures.0 in
    λ zs h. want_as (ap (λ (l : List ℤ). zs ++ l) e) (add_below p.result c.if-key-ge12.false refl refl zs h)
