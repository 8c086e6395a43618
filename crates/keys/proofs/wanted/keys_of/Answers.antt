-- By whether there is a root.
-- Assumes nothing.
use mathlib.Core.Path.{refl}
use Rattle.intervals.specs.Stored.{listed}
use Rattle.keys.proofs.Wanting.{root_none, root-some, want_as, want_none}
use Rattle.keys.proofs.wanted.keys_of.Goals as goal

pub returns-in-None : goal.returns-in-None
returns-in-None c =
    let a = c.args in
    want_as (root_none a.base a.chord.root a.chord.bass (listed a.chord.display) c.in-None.is)
    (want_none refl c.new.ensures)

pub returns-in-Some : goal.returns-in-Some
returns-in-Some c =
    let a = c.args in
    let p = c.key_of in
    let r = c.in-Some.is in
    want_as (root-some a.base p.result a.chord.root a.chord.bass (listed a.chord.display) r p.ensures.0)
    (c.add_bass.ensures _ c.add_list-w.ensures)
