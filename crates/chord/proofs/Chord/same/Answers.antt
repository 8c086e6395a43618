-- Part by part: a test of all parts that holds is one of each that holds, and what is the same is equal to itself. Two sets have the same
-- members if they have the same number.
-- Assumes nothing.
use mathlib.Core.Path.{◌≡◌, ap, ◌∙◌}
use native.Mathlib.Omega.{arith}
use Rattle.std.proofs.Common.{rules}
use Rattle.std.specs.Cmp.{first_so, second_so}
use Rattle.std.specs.Cmp.Derive.{both_true}
use Rattle.intervals.specs.Stored.{listed, members}
use Rattle.chord.proofs.Same.{list-itself, one-number, option-itself}
use borrow.Author.Tests.{eq-eqb}
use Rattle.chord.proofs.Chord.same.Goals as goal

pub returns : goal.returns
returns c =
    let s = c.args.self in
    let t = c.args.other in (
      (λ e.
          let root : s.root ≡ t.root = search (rules, first_so, second_so) in
          let bass : s.bass ≡ t.bass = search (rules, first_so, second_so) in
          let bits : s.normalized.bits ≡ t.normalized.bits = search (rules, first_so, second_so) in
          let list : listed s.display ≡ listed t.display = search (rules, first_so, second_so) in
          λ i. record { root = root i; bass = bass i; normalized = members (record { bits = bits i }); display = list i }),
      (λ e.
          let root : s.root ≡ t.root = ap (λ f. f.root) e in
          let bass : s.bass ≡ t.bass = ap (λ f. f.bass) e in
          let bits = one-number s.normalized t.normalized (omega arith) (omega arith) (ap (λ f. f.normalized) e) in
          let list : listed s.display ≡ listed t.display = ap (λ f. f.display) e in
          c.eq.ensures ∙ rw (root, bass, bits, list) (search (both_true, option-itself, eq-eqb, list-itself))),
    )
