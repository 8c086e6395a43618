-- The first `count` numbers are the first `len`: more than there are can't be taken.
use Rattle.std.proofs.Common.{ℕ, List, ◌≡◌, arith, ap, ◌∙◌, take, length-take}
use Rattle.std.proofs.lemmas.List.{take_min}
use Rattle.intervals.specs.Stored.{listed}
use Rattle.intervals.proofs.IntervalList.as_slice.Goals as goal

take_as : {m n : ℕ} (l : List ℕ) → m ≡ n → take m l ≡ take n l
take_as l e = ap (λ (k : ℕ). take k l) e

pub returns : goal.returns
unfolding listed
returns c =
    let l = c.args.self.now in
    take_as l.numbers (omega (arith, c.count.ensures.0))
    ∙ ap (λ (n : ℕ). take n l.numbers) (length-take l.len l.numbers) ∙ take_min l.len l.numbers
