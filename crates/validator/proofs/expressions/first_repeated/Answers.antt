-- By the place of the first count above 1, and by what the counts are.
-- Assumes nothing.
use Prim.Native.Nat.{ℕ, ◌≤◌, ◌<◌}
use mathlib.Core.Path.{◌≡◌, ap, ◌∙◌}
use native.Mathlib.Omega.{arith}
use lib.Dec.{ltb}
use Rattle.std.proofs.Common.{rules}
use Rattle.std.specs.declared.option.Option.TheVariants.{None, Some}
use Rattle.expression.specs.declared.parser_error.ParserError.TheVariants.{DuplicateModifier}
use Rattle.validator.proofs.Walks.{first_is, first_same, once, repeats}
use Rattle.validator.specs.State.{counts_of, error_of}
use Rattle.validator.specs.Validator.{first_from, only, repeated_at, times_of}
use Rattle.validator.proofs.expressions.first_repeated.Goals as goal

-- counts that agree have the same first
agree : (f g : ℕ → ℕ) → ((p : ℕ) → p < 15 → f p ≡ g p) → first_from (repeated_at f) 15 0 ≡ first_from (repeated_at g) 15 0
agree f g h = first_same (repeated_at f) (repeated_at g) 15 0 (λ k b. ap (λ (n : ℕ). only (ltb 1 n) (DuplicateModifier k)) (h k (omega arith)))

pub returns : goal.returns
returns c =
    let n = counts_of c.count-counts.result in
    let p = c.in_ok-priority.priority in
    let h : (p < 15) × (1 < n p) × ((k : ℕ) → k < p → n k ≤ 1) = search rules in
    first_is (repeated_at n) 15 0 (Some (DuplicateModifier p)) (p, omega arith, omega (arith, h.0), repeats (n p) p h.1, λ k _ u. once (n k) k (h.2 k u))
    ∙ agree n (times_of c.args.exps.now) c.count-counts.ensures

pub returns-in_err-priority : goal.returns-in_err-priority
returns-in_err-priority c =
    let n = counts_of c.count-counts.result in
    let h : (k : ℕ) → k < 15 → n k ≤ 1 = search rules in
    let e : c.from_residual.result ≡ None = search rules in
    ap error_of e ∙ first_is (repeated_at n) 15 0 None (λ k _ u. once (n k) k (h k (omega (arith, u)))) ∙ agree n (times_of c.args.exps.now) c.count-counts.ensures
