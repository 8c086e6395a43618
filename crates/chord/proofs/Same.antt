-- Two sets of the same members have the same number: two numbers with the same 32 digits are equal, and no number has more.
-- And an option and a list are equal to themselves.
-- Assumes nothing.
use mathlib.Core.Bool.{Bool, true, ◌&&◌}
use mathlib.Core.List.{List, [], ◌∷◌}
use mathlib.Core.Path.{◌≡◌, refl, sym, ap, ◌∙◌}
use Prim.Native.Nat.{ℕ, ◌<◌, ◌^◌}
use lib.Dec.{eqb}
use borrow.Author.Tests.{eq-eqb}
use Rattle.std.specs.Option.{option_eq}
use Rattle.std.specs.declared.option.Option.{Option}
use Rattle.std.specs.declared.option.Option.TheVariants.{None, Some}
use Rattle.std.specs.Cmp.Lexicographic.{pointwise}
use Rattle.intervals.proofs.Store.{member_at, same_number}
use Rattle.intervals.specs.Stored.{members}
use Rattle.intervals.specs.declared.IntervalSet.{IntervalSet}

pub one-number : (s t : IntervalSet) → s.bits < 2 ^ 32 → t.bits < 2 ^ 32 → members s ≡ members t → s.bits ≡ t.bits
one-number s t h g e = same_number 32 s.bits t.bits h g (λ k l. sym (member_at s k l) ∙ ap (λ m. m k) e ∙ member_at t k l)

pub option-itself : {A : Type 0} (E : A → A → Bool) → ((x : A) → E x x ≡ true) → (o : Option A) → option_eq E o o ≡ true
option-itself E h None = refl
option-itself E h (Some x) = h x

pub list-itself : (l : List ℕ) → pointwise eqb l l ≡ true
list-itself [] = refl
list-itself (x ∷ l) = ap (λ b. b && pointwise eqb l l) (eq-eqb x x refl) ∙ list-itself l
