-- Bookkeeping of contracts between our own functions; no promise of an entry point rests on it.
-- What the code counts on: sound expressions, and what it has seen of them.
use Rattle.std.specs.Prelude.{◌||◌, List, ◌≡◌}
use Rattle.std.specs.List.{All}
use Rattle.intervals.specs.Stored.{list_of, listed, members, set_of}
use Rattle.intervals.specs.Interval.{Set}
use Rattle.intervals.specs.declared.IntervalSet.{IntervalSet}
use Rattle.expression.specs.declared.expression.Exp.{Exp}
use Rattle.expression.specs.Bounds.{Sound}
use Rattle.display.specs.Display.{display_of, first_sus}
use Rattle.evaluator.specs.Evaluator.{any, base_form, bass_of, direct, eval_set, ext_at, form_at, is_maj, is_sus4, max_ext, seed, slash_bass, fold_left}
use Rattle.evaluator.specs.declared.evaluator.Descriptor.{Descriptor}
use Rattle.evaluator.specs.declared.evaluator.Evaluated.{Evaluated}

-- the interval of every expression is below 23
abbrev pub Sounds : List Exp → Type 0
Sounds l = All Sound l

-- d is what the expressions l say before the stages
pub record Described (l : List Exp) (d : Descriptor) : Type 0 where
  pub set : members d.set ≡ fold_left direct seed l
  pub form : d.form ≡ base_form l
  pub sus : d.sus ≡ any is_sus4 l
  pub maj : d.maj ≡ any is_maj l
  pub ext : d.tallest ≡ max_ext l
  pub bass : d.bass ≡ slash_bass l

-- r is d after one more expression
pub record Seen (d : Descriptor) (e : Exp) (r : Descriptor) : Type 0 where
  pub set : members r.set ≡ direct (members d.set) e
  pub form : r.form ≡ form_at d.form e
  pub sus : r.sus ≡ d.sus || is_sus4 e
  pub maj : r.maj ≡ d.maj || is_maj e
  pub ext : r.tallest ≡ ext_at d.tallest e
  pub bass : r.bass ≡ bass_of d.bass e

-- r is the answer to the expressions l: "root, slash bass, `intervals`, `display_intervals`", but for the root
pub record Answered (l : List Exp) (r : Evaluated) : Type 0 where
  pub bass : r.bass ≡ slash_bass l
  pub set : members r.set ≡ eval_set l
  pub display : listed r.display ≡ display_of (first_sus l) (eval_set l)
  pub whole : r.set ≡ set_of (eval_set l)
  pub list : r.display ≡ list_of (display_of (first_sus l) (eval_set l))

-- each call of a change of the code's sets, by what it can give, is f of the set
abbrev pub Changes : (IntervalSet → Exp → IntervalSet → Type 0) → (Set → Exp → Set) → Type 0
Changes gives f = (s r : IntervalSet) (e : Exp) → gives s e r → members r ≡ f (members s) e
