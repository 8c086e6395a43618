-- The invariant: whether all clauses hold is whether those from here on do.
use Rattle.std.proofs.Common.{◌≡◌, drop}
use Rattle.intervals.specs.Stored.{members}
use Rattle.house_parts.specs.Question.{all, clauses}
use Rattle.house_parts.proofs.question.has_clauses.Given as goal

abbrev pub invariant-loop-i : goal.invariant-loop-i
invariant-loop-i l = all (clauses (members l.set) l.k) ≡ all (drop l.i (clauses (members l.set) l.k))
