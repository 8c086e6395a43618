-- What a chord record stands for: its four.
use Rattle.std.specs.Prelude.{List, [], ℕ}
use Rattle.intervals.specs.Interval.{Set, empty}
use Rattle.intervals.specs.Stored.{list_of, listed, members, set_of}
use Rattle.std.specs.declared.option.Option.TheVariants.{None}
use Rattle.note.specs.Note.{OptionalNote}
use Rattle.chord.specs.declared.Chord.{Chord}

-- "the root, slash bass or none, normalized set and display list". "Sets are the same when they have the same members, display lists
-- when they have the same members in the same order": two sets, and two lists, are the same when they are equal.
pub record Four : Type 0 where
  pub root : OptionalNote
  pub bass : OptionalNote
  pub normalized : Set
  pub display : List ℕ

abbrev pub four_of : Chord → Four
four_of c = record { root = c.root; bass = c.bass; normalized = members c.normalized; display = listed c.display }

-- no root, no bass and no intervals
abbrev pub no_chord : Four
no_chord = record { root = None; bass = None; normalized = empty; display = [] }

-- the record of a four
abbrev pub record_of : Four → Chord
record_of f = record { root = f.root; bass = f.bass; normalized = set_of f.normalized; display = list_of f.display }
