-- The house spelling in bytes: the root, then the text of each part that the set N and K name, in the order of `parts`, which has the
-- conditions.
use Rattle.std.specs.Prelude.{cond, List, [], ◌∷◌, ◌++◌, ℕ}
use Rattle.chord.specs.Chord.{Four}
use Rattle.intervals.specs.Interval.{Set}
use Rattle.note.specs.declared.Note.{Note}
use Rattle.note.specs.declared.NoteLiteral.TheVariants.{C, D, E, F, G, A, B}
use Rattle.note.specs.declared.NoteLiteral.{NoteLiteral}
use Rattle.std.specs.declared.option.Option.TheVariants.{None, Some}
use Rattle.note.specs.Note.{OptionalNote}
use Rattle.note.specs.declared.RootModifier.TheVariants.{Natural, Sharp, Flat}
use Rattle.note.specs.declared.RootModifier.{RootModifier}
use Rattle.house_parts.specs.House.{Part, part, kind_in, note_or_c, parts}
use Rattle.house_parts.specs.declared.kind.SusKind.{SusKind}
use Rattle.lexer.specs.Text.{ascii}

abbrev pub letter_text : NoteLiteral → List ℕ
letter_text C = ascii "C"
letter_text D = ascii "D"
letter_text E = ascii "E"
letter_text F = ascii "F"
letter_text G = ascii "G"
letter_text A = ascii "A"
letter_text B = ascii "B"

abbrev pub sign_text : RootModifier → List ℕ
sign_text Natural = []
sign_text Sharp = ascii "#"
sign_text Flat = ascii "b"

-- "root letter, `#` or `b`"
abbrev pub note_text : Note → List ℕ
note_text n = letter_text n.literal ++ sign_text n.modifier

-- "`dim7` .., else `m` ..; then parts, each after a comma: `b5` ..; `#5` and `7` ..; `susb2`, `sus2` or `sus#4` ..; `omit3` ..; `omit5`
-- ..; `add` with each member of N among 2, 3, .., 4, b6, 6, Maj7, b9, 9, #9, 11, #11, b13, 13 ... Last, `/` and the bass."
abbrev pub texts : OptionalNote → List (List ℕ)
texts bass =
    ascii "dim7"
    ∷ ascii "m"
    ∷ ascii ",b5"
    ∷ ascii ",#5"
    ∷ ascii ",7"
    ∷ ascii ",susb2"
    ∷ ascii ",sus2"
    ∷ ascii ",sus#4"
    ∷ ascii ",omit3"
    ∷ ascii ",omit5"
    ∷ ascii ",add2"
    ∷ ascii ",add3"
    ∷ ascii ",add4"
    ∷ ascii ",addb6"
    ∷ ascii ",add6"
    ∷ ascii ",addMaj7"
    ∷ ascii ",addb9"
    ∷ ascii ",add9"
    ∷ ascii ",add#9"
    ∷ ascii ",add11"
    ∷ ascii ",add#11"
    ∷ ascii ",addb13"
    ∷ ascii ",add13"
    ∷ (ascii "/" ++ note_text (note_or_c bass))
    ∷ []

-- the texts of those parts whose condition holds
abbrev pub written : List Part → List (List ℕ) → List ℕ
written [] ts = []
written (part c e ∷ ps) [] = []
written (part c e ∷ ps) (t ∷ ts) = cond c t [] ++ written ps ts

-- "Written in order: root letter, `#` or `b`; .." (The texts do not depend on the places that the expressions carry.)
abbrev pub spell : Note → OptionalNote → Set → SusKind → List ℕ
spell root bass n k = note_text root ++ written (parts (λ i. 0) bass n k) (texts bass)

-- "its house spelling is what the rules under that heading make of these four"; of no chord "the empty text" (document 02 [4])
abbrev pub house_by : OptionalNote → Four → List ℕ
house_by (Some r) f = spell r f.bass f.normalized (kind_in f.normalized f.display)
house_by None f = []

abbrev pub house : Four → List ℕ
house f = house_by f.root f
