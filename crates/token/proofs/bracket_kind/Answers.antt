-- Each arm is the definition at that type, and so is the last at the other types.
-- Assumes nothing.
use borrow.Enum.Refused.{opened}
use mathlib.Core.List.{List, [], ◌∷◌}
use mathlib.Core.Path.{◌≡◌, refl, sym, ap}
use Prim.Native.Nat.{ℕ}
use denote.Enum.Declared.{tag_of}
use types.Run.{OneOf, miss}
use Rattle.token.specs.contracts.TokenType.{the_type}
use Rattle.token.specs.declared.TokenType.TheVariants as type
use Rattle.token.specs.declared.TokenType.{TokenType}
use Rattle.token.specs.Token.{bracket_kind}
use Rattle.token.specs.declared.Bracket.TheVariants.{Other}
use Rattle.token.proofs.bracket_kind.Goals as goal

abbrev others : List ℕ
others = 0 ∷ 1 ∷ 2 ∷ 3 ∷ 4 ∷ 5 ∷ 6 ∷ 7 ∷ 8 ∷ 9 ∷ 10 ∷ 11 ∷ 12 ∷ 13 ∷ 14 ∷ 15 ∷ 16 ∷ 19 ∷ 20 ∷ 21 ∷ []

rest : (k : TokenType) → OneOf others (tag_of the_type k) → Other ≡ bracket_kind k
rest (type.Note l) o = refl
rest type.Sharp o = refl
rest type.Flat o = refl
rest type.Aug o = refl
rest type.Dim o = refl
rest type.Dim7 o = refl
rest type.HalfDim o = refl
rest (type.Extension n) o = refl
rest type.Add o = refl
rest type.Omit o = refl
rest type.Alt o = refl
rest type.Sus o = refl
rest type.Minor o = refl
rest type.Hyphen o = refl
rest type.Maj o = refl
rest type.Maj7 o = refl
rest type.Slash o = refl
rest type.LParent o = absurd (miss others 17 tt o)
rest type.RParent o = absurd (miss others 18 tt o)
rest type.Comma o = refl
rest type.Bass o = refl
rest type.Illegal o = refl
rest type.Eof o = absurd (miss others 22 tt o)

pub returns-in-LParent : goal.returns-in-LParent
returns-in-LParent c = sym (ap bracket_kind c.in-LParent.is)

pub returns-in-RParent : goal.returns-in-RParent
returns-in-RParent c = sym (ap bracket_kind c.in-RParent.is)

pub returns-in-Eof : goal.returns-in-Eof
returns-in-Eof c = sym (ap bracket_kind c.in-Eof.is)

pub returns-in_default : goal.returns-in_default
returns-in_default c = rest c.args.kind (opened c.in_default.in_default-own.keys4)
