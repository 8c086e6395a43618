-- The clauses of a normalized set N and a K, one by one; and which expressions are allowed: what the invariants of the evaluation are proved
-- of, and what the round trip takes.
-- Assumes nothing.
use mathlib.Core.Bool.{Bool, true, false, not, ◌&&◌}
use mathlib.Core.List.{List, [], ◌∷◌}
use lib.Dec.{T, eqb, ltb}
use Rattle.intervals.specs.Interval.{elem, Set, unison, minor_second, minor_third, major_third, augmented_fourth, diminished_fifth, perfect_fifth, augmented_fifth, major_sixth, diminished_seventh, octave, flat_ninth, ninth, eleventh, sharp_eleventh, flat_thirteenth, thirteenth}
use Rattle.expression.specs.declared.expression.Exp.TheVariants.{Power, Bass, Maj, Maj7, Minor, HalfDim, Dim, Dim7, Alt, Aug, Sus, Extension, Add, Omit, SlashBass}
use Rattle.expression.specs.declared.expression.Exp.{Exp}
use Rattle.validator.specs.Validator.{add_targets, omit_targets}
use Rattle.house_parts.specs.House.{is_flat2, is_second, is_sharp4, is_sus}
use Rattle.house_parts.specs.declared.kind.SusKind.{SusKind}
use Rattle.house_parts.specs.Question.{◌⇒◌, all, clauses}
use Rattle.house_parts.proofs.Bools.{and_left, and_right}

pub record Struct (n : Set) (k : SusKind) : Type 0 where
  -- S1: 1 is a member
  pub s1 : T (n unison)
  -- S2: b2 is not, #4 is not, 8 is not
  pub s2a : T (not (n minor_second))
  pub s2b : T (not (n augmented_fourth))
  pub s2c : T (not (n octave))
  -- S3: not both 5 and b5
  pub s3 : T (not (n perfect_fifth && n diminished_fifth))
  -- S4: not both 5 and #5
  pub s4 : T (not (n perfect_fifth && n augmented_fifth))
  -- S5: not both 5 and b13
  pub s5 : T (not (n perfect_fifth && n flat_thirteenth))
  -- S6: not both 5 and bb7
  pub s6 : T (not (n perfect_fifth && n diminished_seventh))
  -- S7: with bb7 and #5 there is b5
  pub s7 : T (n diminished_seventh && n augmented_fifth ⇒ n diminished_fifth)
  -- S8: not both 6 and 13
  pub s8 : T (not (n major_sixth && n thirteenth))
  -- S9: not both 3 and 11
  pub s9 : T (not (n major_third && n eleventh))
  -- S10: with a K there is no b3
  pub s10 : T (is_sus k ⇒ not (n minor_third))
  -- S11: K b2 comes with b9, K 2 with 9, K #4 with #11
  pub s11a : T (is_flat2 k ⇒ n flat_ninth)
  pub s11b : T (is_second k ⇒ n ninth)
  pub s11c : T (is_sharp4 k ⇒ n sharp_eleventh)

-- all of a list pass exactly when each passes
abbrev Each : List Bool → Type 0
Each [] = Unit
Each (b ∷ l) = T b × Each l

each : (l : List Bool) → T (all l) → Each l
each [] t = tt
each (b ∷ l) t = (and_left b (all l) t, each l (and_right b (all l) t))

join : (l : List Bool) → Each l → T (all l)
join [] t = tt
join (true ∷ l) t = join l t.1
join (false ∷ l) t = absurd t.0

-- the clauses one by one, and together
pub apart : (n : Set) (k : SusKind) → T (all (clauses n k)) → Struct n k
apart n k t =
    let e = each (clauses n k) t in
    record {
      s1 = e.0;
      s2a = e.1.0;
      s2b = e.1.1.0;
      s2c = e.1.1.1.0;
      s3 = e.1.1.1.1.0;
      s4 = e.1.1.1.1.1.0;
      s5 = e.1.1.1.1.1.1.0;
      s6 = e.1.1.1.1.1.1.1.0;
      s7 = e.1.1.1.1.1.1.1.1.0;
      s8 = e.1.1.1.1.1.1.1.1.1.0;
      s9 = e.1.1.1.1.1.1.1.1.1.1.0;
      s10 = e.1.1.1.1.1.1.1.1.1.1.1.0;
      s11a = e.1.1.1.1.1.1.1.1.1.1.1.1.0;
      s11b = e.1.1.1.1.1.1.1.1.1.1.1.1.1.0;
      s11c = e.1.1.1.1.1.1.1.1.1.1.1.1.1.1.0;
    }

pub together : (n : Set) (k : SusKind) → Struct n k → T (all (clauses n k))
together n k c = join (clauses n k) (c.s1, (c.s2a, (c.s2b, (c.s2c, (c.s3, (c.s4, (c.s5, (c.s6, (c.s7, (c.s8, (c.s9, (c.s10, (c.s11a, (c.s11b, (c.s11c, tt)))))))))))))))

-- an expression as the parser makes it and validation allows it: its interval is below 23, no extension is #4, and an Add or an Omit names
-- what it may
abbrev pub allows : Exp → Bool
allows Power = true
allows Bass = true
allows Maj = true
allows Maj7 = true
allows Minor = true
allows HalfDim = true
allows Dim = true
allows Dim7 = true
allows Alt = true
allows Aug = true
allows (Sus x) = ltb x 23
allows (Extension x p) = ltb x 23 && not (eqb x augmented_fourth)
allows (Add x p) = ltb x 23 && elem x add_targets
allows (Omit x p) = ltb x 23 && elem x omit_targets
allows (SlashBass n) = true

-- and so is each of a list
abbrev pub allowed : List Exp → Bool
allowed [] = true
allowed (e ∷ l) = allows e && allowed l
