-- Expressions, and an expression as one number, where it stands in an array.
use Rattle.std.specs.Prelude.{cond, List, [], ◌∷◌, ℕ, ◌+◌, ◌*◌, ◌/◌, ◌%◌, eqb, get_or}
use Rattle.note.specs.Note.{note_number, note_of}
use Rattle.note.specs.declared.Note.{Note}
use Rattle.expression.specs.declared.expression.Exp.TheVariants.{Power, Bass, Maj, Maj7, Minor, HalfDim, Dim, Dim7, Alt, Aug, Sus, Extension, Add, Omit, SlashBass}
use Rattle.expression.specs.declared.expression.Exp.{Exp}

-- the kind, in the order of `Exp`, in the lowest four bits; the interval or the note in the next eight; then the position
abbrev pub packed : ℕ → ℕ → ℕ → ℕ
packed k v p = k + 16 * v + 4096 * p

abbrev pub exp_number : Exp → ℕ
exp_number Power = packed 0 0 0
exp_number Bass = packed 1 0 0
exp_number Maj = packed 2 0 0
exp_number Maj7 = packed 3 0 0
exp_number Minor = packed 4 0 0
exp_number HalfDim = packed 5 0 0
exp_number Dim = packed 6 0 0
exp_number Dim7 = packed 7 0 0
exp_number Alt = packed 8 0 0
exp_number Aug = packed 9 0 0
exp_number (Sus i) = packed 10 i 0
exp_number (Extension i p) = packed 11 i p
exp_number (Add i p) = packed 12 i p
exp_number (Omit i p) = packed 13 i p
exp_number (SlashBass n) = packed 14 (note_number n) 0

abbrev pub exp_by : ℕ → ℕ → ℕ → Exp
exp_by k v p =
    get_or (Power ∷ Bass ∷ Maj ∷ Maj7 ∷ Minor ∷ HalfDim ∷ Dim ∷ Dim7 ∷ Alt ∷ Aug ∷ Sus v ∷ Extension v p ∷ Add v p ∷ Omit v p ∷ []) k
    (SlashBass (note_of v))

unfoldable pub exp_of : ℕ → Exp
exp_of n = exp_by (n % 16) (n / 16 % 256) (n / 4096 % 65536)

-- f of what an expression of one kind carries; d for every other expression
abbrev pub on_sus {ℓ} : {A : Type ℓ} → A → (ℕ → A) → Exp → A
on_sus d f Power = d
on_sus d f Bass = d
on_sus d f Maj = d
on_sus d f Maj7 = d
on_sus d f Minor = d
on_sus d f HalfDim = d
on_sus d f Dim = d
on_sus d f Dim7 = d
on_sus d f Alt = d
on_sus d f Aug = d
on_sus d f (Sus x) = f x
on_sus d f (Extension x p) = d
on_sus d f (Add x p) = d
on_sus d f (Omit x p) = d
on_sus d f (SlashBass n) = d

abbrev pub on_extension {ℓ} : {A : Type ℓ} → A → (ℕ → ℕ → A) → Exp → A
on_extension d f Power = d
on_extension d f Bass = d
on_extension d f Maj = d
on_extension d f Maj7 = d
on_extension d f Minor = d
on_extension d f HalfDim = d
on_extension d f Dim = d
on_extension d f Dim7 = d
on_extension d f Alt = d
on_extension d f Aug = d
on_extension d f (Sus x) = d
on_extension d f (Extension x p) = f x p
on_extension d f (Add x p) = d
on_extension d f (Omit x p) = d
on_extension d f (SlashBass n) = d

abbrev pub on_add {ℓ} : {A : Type ℓ} → A → (ℕ → ℕ → A) → Exp → A
on_add d f Power = d
on_add d f Bass = d
on_add d f Maj = d
on_add d f Maj7 = d
on_add d f Minor = d
on_add d f HalfDim = d
on_add d f Dim = d
on_add d f Dim7 = d
on_add d f Alt = d
on_add d f Aug = d
on_add d f (Sus x) = d
on_add d f (Extension x p) = d
on_add d f (Add x p) = f x p
on_add d f (Omit x p) = d
on_add d f (SlashBass n) = d

abbrev pub on_omit {ℓ} : {A : Type ℓ} → A → (ℕ → ℕ → A) → Exp → A
on_omit d f Power = d
on_omit d f Bass = d
on_omit d f Maj = d
on_omit d f Maj7 = d
on_omit d f Minor = d
on_omit d f HalfDim = d
on_omit d f Dim = d
on_omit d f Dim7 = d
on_omit d f Alt = d
on_omit d f Aug = d
on_omit d f (Sus x) = d
on_omit d f (Extension x p) = d
on_omit d f (Add x p) = d
on_omit d f (Omit x p) = f x p
on_omit d f (SlashBass n) = d

abbrev pub on_slash_bass {ℓ} : {A : Type ℓ} → A → (Note → A) → Exp → A
on_slash_bass d f Power = d
on_slash_bass d f Bass = d
on_slash_bass d f Maj = d
on_slash_bass d f Maj7 = d
on_slash_bass d f Minor = d
on_slash_bass d f HalfDim = d
on_slash_bass d f Dim = d
on_slash_bass d f Dim7 = d
on_slash_bass d f Alt = d
on_slash_bass d f Aug = d
on_slash_bass d f (Sus x) = d
on_slash_bass d f (Extension x p) = d
on_slash_bass d f (Add x p) = d
on_slash_bass d f (Omit x p) = d
on_slash_bass d f (SlashBass n) = f n

-- the number of its kind, in the order of `Exp`
abbrev pub kind_number : Exp → ℕ
kind_number Power = 0
kind_number Bass = 1
kind_number Maj = 2
kind_number Maj7 = 3
kind_number Minor = 4
kind_number HalfDim = 5
kind_number Dim = 6
kind_number Dim7 = 7
kind_number Alt = 8
kind_number Aug = 9
kind_number (Sus x) = 10
kind_number (Extension x p) = 11
kind_number (Add x p) = 12
kind_number (Omit x p) = 13
kind_number (SlashBass n) = 14

-- what stands beside an expression of one word in a list; d for every other expression
abbrev pub on_word {ℓ} : {A : Type ℓ} → A → List (Exp × A) → Exp → A
on_word d [] e = d
on_word d ((w, a) ∷ l) e = cond (eqb (kind_number w) (kind_number e)) a (on_word d l e)
