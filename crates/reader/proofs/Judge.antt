-- What was written at the beginning of the lent list makes the outcome.
-- Assumes nothing.
use mathlib.Core.Bool.{Bool, true, false, not}
use mathlib.Core.List.{List, [], ◌∷◌, ◌++◌}
use mathlib.Core.Path.{◌≡◌, refl, sym, ap, subst, ◌∙◌}
use Prim.Native.Nat.{ℕ, zero, suc, ◌*◌, ◌≤◌, ◌<◌}
use native.Mathlib.Omega.{arith}
use lib.ListN.{length, take, drop}
use lib.Seq.{length-take-le}
use Rattle.chord.specs.Chord.{four_of, no_chord, record_of}
use Rattle.note.specs.Note.{OptionalNote}
use Rattle.expression.proofs.AllNumbers.{all-length}
use Rattle.expression.specs.ParserError.{all_numbers}
use Rattle.expression.specs.declared.parser_error.ParserError.{ParserError}
use Rattle.expression.specs.declared.expression.Exp.{Exp}
use Rattle.token.specs.declared.Token.{Token}
use Rattle.reader.specs.Reader.{Answer, ReadOutcome, Reading, count_of, judge, number_of, parsed, refused, validated}
use Rattle.reader.specs.State.{ReadGave}
use Rattle.std.proofs.lemmas.List.Elements.{All-cons, All-nil}
use Rattle.expression.specs.Bounds.{Sound}
use Rattle.evaluator.specs.State.{Sounds}
use Rattle.parser.specs.All.{All}

parted : (n : ℕ) (l : List ℕ) → l ≡ take n l ++ drop n l
parted zero l = refl
parted (suc n) [] = refl
parted (suc n) (x ∷ l) = ap (λ (q : List ℕ). x ∷ q) (parted n l)

-- the count of errors by the numbers that were written
pub counted : (n : ℕ) (more : List ParserError) (es : List ℕ) → 4 * n ≤ length es → take (4 * n) es ≡ all_numbers more → n ≡ length more
counted n more es h e =
    let l : length (take (4 * n) es) ≡ length (all_numbers more) = ap length e in
    omega (arith, length-take-le (4 * n) es h, l, all-length more)

-- errors were found
pub gave_errors : (more : List ParserError) (k : ℕ) (o : ReadOutcome) (n : ℕ) {r : Reading} {es es' : List ℕ} → 0 < n → n ≡ length more
    → take (4 * n) es' ≡ all_numbers more → drop (4 * n) es' ≡ drop (4 * n) es → number_of r.answer ≡ k → count_of r.answer ≡ n
    → four_of r.chord ≡ no_chord → r.chord ≡ record_of no_chord → ReadGave (judge more k o) r es es'
gave_errors [] k o n {r} {es} {es'} h m t d a b c w = absurd (omega (arith, h, m))
gave_errors (x ∷ xs) k o n {r} {es} {es'} h m t d a b c w =
    let q : 4 * n ≡ length (all_numbers (x ∷ xs)) = omega (arith, m, all-length (x ∷ xs)) in
    record {
      number = a;
      count = b ∙ m;
      four = c;
      chord = w;
      list = parted (4 * n) es' ∙ (λ i. t i ++ d i) ∙ ap (λ (j : ℕ). all_numbers (x ∷ xs) ++ drop j es) q;
    }

-- none was
pub gave_none : (more : List ParserError) (k : ℕ) (o : ReadOutcome) {r : Reading} {es es' : List ℕ} → length more ≡ 0 → ReadGave o r es es'
    → ReadGave (judge more k o) r es es'
gave_none [] k o h g = g
gave_none (x ∷ xs) k o h g = absurd (omega (arith, h))

-- the list is as it was
pub untouched : (n : ℕ) {es es' : List ℕ} → n ≡ 0 → drop (4 * n) es' ≡ drop (4 * n) es → es' ≡ es
untouched n {es} {es'} z d =
    let e : 4 * n ≡ 0 = omega (arith, z) in
    subst (λ (j : ℕ). drop j es' ≡ drop j es) e d

-- no chord and no errors: a question got no, or the text is blank (`silent` is `refused 0`)
pub gave_no_chord : {o : ReadOutcome} {k : ℕ} {a : Answer} {r : Reading} (es : List ℕ) → o ≡ refused k → number_of a ≡ k → count_of a ≡ 0
    → r.answer ≡ a
    → four_of r.chord ≡ no_chord → r.chord ≡ record_of no_chord → ReadGave o r es es
gave_no_chord {o} {k} {a} {r} es e n m h c w =
    subst (λ (x : ReadOutcome). ReadGave x r es es) (sym e)
    (record { number = ap number_of h ∙ n; count = ap count_of h ∙ m; four = c; chord = w; list = refl })

-- the same of an outcome that is equal
pub gave_same : {o o' : ReadOutcome} {r : Reading} {es es' : List ℕ} → o ≡ o' → ReadGave o' r es es' → ReadGave o r es es'
gave_same {o} {o'} {r} {es} {es'} e g = subst (λ (x : ReadOutcome). ReadGave x r es es') (sym e) g

-- sound expressions, one after the other or by their place
pub sounds-all : (l : List Exp) → All Sound l → Sounds l
sounds-all [] a = All-nil Sound
sounds-all (e ∷ l) a = All-cons Sound e l a.0 (sounds-all l a.1)

-- the same of a root, expressions and a list that are equal
pub as_is : {root root' : OptionalNote} {l l' : List Exp} {r : Reading} {e e' es : List ℕ} → root ≡ root' → l ≡ l' → e ≡ e' → ReadGave (validated root l) r e es → ReadGave (validated root' l') r e' es
as_is {root} {root'} {l} {l'} {r} {e} {e'} {es} p q u g =
    subst (λ (x : OptionalNote). ReadGave (validated x l') r e' es) p
    (subst (λ (x : List Exp). ReadGave (validated root x) r e' es) q
    (subst (λ (x : List ℕ). ReadGave (validated root l) r x es) u g))

-- and of equal tokens
pub as_tokens : {ts ts' : List Token} {r : Reading} {es es' : List ℕ} → ts ≡ ts' → ReadGave (parsed ts) r es es' → ReadGave (parsed ts') r es es'
as_tokens {ts} {ts'} {r} {es} {es'} e g = subst (λ (x : List Token). ReadGave (parsed x) r es es') e g

pub no : (b : Bool) → not b ≡ true → b ≡ false
no true e = sym e
no false e = refl

pub yes : (b : Bool) → not b ≡ false → b ≡ true
yes true e = refl
yes false e = sym e
