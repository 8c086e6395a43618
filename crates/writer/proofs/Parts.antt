-- The texts of the parts: the parts are written one by one in their order and then the bass, and
-- there is room for them in 112 bytes.
-- Assumes nothing.
use mathlib.Core.Bool.{Bool, true, false, ◌&&◌, cond}
use mathlib.Core.List.{List, [], ◌∷◌, ◌++◌, append_assoc, append-nil}
use mathlib.Core.Path.{◌≡◌, refl, sym, ap, ◌∙◌}
use Prim.Native.Nat.{ℕ, zero, suc, ◌+◌, ◌≤◌, ◌<◌}
use native.Mathlib.Omega.{arith}
use lib.Dec.{T, leb, leb→le}
use lib.ListN.{length, get_or, take, length-append}
use lib.Seq.{get_or-take, length-take-le, take-suc}
use Rattle.intervals.specs.Interval.{Set}
use Rattle.note.specs.declared.Note.{Note}
use Rattle.std.specs.declared.option.Option.TheVariants.{None}
use Rattle.note.specs.Note.{OptionalNote}
use Rattle.expression.specs.declared.expression.Exp.TheVariants.{Dim7, SlashBass}
use Rattle.house_parts.specs.House.{Part, part, condition, condition_at, is_some, note_or_c, parts}
use Rattle.house_parts.specs.declared.kind.SusKind.TheVariants.{Plain}
use Rattle.house_parts.specs.declared.kind.SusKind.{SusKind}
use Rattle.lexer.specs.Text.{ascii}
use Rattle.house_text.proofs.Length.{length-spelled}
use Rattle.house_text.specs.Spelling.{note_text, spell, written}
use Rattle.writer.specs.State.{bass_text, part_text, text_at, texts23, written23}

-- The texts have at most eight bytes each, by computation.

fits : List (List ℕ) → Bool
fits [] = true
fits (t ∷ ts) = leb (length t) 8 && fits ts

left : (a b : Bool) → T (a && b) → T a
left true b t = tt
left false b t = t

right : (a b : Bool) → T (a && b) → T b
right true b t = t
right false b t = absurd t

fits_at : (l : List (List ℕ)) → T (fits l) → (i : ℕ) → i < length l → length (get_or l i []) ≤ 8
unfolding fits
fits_at [] t i h = absurd (omega arith)
fits_at (w ∷ l) t zero h = leb→le _ _ (left (leb (length w) 8) (fits l) t)
fits_at (w ∷ l) t (suc i) h = fits_at l (right (leb (length w) 8) (fits l) t) i (omega arith)

texts_fit : T (fits texts23)
unfolding fits
texts_fit = tt

pub text_fits : (i : ℕ) → i < 23 → length (text_at i) ≤ 8
text_fits i h = fits_at texts23 texts_fit i h

-- Any parts with their texts.

written-two : (ps qs : List Part) (ts us : List (List ℕ)) → length ps ≡ length ts → written (ps ++ qs) (ts ++ us) ≡ written ps ts ++ written qs us
written-two [] qs [] us h = refl
written-two [] qs (t ∷ ts) us h = absurd (omega arith)
written-two (part c e ∷ ps) qs [] us h = absurd (omega arith)
written-two (part c e ∷ ps) qs (t ∷ ts) us h =
    ap (λ (l : List ℕ). cond c t [] ++ l) (written-two ps qs ts us (omega arith)) ∙ sym (append_assoc (cond c t []) (written ps ts) (written qs us))

written_one : (p : Part) (t : List ℕ) → written (p ∷ []) (t ∷ []) ≡ cond (condition p) t []
written_one (part c e) t = append-nil (cond c t [])

-- the first are no longer than all
written-some : (i : ℕ) (ps : List Part) (ts : List (List ℕ)) → length (written (take i ps) (take i ts)) ≤ length (written ps ts)
written-some zero ps ts = omega arith
written-some (suc i) [] ts = omega arith
written-some (suc i) (part c e ∷ ps) [] = omega arith
written-some (suc i) (part c e ∷ ps) (t ∷ ts) =
    omega (arith, length-append (cond c t []) (written (take i ps) (take i ts)), length-append (cond c t []) (written ps ts), written-some i ps ts)

-- one more
written_next : (i : ℕ) (ps : List Part) (ts : List (List ℕ)) → i < length ps → i < length ts → written (take (i + 1) ps) (take (i + 1) ts) ≡ written (take i ps) (take i ts) ++ cond (condition_at i ps) (get_or ts i []) []
written_next i ps ts h k =
    let n : i + 1 ≡ suc i = omega arith in
    let p : Part = get_or ps i (part false Dim7) in
    let l : length (take i ps) ≡ length (take i ts) = length-take-le i ps (omega arith) ∙ sym (length-take-le i ts (omega arith)) in
    ap (λ (m : ℕ). written (take m ps) (take m ts)) n
    ∙ ap (λ (q : List Part). written q (take (suc i) ts)) (take-suc ps i (part false Dim7) h)
    ∙ ap (λ (q : List (List ℕ)). written (take i ps ++ (p ∷ [])) q) (take-suc ts i [] k)
    ∙ written-two (take i ps) (p ∷ []) (take i ts) (get_or ts i [] ∷ []) l
    ∙ ap (λ (q : List ℕ). written (take i ps) (take i ts) ++ q) (written_one p (get_or ts i []))

-- The parts of a set by K, but for the bass.

abbrev pub parts_of : Set → SusKind → List Part
parts_of n k = parts (λ j. 0) None n k

-- what the first i parts write
unfoldable pub so_far : Set → SusKind → ℕ → List ℕ
so_far n k i = written (take i (take 23 (parts_of n k))) (take i texts23)

module _ (n : Set) (k : SusKind) where
  pub so_far_none : so_far n k 0 ≡ []
  unfolding so_far
  so_far_none = refl

  pub so_far_all : so_far n k 23 ≡ written23 n k
  unfolding so_far
  so_far_all = refl

  pub so_far_next : (i : ℕ) → i < 23 → so_far n k (i + 1) ≡ so_far n k i ++ cond (condition_at i (parts_of n k)) (text_at i) []
  unfolding so_far
  so_far_next i h =
      written_next i (take 23 (parts_of n k)) texts23 h h
      ∙ ap (λ (p : Part). so_far n k i ++ cond (condition p) (text_at i) []) (get_or-take 23 (parts_of n k) i (part false Dim7) h)

  pub so_far_some : (i : ℕ) → length (so_far n k i) ≤ length (written23 n k)
  unfolding so_far
  so_far_some i = written-some i (take 23 (parts_of n k)) texts23

  -- a part that stands
  pub so_far_text : (i : ℕ) → i < 23 → condition_at i (parts_of n k) ≡ true → so_far n k (i + 1) ≡ so_far n k i ++ text_at i
  so_far_text i h e = so_far_next i h ∙ ap (λ (c : Bool). so_far n k i ++ cond c (text_at i) []) e

  -- one that does not
  pub so_far_same : (i : ℕ) → i < 23 → condition_at i (parts_of n k) ≡ false → so_far n k (i + 1) ≡ so_far n k i
  so_far_same i h e = so_far_next i h ∙ ap (λ (c : Bool). so_far n k i ++ cond c (text_at i) []) e ∙ append-nil (so_far n k i)

  -- the room for one more
  pub part_room : (i : ℕ) → i < 23 → length (so_far n k i) + length (cond (condition_at i (parts_of n k)) (text_at i) []) ≤ length (written23 n k)
  part_room i h =
      let t : List ℕ = cond (condition_at i (parts_of n k)) (text_at i) [] in
      let l : length (so_far n k (i + 1)) ≡ length (so_far n k i ++ t) = ap length (so_far_next i h) in
      omega (arith, l, length-append (so_far n k i) t, so_far_some (i + 1))

  pub text-room : (i : ℕ) → i < 23 → condition_at i (parts_of n k) ≡ true → length (so_far n k i) + length (text_at i) ≤ length (written23 n k)
  text-room i h e =
      let l : length (cond (condition_at i (parts_of n k)) (text_at i) []) ≡ length (text_at i) = ap (λ (c : Bool). length (cond c (text_at i) [])) e in
      omega (arith, l, part_room i h)

  -- the same of a part's own text
  module _ (i : ℕ) where
    pub part-named : condition_at i (parts_of n k) ≡ true → part_text n k i ≡ text_at i
    unfolding part_text
    part-named e = ap (λ (c : Bool). cond c (text_at i) []) e

    pub part_unnamed : condition_at i (parts_of n k) ≡ false → part_text n k i ≡ []
    unfolding part_text
    part_unnamed e = ap (λ (c : Bool). cond c (text_at i) []) e

    pub next-part : i < 23 → so_far n k i ++ part_text n k i ≡ so_far n k (i + 1)
    unfolding part_text
    next-part h = sym (so_far_next i h)

    pub next-room : i < 23 → length (so_far n k i) + length (part_text n k i) ≤ length (written23 n k)
    unfolding part_text
    next-room h = part_room i h

-- The whole: the root, the parts and the bass.

pub spell-parts : (root : Note) (bass : OptionalNote) (n : Set) (k : SusKind) → spell root bass n k ≡ note_text root ++ (written23 n k ++ bass_text bass)
spell-parts root bass n k =
    ap (λ (l : List ℕ). note_text root ++ l)
    (written-two (take 23 (parts_of n k)) (part (is_some bass) (SlashBass (note_or_c bass)) ∷ []) texts23 ((ascii "/" ++ note_text (note_or_c bass)) ∷ []) refl
    ∙ ap (λ (l : List ℕ). written23 n k ++ l) (append-nil (bass_text bass)))

pub spell-room : (root : Note) (bass : OptionalNote) (n : Set) (k : SusKind) → length (note_text root) + length (written23 n k) + length (bass_text bass) ≤ 112
spell-room root bass n k =
    let e : length (spell root bass n k) ≡ length (note_text root ++ (written23 n k ++ bass_text bass)) = ap length (spell-parts root bass n k) in
    omega (arith, e, length-spelled root bass n k, length-append (note_text root) (written23 n k ++ bass_text bass), length-append (written23 n k) (bass_text bass))

pub parts-room : (root : Note) (n : Set) (k : SusKind) → length (note_text root) + length (written23 n k) ≤ 112
parts-room root n k = omega (arith, spell-room root None n k)

pub note_room : (root : Note) → length (note_text root) ≤ 112
note_room root = omega (arith, parts-room root (λ j. false) Plain)
