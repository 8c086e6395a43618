-- The set of the spelled expressions is the set that was spelled, where the clauses hold and the two thirds are not both there. Member by
-- member: at a written-out member `eval_parts` is a Boolean expression in a few members of N, and `law` computes all their values.
-- Assumes nothing.
use mathlib.Core.Bool.{Bool, false, not, ◌&&◌, cond}
use mathlib.Core.List.{List, [], ◌∷◌}
use mathlib.Core.Path.{◌≡◌, refl, sym, ◌∙◌, ap, subst}
use Prim.Native.Nat.{ℕ, zero, suc, ◌<◌}
use native.Mathlib.Nat.{not-suc-le-zero, le_of_suc-le-suc}
use lib.Dec.{T, eqb}
use lib.ListN.{length, get_or}
use lib.Seq.{ext_get_or}
use Rattle.intervals.specs.Interval.{Set, insert, remove}
use Rattle.note.specs.Note.{OptionalNote}
use Rattle.evaluator.specs.Evaluator.{eval_set}
use Rattle.house_parts.specs.House.{is_flat2, is_second, is_sharp4, is_sus, parts, spell_exps}
use Rattle.house_parts.specs.declared.kind.SusKind.TheVariants.{Plain, Flat2, Second, Sharp4}
use Rattle.house_parts.specs.declared.kind.SusKind.{SusKind}
use Rattle.house_parts.specs.Question.{◌⇒◌}
use Rattle.house_text.proofs.Bits.{eval_parts, eval_parts_lem}
use Rattle.house_parts.proofs.Bools.{law, Pred, Holds, every, ◌≈◌, ◌⊃◌, and_left, and_right}
use Rattle.house_text.proofs.Struct.{Struct}

-- a law for each kind
pub law_k : (m : ℕ) (q : SusKind → Pred m) → T (every m (q Plain) && (every m (q Flat2) && (every m (q Second) && every m (q Sharp4)))) → (k : SusKind) → Holds m (q k)
law_k m q t Plain = law m (q Plain) (and_left (every m (q Plain)) _ t)
law_k m q t Flat2 = law m (q Flat2) (and_left (every m (q Flat2)) _ (and_right (every m (q Plain)) _ t))
law_k m q t Second = law m (q Second) (and_left (every m (q Second)) _ (and_right (every m (q Flat2)) _ (and_right (every m (q Plain)) _ t)))
law_k m q t Sharp4 = law m (q Sharp4) (and_right (every m (q Second)) _ (and_right (every m (q Flat2)) _ (and_right (every m (q Plain)) _ t)))

-- a set as an array of n Booleans has it
abbrev pub tab : ℕ → Set → List Bool
tab zero s = []
tab (suc n) s = s 0 ∷ tab n (λ j. s (suc j))

abbrev pub table : Set → List Bool
table s = tab 23 s

pub length_tab : (n : ℕ) (s : Set) → length (tab n s) ≡ n
length_tab zero s = refl
length_tab (suc n) s = ap suc (length_tab n (λ j. s (suc j)))

pub get_d_tab : (n : ℕ) (s : Set) (j : ℕ) → j < n → get_or (tab n s) j false ≡ s j
get_d_tab zero s j h = absurd (not-suc-le-zero h)
get_d_tab (suc n) s zero h = refl
get_d_tab (suc n) s (suc j) h = get_d_tab n (λ j. s (suc j)) j (le_of_suc-le-suc h)

-- an array is the table of its members: how a contract's equation of sets becomes one of arrays
pub tab_of : (l : List Bool) (n : ℕ) → length l ≡ n → l ≡ tab n (λ j. get_or l j false)
tab_of l n e = ext_get_or false l (tab n (λ j. get_or l j false)) (e ∙ sym (length_tab n _)) (λ i h. sym (get_d_tab n (λ j. get_or l j false) i (subst (λ m. i < m) e h)))

-- the set with member i set to b
abbrev upd : Set → ℕ → Bool → Set
upd n i b j = cond (eqb i j) b (n j)

module _ (p : ℕ → ℕ) (b : OptionalNote) (n : Set) (k : SusKind) (c : Struct n k) (v : T (not (n 3 && n 4))) where
  m0 : eval_parts (parts p b n k) 0 ≡ n 0
  unfolding insert remove
  m0 = law 1 (λ a0. a0 ⊃ eval_parts (parts p b (upd n 0 a0) k) 0 ≈ a0) tt (n 0) c.s1

  m1 : eval_parts (parts p b n k) 1 ≡ n 1
  unfolding insert remove
  m1 = law 1 (λ a1. not a1 ⊃ eval_parts (parts p b (upd n 1 a1) k) 1 ≈ a1) tt (n 1) c.s2a

  m2 : eval_parts (parts p b n k) 2 ≡ n 2
  unfolding insert remove
  m2 = law 1 (λ a2. eval_parts (parts p b (upd n 2 a2) k) 2 ≈ a2) tt (n 2)

  m3 : eval_parts (parts p b n k) 3 ≡ n 3
  unfolding insert remove
  m3 = law_k 3 (λ k a3 a4 a12. (is_sus k ⇒ not a3) ⊃ not (a3 && a4) ⊃ eval_parts (parts p b (upd (upd (upd n 3 a3) 4 a4) 12 a12) k) 3 ≈ a3) tt k (n 3) (n 4) (n 12) c.s10 v

  m4 : eval_parts (parts p b n k) 4 ≡ n 4
  unfolding insert remove
  m4 = law_k 3 (λ k a3 a4 a12. not (a3 && a4) ⊃ eval_parts (parts p b (upd (upd (upd n 3 a3) 4 a4) 12 a12) k) 4 ≈ a4) tt k (n 3) (n 4) (n 12) v

  m5 : eval_parts (parts p b n k) 5 ≡ n 5
  unfolding insert remove
  m5 = law_k 5 (λ k a3 a4 a5 a12 a19. not (a4 && a19) ⊃ eval_parts (parts p b (upd (upd (upd (upd (upd n 3 a3) 4 a4) 5 a5) 12 a12) 19 a19) k) 5 ≈ a5) tt k (n 3) (n 4) (n 5) (n 12) (n 19) c.s9

  m6 : eval_parts (parts p b n k) 6 ≡ n 6
  unfolding insert remove
  m6 = law 1 (λ a6. not a6 ⊃ eval_parts (parts p b (upd n 6 a6) k) 6 ≈ a6) tt (n 6) c.s2b

  m7 : eval_parts (parts p b n k) 7 ≡ n 7
  unfolding insert remove
  m7 = law 6 (λ a3 a7 a8 a9 a12 a21. not (a8 && a12) ⊃ (a12 && a9 ⇒ a7) ⊃ eval_parts (parts p b (upd (upd (upd (upd (upd (upd n 3 a3) 7 a7) 8 a8) 9 a9) 12 a12) 21 a21) k) 7 ≈ a7) tt (n 3) (n 7) (n 8) (n 9) (n 12) (n 21) c.s6 c.s7

  m8 : eval_parts (parts p b n k) 8 ≡ n 8
  unfolding insert remove
  m8 = law 6 (λ a3 a7 a8 a9 a12 a21. not (a8 && a7) ⊃ not (a8 && a9) ⊃ not (a8 && a21) ⊃ not (a8 && a12) ⊃ eval_parts (parts p b (upd (upd (upd (upd (upd (upd n 3 a3) 7 a7) 8 a8) 9 a9) 12 a12) 21 a21) k) 8 ≈ a8) tt (n 3) (n 7) (n 8) (n 9) (n 12) (n 21) c.s3 c.s4 c.s5 c.s6

  m9 : eval_parts (parts p b n k) 9 ≡ n 9
  unfolding insert remove
  m9 = law 5 (λ a7 a8 a9 a12 a21. eval_parts (parts p b (upd (upd (upd (upd (upd n 7 a7) 8 a8) 9 a9) 12 a12) 21 a21) k) 9 ≈ a9) tt (n 7) (n 8) (n 9) (n 12) (n 21)

  m10 : eval_parts (parts p b n k) 10 ≡ n 10
  unfolding insert remove
  m10 = law 1 (λ a10. eval_parts (parts p b (upd n 10 a10) k) 10 ≈ a10) tt (n 10)

  m11 : eval_parts (parts p b n k) 11 ≡ n 11
  unfolding insert remove
  m11 = law 1 (λ a11. eval_parts (parts p b (upd n 11 a11) k) 11 ≈ a11) tt (n 11)

  m12 : eval_parts (parts p b n k) 12 ≡ n 12
  unfolding insert remove
  m12 = law 2 (λ a3 a12. eval_parts (parts p b (upd (upd n 3 a3) 12 a12) k) 12 ≈ a12) tt (n 3) (n 12)

  m13 : eval_parts (parts p b n k) 13 ≡ n 13
  unfolding insert remove
  m13 = law 3 (λ a3 a12 a13. eval_parts (parts p b (upd (upd (upd n 3 a3) 12 a12) 13 a13) k) 13 ≈ a13) tt (n 3) (n 12) (n 13)

  m14 : eval_parts (parts p b n k) 14 ≡ n 14
  unfolding insert remove
  m14 = law 1 (λ a14. eval_parts (parts p b (upd n 14 a14) k) 14 ≈ a14) tt (n 14)

  m15 : eval_parts (parts p b n k) 15 ≡ n 15
  unfolding insert remove
  m15 = law 1 (λ a15. not a15 ⊃ eval_parts (parts p b (upd n 15 a15) k) 15 ≈ a15) tt (n 15) c.s2c

  m16 : eval_parts (parts p b n k) 16 ≡ n 16
  unfolding insert remove
  m16 = law_k 1 (λ k a16. (is_flat2 k ⇒ a16) ⊃ eval_parts (parts p b (upd n 16 a16) k) 16 ≈ a16) tt k (n 16) c.s11a

  m17 : eval_parts (parts p b n k) 17 ≡ n 17
  unfolding insert remove
  m17 = law_k 1 (λ k a17. (is_second k ⇒ a17) ⊃ eval_parts (parts p b (upd n 17 a17) k) 17 ≈ a17) tt k (n 17) c.s11b

  m18 : eval_parts (parts p b n k) 18 ≡ n 18
  unfolding insert remove
  m18 = law 1 (λ a18. eval_parts (parts p b (upd n 18 a18) k) 18 ≈ a18) tt (n 18)

  m19 : eval_parts (parts p b n k) 19 ≡ n 19
  unfolding insert remove
  m19 = law_k 4 (λ k a3 a4 a12 a19. not (a4 && a19) ⊃ eval_parts (parts p b (upd (upd (upd (upd n 3 a3) 4 a4) 12 a12) 19 a19) k) 19 ≈ a19) tt k (n 3) (n 4) (n 12) (n 19) c.s9

  m20 : eval_parts (parts p b n k) 20 ≡ n 20
  unfolding insert remove
  m20 = law_k 1 (λ k a20. (is_sharp4 k ⇒ a20) ⊃ eval_parts (parts p b (upd n 20 a20) k) 20 ≈ a20) tt k (n 20) c.s11c

  m21 : eval_parts (parts p b n k) 21 ≡ n 21
  unfolding insert remove
  m21 = law 1 (λ a21. eval_parts (parts p b (upd n 21 a21) k) 21 ≈ a21) tt (n 21)

  m22 : eval_parts (parts p b n k) 22 ≡ n 22
  unfolding insert remove
  m22 = law 2 (λ a11 a22. not (a11 && a22) ⊃ eval_parts (parts p b (upd (upd n 11 a11) 22 a22) k) 22 ≈ a22) tt (n 11) (n 22) c.s8

  -- member by member: the two sets, written out as 23 Booleans, are the same
  pub round : table (eval_set (spell_exps p b n k)) ≡ table n
  round = ap table (eval_parts_lem (parts p b n k) tt) ∙ λ i. m0 i ∷ m1 i ∷ m2 i ∷ m3 i ∷ m4 i ∷ m5 i ∷ m6 i ∷ m7 i ∷ m8 i ∷ m9 i ∷ m10 i ∷ m11 i ∷ m12 i ∷ m13 i ∷ m14 i ∷ m15 i ∷ m16 i ∷ m17 i ∷ m18 i ∷ m19 i ∷ m20 i ∷ m21 i ∷ m22 i ∷ []

  pub round_at : (j : ℕ) → j < 23 → eval_set (spell_exps p b n k) j ≡ n j
  round_at j h = sym (get_d_tab 23 (eval_set (spell_exps p b n k)) j h) ∙ ap (λ l. get_or l j false) round ∙ get_d_tab 23 n j h
