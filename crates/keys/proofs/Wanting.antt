-- The keys wanted, one after the other: those that fall outside, and those from 0 to 127.
-- Assumes nothing.
use mathlib.Core.Bool.{Bool, true, false, cond, ◌&&◌, ◌||◌, and-false, or_assoc, or-false, or-true}
use mathlib.Core.List.{List, [], ◌∷◌, ◌++◌}
use mathlib.Core.Path.{◌≡◌, refl, sym, ap, ◌∙◌, subst}
use Prim.Native.Nat.{ℕ, suc, ◌+◌, ◌-◌, ◌<◌, ◌≤◌}
use native.Mathlib.Omega.{arith}
use lib.Dec.{T, eqb, leb, ltb}
use lib.IntN.{ℤ, pos, negsuc, sub_ℕ}
use lib.ListN.{get_or, length, take, get_or-eq_default}
use lib.Seq.{take_all, take-suc}
use borrow.Author.Tests.{eqb-true, leb-false, le-leb, le-ltb, lt-leb, lt-ltb, ltb-false, ltb-true, ne_eqb}
use Rattle.intervals.specs.Interval.{empty, insert, semitones, table}
use Rattle.note.specs.Note.{pitch_class}
use Rattle.note.specs.declared.Note.{Note}
use Rattle.std.specs.declared.option.Option.TheVariants.{None, Some}
use Rattle.note.specs.Note.{OptionalNote}
use Rattle.keys.specs.Keys.{bass_keys, display_keys, is_key, is_outside, keys_over, outside, wants}
use Rattle.keys.specs.Stored.{Wants, members}
use Rattle.keys.specs.declared.wanted.Wanted.{Wanted}

-- a number that is no interval has no semitones
pub no_semitones : (i : ℕ) → 23 ≤ i → 0 ≡ semitones i
no_semitones i h = sym (get_or-eq_default table 0 h)

-- one key more
outside-add : (zs : List ℤ) (z : ℤ) → outside (zs ++ (z ∷ [])) ≡ (outside zs || is_outside z)
unfolding outside
outside-add [] z = or-false (is_outside z)
outside-add (y ∷ zs) z = ap (λ (b : Bool). is_outside y || b) (outside-add zs z) ∙ sym (or_assoc (is_outside y) (outside zs) (is_outside z))

wants-add : (zs : List ℤ) (z : ℤ) (k : ℕ) → wants (zs ++ (z ∷ [])) k ≡ (wants zs k || is_key z k)
unfolding wants
wants-add [] z k = or-false (is_key z k)
wants-add (y ∷ zs) z k = ap (λ (b : Bool). is_key y k || b) (wants-add zs z k) ∙ sym (or_assoc (is_key y k) (wants zs k) (is_key z k))

-- no key yet
pub want_none : {w : Wanted} → w.outside ≡ false → members w.keys ≡ empty → Wants w []
unfolding outside wants
want_none {w} e f = record { others = e; within = λ k. ap (λ s. s k) f ∙ sym (and-false (ltb k 128)) }

-- a key outside
add-outside : {w w' : Wanted} (z : ℤ) → is_outside z ≡ true → ((k : ℕ) → k < 128 → is_key z k ≡ false) → w'.outside ≡ true
    → w'.keys ≡ w.keys → (zs : List ℤ) → Wants w zs → Wants w' (zs ++ (z ∷ []))
add-outside {w} {w'} z o n e f zs h = record {
  others = e ∙ sym (outside-add zs z ∙ ap (λ (b : Bool). outside zs || b) o ∙ or-true (outside zs));
  within = λ k. ap (λ s. members s k) f ∙ h.within k ∙ go k (ltb k 128) refl ∙ ap (λ (b : Bool). ltb k 128 && b) (sym (wants-add zs z k));
}
  where
    go : (k : ℕ) (t : Bool) → ltb k 128 ≡ t → (ltb k 128 && wants zs k) ≡ (ltb k 128 && (wants zs k || is_key z k))
    go k true p =
        let e = ap (λ (b : Bool). wants zs k || b) (n k (ltb-true k 128 p)) ∙ or-false (wants zs k) in
        ap (λ (b : Bool). ltb k 128 && b) (sym e)
    go k false p = ap (λ (t : Bool). t && wants zs k) p ∙ sym (ap (λ (t : Bool). t && (wants zs k || is_key z k)) p)

pub add_above : {w w' : Wanted} (key : ℕ) → 128 ≤ key → w'.outside ≡ true → w'.keys ≡ w.keys
    → (zs : List ℤ) → Wants w zs → Wants w' (zs ++ (pos key ∷ []))
add_above {w} {w'} key h e f = add-outside (pos key) (le-leb 128 key h) (λ k g. ne_eqb key k (λ q. omega arith)) e f

pub add_below : {w w' : Wanted} (key : ℕ) → key < 12 → w'.outside ≡ true → w'.keys ≡ w.keys
    → (zs : List ℤ) → Wants w zs → Wants w' (zs ++ (sub_ℕ key 12 ∷ []))
add_below {w} {w'} key h e f zs v =
    let n = negsuc (12 - suc key) in
    subst (λ (z : ℤ). Wants w' (zs ++ (z ∷ []))) (sym (ap (λ (b : Bool). cond b n (pos (key - 12))) (lt-ltb key 12 h)))
    (add-outside n refl (λ k g. refl) e f zs v)

-- a key from 0 to 127
pub add-inside : {w w' : Wanted} (key : ℕ) → key < 128 → w'.outside ≡ w.outside → members w'.keys ≡ insert (members w.keys) key
    → (zs : List ℤ) → Wants w zs → Wants w' (zs ++ (pos key ∷ []))
unfolding insert
add-inside {w} {w'} key l e f zs h = record {
  others = e ∙ h.others ∙ sym (outside-add zs (pos key) ∙ ap (λ (b : Bool). outside zs || b) (lt-leb 128 key l) ∙ or-false (outside zs));
  within = λ k. ap (λ s. s k) f ∙ ap (λ (b : Bool). eqb key k || b) (h.within k) ∙ go k (ltb k 128) (eqb key k) refl refl (wants zs k)
      ∙ ap (λ (b : Bool). ltb k 128 && b) (sym (wants-add zs (pos key) k));
}
  where
    go : (k : ℕ) (t u : Bool) → ltb k 128 ≡ t → eqb key k ≡ u → (a : Bool) → (u || ltb k 128 && a) ≡ (ltb k 128 && (a || u))
    go k true true p q a = sym (ap (λ (t : Bool). t && (a || true)) p ∙ or-true a)
    go k true false p q a = ap (λ (b : Bool). ltb k 128 && b) (sym (or-false a))
    go k false true p q a = let x : key ≡ k = eqb-true key k q in let y : 128 ≤ k = ltb-false k 128 p in absurd (omega arith)
    go k false false p q a = ap (λ (b : Bool). ltb k 128 && b) (sym (or-false a))

-- a key that is the code's difference
pub sub_twelve : (key : ℕ) → 12 ≤ key → pos (key - 12) ≡ sub_ℕ key 12
sub_twelve key h = sym (ap (λ (b : Bool). cond b (negsuc (12 - suc key)) (pos (key - 12))) (le-ltb key 12 h))

-- the display list, a number more
display-add : (root : ℕ) (l : List ℕ) (i : ℕ) → display_keys root (l ++ (i ∷ [])) ≡ display_keys root l ++ (pos (root + semitones i) ∷ [])
unfolding display_keys
display-add root [] i = refl
display-add root (j ∷ l) i = ap (λ (zs : List ℤ). pos (root + semitones j) ∷ zs) (display-add root l i)

pub display-next : (root : ℕ) (l : List ℕ) (i : ℕ) → i < length l
    → display_keys root (take i l) ++ (pos (root + semitones (get_or l i 0)) ∷ []) ≡ display_keys root (take (i + 1) l)
display-next root l i h =
    let e : suc i ≡ i + 1 = omega arith in
    sym (display-add root (take i l) (get_or l i 0)) ∙ ap (display_keys root) (sym (take-suc l i 0 h) ∙ ap (λ (j : ℕ). take j l) e)

pub display-start : (root : ℕ) (l : List ℕ) → [] ≡ display_keys root (take 0 l)
unfolding display_keys
display-start root l = refl

pub display-all : (root : ℕ) (l : List ℕ) (i : ℕ) → length l ≤ i → display_keys root (take i l) ≡ display_keys root l
display-all root l i h = ap (display_keys root) (take_all i l h)

-- by another name
pub want_as : {w : Wanted} {zs ys : List ℤ} → zs ≡ ys → Wants w zs → Wants w ys
want_as {w} e h = subst (λ (l : List ℤ). Wants w l) e h

-- a bass, and a root, or none
module _ (base : ℕ) where
  pub bass-none : (bass : OptionalNote) → bass ≡ None → [] ≡ bass_keys base bass
  unfolding bass_keys
  bass-none bass e = sym (ap (bass_keys base) e)

  pub bass-some : (key : ℕ) (bass : OptionalNote) {note : Note} → bass ≡ Some note → key ≡ base + pitch_class note
      → sub_ℕ key 12 ∷ [] ≡ bass_keys base bass
  unfolding bass_keys
  bass-some key bass e f = ap (λ (x : ℕ). sub_ℕ x 12 ∷ []) f ∙ sym (ap (bass_keys base) e)

  pub root_none : (root bass : OptionalNote) (display : List ℕ) → root ≡ None → [] ≡ keys_over base root bass display
  unfolding keys_over
  root_none root bass display e = sym (ap (λ (r : OptionalNote). keys_over base r bass display) e)

  pub root-some : (key : ℕ) (root bass : OptionalNote) (display : List ℕ) {note : Note} → root ≡ Some note → key ≡ base + pitch_class note
      → display_keys key display ++ bass_keys base bass ≡ keys_over base root bass display
  unfolding keys_over
  root-some key root bass display e f =
      ap (λ (x : ℕ). display_keys x display ++ bass_keys base bass) f ∙ sym (ap (λ (r : OptionalNote). keys_over base r bass display) e)

-- where no key falls outside, the code's set is the set wanted
pub none_above : (zs : List ℤ) (k : ℕ) → outside zs ≡ false → 128 ≤ k → wants zs k ≡ false
unfolding outside wants
none_above [] k e h = refl
none_above (pos n ∷ zs) k e h = go (leb 128 n) refl e (λ q. none_above zs k q h)
  where
    go : (b : Bool) → leb 128 n ≡ b → (b || outside zs) ≡ false → (outside zs ≡ false → wants zs k ≡ false)
        → (eqb n k || wants zs k) ≡ false
    go true p q ih = absurd (subst T q tt)
    go false p q ih = let x : n < 128 = leb-false 128 n p in ap (λ (b : Bool). b || wants zs k) (ne_eqb n k (λ y. omega arith)) ∙ ih q
none_above (negsuc n ∷ zs) k e h = absurd (subst T e tt)

inside-only : (zs : List ℤ) → outside zs ≡ false → (k : ℕ) → (ltb k 128 && wants zs k) ≡ wants zs k
inside-only zs e k = go (ltb k 128) refl
  where
    go : (t : Bool) → ltb k 128 ≡ t → (t && wants zs k) ≡ wants zs k
    go true p = refl
    go false p = sym (none_above zs k e (ltb-false k 128 p))

pub same_set : {w : Wanted} (zs : List ℤ) → Wants w zs → outside zs ≡ false → members w.keys ≡ wants zs
same_set zs h e x k = (h.within k ∙ inside-only zs e k) x
