-- Words by their first letter, the longest first. Up to an end only a word of so many letters that begins as the text does can stand, so
-- that all others are skipped at once (`skip`), and so are ends at which no word with the text's letter ends (`down`). The loop over the
-- words of a letter is `Chosen`, with its start, step and ends; its measure is `rank`.
-- Assumes nothing.
use mathlib.Core.Bool.{Bool, true, false, ◌&&◌, ◌||◌, cond, and-false, true≢false}
use mathlib.Core.List.{List, [], ◌∷◌}
use mathlib.Core.Path.{◌≡◌, refl, sym, ap, ap₂, ◌∙◌, subst}
use Prim.Native.Nat.{ℕ, zero, suc, ◌+◌, ◌-◌, ◌*◌, ◌≤◌, ◌<◌}
use native.Mathlib.Numerals.{add-one}
use native.Mathlib.Omega.{arith}
use lib.Dec.{eqb, ltb}
use lib.ListN.{length, get_or, drop, length-drop, drop_of_length-le}
use lib.Seq.{drop-cons, drop-drop, get_or-drop}
use borrow.Author.Tests.{lt-ltb, le-ltb, eq-eqb, ne_eqb, eqb-true, eqb-false, ltb-true, ltb-false}
use Rattle.std.specs.Prelude.{Option, Some, None, unwrap_or}
use Rattle.utf8.specs.Utf8.{begins}
use Rattle.lexer.specs.State.{other_than, found_word, initial, letters_in, longest_word, place_of, or_place, place_down, nexts_from, next_places, word_at}
use Rattle.lexer.specs.Words.{Word, word, words, match, no_match, word_to, or_shorter, by_ends, word_by_ends}
use Rattle.lexer.specs.declared.Match.{Match}
use Rattle.lexer.proofs.Runs.{ends_limited, word_fits, words_count}

-- a word with another first letter than the text, or of another length, does not stand up to an end
other : (n : ℕ) (p s : List ℕ) → 1 ≤ n → (eqb (get_or p 0 0) (get_or s 0 0) && eqb (length p) n) ≡ false
    → (eqb (length p) n && begins p s) ≡ false
other n [] s h e = rw (ne_eqb 0 n (λ z. omega arith))
other n (x ∷ p) [] h e = and-false (eqb (length (x ∷ p)) n)
other n (x ∷ p) (y ∷ s) h e = go (eqb x y) e
  where
    go : (b : Bool) → (b && eqb (length (x ∷ p)) n) ≡ false → (eqb (length (x ∷ p)) n && (b && begins p s)) ≡ false
    go true z = rw z
    go false z = and-false (eqb (length (x ∷ p)) n)

skip : (n : ℕ) (ws : List Word) (s : List ℕ) → 1 ≤ n → word_to ws n s ≡ word_to (drop (place_of (get_or s 0 0) n ws) ws) n s
unfolding word_to place_of
skip n [] s h = refl
skip n (w ∷ ws) s h = go (eqb (initial w) (get_or s 0 0) && eqb (letters_in w) n) refl (skip n ws s h)
  where
    go : (x : Bool) → (eqb (initial w) (get_or s 0 0) && eqb (letters_in w) n) ≡ x
        → word_to ws n s ≡ word_to (drop (place_of (get_or s 0 0) n ws) ws) n s
        → word_to (w ∷ ws) n s ≡ word_to (drop (cond x 0 (suc (place_of (get_or s 0 0) n ws))) (w ∷ ws)) n s
    go true e ih = refl
    go false e ih = rw (other n w.text s h e) ih

-- the word at the place that was found has the letter and the length; where there is none, the place is the list's length
record At (b n i : ℕ) (ws : List Word) : Type 0 where
  within : i ≤ length ws
  letter : i < length ws → initial (get_or ws i (word [] 0)) ≡ b
  size : i < length ws → letters_in (get_or ws i (word [] 0)) ≡ n

place_at_lem : (b n : ℕ) (ws : List Word) → At b n (place_of b n ws) ws
unfolding place_of
place_at_lem b n [] = record { within = omega arith; letter = λ h. absurd (omega arith); size = λ h. absurd (omega arith) }
place_at_lem b n (w ∷ ws) = go (eqb (initial w) b) (eqb (letters_in w) n) refl refl (place_at_lem b n ws)
  where
    later : At b n (place_of b n ws) ws → At b n (suc (place_of b n ws)) (w ∷ ws)
    later a = record { within = omega (arith, a.within); letter = λ h. a.letter (omega arith); size = λ h. a.size (omega arith) }

    go : (x y : Bool) → eqb (initial w) b ≡ x → eqb (letters_in w) n ≡ y → At b n (place_of b n ws) ws
        → At b n (cond (x && y) 0 (suc (place_of b n ws))) (w ∷ ws)
    go true true e f a = record { within = omega arith; letter = λ h. eqb-true _ _ e; size = λ h. eqb-true _ _ f }
    go true false e f a = later a
    go false y e f a = later a

-- no word is left
skipped_all : (n i : ℕ) (s : List ℕ) → length words ≤ i → word_to (drop i words) n s ≡ no_match
unfolding word_to
skipped_all n i s h = rw (drop_of_length-le words h)

-- what the words from place i on give: those of n letters, and then the ends before
abbrev from : List ℕ → ℕ → ℕ → Match
from s i n = or_shorter (word_to (drop i words) (suc n) s) (by_ends words n s)

-- what trying from the word at place i on finds
abbrev tried : List ℕ → ℕ → Match
tried s i = or_shorter (word_to (drop i words) (letters_in (word_at i)) s) (by_ends words (letters_in (word_at i) - 1) s)

abbrev found : List ℕ → ℕ → Match
found s i = cond (ltb i (length words)) (tried s i) no_match

tried_at : (s : List ℕ) (i n : ℕ) → letters_in (word_at i) ≡ suc n → tried s i ≡ from s i n
tried_at s i n e =
    let f : letters_in (word_at i) - 1 ≡ n = omega arith in
    ap₂ (λ (k m : ℕ). or_shorter (word_to (drop i words) k s) (by_ends words m s)) e f

-- place i, if a word has it, and else place j, from which the ends before are found
from_place : (s : List ℕ) (n i : ℕ) → (i < length words → letters_in (word_at i) ≡ suc n) → (j : ℕ) → by_ends words n s ≡ found s j
    → from s i n ≡ found s (or_place i j)
from_place s n i e j ih = go (ltb i (length words)) refl
  where
    go : (x : Bool) → ltb i (length words) ≡ x → from s i n ≡ found s (cond x i j)
    go true z = sym (tried_at s i n (e (ltb-true _ _ z))) ∙ rw z
    go false z = rw (skipped_all (suc n) i s (ltb-false _ _ z)) ih

-- trying the ends from n down is trying from the longest word on that has the text's letter and ends there or before
down : (n : ℕ) (s : List ℕ) → by_ends words n s ≡ found s (place_down (get_or s 0 0) n)
unfolding by_ends place_down
down zero s = rw (le-ltb (length words) (length words) (omega arith))
down (suc n) s =
    let b = get_or s 0 0 in
    ap (λ (m : Match). or_shorter m (by_ends words n s)) (skip (suc n) words s (omega arith))
    ∙ from_place s n (place_of b (suc n) words) (place_at_lem b (suc n) words).size (place_down b n) (down n s)

-- the place of a word of at most n letters that begins with b, if a word has it
record Down (b n i : ℕ) : Type 0 where
  within : i ≤ length words
  letter : i < length words → initial (word_at i) ≡ b
  short : i < length words → letters_in (word_at i) ≤ n

down_more : {b n i : ℕ} → Down b n i → Down b (suc n) i
down_more d = record { within = d.within; letter = d.letter; short = λ h. omega (arith, d.short h) }

down_at : (b n : ℕ) → Down b n (place_down b n)
unfolding place_down
down_at b zero = record { within = omega arith; letter = λ h. absurd (omega arith); short = λ h. absurd (omega arith) }
down_at b (suc n) = go (ltb (place_of b (suc n) words) (length words)) (place_at_lem b (suc n) words) (down_at b n)
  where
    go : (x : Bool) → At b (suc n) (place_of b (suc n) words) words → Down b n (place_down b n)
        → Down b (suc n) (cond x (place_of b (suc n) words) (place_down b n))
    go true a d = record { within = a.within; letter = a.letter; short = λ h. omega (arith, a.size h) }
    go false a d = down_more d

-- the next place behind place k + i of the word w, with the words ws behind it
abbrev next_of : ℕ → Word → List Word → ℕ
next_of k w ws = or_place (k + place_of (initial w) (letters_in w) ws) (place_down (initial w) (letters_in w - 1))

next_in_lem : (ws : List Word) (k i : ℕ) (d : Word) → i < length ws
    → get_or (nexts_from k ws) i 0 ≡ next_of (k + i + 1) (get_or ws i d) (drop (suc i) ws)
unfolding nexts_from
next_in_lem [] k i d h = absurd (omega arith)
next_in_lem (w ∷ ws) k zero d h = let e : k + 1 ≡ k + 0 + 1 = omega arith in ap (λ (n : ℕ). next_of n w ws) e
next_in_lem (w ∷ ws) k (suc i) d h =
    let e : k + 1 + i + 1 ≡ k + suc i + 1 = omega arith in
    next_in_lem ws (k + 1) i d (omega arith) ∙ ap (λ (n : ℕ). next_of n (get_or ws i d) (drop (suc i) ws)) e

-- the measure: by length, and among words of one length by place
abbrev pub rank : ℕ → ℕ
rank i = cond (ltb i 55) (55 * letters_in (word_at i) + (55 - i)) 0

rank_in : (i : ℕ) → i < 55 → rank i ≡ 55 * letters_in (word_at i) + (55 - i)
rank_in i h = rw (lt-ltb i 55 h)

rank_below : (i m : ℕ) → (i < 55 → 55 * letters_in (word_at i) + (55 - i) < m) → 0 < m → rank i < m
rank_below i m f z = go (ltb i 55) refl
  where
    go : (x : Bool) → ltb i 55 ≡ x → cond x (55 * letters_in (word_at i) + (55 - i)) 0 < m
    go true e = f (ltb-true _ _ e)
    go false e = z

-- the word at place i has suc n letters, the first of which is b
module _ (i n b : ℕ) (h : i < 55) (size : letters_in (word_at i) ≡ suc n) (letter : initial (word_at i) ≡ b) where
  in_list_lem : i < length words
  in_list_lem = omega (arith, words_count)

  -- the place of the next one as long
  abbrev after : ℕ
  after = i + 1 + place_of b (suc n) (drop (i + 1) words)

  next-is : get_or next_places i 0 ≡ or_place after (place_down b n)
  next-is =
      let e : 0 + i + 1 ≡ i + 1 = omega arith in
      let f : letters_in (word_at i) - 1 ≡ n = omega arith in
      next_in_lem words 0 i (word [] 0) in_list_lem ∙ rw (letter, f, size, e, add-one i)

  after-size : after < length words → letters_in (word_at after) ≡ suc n
  after-size k =
      let a = place_at_lem b (suc n) (drop (i + 1) words) in
      let l = length-drop (i + 1) words in
      ap letters_in (sym (get_or-drop (i + 1) words (place_of b (suc n) (drop (i + 1) words)) (word [] 0))) ∙ a.size (omega arith)

  after-at : Down b (suc n) after
  after-at =
      let a = place_at_lem b (suc n) (drop (i + 1) words) in
      let l = length-drop (i + 1) words in
      let g = get_or-drop (i + 1) words (place_of b (suc n) (drop (i + 1) words)) (word [] 0) in
      record {
        within = omega (arith, a.within, in_list_lem);
        letter = λ k. ap initial (sym g) ∙ a.letter (omega arith);
        short = λ k. omega (arith, after-size k);
      }

  tried_turn : (s : List ℕ) → tried s i ≡ or_shorter
      (cond (begins (word_at i).text s) (match (suc n) (word_at i).kind) (word_to (drop (i + 1) words) (suc n) s))
      (by_ends words n s)
  unfolding word_to
  tried_turn s = tried_at s i n size ∙ rw (drop-cons words i (word [] 0) in_list_lem, eq-eqb (letters_in (word_at i)) (suc n) size, add-one i)

  -- it does not stand there: the next word to try
  tried_next : (s : List ℕ) → get_or s 0 0 ≡ b → begins (word_at i).text s ≡ false → tried s i ≡ found s (get_or next_places i 0)
  tried_next s e f =
      let q = place_of b (suc n) (drop (i + 1) words) in
      let k : word_to (drop (i + 1) words) (suc n) s ≡ word_to (drop after words) (suc n) s =
      skip (suc n) (drop (i + 1) words) s (omega arith) ∙ rw e (ap (λ (l : List Word). word_to l (suc n) s) (drop-drop q (i + 1) words)) in
      let d : by_ends words n s ≡ found s (place_down b n) = down n s ∙ ap (λ (c : ℕ). found s (place_down c n)) e in
      tried_turn s ∙ rw (f, k) (from_place s n after after-size (place_down b n) d) ∙ ap (found s) (sym next-is)

  -- it stands there
  tried_hit : (s : List ℕ) → begins (word_at i).text s ≡ true → tried s i ≡ match (suc n) (word_at i).kind
  tried_hit s f = tried_turn s ∙ rw (f, ne_eqb (suc n) 0 (λ z. omega arith))

  next-at : Down b (suc n) (get_or next_places i 0)
  next-at = rw next-is (go (ltb after (length words)))
    where
      go : (x : Bool) → Down b (suc n) (cond x after (place_down b n))
      go true = after-at
      go false = down_more (down_at b n)

  -- the next one is shorter, or as long and further down the list
  next-falls : rank (get_or next_places i 0) < rank i
  next-falls = rw next-is (go (ltb after (length words)) refl)
    where
      go : (x : Bool) → ltb after (length words) ≡ x → rank (cond x after (place_down b n)) < rank i
      go true e =
          let z = after-size (ltb-true _ _ e) in
          rank_below after (rank i) (λ k. omega (arith, z, rank_in i h)) (omega (arith, rank_in i h))
      go false e =
          let d = down_at b n in
          rank_below (place_down b n) (rank i)
          (λ k. omega (arith, d.short (omega (arith, words_count)), rank_in i h))
          (omega (arith, rank_in i h))

-- does a word of a list begin with b?
unfoldable pub starts : ℕ → List Word → Bool
starts b [] = false
starts b (w ∷ ws) = eqb (initial w) b || starts b ws

-- a letter that no word begins with
no_place : (b n : ℕ) (ws : List Word) → starts b ws ≡ false → place_of b n ws ≡ length ws
unfolding starts place_of
no_place b n [] e = refl
no_place b n (w ∷ ws) e = go (eqb (initial w) b) e (no_place b n ws)
  where
    go : (x : Bool) → (x || starts b ws) ≡ false → (starts b ws ≡ false → place_of b n ws ≡ length ws)
        → cond (x && eqb (letters_in w) n) 0 (suc (place_of b n ws)) ≡ suc (length ws)
    go true e ih = absurd (true≢false e)
    go false e ih = ap suc (ih e)

pub no_start : (b n : ℕ) → starts b words ≡ false → place_down b n ≡ 55
unfolding place_down
no_start b zero e = words_count
no_start b (suc n) e = rw (no_place b (suc n) words e, le-ltb (length words) (length words) (omega arith)) (no_start b n e)

-- the longest word has ten letters, by computation
pub longest_is : longest_word ≡ 10
unfolding words
longest_is = refl

-- trying the words from place i on gives the word of the run; the word at i begins with the text's letter
pub record Chosen (s : List ℕ) (i : ℕ) : Type 0 where
  pub within : i ≤ 55
  pub letter : i < 55 → initial (word_at i) ≡ get_or s 0 0
  pub rest : word_by_ends s ≡ found s i

pub chosen-start : (s : List ℕ) → Chosen s (place_down (get_or s 0 0) longest_word)
chosen-start s =
    let d = down_at (get_or s 0 0) longest_word in
    record {
      within = omega (arith, d.within, words_count);
      letter = λ h. d.letter (omega (arith, words_count));
      rest = ends_limited s ∙ ap (λ (n : ℕ). by_ends words n s) (sym longest_is) ∙ down longest_word s;
    }

module _ (s : List ℕ) (i : ℕ) (c : Chosen s i) (h : i < 55) where
  less : ℕ
  less = letters_in (word_at i) - 1

  size : letters_in (word_at i) ≡ suc less
  unfolding less
  size = omega (arith, (word_fits i h).some)

  here : word_by_ends s ≡ tried s i
  here = c.rest ∙ rw (lt-ltb i (length words) (omega (arith, words_count)))

  pub chosen-step : begins (word_at i).text s ≡ false → Chosen s (get_or next_places i 0)
  chosen-step f =
      let d = next-at i less (get_or s 0 0) h size (c.letter h) in
      record {
        within = omega (arith, d.within, words_count);
        letter = λ k. d.letter (omega (arith, words_count));
        rest = here ∙ tried_next i less (get_or s 0 0) h size (c.letter h) s refl f;
      }

  pub chosen_hit : begins (word_at i).text s ≡ true → match (letters_in (word_at i)) (word_at i).kind ≡ word_by_ends s
  chosen_hit f =
      ap (λ (n : ℕ). match n (word_at i).kind) size ∙ sym (here ∙ tried_hit i less (get_or s 0 0) h size (c.letter h) s f)

  pub chosen-falls : rank (get_or next_places i 0) < rank i
  chosen-falls = next-falls i less (get_or s 0 0) h size (c.letter h)

pub chosen-end : (s : List ℕ) (i : ℕ) → Chosen s i → 55 ≤ i → no_match ≡ word_by_ends s
chosen-end s i c h = sym (c.rest ∙ rw (le-ltb i (length words) (omega (arith, words_count))))

-- the place to try, if there is one, is below 55
pub record Trying (s : List ℕ) (next : Option ℕ) : Type 0 where
  pub chosen : Chosen s (unwrap_or next 55)
  pub listed : (i : ℕ) → next ≡ Some i → i < 55

pub trying : {s : List ℕ} {next : Option ℕ} (i : ℕ) → next ≡ other_than 55 i → Chosen s i → Trying s next
trying {s} i e c = subst (Trying s) (sym e) (go (eqb i 55) refl)
  where
    go : (x : Bool) → eqb i 55 ≡ x → Trying s (cond x None (Some i))
    go true h = record { chosen = subst (Chosen s) (eqb-true i 55 h) c; listed = λ j q. absurd (cc) }
    go false h = record { chosen = c; listed = λ j q. let k : i ≡ j = cc in omega (arith, c.within, eqb-false i 55 h) }

-- what the measure is of
pub place_left : (i : ℕ) → unwrap_or (other_than 55 i) 55 ≡ i
place_left i = go (eqb i 55) refl
  where
    go : (x : Bool) → eqb i 55 ≡ x → unwrap_or (cond x None (Some i)) 55 ≡ i
    go true h = sym (eqb-true i 55 h)
    go false h = refl

-- the place that is tried has a word
module _ {s : List ℕ} {next : Option ℕ} {i : ℕ} (t : Trying s next) (e : next ≡ Some i) where
  pub tried_in : i < 55
  tried_in = t.listed i e

  pub tried_here : Chosen s i
  tried_here = subst (λ (o : Option ℕ). Chosen s (unwrap_or o 55)) e t.chosen

  pub tried_step : begins (word_at i).text s ≡ false → {o : Option ℕ} → o ≡ other_than 55 (get_or next_places i 0) → Trying s o
  tried_step f q = trying (get_or next_places i 0) q (chosen-step s i tried_here tried_in f)

  pub tried_falls : {o : Option ℕ} → o ≡ other_than 55 (get_or next_places i 0) → rank (unwrap_or o 55) < rank (unwrap_or next 55)
  tried_falls q = rw (q, e, place_left) (chosen-falls s i tried_here tried_in)

  pub tried_found : begins (word_at i).text s ≡ true → Some (match (letters_in (word_at i)) (word_at i).kind) ≡ found_word (word_by_ends s)
  tried_found f =
      let m = match (letters_in (word_at i)) (word_at i).kind in
      let n : found_word m ≡ Some m = rw (ne_eqb m.len 0 (λ z. omega (arith, (word_fits i tried_in).some))) in
      sym n ∙ ap found_word (chosen_hit s i tried_here tried_in f)

pub tried_none : {s : List ℕ} {next : Option ℕ} → Trying s next → next ≡ None → None ≡ found_word (word_by_ends s)
tried_none {s} t e =
    let c : Chosen s 55 = subst (λ (o : Option ℕ). Chosen s (unwrap_or o 55)) e t.chosen in
    ap found_word (chosen-end s 55 c (omega arith))
