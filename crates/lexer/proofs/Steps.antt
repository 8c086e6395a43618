-- One step of the scan keeps all tokens: those that stand in the arrays and those still to come. So does a letter run that is cut
-- (`Cutting`), and so do two parts of the scan, one after the other (`went_on`).
-- Assumes nothing.
use mathlib.Core.List.{List, [], ◌∷◌, ◌++◌, append_assoc}
use mathlib.Core.Path.{◌≡◌, refl, sym, ap, ap₂, ◌∙◌, subst}
use Prim.Native.Nat.{ℕ, zero, suc, ◌+◌, ◌-◌, ◌≤◌, ◌<◌}
use native.Mathlib.Nat.{add-zero}
use native.Mathlib.Numerals.{add-one}
use native.Mathlib.Omega.{arith}
use lib.ListN.{length, take, drop, set, length-append, drop_of_length-le, length-drop}
use lib.Seq.{slice, slice_empty, drop-cons, drop-drop, take-take, take_at, drop_at, length-take-le, take-suc-set, drop-set-lt}
use Rattle.std.specs.Prelude.{IfSome}
use Rattle.token.specs.Token.{token, Room}
use Rattle.token.specs.declared.Token.{Token}
use Rattle.lexer.specs.Lexer.{head_of, emit, illegal, lex, size_of, word_head}
use Rattle.lexer.specs.State.{plan_of, all_tokens, Few, Inserted, Emitted, Went, Written, scan}
use Rattle.lexer.specs.Words.{run_end, word_by_ends}
use Rattle.lexer.specs.declared.Head.TheVariants as head
use Rattle.lexer.specs.declared.Head.{Head}
use Rattle.lexer.specs.declared.Scan.{Scan}
use Rattle.lexer.proofs.Heads.{Sized, head_sized, letter_head, word-within}
use Rattle.lexer.proofs.Runs.{run_drop, run_within}
use Rattle.lexer.proofs.Shifts.{in_parts}
use Rattle.token.proofs.Parts.{later}

skip : (k : ℕ) (h : List Token) (p : ℕ) (s : List ℕ) → lex k h p s ≡ lex 0 h (p + k) (drop k s)
unfolding lex
skip zero h p s = ap (λ q. lex 0 h q s) (sym (add-zero p))
skip (suc k) h p [] = refl
skip (suc k) h p (b ∷ s) = let e : p + 1 + k ≡ p + suc k = omega arith in skip k h (p + 1) s ∙ ap (λ q. lex 0 h q (drop k s)) e

-- going on after a head of n bytes
go_on : (text : List ℕ) (at n : ℕ) (h : List Token) → 1 ≤ n → lex (n - 1) h (at + 1) (drop (at + 1) text) ≡ lex 0 h (at + n) (drop (at + n) text)
go_on text at n h l =
    let e : at + 1 + (n - 1) ≡ at + n = omega arith in
    skip (n - 1) h (at + 1) (drop (at + 1) text) ∙ ap₂ (λ q t. lex 0 h q t) e (drop-drop (n - 1) (at + 1) text ∙ ap (λ q. drop q text) e)

open_head : (text : List ℕ) (at : ℕ) (h : List Token) → at < length text → lex 0 h at (drop at text) ≡ emit (head_of (drop at text)) h at (λ k g. lex k g (at + 1) (drop (at + 1) text))
unfolding lex
open_head text at h l = rw (drop-cons text at 0 l, add-one at)

module _ {t : Token} {p n : ℕ} {R R' : List Token} (le : p ≤ n) (b : n + 1 ≤ length R) (I : Inserted t p n R R') where
  front_length : length (take p R ++ (t ∷ [])) ≡ p + 1
  front_length = length-append (take p R) (t ∷ []) ∙ ap (λ k. k + 1) (length-take-le p R (omega arith))

  list-two : take (n + 1) R' ≡ (take p R ++ (t ∷ [])) ++ slice p n R
  list-two = I.list ∙ sym (append_assoc (take p R) (t ∷ []) (slice p n R))

  pub front : take p R' ≡ take p R
  front = sym (take-take p (n + 1) R' (omega arith)) ∙ ap (take p) I.list ∙ take_at (take p R) (t ∷ slice p n R) p (length-take-le p R (omega arith))

  pub front_new : take (p + 1) R' ≡ take p R ++ (t ∷ [])
  front_new = sym (take-take (p + 1) (n + 1) R' (omega arith)) ∙ ap (take (p + 1)) list-two ∙ take_at (take p R ++ (t ∷ [])) (slice p n R) (p + 1) front_length

  pub back_new : slice p (n + 1) R' ≡ t ∷ slice p n R
  back_new = ap (drop p) I.list ∙ drop_at (take p R) (t ∷ slice p n R) p (length-take-le p R (omega arith))

  pub back : slice (p + 1) (n + 1) R' ≡ slice p n R
  back = ap (drop (p + 1)) list-two ∙ drop_at (take p R ++ (t ∷ [])) (slice p n R) (p + 1) front_length

-- the place of a token to add is among the tokens
pub place-low : (h : Head) (s : Scan) → s.held ≤ s.count → IfSome (plan_of h s).added (λ a. a.place ≤ s.count)
place-low head.Space s h = tt
place-low (head.Sign k n) s h = omega arith
place-low (head.Word k n) s h = omega arith
place-low (head.Number k t n) s h = h
place-low (head.Digit n) s h = h

-- the place behind a head
next_place : (h : Head) (s : Scan) → (plan_of h s).next.at ≡ s.at + size_of h
next_place head.Space s = refl
next_place (head.Sign k n) s = refl
next_place (head.Word k n) s = refl
next_place (head.Number k t n) s = refl
next_place (head.Digit n) s = refl

module _ (text : List ℕ) (s : Scan) (R R' : List Token) (F : Few text s) (l : s.at < length text) where
  before-step : (h : Head) → h ≡ head_of (drop s.at text) → all_tokens text s R ≡ take s.held R ++ emit h (slice s.held s.count R) s.at (λ k g. lex k g (s.at + 1) (drop (s.at + 1) text))
  before-step h e = ap (λ q. take s.held R ++ q) (open_head text s.at (slice s.held s.count R) l ∙ ap (λ g. emit g (slice s.held s.count R) s.at (λ k g. lex k g (s.at + 1) (drop (s.at + 1) text))) (sym e))

  all : take s.count R ≡ take s.held R ++ slice s.held s.count R
  all = in_parts R s.held s.count F.among

  -- a token at the end, behind which nothing is held: that of a sign or a word
  at-end : (t : Token) (n : ℕ) → 1 ≤ n → s.count + 1 ≤ length R → Inserted t s.count s.count R R'
      → take (s.count + 1) R' ++ lex 0 (slice (s.count + 1) (s.count + 1) R') (s.at + n) (drop (s.at + n) text)
      ≡ take s.held R ++ (slice s.held s.count R ++ (t ∷ lex (n - 1) [] (s.at + 1) (drop (s.at + 1) text)))
  at-end t n o b I =
      ap₂ (λ f h. f ++ lex 0 h (s.at + n) (drop (s.at + n) text)) (front_new (omega arith) b I) (slice_empty (s.count + 1) R')
      ∙ append_assoc (take s.count R) (t ∷ []) (lex 0 [] (s.at + n) (drop (s.at + n) text))
      ∙ ap₂ (λ f r. f ++ (t ∷ r)) all (sym (go_on text s.at n [] o))
      ∙ append_assoc (take s.held R) (slice s.held s.count R) (t ∷ lex (n - 1) [] (s.at + 1) (drop (s.at + 1) text))

  pub step-whole : (h : Head) → h ≡ head_of (drop s.at text) → 1 ≤ size_of h → s.count + 1 ≤ length R → Emitted h s (plan_of h s).next R R' → all_tokens text (plan_of h s).next R' ≡ all_tokens text s R
  step-whole head.Space e o b E =
      let z = E.adds in
      ap (λ r. take s.count r ++ lex 0 (slice s.count s.count r) (s.at + 1) (drop (s.at + 1) text)) z
      ∙ ap₂ (λ f h. f ++ lex 0 h (s.at + 1) (drop (s.at + 1) text)) all (slice_empty s.count R)
      ∙ append_assoc (take s.held R) (slice s.held s.count R) (lex 0 [] (s.at + 1) (drop (s.at + 1) text))
      ∙ sym (before-step head.Space e)
  step-whole (head.Sign k n) e o b E = at-end (token k s.at 1) n o b E.adds ∙ sym (before-step (head.Sign k n) e)
  step-whole (head.Word k n) e o b E = at-end (token k s.at n) n o b E.adds ∙ sym (before-step (head.Word k n) e)
  step-whole (head.Number k t n) e o b E =
      ap₂ (λ f h. f ++ lex 0 h (s.at + n) (drop (s.at + n) text)) (front_new F.among b E.adds) (back F.among b E.adds)
      ∙ append_assoc (take s.held R) (token k s.at t ∷ []) (lex 0 (slice s.held s.count R) (s.at + n) (drop (s.at + n) text))
      ∙ ap (λ r. take s.held R ++ (token k s.at t ∷ r)) (sym (go_on text s.at n (slice s.held s.count R) o))
      ∙ sym (before-step (head.Number k t n) e)
  step-whole (head.Digit n) e o b E =
      ap₂ (λ f h. f ++ lex 0 h (s.at + n) (drop (s.at + n) text)) (front F.among b E.adds) (back_new F.among b E.adds)
      ∙ ap (λ r. take s.held R ++ r) (sym (go_on text s.at n (token illegal s.at 1 ∷ slice s.held s.count R) o))
      ∙ sym (before-step (head.Digit n) e)

  -- there is still one token a byte at most
  pub step-few : (h : Head) → 1 ≤ size_of h → s.at + size_of h ≤ length text → Few text (plan_of h s).next
  step-few head.Space o w = record { among = omega arith; some = omega (arith, F.some); within = w }
  step-few (head.Sign k n) o w = record { among = omega arith; some = omega (arith, F.some); within = w }
  step-few (head.Word k n) o w = record { among = omega arith; some = omega (arith, F.some); within = w }
  step-few (head.Number k t n) o w = record { among = omega (arith, F.among); some = omega (arith, F.some); within = w }
  step-few (head.Digit n) o w = record { among = omega (arith, F.among); some = omega (arith, F.some); within = w }

  -- what lies beyond the tokens is untouched
  pub step-rest : (h : Head) → Emitted h s (plan_of h s).next R R' → drop (plan_of h s).next.count R' ≡ drop (plan_of h s).next.count R
  step-rest head.Space E = ap (drop s.count) E.adds
  step-rest (head.Sign k n) E = E.adds.rest
  step-rest (head.Word k n) E = E.adds.rest
  step-rest (head.Number k t n) E = E.adds.rest
  step-rest (head.Digit n) E = E.adds.rest

  pub step_count : (h : Head) → s.count ≤ (plan_of h s).next.count
  step_count head.Space = omega arith
  step_count (head.Sign k n) = omega arith
  step_count (head.Word k n) = omega arith
  step_count (head.Number k t n) = omega arith
  step_count (head.Digit n) = omega arith

-- the scan stays where it is, or goes on in two parts
pub went-start : {text : List ℕ} {s : Scan} (R : List Token) → Few text s → Went text s s R R
went-start R F = record { few = F; grown = omega arith; list = refl; rest = refl }

pub went_on : {text : List ℕ} {s t u : Scan} {R S U : List Token} → Went text s t R S → Went text t u S U → Went text s u R U
went_on {text} {s} {t} {u} {R} {S} {U} F W =
    record {
      few = W.few;
      grown = omega (arith, F.grown, W.grown);
      list = W.list ∙ F.list;
      rest = W.rest ∙ later S R t.count u.count W.grown F.rest;
    }

module _ {text : List ℕ} {s : Scan} {h : Head} (F : Few text s) (l : s.at < length text) (e : h ≡ head_of (drop s.at text)) where
  -- the head lies within the text
  pub step_head : (1 ≤ size_of h) × (s.at + size_of h ≤ length text)
  step_head =
      let n : length (drop s.at text) ≡ length text - s.at = length-drop s.at text in
      let z = subst (λ (g : Head). Sized g (drop s.at text)) (sym e) (head_sized (drop s.at text) (omega arith)) in
      (z.some, omega (arith, z.within))

  -- what `emit` asks for
  pub step_asks : (R : List Token) → length text ≤ 256 → Room (length text) R
      → (s.at + size_of h ≤ 256) × (s.held ≤ s.count) × (s.count ≤ 256) × Room (s.count + 1) R
  step_asks R z r = (omega (arith, step_head.1), F.among, omega (arith, F.some, F.within), omega (arith, F.some, r))

  -- one head
  pub step_went : {s' : Scan} {R R' : List Token} → s.count + 1 ≤ length R → Emitted h s s' R R' → Went text s s' R R'
  step_went {s'} {R} {R'} b E =
      let next = (plan_of h s).next in
      let N : Emitted h s next R R' = subst (λ (q : Scan). Emitted h s q R R') E.state E in
      let w : Went text s next R R' =
      record {
        few = step-few text s R R' F l h step_head.0 step_head.1;
        grown = step_count text s R R' F l h;
        list = step-whole text s R R' F l h e step_head.0 b N;
        rest = step-rest text s R R' F l h N;
      } in
      subst (λ (q : Scan). Went text s q R R') (sym E.state) w

  pub step-place : {s' : Scan} {R R' : List Token} → Emitted h s s' R R' → s'.at ≡ s.at + size_of h
  step-place E = ap (λ (q : Scan). q.at) E.state ∙ next_place h s

-- A letter run that ends at `end` is being cut: the scan went on, and the rest of the run stands before it.
pub record Cutting (text : List ℕ) (end : ℕ) (s₀ s : Scan) (R₀ R : List Token) : Type 0 where
  pub went : Went text s₀ s R₀ R
  pub run : end ≡ s.at + run_end (drop s.at text)

module _ {text : List ℕ} {end : ℕ} {s₀ s : Scan} {R₀ R : List Token} (K : Cutting text end s₀ s R₀ R) (l : s.at < end) where
  letters : 0 < run_end (drop s.at text)
  letters = omega (arith, K.run)

  pub cut_inside : s.at < length text
  cut_inside = omega (arith, letters, run_within (drop s.at text), length-drop s.at text)

-- its next word
module _ {text : List ℕ} {end : ℕ} {s₀ s : Scan} {R₀ R : List Token} {h : Head}
    (K : Cutting text end s₀ s R₀ R) (l : s.at < end) (e : h ≡ word_head (word_by_ends (drop s.at text))) where
  pub cut_head : h ≡ head_of (drop s.at text)
  cut_head = e ∙ sym (letter_head (drop s.at text) (letters K l))

  pub cut_step : {s' : Scan} {R' : List Token} → s.count + 1 ≤ length R → Emitted h s s' R R' → Cutting text end s₀ s' R₀ R'
  cut_step {s'} {R'} b E =
      let t = drop s.at text in
      let n : size_of h ≤ run_end t = subst (λ (g : Head). size_of g ≤ run_end t) (sym e) (word-within t (letters K l)) in
      let z = step-place K.went.few (cut_inside K l) cut_head E in
      let d : drop (size_of h) t ≡ drop s'.at text = drop-drop (size_of h) s.at text ∙ ap (λ k. drop k text) (sym z) in
      record {
        went = went_on K.went (step_went K.went.few (cut_inside K l) cut_head b E);
        run = omega (arith, K.run, run_drop (size_of h) t n, ap run_end d);
      }

-- the scan is done: the tokens in the arrays are all
pub went-end : (text : List ℕ) (s : Scan) (R₀ R : List Token) → Went text (scan 0 0 0) s R₀ R → length text ≤ s.at → s.count ≤ length R
    → Written (lex 0 [] 0 text) s.count R₀ R
unfolding lex
went-end text s R₀ R W l b =
    let e : take s.count R ≡ lex 0 [] 0 text =
    in_parts R s.held s.count W.few.among
    ∙ ap (λ t. take s.held R ++ lex 0 (slice s.held s.count R) s.at t) (sym (drop_of_length-le text l))
    ∙ W.list in
    record { count = sym (length-take-le s.count R b) ∙ ap length e; list = e; rest = W.rest }

-- one more token behind those that were written
pub written-more : {ts : List Token} {n : ℕ} {R₀ R R' : List Token} (t : Token) → n + 1 ≤ length R → Written ts n R₀ R → R' ≡ set R n t → Written (ts ++ (t ∷ [])) (n + 1) R₀ R'
written-more {ts} {n} {R₀} {R} {R'} t b W e =
    record {
      count = ap (λ k. k + 1) W.count ∙ sym (length-append ts (t ∷ []));
      list = ap (take (n + 1)) e ∙ rw add-one (take-suc-set R n t (omega arith) ∙ ap (λ l. l ++ (t ∷ [])) W.list);
      rest = ap (drop (n + 1)) e ∙ drop-set-lt (n + 1) R n t (omega arith) ∙ later R R₀ n (n + 1) (omega arith) W.rest;
    }
