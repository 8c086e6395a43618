-- The questions put to a chord, by their answers: what each makes the outcome, from the outcome back to them, and that the code gave it.
-- Every theorem on a step goes by these. Assumes nothing.
use mathlib.Core.Bool.{Bool, true, false, cond}
use mathlib.Core.List.{List}
use mathlib.Core.Path.{◌≡◌, refl, sym, ap, ◌∙◌, subst}
use Prim.Native.Nat.{ℕ, ◌≤◌, ◌<◌}
use native.Mathlib.Omega.{arith}
use lib.Dec.{ltb}
use lib.ListN.{length}
use borrow.Author.Tests.{lt-ltb, le-ltb, ltb-false, ltb-true}
use Rattle.chord.specs.Chord.{Four}
use Rattle.house_parts.specs.Question.{realizable}
use Rattle.intervals.specs.Interval.{Set}
use Rattle.keys.specs.Keys.{keys_of, outside, wants}
use Rattle.keys.specs.Stored.{members}
use Rattle.keys.specs.declared.Keys.{Keys}
use Rattle.midi.specs.Midi.{NextOutcome, between, go_to, next_of, number, refused, sent}
use Rattle.midi.specs.State.{NextGave}
use Rattle.midi.specs.declared.Refusal.{Refusal}
use Rattle.std.specs.Prelude.{Ok, Err}
use Rattle.writer.proofs.Puts.{put_whole}
use Rattle.writer.specs.State.{Put}

module _ (room : ℕ) (s : Set) (base : ℕ) (f : Four) where
  -- the keys that are wanted, and the messages that lead to them
  abbrev pub wanted : Set
  wanted = wants (keys_of base f)

  abbrev pub due : List ℕ
  due = between s wanted

  -- ---- from the questions to the outcome

  asked : (b : Bool) → realizable f ≡ b → next_of room s base f ≡ cond b (go_to room s (keys_of base f)) (refused 7 s)
  unfolding next_of
  asked b e = ap (λ (x : Bool). cond x (go_to room s (keys_of base f)) (refused 7 s)) e

  gone : (b : Bool) → outside (keys_of base f) ≡ b
      → go_to room s (keys_of base f) ≡ cond b (refused 10 s) (cond (ltb room (length due)) (refused 11 s) (sent wanted due))
  gone b e = ap (λ (x : Bool). cond x (refused 10 s) (cond (ltb room (length due)) (refused 11 s) (sent wanted due))) e

  pub next-no_text : realizable f ≡ false → next_of room s base f ≡ refused 7 s
  next-no_text e = asked false e

  module _ (e : realizable f ≡ true) where
    pub next-outside : outside (keys_of base f) ≡ true → next_of room s base f ≡ refused 10 s
    next-outside o = asked true e ∙ gone true o

    module _ (o : outside (keys_of base f) ≡ false) where
      pub next-short : room < length due → next_of room s base f ≡ refused 11 s
      next-short h = asked true e ∙ gone false o ∙ ap (λ (x : Bool). cond x (refused 11 s) (sent wanted due)) (lt-ltb room (length due) h)

      pub next-sent : length due ≤ room → next_of room s base f ≡ sent wanted due
      next-sent h = asked true e ∙ gone false o ∙ ap (λ (x : Bool). cond x (refused 11 s) (sent wanted due)) (le-ltb room (length due) h)

  -- ---- and back

  pub data Way : NextOutcome → Type 0 where
    lacks : realizable f ≡ false → Way (refused 7 s)
    falls : realizable f ≡ true → outside (keys_of base f) ≡ true → Way (refused 10 s)
    short : realizable f ≡ true → outside (keys_of base f) ≡ false → room < length due → Way (refused 11 s)
    goes : realizable f ≡ true → outside (keys_of base f) ≡ false → length due ≤ room → Way (sent wanted due)

  pub way : Way (next_of room s base f)
  unfolding next_of
  way = by (realizable f) (outside (keys_of base f)) (ltb room (length due)) refl refl refl
    where
      by : (a b c : Bool) → realizable f ≡ a → outside (keys_of base f) ≡ b → ltb room (length due) ≡ c
          → Way (cond a (cond b (refused 10 s) (cond c (refused 11 s) (sent wanted due))) (refused 7 s))
      by false b c p q r = lacks p
      by true true c p q r = falls p q
      by true false true p q r = short p q (ltb-true room (length due) r)
      by true false false p q r = goes p q (ltb-false room (length due) r)

-- ---- what the code gave

-- a refusal leaves the keys and the output as they were
pub gave_refused : {o : NextOutcome} (e : Refusal) (s : Keys) (bs : List ℕ) → o ≡ refused (number e) (members s)
    → NextGave o (record { answer = Err e; keys = s }) bs bs
gave_refused {o} e s bs h =
    subst (λ (o : NextOutcome). NextGave o (record { answer = Err e; keys = s }) bs bs) (sym h)
    (record { number = refl; size = refl; keys = refl; output = refl })

pub gave_sent : {o : NextOutcome} {w : Set} {t : List ℕ} (s : Keys) {r : ℕ} {bs bs' : List ℕ} → o ≡ sent w t → members s ≡ w
    → Put 0 r t bs bs' → NextGave o (record { answer = Ok r; keys = s }) bs bs'
gave_sent {o} {w} {t} s {r} {bs} {bs'} e f p =
    let k : r ≡ length t = omega (arith, p.count) in
    subst (λ (o : NextOutcome). NextGave o (record { answer = Ok r; keys = s }) bs bs') (sym e)
    (record { number = refl; size = k; keys = f; output = put_whole p })
