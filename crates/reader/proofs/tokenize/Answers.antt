-- The tokens are short enough to fold, and what is folded is short enough to read.
use Rattle.std.proofs.Common.{ℕ, List, ◌≡◌, ◌+◌, ◌≤◌, ◌<◌, ◌∙◌, ap, subst, sym, arith, length, take, drop, length-append, length-take}
use Rattle.std.proofs.Math.Seq.{get_or-take}
use Rattle.std.proofs.lemmas.List.{take-append-le}
use Rattle.folding.proofs.Ranges.{pre_process-ranged}
use Rattle.folding.specs.Folding.{pre_process}
use Rattle.lexer.proofs.Ranges.{scanned_short}
use Rattle.token.proofs.Ranges.{ranged_wider}
use Rattle.token.specs.Token.{Ranged, at, token}
use Rattle.token.specs.declared.Token.{Token}
use Rattle.reader.specs.State.{Tokenized}
use Rattle.reader.proofs.tokenize.Goals as goal

pub pre_process-requires : goal.pre_process-requires
pre_process-requires c =
    let scan = c.scan_tokens-n in
    λ j h.
    let k : j < scan.result = omega (arith, h, length-take scan.result scan.new.tokens) in
    let e : at (take scan.result scan.new.tokens) j ≡ at scan.new.tokens j = get_or-take scan.result scan.new.tokens j (token 0 0 0) k in
    let s = scanned_short scan.ensures.scanned j k in
    subst (λ (t : Token). t.len ≤ 256) (sym e) (omega (arith, s, c.requires.0))

tokenized_as : {text : List ℕ} {m n : ℕ} {ts : List Token} → m ≡ n → Tokenized text m ts → Tokenized text n ts
tokenized_as {text} {m} {n} {ts} e t = subst (λ (k : ℕ). Tokenized text k ts) e t

pub returns : goal.returns
returns c =
    let scan = c.scan_tokens-n in
    let fold = c.pre_process in
    let text = c.args.text.now in
    let ts = take scan.result scan.new.tokens in
    let wide = pre_process-ranged (length text + 1) (length text) ts scan.ensures.scanned.ranged in
    let q = length-append fold.new.tokens (drop scan.result scan.new.tokens) in
    let e = take-append-le fold.result fold.new.tokens (drop scan.result scan.new.tokens) (omega (arith, fold.ensures.fewer, fold.auto)) ∙ fold.ensures.folded in
    tokenized_as {m = fold.result} (omega (arith, fold.ensures.fewer, length-take scan.result scan.new.tokens)) (record {
      few = omega (arith, fold.ensures.fewer, length-take scan.result scan.new.tokens, scan.ensures.scanned.few, c.requires.0);
      room = omega (arith, fold.ensures.fewer, fold.auto, q);
      list = e ∙ ap pre_process scan.ensures.scanned.written.list;
      ranged = subst (Ranged 1000 1000) (sym e) (ranged_wider (length text + 1) (length text + length text) 1000 1000 (pre_process ts) (omega (arith, c.requires.0)) (omega (arith, c.requires.0)) wide);
    })
