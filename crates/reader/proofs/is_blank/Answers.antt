-- Whether all bytes are spaces is whether the text is blank.
use Rattle.std.proofs.Common.{rules, ◌≡◌, ◌↔◌, ℕ, ◌<◌, true, length, get_or}
use Rattle.reader.proofs.Blank.{blank_by}
use Rattle.reader.proofs.is_blank.Goals as goal

pub returns : goal.returns
returns c =
    let text = c.args.text.now in
    let each : (c.all.result ≡ true) ↔ ((k : ℕ) → k < length text → get_or text k 0 ≡ 0x20) = search rules in
    blank_by text c.all.result each
