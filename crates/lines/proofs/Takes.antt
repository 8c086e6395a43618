-- What is taken out of a block leaves a state that lies in the two buffers.
-- Assumes nothing.
use Rattle.std.proofs.Common.{◌≡◌, ℕ, Bool, true, false, List, sym, length, ◌+◌, ◌≤◌, ◌<◌, cond, arith}
use lib.Seq.{length-take-le}
use Rattle.output.proofs.Puts.{put-length}
use Rattle.lines.specs.Input.{Inside, Took}
use Rattle.lines.specs.declared.Input.{Input}

cond-le : (b : Bool) (x y n : ℕ) → x ≤ n → y ≤ n → cond b x y ≤ n
cond-le true x y n h k = h
cond-le false x y n h k = k

pub took_inside : {s r : Input} {block line line' : List ℕ} →
    Inside s block line → 0 < s.left → Took s r block line line' → Inside r block line'
took_inside {s} {r} {block} {line} {line'} i more t =
    let same : length line' ≡ length line = put-length t.put in
    let kept = cond-le s.ready 0 s.len (length line) (omega arith) i.text in
    let lines = cond-le r.ready (s.lines + 1) s.lines (s.lines + 1) (omega arith) (omega arith) in
    let text : r.len ≤ length line' = omega (arith, same, kept, t.put.count) in
    record {
      ordered = omega (arith, t.at, t.end);
      bytes = omega (arith, t.end, i.bytes);
      text = text;
      part = sym (length-take-le _ _ text);
      few = omega (arith, lines, t.lines, t.left, i.few, more);
    }
