-- A turn stores one byte more behind those before it.
use Rattle.std.proofs.Common.{◌≡◌, ℕ, ◌+◌, arith, subst, take, get_or, ◌∙◌}
use lib.ListN.{length-set, set}
use Rattle.writer.specs.State.{Put}
use Rattle.writer.proofs.Puts.{put_next, put_one}
use Rattle.writer.proofs.buffer.Buffer.put.Goals as goal

pub loop-i-preserved : goal.loop-i-preserved
loop-i-preserved c =
    let n = c.args.self.now.len in
    let i = c.loop-i.i in
    let t = c.args.bytes.now in
    let b = c.loop-i.self.bytes.now in
    let v = c.loop-i.invariant in
    let e : n + i + 1 ≡ n + (i + 1) = omega arith in
    let one = put_one (n + i) (get_or t i 0) b (omega (arith, c.requires, v.1, c.loop-i-test.true)) in (
      subst (λ (r : ℕ). Put n r (take (i + 1) t) c.args.self.now.bytes.now (set b (n + i) (get_or t i 0))) e
          (put_next t c.loop-i-test.true v.0 one),
      length-set b (n + i) (get_or t i 0) ∙ v.1,
      v.2,
    )
