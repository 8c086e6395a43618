-- The spaces are put, and the digits that `decimal` gives behind them.
use Rattle.std.proofs.Common.{ℕ, ap, arith, replicate}
use Rattle.output.proofs.Puts.{put_as, put_from, put_then}
use Rattle.output.proofs.Output.put_number.Goals as goal

pub returns-clause-put : goal.returns-clause-put
returns-clause-put c =
    record {
      places = c.decimal-k.result;
      fewest = c.decimal-k.ensures.len;
      put = put_then
          (put_as (ap (λ (n : ℕ). replicate n 32) c.saturating_sub.ensures) c.put_spaces.ensures.put)
          (put_from (omega arith) (put_as c.decimal-k.ensures.digits c.put_bytes.ensures.put));
    }
