-- All are at most 1 exactly when each is.
use Rattle.std.proofs.Common.{rules, drop, take}
use Rattle.nophtris.proofs.Bytes.{bits_by}
use Rattle.nophtris.proofs.is_set.Goals as goal

pub returns : goal.returns
returns c = bits_by c.all.result (take 23 (drop 4 c.args.bytes.now)) (search rules)
