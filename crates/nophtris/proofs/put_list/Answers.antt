-- The count, the numbers and the zeros, one after the other.
use Rattle.nophtris.proofs.Bytes.{list_parts}
use Rattle.writer.proofs.Puts.{grew_as, grew_then}
use Rattle.nophtris.proofs.put_list.Goals as goal

pub returns : goal.returns
returns c =
    let n = c.count-count.ensures in
    grew_as (list_parts c.args.list c.count-count.result n.0 n.1)
    (grew_then c.put.ensures (grew_then c.put-2.ensures c.put-3.ensures))
