-- `calls_mend::mend`: memory has the table.
use Rattle.calls_mend.proofs.Asks.{ended}
use Rattle.calls_mend.proofs.mend.Goals as goal

pub mend_on-requires : goal.mend_on-requires
mend_on-requires c = c.put_table.ensures.1

pub returns : goal.returns
returns c = ended c.put_table.ensures.0 c.mend_on.result c.mend_on.ensures
