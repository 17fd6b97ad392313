-- `owners_kept::sync_on`: superblock and maps by the chains, then the rows; then the chains.
use mathlib.Core.Path.{refl}
use Rattle.steps.proofs.Ends.{rest-is, rest_has, ended_is}
use Rattle.owners_kept.proofs.Laws.{rechained}
use Rattle.owners_kept.proofs.sync_on.Goals as goal

pub sync_in-r-requires : goal.sync_in-r-requires
sync_in-r-requires c = rest_has c.sync_led.ensures refl

pub returns : goal.returns
returns c = record { ended = ended_is (rest-is c.sync_led.ensures refl) c.sync_in-r.ensures; chained = rechained c.requires.chained c.chain_all.auto.chains c.chain_all.ensures }
