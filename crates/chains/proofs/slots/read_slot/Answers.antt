-- `chains::read_slot`: a run of the node's file.
use Prim.Native.Nat.{◌*◌}
use lib.ListN.{length}
use Rattle.sefs.specs.Nodes.{node_file}
use Rattle.chains.proofs.Files.{run_long}
use Rattle.chains.proofs.slots.read_slot.Goals as goal

pub returns : goal.returns
returns c =
    run_long c.args.arena.now (node_file c.args.rec) (264 * c.args.k) (length c.args.slot.now) 264 _ c.requires.k_bound.1 c.read_run.ensures
