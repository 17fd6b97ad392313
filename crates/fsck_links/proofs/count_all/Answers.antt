-- `fsck_links::count_all`: id after id.
use native.Mathlib.Omega.{arith}
use Rattle.mem.specs.Mem.{table_in}
use Rattle.fsck_links.specs.Counts.{named_to}
use Rattle.fsck_links.proofs.Counts.{all_none, all_more, all_done}
use Rattle.fsck_links.proofs.count_all.Goals as goal

pub loop-id-init : goal.loop-id-init
loop-id-init c = all_none c.args.arena.now (table_in c.args.mem.now) c.args.counts.now c.requires.loaded.1

pub count_node-requires : goal.count_node-requires
count_node-requires c = record { led = c.requires.led; loaded = (c.requires.loaded.0, (c.loop-id.invariant.size, omega (arith, c.ids-id-end.ensures.value.1.1))); mem_value = c.requires.mem_value }

pub loop-id-preserved : goal.loop-id-preserved
loop-id-preserved c =
    all_more c.args.arena.now (table_in c.args.mem.now) _ c.loop-id.id (c.count_node.ensures (named_to c.args.arena.now (table_in c.args.mem.now) c.loop-id.id) c.loop-id.invariant)

pub returns : goal.returns
returns c =
    all_done c.args.arena.now (table_in c.args.mem.now) c.loop-id.counts c.loop-id.id c.ids-id-end.result (c.ids-id-end.ensures.by_index c.args.arena.now c.requires.loaded.0.1) (omega arith) (omega arith) c.loop-id.invariant
