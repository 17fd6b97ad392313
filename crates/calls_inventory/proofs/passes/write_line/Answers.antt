-- `calls_inventory::passes::write_line`: what stands before the folder's path, a copy of the path, and the name.
use lib.ListN.{length}
use native.Mathlib.Omega.{arith}
use Rattle.calls_inventory.proofs.Lines.{line-unwritten, head-fits, tail-fits, line-written}
use Rattle.calls_inventory.proofs.passes.write_line.Goals as goal

pub returns-then-not-write : goal.returns-then-not-write
returns-then-not-write c = line-unwritten _ _ _ _ c.if-not-write.true

pub put_head-at-requires : goal.put_head-at-requires
put_head-at-requires c =
    head-fits c.args.slot.now c.args.node c.args.s c.u32_at-id.result c.args.slot.now c.u32_at-id.ensures (length c.args.out.now) c.requires.node_in_bounds

pub put_path-requires : goal.put_path-requires
put_path-requires c = (
  omega (arith, c.put_head-at.ensures.0, c.requires.slot_len.1),
  omega (
    arith,
    c.put_head-at.auto.out,
    tail-fits c.args.slot.now c.args.node c.args.s c.u32_at-id.result c.name_of.result.now c.u32_at-id.ensures c.name_of.ensures
        (length c.args.out.now) c.put_head-at.result c.requires.node_in_bounds c.put_head-at.ensures.0,
  ),
)

pub returns : goal.returns
returns c =
    line-written c.args.slot.now c.args.node c.args.s c.u32_at-id.result c.name_of.result.now c.u32_at-id.ensures c.name_of.ensures
    c.args.write c.args.out.now c.put_head-at.new.out c.put_path.new.out c.put_head-at.result c.if-not-write.false
    c.requires.slot_len.1 c.requires.node_in_bounds c.put_head-at.ensures.0 c.put_head-at.ensures.1 c.put_path.ensures
