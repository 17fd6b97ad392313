-- `calls_inventory::passes::take_line`: whether the line fits, the line itself, and where the pass is behind it.
use mathlib.Core.Path.{refl}
use native.Mathlib.Omega.{arith}
use lib.ListN.{length}
use Rattle.calls_inventory.specs.Passes.{fit, stop}
use Rattle.calls_inventory.proofs.Lines.{tail_more, name-short, sum_fits, line_small, line-large, behind-is}
use Rattle.calls_inventory.proofs.passes.take_line.Goals as goal

pub tail_size-tail-requires : goal.tail_size-tail-requires
tail_size-tail-requires c = name-short c.args.slot.now c.name_of.result.now c.name_of.ensures

pub returns-then-not-fits : goal.returns-then-not-fits
returns-then-not-fits c =
    stop
    (line-large c.args.slot.now c.args.node c.args.s c.u32_at-id.result c.name_of.result.now c.u32_at-id.ensures c.name_of.ensures
    c.head_size-head.result c.tail_size-tail.result c.head_size-head.ensures.0 c.tail_size-tail.ensures.0
    (length c.args.out.now) c.fits.ensures c.requires.path_bound.1 c.if-not-fits.true)
    refl
    c.stopped.ensures

pub write_line-requires : goal.write_line-requires
write_line-requires c = record {
  slot_len = (c.requires.slot_len.0, c.requires.path_bound.0);
  node_in_bounds = line_small c.args.slot.now c.args.node c.args.s c.u32_at-id.result c.name_of.result.now c.u32_at-id.ensures c.name_of.ensures
      c.head_size-head.result c.tail_size-tail.result c.head_size-head.ensures.0 c.tail_size-tail.ensures.0
      (length c.args.out.now) c.fits.ensures c.requires.path_bound.1 c.if-not-fits.false;
}

pub overflow_add-result : goal.overflow_add-result
overflow_add-result c =
    omega (arith, c.well_formed, sum_fits (length c.args.out.now) c.args.s.at c.head_size-head.result c.args.s.place.path c.tail_size-tail.result c.fits.ensures c.requires.path_bound.1 c.if-not-fits.false)

pub overflow_add-result-2 : goal.overflow_add-result-2
overflow_add-result-2 c =
    omega (arith, c.well_formed, sum_fits (length c.args.out.now) c.args.s.at c.head_size-head.result c.args.s.place.path c.tail_size-tail.result c.fits.ensures c.requires.path_bound.1 c.if-not-fits.false)

pub overflow_add-result-3 : goal.overflow_add-result-3
overflow_add-result-3 c =
    omega (arith, c.well_formed, sum_fits (length c.args.out.now) c.args.s.at c.head_size-head.result c.args.s.place.path c.tail_size-tail.result c.fits.ensures c.requires.path_bound.1 c.if-not-fits.false)

pub overflow_add-result-4 : goal.overflow_add-result-4
overflow_add-result-4 c =
    omega (arith, c.well_formed, sum_fits (length c.args.out.now) c.args.s.at c.head_size-head.result c.args.s.place.path c.tail_size-tail.result c.fits.ensures c.requires.path_bound.1 c.if-not-fits.false)

pub overflow_sub-tail : goal.overflow_sub-tail
overflow_sub-tail c =
    tail_more c.name_of.result.now c.tail_size-tail.result c.tail_size-tail.ensures.0

pub past_line-requires : goal.past_line-requires
past_line-requires c =
    (omega (arith, c.well_formed, sum_fits (length c.args.out.now) c.args.s.at c.head_size-head.result c.args.s.place.path c.tail_size-tail.result c.fits.ensures c.requires.path_bound.1 c.if-not-fits.false), c.requires.slot_len.1)

pub returns : goal.returns
returns c =
    fit
    (line_small c.args.slot.now c.args.node c.args.s c.u32_at-id.result c.name_of.result.now c.u32_at-id.ensures c.name_of.ensures
    c.head_size-head.result c.tail_size-tail.result c.head_size-head.ensures.0 c.tail_size-tail.ensures.0
    (length c.args.out.now) c.fits.ensures c.requires.path_bound.1 c.if-not-fits.false)
    c.write_line.ensures
    (behind-is c.args.slot.now c.args.node c.args.s c.u32_at-id.result c.name_of.result.now c.u32_at-id.ensures c.name_of.ensures
    c.head_size-head.result c.tail_size-tail.result c.head_size-head.ensures.0 c.tail_size-tail.ensures.0
    c.index.result c.past_line.result c.index.ensures c.past_line.ensures)
