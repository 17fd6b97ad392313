-- `calls_inventory::inventory_passed`: a pass that measures, and where the text fits one that writes.
use Rattle.calls_inventory.proofs.Answers.{too_long_lem, written}
use Rattle.calls_inventory.proofs.inventory_passed.Goals as goal

pub returns-then-measured : goal.returns-then-measured
returns-then-measured c =
    too_long_lem c.args.arena.now c.args.out.now c.requires.empty_table_value c.pass-measured.new.out c.pass-measured.result c.pass-measured.ensures c.if-measured.true

pub returns : goal.returns
returns c =
    written c.args.arena.now c.args.out.now c.requires.empty_table_value c.pass-measured.new.out c.pass.new.out c.pass-measured.result c.pass.result
    c.pass-measured.ensures c.if-measured.false c.pass.ensures
