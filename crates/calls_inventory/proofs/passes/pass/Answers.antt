-- `calls_inventory::passes::pass`: from root's first name on, with nothing done.
use mathlib.Core.Path.{refl}
use Rattle.calls_inventory.proofs.Turns.{midst-start}
use Rattle.calls_inventory.proofs.passes.pass.Goals as goal

pub run-requires : goal.run-requires
run-requires c = record { led = c.requires.led; empty_table_value = (c.requires.empty_table_value, refl); under = record { out = c.args.out.now; midst = midst-start c.args.arena.now c.args.write c.args.out.now c.at_root-place.result c.at_root-place.ensures } }

pub returns : goal.returns
returns c =
    c.run.ensures c.args.out.now (midst-start c.args.arena.now c.args.write c.args.out.now c.at_root-place.result c.at_root-place.ensures)
