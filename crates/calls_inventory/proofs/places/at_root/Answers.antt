-- `calls_inventory::places::at_root`: slot 2 of node 2.
use Rattle.calls_inventory.proofs.Stands.{root_stands}
use Rattle.calls_inventory.proofs.places.at_root.Goals as goal

pub returns : goal.returns
returns c =
    root_stands c.args.arena.now c.stored_rec-rec.result c.requires.empty_table_value c.stored_rec-rec.ensures
