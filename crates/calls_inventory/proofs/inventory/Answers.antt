-- `calls_inventory::inventory`: the chains' place is zero, and the table in memory is empty.
use Rattle.calls.proofs.Asks.{blank}
use Rattle.calls_inventory.proofs.inventory.Goals as goal

pub inventory_in-requires : goal.inventory_in-requires
inventory_in-requires c = record { blank = blank; whole = (c.put_empty.ensures.1, c.put_empty.ensures.0) }
