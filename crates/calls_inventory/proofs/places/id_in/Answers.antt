-- `calls_inventory::places::id_in`: the first four bytes of the slot.
use mathlib.Core.Path.{◌∙◌}
use Rattle.calls_inventory.proofs.Stands.{id-read}
use Rattle.calls_inventory.proofs.places.id_in.Goals as goal

pub returns : goal.returns
returns c =
    λ rec e. c.index.ensures ∙ c.u32_at.ensures ∙ id-read c.args.arena.now _ c.args.file.now rec c.args.k e c.read_run.ensures
