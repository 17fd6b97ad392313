-- `mend_stores::store_maps`: after g turns the maps of the first g groups are stored.
use mathlib.Core.Path.{◌≡◌}
use Rattle.base.specs.Out.{done}
use Rattle.sefs.specs.Meta.{store_maps}
use Rattle.mem.specs.Mem.{maps_in}
use Rattle.mend_stores.specs.Stores.{MetaHasBlocks}
use Rattle.mend_stores.proofs.store_maps.Given as goal

abbrev pub invariant-loop-g : goal.invariant-loop-g
invariant-loop-g l =
    (store_maps l.initial.arena (maps_in l.mem) l.g ≡ done l.arena) × MetaHasBlocks l.arena l.mem l.places l.at
