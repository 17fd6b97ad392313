-- `nodes::meta::store_maps`: after g turns the maps of the first g groups are stored.
use mathlib.Core.Path.{◌≡◌}
use Prim.Native.Nat.{◌*◌}
use lib.ListN.{length}
use Rattle.overlay.specs.View.{view}
use Rattle.overlay.proofs.Chains.{Well}
use Rattle.sefs.specs.Meta.{store_maps}
use Rattle.mem.specs.Mem.{maps_in}
use Rattle.nodes.proofs.meta.store_maps.Given as goal

abbrev pub invariant-loop-g : goal.invariant-loop-g
invariant-loop-g l = (length l.work ≡ length l.initial.work) × Well (store_maps (view l.arena l.initial.work) (maps_in l.mem) l.g) l.arena l.initial.work l.work (2 * l.g)
