-- `nodes_read::meta::load_maps`: after g turns the maps of the first g groups stand in memory.
use mathlib.Core.Path.{◌≡◌}
use Prim.Native.Nat.{◌+◌, ◌*◌}
use lib.ListN.{length}
use Rattle.base.specs.Out.{done}
use Rattle.base.specs.Parts.{part}
use Rattle.sefs.specs.Meta.{load_maps}
use Rattle.mem.specs.Mem.{memory_size}
use Rattle.nodes_read.proofs.meta.load_maps.Given as goal

abbrev pub invariant-loop-g : goal.invariant-loop-g
invariant-loop-g l = (length l.mem ≡ memory_size) × ((load_maps l.arena l.g ≡ done (part l.mem 4419 (4419 + 128 * l.g))) × (part l.mem 0 4419 ≡ part l.initial.mem 0 4419))
