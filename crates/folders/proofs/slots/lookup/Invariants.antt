-- `folders::slots::lookup`: the slots before k were passed.
use mathlib.Core.Path.{◌≡◌}
use lib.ListN.{length}
use Rattle.base.specs.Out.{done}
use Rattle.overlay.specs.View.{view}
use Rattle.table.specs.Table.{row_at}
use Rattle.sefs.specs.Slots.{look_to}
use Rattle.mem.specs.Mem.{table_in}
use Rattle.folders.proofs.slots.lookup.Given as goal

abbrev pub invariant-loop-k : goal.invariant-loop-k
invariant-loop-k l = (length l.slot ≡ 264) × (look_to (view l.arena l.work) (row_at (table_in l.mem) l.i).rec l.name l.k ≡ done l.k)
