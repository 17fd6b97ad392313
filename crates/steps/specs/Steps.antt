-- Steps that more than one call takes.
use Rattle.std.specs.Prelude.{List, ℕ}
use Rattle.structs.specs.declared.DiskINode.{DiskINode}
use Rattle.base.specs.Out.{Out, ◌>>=◌}
use Rattle.sefs.specs.State.{Fs}
use Rattle.sefs.specs.Nodes.{sync_row}
use Rattle.sefs.specs.Slots.{lookup}
use Rattle.sefs.specs.Ask.{or_exists}

-- 12, where a slot has the name
unfoldable pub no_slot : List ℕ → DiskINode → List ℕ → Out Unit
no_slot a r name = do
  f ← lookup a r name
  or_exists f

-- the record of row c, then that of row i
unfoldable pub sync_two : Fs → ℕ → ℕ → Out Fs
sync_two s i c = do
  s ← sync_row s c
  sync_row s i
