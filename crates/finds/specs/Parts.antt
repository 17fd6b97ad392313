-- Parts of find, once the handle's row is known.
use Rattle.std.specs.Prelude.{not, ◌&&◌, List, ℕ, eqb}
use Rattle.base.specs.Out.{Out, done, ensure, ◌>>=◌}
use Rattle.base.specs.Reasons.{dir_removed}
use Rattle.structs.specs.declared.DiskINode.{DiskINode}
use Rattle.utf8.specs.Names.{is_dots}
use Rattle.sefs.specs.Slots.{find_slot}
use Rattle.sefs.specs.Ask.{known, folder, not_long}

-- 8: only `..` of a removed folder
abbrev pub not_orphan : DiskINode → List ℕ → Out Unit
not_orphan r name = ensure (not (is_dots name && eqb r.nlinks 0)) dir_removed

unfoldable pub find_name : DiskINode → List ℕ → Out Unit
find_name r name = do
  _ ← not_long name
  not_orphan r name

unfoldable pub find_folder : DiskINode → List ℕ → Out Unit
find_folder r name = do
  _ ← known r
  _ ← folder r
  find_name r name

-- the id in the slot with that name
unfoldable pub find_id : List ℕ → DiskINode → List ℕ → Out ℕ
find_id a r name = do
  s ← find_slot a r name
  done s.entry.id
