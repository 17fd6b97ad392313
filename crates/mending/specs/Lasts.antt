-- What doesn't wait in memory: a host that dies takes none of it along.
use Rattle.std.specs.Prelude.{◌≡◌, true, List, ℕ}
use Rattle.structs.specs.Types.{is_folder}
use Rattle.structs.specs.declared.DiskINode.{DiskINode}
use Rattle.table.specs.declared.Table.{Table}
use Rattle.rules.specs.Image.{is_node, rec_of}
use Rattle.mending.specs.Mendable.{rec_in}

-- r is the record in memory, s the stored one: type, file and a folder's number of slots are stored. (Links, size, mode, owners and times may
-- not be.)
pub record Lasts (r s : DiskINode) : Type 0 where
  pub kind : s.kind ≡ r.kind
  pub file : s.file ≡ r.file
  pub blocks : is_folder r.kind ≡ true → s.blocks ≡ r.blocks

-- so of every node
abbrev pub Lasting : List ℕ → Table → Type 0
Lasting a t = (id : ℕ) → is_node a id ≡ true → Lasts (rec_of a t id) (rec_in a id)
