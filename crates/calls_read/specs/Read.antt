-- Read, once the handle's row is known: the type, then the bytes.
use Rattle.std.specs.Prelude.{List, ℕ}
use Rattle.base.specs.Out.{Out, ◌>>=◌}
use Rattle.structs.specs.declared.DiskINode.{DiskINode}
use Rattle.sefs.specs.Nodes.{node_file}
use Rattle.sefs.specs.Contents.{has_contents, read_count, read_bytes}

unfoldable pub read_in : List ℕ → DiskINode → ℕ → ℕ → Out (List ℕ)
read_in a r place room = do
  _ ← has_contents r
  read_bytes a (node_file r) place (read_count r.size place room)
