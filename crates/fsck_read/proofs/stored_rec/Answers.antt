-- `fsck_read::stored_rec`: 112 bytes of the metadata file.
use mathlib.Core.Path.{refl, ◌∙◌}
use lib.ListN.{replicate}
use Rattle.fsck_read.proofs.Nodes.{stored-read}
use Rattle.fsck_read.proofs.stored_rec.Goals as goal

pub returns : goal.returns
returns c =
    c.disk_inode_at.ensures ∙ stored-read c.args.arena.now _ (replicate 112 0) c.args.id refl c.read_meta.ensures
