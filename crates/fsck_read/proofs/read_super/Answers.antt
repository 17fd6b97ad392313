-- `fsck_read::read_super`: 16 bytes of the metadata file.
use mathlib.Core.Path.{refl, ◌∙◌}
use lib.ListN.{replicate}
use Rattle.fsck_read.proofs.Nodes.{super-read}
use Rattle.fsck_read.proofs.read_super.Goals as goal

pub returns : goal.returns
returns c =
    c.super_block_at.ensures ∙ super-read c.args.arena.now _ (replicate 16 0) refl c.read_meta.ensures
