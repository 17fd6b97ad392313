-- `files::store::edit`: a copy of the block is changed and stored.
use mathlib.Core.Path.{sym, ap, ◌∙◌}
use mathlib.Core.List.{List}
use Prim.Native.Nat.{ℕ}
use lib.ListN.{length}
use Rattle.base.specs.Parts.{paste}
use Rattle.overlay.proofs.Views.{length-blk_of}
use Rattle.files.proofs.Blocks.{changed-edit}
use Rattle.files.proofs.store.edit.Goals as goal

pub copy-requires : goal.copy-requires
copy-requires c =
    sym (ap length c.block.ensures ∙ length-blk_of _ _ c.requires.fine.0 _ c.requires.k_bound.0)

pub returns : goal.returns
returns c =
    changed-edit _ _ c.requires.fine.0 c.args.k c.args.off c.args.src.now _ _ c.requires.k_bound.0 c.requires.fine.1 c.requires.k_bound.1
    (c.lay.ensures ∙ ap (λ (x : List ℕ). paste x c.args.off c.args.src.now) (c.copy.ensures ∙ c.block.ensures))
    c.store.ensures
