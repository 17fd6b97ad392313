-- `files::read::file_length`: the two cases of the search.
use mathlib.Core.Path.{ap, ◌∙◌}
use native.Mathlib.Omega.{arith}
use lib.ListN.{length}
use Rattle.arena.specs.Fields.{file, number_of}
use Rattle.overlay.proofs.Views.{length-blk_of}
use Rattle.files.proofs.Finds.{length-here, length_none}
use Rattle.files.proofs.read.file_length.Goals as goal

pub returns-then-k-arena : goal.returns-then-k-arena
returns-then-k-arena c =
    length_none _ _ c.requires.0 (file c.args.which c.args.name.now) _ c.find_head-k.ensures c.if-k-arena.true

pub u32_at-requires : goal.u32_at-requires
u32_at-requires c =
    omega (arith, ap length c.block.ensures, length-blk_of _ _ c.requires.0 _ c.if-k-arena.false)

pub returns : goal.returns
returns c =
    length-here _ _ c.requires.0 (file c.args.which c.args.name.now) _ _ c.find_head-k.ensures c.if-k-arena.false (c.u32_at.ensures ∙ ap number_of c.block.ensures)
