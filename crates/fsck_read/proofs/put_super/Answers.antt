-- `fsck_read::put_super`: the mark, then the superblock.
use mir.Val.{Fits}
use mir.Syntax.{w32}
use Rattle.fsck_read.proofs.Loads.{put_is}
use borrow.Author.Rules.{rules}
use Rattle.fsck_read.proofs.put_super.Goals as goal

pub returns : goal.returns
returns c =
    let magic : Fits w32 c.args.b.magic = search rules in
    let blocks : Fits w32 c.args.b.blocks = search rules in
    let unused : Fits w32 c.args.b.unused = search rules in
    let groups : Fits w32 c.args.b.groups = search rules in
    put_is c.args.mem.now c.put_flag.new.mem c.put_super_block.new.s c.args.b c.requires.0 (record { magic = magic.fits; blocks = blocks.fits; unused = unused.fits; groups = groups.fits }) c.requires.1.0 c.requires.1.1 c.put_flag.ensures c.put_super_block.ensures
