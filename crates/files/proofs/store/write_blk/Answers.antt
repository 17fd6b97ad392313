-- `files::store::write_blk`: the definition's two cases.
use Rattle.arena.specs.Fields.{file}
use Rattle.files.proofs.Blocks.{did-write-new, did-write-old}
use Rattle.files.proofs.store.write_blk.Goals as goal

pub returns-then-k-arena : goal.returns-then-k-arena
returns-then-k-arena c =
    did-write-new _ _ c.requires.fine.0 (file c.args.which c.args.name.now) c.args.number c.args.off c.args.src.now _ _ _ c.find_data-k.ensures c.if-k-arena.true c.write_new.ensures

pub returns : goal.returns
returns c =
    did-write-old _ _ c.requires.fine.0 (file c.args.which c.args.name.now) c.args.number c.args.off c.args.src.now _ _ c.find_data-k.ensures c.if-k-arena.false c.edit.ensures
