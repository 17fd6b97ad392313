-- `files::store::drop`: the definition's two cases.
use Rattle.arena.specs.Fields.{file}
use Rattle.files.proofs.Finds.{there-yes, there-no}
use Rattle.files.proofs.Clears.{drop-missing, drop-done}
use Rattle.files.proofs.store.drop.Goals as goal

pub returns-then-find_head-arena : goal.returns-then-find_head-arena
returns-then-find_head-arena c =
    drop-missing _ _ (file c.args.which c.args.name.now) _ (there-no _ _ c.requires.0 (file c.args.which c.args.name.now) _ c.find_head.ensures c.if-find_head-arena.true)

pub returns : goal.returns
returns c =
    drop-done _ _ (file c.args.which c.args.name.now) _ (there-yes _ _ c.requires.0 (file c.args.which c.args.name.now) _ c.find_head.ensures c.if-find_head-arena.false) c.free_blocks.ensures
