-- `files::read::there`: the definition's own test.
use Rattle.arena.specs.Fields.{file}
use Rattle.files.proofs.Finds.{there-is}
use Rattle.files.proofs.read.there.Goals as goal

pub returns : goal.returns
returns c =
    there-is _ _ c.requires.0 (file c.args.which c.args.name.now) _ c.find_head.ensures
