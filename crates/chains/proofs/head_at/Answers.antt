-- `chains::head_at`: the one block that has the key is the lowest.
use Rattle.arena.specs.Fields.{file}
use Rattle.chains.proofs.Files.{head-is}
use Rattle.chains.proofs.head_at.Goals as goal

pub returns : goal.returns
returns c =
    head-is c.args.arena.now c.requires.fine (file c.args.which c.args.name.now) _ c.find.ensures.0
