-- `chains::exists`: a file's end is 0 where it is not there.
use Rattle.arena.specs.Fields.{file}
use Rattle.chains.proofs.Ends.{end-there}
use Rattle.chains.proofs.exists.Goals as goal

pub returns : goal.returns
returns c =
    end-there c.args.arena.now (file c.args.which c.args.name.now) c.length_of.result c.length_of.ensures.0
