-- `chains::block_at`: the one block that has the key is the lowest.
use native.Mathlib.Omega.{arith}
use Rattle.arena.specs.Fields.{file}
use Rattle.chains.proofs.Files.{block-is}
use Rattle.chains.proofs.block_at.Goals as goal

pub returns : goal.returns
returns c =
    (block-is c.args.arena.now c.requires.fine (file c.args.which c.args.name.now) c.args.number _ c.find.ensures.0, omega (arith, c.find.ensures.1, c.requires.most))
