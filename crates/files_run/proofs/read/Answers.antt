-- `files_run::read`: the workspace is ready.
use Rattle.std.proofs.Common.{rules}
use Rattle.files_run.proofs.Started.{started}
use Rattle.files_run.proofs.read.Goals as goal

pub read-r-requires : goal.read-r-requires
read-r-requires g c = ((started c.args.arena.now _ c.requires.0 c.requires.1 c.start.ensures).fine, search rules)
