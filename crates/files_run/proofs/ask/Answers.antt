-- `files_run::ask`: the workspace is ready.
use Rattle.std.proofs.Common.{rules}
use Rattle.files_run.proofs.Started.{started}
use Rattle.files_run.proofs.ask.Goals as goal

pub file_length-n-requires : goal.file_length-n-requires
file_length-n-requires g c =
    ((started c.args.arena.now _ c.requires.0 c.requires.1 c.start.ensures).fine, search rules)

pub there-requires : goal.there-requires
there-requires g c = ((started c.args.arena.now _ c.requires.0 c.requires.1 c.start.ensures).fine, search rules)
