-- `files_run::ops::store`: the step on the view of nothing changed.
use Rattle.std.proofs.Common.{arith}
use Rattle.files_run.proofs.Started.{started}
use Rattle.files_run.proofs.ops.store.Goals as goal

pub step-requires-clause-fine : goal.step-requires-clause-fine
step-requires-clause-fine c =
    let R = started c.args.arena.now _ c.requires.arena_len.0 c.requires.arena_len.1 c.start.ensures in (R.fine, omega (arith, R.room))
