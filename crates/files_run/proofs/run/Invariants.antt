-- `files_run::run`: the arena's size is legal.
use Rattle.std.proofs.Common.{◌≤◌}
use Rattle.files_run.proofs.run.Given as goal

abbrev pub invariant-loop-bytes : goal.invariant-loop-bytes
invariant-loop-bytes g l = (16 ≤ l.blocks) × (l.blocks ≤ 128)
