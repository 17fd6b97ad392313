-- `calls_move::move_rows`: the workspace is ready.
use Rattle.steps.proofs.Ends.{started}
use native.Mathlib.Omega.{arith}
use Rattle.calls_move.proofs.move_rows.Goals as goal

pub move_in-requires : goal.move_in-requires
move_in-requires c =
    (started _ _ 71 c.requires.legal (omega arith) (omega arith) c.begin.ensures, c.requires)
