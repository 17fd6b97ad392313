-- `calls_close::close_last`: the workspace is ready.
use native.Mathlib.Omega.{arith}
use Rattle.steps.proofs.Ends.{started}
use Rattle.calls_close.proofs.close_last.Goals as goal

pub drop_in-requires : goal.drop_in-requires
drop_in-requires c = (started _ _ 23 c.requires.0 (omega arith) (omega arith) c.begin.ensures, c.requires.1)
