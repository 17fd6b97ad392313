-- `calls_format::format_over`: the workspace is ready.
use native.Mathlib.Omega.{arith}
use Rattle.steps.proofs.Ends.{started}
use Rattle.calls_format.proofs.format_over.Goals as goal

pub format_in-requires : goal.format_in-requires
format_in-requires c =
    (started _ _ 35 c.requires.0 (omega arith) (omega arith) c.begin.ensures, c.requires.1)
