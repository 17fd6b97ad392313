-- `calls_remove::remove`: the workspace is ready.
use Rattle.steps.proofs.Ends.{started}
use borrow.Author.Rules.{rules}
use native.Mathlib.Omega.{arith}
use Rattle.calls_remove.proofs.remove.Goals as goal

pub remove_in-requires : goal.remove_in-requires
remove_in-requires c =
    (started _ _ 31 c.requires.0 (omega arith) (omega arith) c.begin.ensures, (c.requires.1.0, (c.requires.1.1.0, (c.requires.1.1.1, search rules))))
