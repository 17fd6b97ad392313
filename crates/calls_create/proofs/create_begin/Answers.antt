-- `calls_create::create_begin`: the workspace is ready.
use native.Mathlib.Omega.{arith}
use Rattle.steps.proofs.Ends.{started}
use Rattle.calls_create.proofs.create_begin.Goals as goal

pub create_in-requires : goal.create_in-requires
create_in-requires c =
    let p = c.requires in
    (started _ _ 38 p.legal (omega arith) (omega arith) c.begin.ensures, (p.whole, (p.folder, p.short)))
