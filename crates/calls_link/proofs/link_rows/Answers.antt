-- `calls_link::link_rows`: the workspace is ready.
use native.Mathlib.Omega.{arith}
use Rattle.steps.proofs.Ends.{started}
use Rattle.calls_link.proofs.link_rows.Goals as goal

pub link_in-requires : goal.link_in-requires
link_in-requires c =
    let p = c.requires in
    (started _ _ 19 p.legal (omega arith) (omega arith) c.begin.ensures, (p.whole, (p.folder, (p.child, p.short))))
