-- `folders::nlinks_inc`: the definition's cases.
use Rattle.folders.proofs.Folders.{inc-top, inc-done}
use Rattle.folders.proofs.States.{linked}
use native.Mathlib.Omega.{arith}
use Rattle.folders.proofs.nlinks_inc.Goals as goal

pub returns-then-n : goal.returns-then-n
returns-then-n c =
    inc-top _ c.args.i _ c.nlinks_at-n.ensures _ c.if-n.true

pub returns : goal.returns
returns c =
    inc-done _ c.args.i _ c.nlinks_at-n.ensures _ (omega arith) (linked c.set_links.ensures)
