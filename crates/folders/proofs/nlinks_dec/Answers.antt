-- `folders::nlinks_dec`: the definition's cases.
use Rattle.folders.proofs.Folders.{dec-none, dec-done}
use Rattle.folders.proofs.States.{linked}
use Rattle.folders.proofs.nlinks_dec.Goals as goal

pub returns-then-n-eq0 : goal.returns-then-n-eq0
returns-then-n-eq0 c =
    dec-none _ c.args.i _ c.nlinks_at-n.ensures _ c.if-n-eq0.true

pub returns : goal.returns
returns c =
    dec-done _ c.args.i _ c.nlinks_at-n.ensures _ c.if-n-eq0.false (linked c.set_links.ensures)
