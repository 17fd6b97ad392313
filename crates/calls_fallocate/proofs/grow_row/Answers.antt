-- `calls_fallocate::grow_row`: nothing, or length and size.
use mathlib.Core.Path.{ap}
use native.Mathlib.Omega.{arith}
use Rattle.structs.specs.declared.DiskINode.{DiskINode}
use Rattle.calls_fallocate.proofs.Rows.{grew-not, grew}
use Rattle.calls_fallocate.proofs.grow_row.Goals as goal

pub returns-then-end-rec : goal.returns-then-end-rec
returns-then-end-rec c =
    let e = ap (λ (r : DiskINode). r.size) c.rec_at-rec.ensures in
    grew-not _ c.args.mem.now c.args.i c.args.end (omega (arith, c.if-end-rec.true, e))

pub returns : goal.returns
returns c =
    let e = ap (λ (r : DiskINode). r.size) c.rec_at-rec.ensures in
    grew _ c.args.mem.now c.args.i c.args.end _ _ (omega (arith, c.if-end-rec.false, e)) c.set_size.ensures
