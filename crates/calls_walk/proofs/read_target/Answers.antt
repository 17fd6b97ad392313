-- `calls_walk::read_target`: 20 before it is read.
use Rattle.calls_walk.proofs.Follows.{target-full, target-read, laid-not}
use mathlib.Core.Path.{refl}
use Rattle.std.proofs.lemmas.Result.{err_from_is_err_and}
use Rattle.base.proofs.Tells.{number-ne}
use native.Mathlib.Omega.{arith}
use lib.ListN.{length}
use Rattle.calls_walk.proofs.read_target.Goals as goal

pub returns-then-rec-out : goal.returns-then-rec-out
returns-then-rec-out c = (target-full c.args.arena.now c.args.rec (length c.args.out.now) c.args.out.now c.if-rec-out.true, omega arith)

pub returns-in_err-read_bytes : goal.returns-in_err-read_bytes
returns-in_err-read_bytes c =
    let p = err_from_is_err_and c.from_residual.result c.from_residual.ensures.1 in
    rw (p.1, p.2) (laid-not 0 (number-ne c.in_err-read_bytes.field-0.0) (target-read c.args.arena.now c.args.rec (length c.args.out.now) c.if-rec-out.false refl c.in_err-read_bytes.ensures), omega arith)

pub returns : goal.returns
returns c = (target-read c.args.arena.now c.args.rec (length c.args.out.now) c.if-rec-out.false refl c.in_ok-read_bytes.ensures, c.if-rec-out.false)
