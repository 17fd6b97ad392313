-- `walk_parts::at_root`: the node with id 2.
use Rattle.std.proofs.lemmas.Result.{err_from_is_err_and}
use Rattle.base.specs.Out.{ill}
use Rattle.base.proofs.Outs.{went-not}
use Rattle.base.proofs.Tells.{number-ne, number-pos}
use Rattle.mem.specs.State.{fs_at}
use Rattle.walk_parts.proofs.Spots.{root-went}
use Rattle.walk_parts.proofs.at_root.Goals as goal

pub returns-in_err-rec : goal.returns-in_err-rec
returns-in_err-rec c =
    let e = c.in_err-rec.field-0.0 in
    let p = err_from_is_err_and c.from_residual.result c.from_residual.ensures.1 in
    rw (p.1, p.2) (ill (number-pos e) (went-not (root-went (fs_at c.args.arena.now c.args.mem.now) c.in_err-rec.ensures) (number-ne e)))

pub returns : goal.returns
returns c = root-went _ c.in_ok-rec.ensures
