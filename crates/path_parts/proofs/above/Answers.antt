-- `path_parts::above`: slot 1's id, and then its record.
use mathlib.Core.Path.{refl}
use Rattle.std.proofs.lemmas.Result.{err_from_is_err_and}
use Rattle.base.specs.Out.{ill}
use Rattle.base.proofs.Outs.{went-not}
use Rattle.base.proofs.Tells.{number-ne, number-pos}
use Rattle.path_parts.proofs.Folders.{above-stop, above_on}
use Rattle.mem.specs.State.{fs_at}
use Rattle.path_parts.proofs.above.Goals as goal

pub returns-in_err-id : goal.returns-in_err-id
returns-in_err-id c =
    let p = err_from_is_err_and c.from_residual.result c.from_residual.ensures.1 in
    rw (p.1, p.2) (above-stop (fs_at c.args.arena.now c.args.mem.now) c.args.rec (c.in_err-id.ensures c.args.mem.now) _ (number-ne c.in_err-id.field-0.0) refl)

pub returns-in_err-rec : goal.returns-in_err-rec
returns-in_err-rec c =
    let e = c.in_err-rec.field-0.0 in
    let p = err_from_is_err_and c.from_residual-in_err-rec.result c.from_residual-in_err-rec.ensures.1 in
    rw (p.1, p.2) (ill (number-pos e) (went-not (above_on (fs_at c.args.arena.now c.args.mem.now) c.args.rec (c.in_ok-id.ensures c.args.mem.now) refl c.in_err-rec.ensures) (number-ne e)))

pub returns : goal.returns
returns c =
    above_on (fs_at c.args.arena.now c.args.mem.now) c.args.rec (c.in_ok-id.ensures c.args.mem.now) refl c.in_ok-rec.ensures
