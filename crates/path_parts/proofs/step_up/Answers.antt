-- `path_parts::step_up`: the folder above, and then the name there.
use mathlib.Core.Path.{refl}
use Rattle.std.proofs.lemmas.Result.{err_from_is_err_and}
use Rattle.base.specs.Out.{ill}
use Rattle.base.proofs.Outs.{went-not}
use Rattle.base.proofs.Tells.{number-ne, number-pos}
use Rattle.mem.specs.State.{fs_at}
use Rattle.path_parts.proofs.Folders.{step-stop, step-on}
use borrow.Author.Rules.{rules}
use Rattle.path_parts.proofs.step_up.Goals as goal

pub returns-in_err-up : goal.returns-in_err-up
returns-in_err-up c =
    let p = err_from_is_err_and c.from_residual.result c.from_residual.ensures.1 in
    rw (p.1, p.2) (step-stop (fs_at c.args.arena.now c.args.mem.now) c.args.x c.args.rec c.in_err-up.ensures _ _ (number-ne c.in_err-up.field-0.0))

pub returns-in_err-long : goal.returns-in_err-long
returns-in_err-long c =
    let e = c.in_err-long.field-0.0 in
    let p = err_from_is_err_and c.from_residual-in_err-long.result c.from_residual-in_err-long.ensures.1 in
    rw (p.1, p.2) (ill (number-pos e) (went-not (step-on (fs_at c.args.arena.now c.args.mem.now) c.args.x c.args.rec c.in_ok-up.ensures c.name_in.new.slot _ refl (search rules) c.in_err-long.ensures) (number-ne e)))

pub returns : goal.returns
returns c =
    step-on (fs_at c.args.arena.now c.args.mem.now) c.args.x c.args.rec c.in_ok-up.ensures c.name_in.new.slot _ refl (search rules) c.in_ok-long.ensures
