-- `walk_parts::part_in`: what find asks of the folder and the name, the slot's id, and its node.
use Rattle.std.proofs.lemmas.Result.{err_from_is_err_and}
use Rattle.base.proofs.Tells.{number-ne}
use mathlib.Core.Path.{refl}
use Rattle.walk_parts.proofs.Spots.{part-not, part-lost, part-on}
use Rattle.mem.specs.State.{fs_at}
use Rattle.walk_parts.proofs.part_in.Goals as goal

pub returns-in_err-find_folder : goal.returns-in_err-find_folder
returns-in_err-find_folder c =
    let p = err_from_is_err_and c.from_residual.result c.from_residual.ensures.1 in
    rw (p.1, p.2) (part-not (fs_at c.args.arena.now c.args.mem.now) c.args.rec c.args.name.now c.in_err-find_folder.ensures _ (number-ne c.in_err-find_folder.field-0.0) refl)

pub returns-in_err-id : goal.returns-in_err-id
returns-in_err-id c =
    let p = err_from_is_err_and c.from_residual-in_err-id.result c.from_residual-in_err-id.ensures.1 in
    rw (p.1, p.2) (part-lost (fs_at c.args.arena.now c.args.mem.now) c.args.rec c.args.name.now c.in_ok-find_folder.ensures refl c.in_err-id.ensures _ (number-ne c.in_err-id.field-0.0) refl)

pub returns : goal.returns
returns c = part-on (fs_at c.args.arena.now c.args.mem.now) c.args.rec c.args.name.now c.in_ok-find_folder.ensures refl c.in_ok-id.ensures refl c.stand_on.ensures
