-- `path_parts::folder_on`: the record, and then the type.
use Rattle.std.proofs.lemmas.Result.{err_from_is_err_and}
use Rattle.base.proofs.Tells.{number-ne}
use mathlib.Core.Path.{refl}
use Rattle.path_parts.proofs.Folders.{folder-stop, folder-there, folder-other}
use Rattle.mem.specs.State.{fs_at}
use Rattle.path_parts.proofs.folder_on.Goals as goal

pub returns-in_err-rec : goal.returns-in_err-rec
returns-in_err-rec c =
    let p = err_from_is_err_and c.from_residual.result c.from_residual.ensures.1 in
    rw (p.1, p.2) (folder-stop (fs_at c.args.arena.now c.args.mem.now) c.args.id c.in_err-rec.ensures _ (number-ne c.in_err-rec.field-0.0))

pub returns-then-rec-eq-DIR : goal.returns-then-rec-eq-DIR
returns-then-rec-eq-DIR c =
    folder-there (fs_at c.args.arena.now c.args.mem.now) c.args.id c.in_ok-rec.ensures refl c.if-rec-eq-DIR.true

pub returns : goal.returns
returns c =
    folder-other (fs_at c.args.arena.now c.args.mem.now) c.args.id c.in_ok-rec.ensures refl _ c.if-rec-eq-DIR.false
