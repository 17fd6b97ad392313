-- `walk_parts::look`: what an opening would say, by the record that is there.
use Rattle.std.proofs.lemmas.Result.{err_from_is_err_and}
use Rattle.base.proofs.Tells.{number-ne}
use mathlib.Core.Path.{refl}
use Rattle.walk_parts.proofs.Spots.{look-not, look-has, look-reads}
use Rattle.mem.specs.State.{fs_at}
use mathlib.Core.Path.{sym, ◌∙◌}
use Rattle.walk_parts.proofs.look.Goals as goal

pub returns-in_err-rec : goal.returns-in_err-rec
returns-in_err-rec c =
    let p = err_from_is_err_and c.from_residual.result c.from_residual.ensures.1 in
    rw (p.1, p.2) (look-not (fs_at c.args.arena.now c.args.mem.now) c.args.id c.in_err-rec.ensures (number-ne c.in_err-rec.field-0.0))

pub returns-in-Some : goal.returns-in-Some
returns-in-Some c = look-has (fs_at c.args.arena.now c.args.mem.now) c.args.id c.in_ok-rec.ensures refl (sym c.find_row-f.ensures ∙ c.in-Some.is)

pub returns-in-None : goal.returns-in-None
returns-in-None c = look-reads (fs_at c.args.arena.now c.args.mem.now) c.args.id c.in_ok-rec.ensures refl c.requires.formed (sym c.find_row-f.ensures ∙ c.in-None.is) c.stored.ensures
