-- `walk_parts::stand_on`: the look, and then the type.
use Rattle.std.proofs.lemmas.Result.{err_from_is_err_and}
use Rattle.base.proofs.Tells.{number-ne}
use mathlib.Core.Path.{refl}
use Rattle.walk_parts.proofs.Spots.{stand-not, stand-other, stand-there}
use Rattle.mem.specs.State.{fs_at}
use Rattle.walk_parts.proofs.stand_on.Goals as goal

pub returns-in_err-rec : goal.returns-in_err-rec
returns-in_err-rec c =
    let p = err_from_is_err_and c.from_residual.result c.from_residual.ensures.1 in
    rw (p.1, p.2) (stand-not (fs_at c.args.arena.now c.args.mem.now) c.args.id c.in_err-rec.ensures _ (number-ne c.in_err-rec.field-0.0) refl)

pub returns-then-rec-gt4 : goal.returns-then-rec-gt4
returns-then-rec-gt4 c = stand-other (fs_at c.args.arena.now c.args.mem.now) c.args.id c.in_ok-rec.ensures refl _ c.if-rec-gt4.true refl

pub returns : goal.returns
returns c = stand-there (fs_at c.args.arena.now c.args.mem.now) c.args.id c.in_ok-rec.ensures refl c.if-rec-gt4.false
