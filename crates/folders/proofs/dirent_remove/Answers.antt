-- `folders::dirent_remove`: the last slot is read, then the hole is closed.
use Rattle.std.proofs.lemmas.Result.{err_from_is_err_and}
use Rattle.base.proofs.Tells.{number-ne}
use mathlib.Core.Path.{refl}
use Rattle.base.proofs.Outs.{went-has, above_zero}
use Rattle.folders.proofs.Folders.{remove-empty, remove-stop, remove-next}
use native.Mathlib.Omega.{arith}
use Rattle.folders.proofs.dirent_remove.Goals as goal

pub returns-then-total-eq0 : goal.returns-then-total-eq0
returns-then-total-eq0 c =
    remove-empty _ _ _ _ _ c.args.i c.args.k c.blocks_at-total.result c.blocks_at-total.ensures c.if-total-eq0.true

pub returns-in_err-slot_bytes : goal.returns-in_err-slot_bytes
returns-in_err-slot_bytes c =
    let p = err_from_is_err_and c.from_residual.result c.from_residual.ensures.1 in
    rw (p.1, p.2) (remove-stop _ _ _ _ _ c.args.i c.args.k _ _ c.blocks_at-total.result c.blocks_at-total.ensures c.if-total-eq0.false c.index-last.ensures (number-ne c.in_err-slot_bytes.field-0.0) c.in_err-slot_bytes.ensures)

pub close_hole-requires : goal.close_hole-requires
close_hole-requires c =
    (c.requires.0, (c.requires.1.0, (c.requires.1.1.0, (omega (arith, c.blocks_at-total.ensures, above_zero _ c.if-total-eq0.false), went-has c.in_ok-slot_bytes.ensures refl))))

pub returns : goal.returns
returns c =
    remove-next _ _ _ _ _ c.args.i c.args.k _ _ c.blocks_at-total.result _ c.blocks_at-total.ensures c.if-total-eq0.false c.index-last.ensures refl c.in_ok-slot_bytes.ensures c.close_hole.ensures
