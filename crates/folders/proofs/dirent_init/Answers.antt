-- `folders::dirent_init`: the count, then two stores.
use Rattle.std.proofs.lemmas.Result.{err_from_is_err_and}
use Rattle.base.proofs.Tells.{number-ne}
use mathlib.Core.Path.{refl}
use mathlib.Core.List.{[], ◌∷◌}
use Rattle.base.proofs.Outs.{went-is, went-has, went-stop}
use Rattle.structs.specs.Constants.{type_dir}
use Rattle.structs.specs.Layout.{entry_bytes}
use Rattle.sefs.specs.Folders.{entry, put_slot}
use Rattle.folders.proofs.Folders.{init-is}
use Rattle.folders.proofs.States.{blocked, stepped-next, still-ready}
use native.Mathlib.Omega.{arith}
use Rattle.folders.proofs.dirent_init.Goals as goal

pub put_dot-requires : goal.put_dot-requires
put_dot-requires c =
    (record { fine = c.requires.0.fine; whole = c.set_blocks.ensures.whole }, (omega (arith, c.requires.1.0), c.requires.1.1))

pub returns-in_err-put_dot : goal.returns-in_err-put_dot
returns-in_err-put_dot c =
    let p = err_from_is_err_and c.from_residual.result c.from_residual.ensures.1 in
    rw (p.1, p.2) (rw (← (init-is _ _ _ _ c.args.i c.args.parent (blocked c.set_blocks.ensures))) (went-stop _ _ (number-ne c.in_err-put_dot.field-0.0) c.in_err-put_dot.ensures))

pub put_dots-requires : goal.put_dots-requires
put_dots-requires c =
    let g = went-has c.in_ok-put_dot.ensures refl in
    (still-ready g, (omega (arith, g.room, c.requires.1.0), c.requires.1.1))

pub returns : goal.returns
returns c =
    let g = c.in_ok-put_dot.ensures in
    let z = refl in
    rw (← (init-is _ _ _ _ c.args.i c.args.parent (blocked c.set_blocks.ensures)))
    (stepped-next (λ t. put_slot t c.args.i 1 (entry_bytes (entry c.args.parent (46 ∷ 46 ∷ []) type_dir))) 3 6 (went-is g z) (went-has g z) c.put_dots.ensures (omega arith))
