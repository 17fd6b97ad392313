-- `folders::dirent_node_remove`: three steps, the second in memory alone.
use Rattle.std.proofs.lemmas.Result.{err_from_is_err_and}
use Rattle.base.proofs.Tells.{number-ne}
use mathlib.Core.Path.{refl}
use mathlib.Core.List.{[]}
use Rattle.base.specs.Out.{bind}
use Rattle.base.proofs.Outs.{went-is, went-has, went-stop}
use Rattle.sefs.specs.Folders.{nlinks_dec}
use Rattle.sefs.specs.Nodes.{release}
use Rattle.folders.specs.Steps.{unlink_dots}
use Rattle.folders.proofs.Folders.{node-remove-is}
use Rattle.folders.proofs.States.{stepped-next, mem-stepped}
use native.Mathlib.Omega.{arith}
use Rattle.folders.proofs.dirent_node_remove.Goals as goal

pub dirent_remove-requires : goal.dirent_remove-requires
dirent_remove-requires c =
    (c.requires.0, (omega (arith, c.requires.1.0), (c.requires.1.1.0, c.requires.1.1.1.1)))

pub returns-in_err-dirent_remove : goal.returns-in_err-dirent_remove
returns-in_err-dirent_remove c =
    let p = err_from_is_err_and c.from_residual.result c.from_residual.ensures.1 in
    rw (p.1, p.2) (rw (← (node-remove-is _ c.args.i c.args.c c.args.k)) (went-stop _ _ (number-ne c.in_err-dirent_remove.field-0.0) c.in_err-dirent_remove.ensures))

pub unname-requires : goal.unname-requires
unname-requires c =
    ((went-has c.in_ok-dirent_remove.ensures refl).whole, (c.requires.1.1.0, c.requires.1.1.1.0))

pub returns-in_err-unname : goal.returns-in_err-unname
returns-in_err-unname c =
    let p = err_from_is_err_and c.from_residual-in_err-unname.result c.from_residual-in_err-unname.ensures.1 in
    rw (p.1, p.2) (let g = c.in_ok-dirent_remove.ensures in
    let z = refl in
    rw (← (node-remove-is _ c.args.i c.args.c c.args.k))
    (stepped-next {k = 0} (λ t. bind (bind (nlinks_dec t c.args.c) (λ t. unlink_dots t c.args.i c.args.c)) (λ t. release t c.args.c)) 5 18 (went-is g z) (went-has g z) (went-stop _ _ (number-ne c.in_err-unname.field-0.0) (c.in_err-unname.ensures _ _)) (omega arith)))

pub release-requires : goal.release-requires
release-requires c =
    let g = went-has c.in_ok-dirent_remove.ensures refl in
    (record { fine = g.fine; whole = went-has (c.in_ok-unname.ensures [] []) refl }, (omega (arith, g.room, c.requires.1.0), c.requires.1.1.1.0))

pub returns : goal.returns
returns c =
    let g = c.in_ok-dirent_remove.ensures in
    let z = refl in
    let h = mem-stepped 0 (went-has g z).fine (c.in_ok-unname.ensures _ _) in
    let y = refl in
    rw (← (node-remove-is _ c.args.i c.args.c c.args.k))
    (stepped-next (λ t. bind (bind (nlinks_dec t c.args.c) (λ t. unlink_dots t c.args.i c.args.c)) (λ t. release t c.args.c)) 5 18 (went-is g z) (went-has g z)
    (stepped-next (λ t. release t c.args.c) 0 13 (went-is h y) (went-has h y) c.release.ensures (omega arith)) (omega arith))
