-- `chains::slots::find_slot`: by what the lookup found.
use Rattle.std.proofs.lemmas.Result.{err_from_is_err_and}
use Rattle.base.proofs.Tells.{number-ne}
use mathlib.Core.Path.{refl}
use Prim.Native.Nat.{◌<◌}
use native.Mathlib.Omega.{arith}
use Rattle.base.proofs.Outs.{went-has}
use Rattle.chains.proofs.Lookups.{find-stop, find_none, find_at}
use Rattle.chains.proofs.slots.find_slot.Goals as goal

pub returns-in_err-place : goal.returns-in_err-place
returns-in_err-place c =
    let p = err_from_is_err_and c.from_residual.result c.from_residual.ensures.1 in
    rw (p.1, p.2) (find-stop _ c.args.rec c.args.name.now _ _ (number-ne c.in_err-place.field-0.0) c.in_err-place.ensures)

pub returns-then-place-index : goal.returns-then-place-index
returns-then-place-index c =
    let g = c.in_ok-place.ensures in
    let z = refl in
    let l : c.in_ok-place.place < c.args.rec.blocks = omega (arith, c.if-place-index.true, c.index.ensures) in
    find_at _ c.args.rec c.args.name.now _ g z l ((went-has g z).0 l)

pub returns : goal.returns
returns c =
    find_none _ c.args.rec c.args.name.now _ _ c.in_ok-place.ensures refl (omega (arith, c.if-place-index.false, c.index.ensures))
