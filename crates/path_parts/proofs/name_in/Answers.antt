-- `path_parts::name_in`: the slot that names x, and then its name.
use Rattle.std.proofs.lemmas.Result.{err_from_is_err_and}
use Rattle.base.proofs.Tells.{number-ne}
use mathlib.Core.Path.{refl}
use native.Mathlib.Omega.{arith}
use Rattle.path_parts.proofs.Namers.{name-stop, name-none, name-there}
use Rattle.path_parts.proofs.name_in.Goals as goal

pub returns-in_err-place : goal.returns-in_err-place
returns-in_err-place c =
    let p = err_from_is_err_and c.from_residual.result c.from_residual.ensures.1 in
    rw (p.1, p.2) (let g = c.in_err-place.ensures in
    name-stop c.args.arena.now c.args.rec c.args.x g _ _ (number-ne c.in_err-place.field-0.0) refl)

pub returns-then-place-later_slots : goal.returns-then-place-later_slots
returns-then-place-later_slots c =
    let g = c.in_ok-place.ensures in
    let n = c.later_slots.ensures.0 in
    name-none c.args.arena.now c.args.rec c.args.x g refl _ _ (omega (arith, n, c.if-place-later_slots.true)) refl

pub returns : goal.returns
returns c =
    let g = c.in_ok-place.ensures in
    let n = c.later_slots.ensures.0 in
    name-there c.args.arena.now c.args.rec c.args.x g refl _ (omega (arith, n, c.if-place-later_slots.false)) c.spell.ensures
