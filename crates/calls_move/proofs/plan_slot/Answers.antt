-- `calls_move::plan_slot`: the slot of the old name, with the new one.
use Rattle.std.proofs.lemmas.Result.{err_from_is_err_and}
use Rattle.base.proofs.Tells.{number-ne}
use mathlib.Core.Path.{refl}
use mathlib.Core.Path.{◌∙◌}
use native.Mathlib.Omega.{arith}
use Rattle.calls_move.proofs.Decisions.{free-stop, free-next}
use Rattle.calls_move.proofs.plan_slot.Goals as goal

pub returns-in_err-place : goal.returns-in_err-place
returns-in_err-place c =
    let p = err_from_is_err_and c.from_residual.result c.from_residual.ensures.1 in
    rw (p.1, p.2) (λ z. free-stop c.args.arena.now c.args.mem.now c.args.i c.args.j c.args.old.now c.args.name.now
    c.find_slot.new.slot _ _ _ c.rec_at.ensures c.in_err-place.ensures (number-ne c.in_err-place.field-0.0))

pub rename-requires : goal.rename-requires
rename-requires c =
    let p = c.requires.whole.1.1.1 in
    (c.find_slot.auto.slot ∙ p.1, p.0)

pub returns : goal.returns
returns c =
    let p = c.requires.whole in
    λ z. free-next c.args.arena.now c.args.mem.now c.args.i c.args.j c.args.old.now c.args.name.now
    c.find_slot.new.slot _ _ _
    c.rec_at.ensures
    c.in_ok-place.ensures z _ _ _ refl c.rename.ensures
    (record { whole = p.0; source = p.1.0; target = p.1.1.0; gone = omega arith; moved = omega arith })
