-- `calls_move::plan_named`: the old name, and then the nodes.
use Rattle.std.proofs.lemmas.Result.{err_from_is_err_and}
use Rattle.base.proofs.Tells.{number-ne}
use mathlib.Core.Path.{refl}
use Rattle.calls_move.proofs.Decisions.{named-stop, named-next}
use mathlib.Core.Path.{◌∙◌}
use native.Mathlib.Omega.{arith}
use Rattle.calls_move.proofs.plan_named.Goals as goal

pub find_slot-requires : goal.find_slot-requires
find_slot-requires c = record { led = c.requires.led; slot_len = c.requires.whole.1.1.1 }

pub returns-in_err-find_slot : goal.returns-in_err-find_slot
returns-in_err-find_slot c =
    let p = err_from_is_err_and c.from_residual.result c.from_residual.ensures.1 in
    rw (p.1, p.2) (λ name e. named-stop c.args.arena.now c.args.mem.now c.args.i c.args.j c.args.old.now name c.find_slot.new.slot _ _ _ c.rec_at.ensures c.in_err-find_slot.ensures c.args.k c.args.new (number-ne c.in_err-find_slot.field-0.0))

pub u32_at-requires : goal.u32_at-requires
u32_at-requires c =
    omega (arith, c.find_slot.auto.slot ∙ c.requires.whole.1.1.1)

pub plan_node-requires : goal.plan_node-requires
plan_node-requires c = record { led = c.requires.led; whole = (c.requires.whole.0, (c.requires.whole.1.0, c.requires.whole.1.1.0)) }

pub returns : goal.returns
returns c =
    λ name e. named-next c.args.arena.now c.args.mem.now c.args.i c.args.j c.args.old.now name c.find_slot.new.slot _ _ _ c.rec_at.ensures c.in_ok-find_slot.ensures
    c.args.k c.args.new _ c.u32_at.ensures refl (c.plan_node.ensures c.args.old.now name e)
