-- `calls_move::open_moved`: the folders' ids, the old name, the moved node, its type, then the climb.
use Rattle.std.proofs.lemmas.Result.{err_from_is_err_and}
use Rattle.base.proofs.Tells.{number-ne}
use mathlib.Core.Path.{refl}
use Rattle.base.proofs.Outs.{went-has}
use Rattle.calls_move.proofs.Decisions.{free-within, free-missing, free-unopened, free-above, free-below}
use mathlib.Core.Path.{◌∙◌}
use native.Mathlib.Omega.{arith}
use Rattle.calls_move.proofs.open_moved.Goals as goal

pub returns-then-id_at : goal.returns-then-id_at
returns-then-id_at c =
    λ name. free-within _ _ c.args.i c.args.j c.args.old.now name _ _ c.id_at.ensures c.id_at-2.ensures c.if-id_at.true c.requires.whole.0

pub find_slot-requires : goal.find_slot-requires
find_slot-requires c = record { led = c.requires.led; slot_len = c.requires.whole.1.1.1 }

pub returns-in_err-find_slot : goal.returns-in_err-find_slot
returns-in_err-find_slot c =
    let p = err_from_is_err_and c.from_residual.result c.from_residual.ensures.1 in
    rw (p.1, p.2) (λ name. free-missing _ _ c.args.i c.args.j c.args.old.now name _ _ c.id_at.ensures c.id_at-2.ensures c.if-id_at.false _ c.rec_at.ensures c.find_slot.new.slot _ _ c.in_err-find_slot.ensures (number-ne c.in_err-find_slot.field-0.0))

pub u32_at-requires : goal.u32_at-requires
u32_at-requires c =
    omega (arith, c.find_slot.auto.slot ∙ c.requires.whole.1.1.1)

pub get_node-requires : goal.get_node-requires
get_node-requires c = record { led = c.requires.led; whole = c.requires.whole.0 }

pub returns-in_err-row : goal.returns-in_err-row
returns-in_err-row c =
    let p = err_from_is_err_and c.from_residual-in_err-row.result c.from_residual-in_err-row.ensures.1 in
    rw (p.1, p.2) (λ name. free-unopened _ _ c.args.i c.args.j c.args.old.now name _ _ c.id_at.ensures c.id_at-2.ensures c.if-id_at.false _ c.rec_at.ensures c.find_slot.new.slot _ _
    c.in_ok-find_slot.ensures refl _ c.u32_at.ensures c.get_node.new.mem _ c.in_err-row.ensures (number-ne c.in_err-row.field-0.0))

pub kind_at-requires : goal.kind_at-requires
kind_at-requires c = went-has c.in_ok-row.ensures refl

pub returns-then-kind_at-gt4 : goal.returns-then-kind_at-gt4
returns-then-kind_at-gt4 c =
    λ name. free-above _ _ c.args.i c.args.j c.args.old.now name _ _ c.id_at.ensures c.id_at-2.ensures c.if-id_at.false _ c.rec_at.ensures c.find_slot.new.slot _ _
    c.in_ok-find_slot.ensures refl _ c.u32_at.ensures c.get_node.new.mem _ c.in_ok-row.ensures refl _ c.kind_at.ensures (omega (arith, c.if-kind_at-gt4.true))

pub not_below-requires : goal.not_below-requires
not_below-requires c =
    let k = went-has c.in_ok-row.ensures refl in record { led = c.requires.led; whole = (k.0, (c.requires.whole.1.0, (c.requires.whole.1.1.0, k.1))) }

pub returns : goal.returns
returns c =
    λ name. free-below _ _ c.args.i c.args.j c.args.old.now name _ _ c.id_at.ensures c.id_at-2.ensures c.if-id_at.false _ c.rec_at.ensures c.find_slot.new.slot _ _
    c.in_ok-find_slot.ensures refl _ c.u32_at.ensures c.get_node.new.mem _ c.in_ok-row.ensures refl _ c.kind_at.ensures (omega (arith, c.if-kind_at-gt4.false)) c.not_below.ensures (went-has c.in_ok-row.ensures refl).0
