-- `calls_move::move_planned`: by the plan's way.
use Rattle.structs.specs.Layout.{entry_of}
use Rattle.mem.specs.State.{fs_of}
use Rattle.calls_move.proofs.Decisions.{plan-free, plan-onto, slot-more}
use native.Mathlib.Omega.{arith}
use Rattle.calls_move.proofs.move_planned.Goals as goal

pub move_slot-requires : goal.move_slot-requires
move_slot-requires c =
    (c.requires.ready.0, (omega (arith, c.requires.ready.1), (c.requires.agreed.plan.source, (c.requires.agreed.plan.target, (c.requires.agreed.long, tt)))))

pub returns-then-p-eq-FREE : goal.returns-then-p-eq-FREE
returns-then-p-eq-FREE c =
    rw (plan-free (fs_of c.args.arena.now c.args.work.now c.args.mem.now) (fs_of c.args.arena.now c.args.work.now c.args.mem.now) c.args.p.row c.args.p.other c.args.old.now c.args.name.now (entry_of c.args.slot.now) c.args.p.place c.args.p.gone c.args.p.moved c.args.p.way c.if-p-eq-FREE.true) (slot-more c.move_slot.ensures)

pub move_onto-requires : goal.move_onto-requires
move_onto-requires c =
    (c.requires.ready.0, (c.requires.ready.1, (c.requires.agreed.plan.source, (c.requires.agreed.plan.target, (c.requires.agreed.plan.moved, (c.requires.agreed.plan.gone, (c.requires.agreed.short, c.requires.agreed.long)))))))

pub returns : goal.returns
returns c =
    rw (plan-onto (fs_of c.args.arena.now c.args.work.now c.args.mem.now) (fs_of c.args.arena.now c.args.work.now c.args.mem.now) c.args.p.row c.args.p.other c.args.old.now c.args.name.now (entry_of c.args.slot.now) c.args.p.place c.args.p.gone c.args.p.moved c.args.p.way c.if-p-eq-FREE.false) c.move_onto.ensures
