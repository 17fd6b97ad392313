-- `move_steps::move_slot`: by the folders' ids.
use Rattle.move_steps.proofs.Steps.{slot-within, slot-between}
use native.Mathlib.Omega.{arith}
use Rattle.move_steps.proofs.move_slot.Goals as goal

pub move_within-requires : goal.move_within-requires
move_within-requires c =
    (c.requires.0, (omega (arith, c.requires.1.0), (c.requires.1.1.0, (c.requires.1.1.1.1.0, c.requires.1.1.1.1.1))))

pub returns-then-id_at : goal.returns-then-id_at
returns-then-id_at c =
    slot-within _ _ _ c.args.i c.args.j c.args.k _ c.args.gone _ _ c.id_at.ensures c.id_at-2.ensures c.if-id_at.true c.move_within.ensures

pub move_between-requires : goal.move_between-requires
move_between-requires c =
    c.requires

pub returns : goal.returns
returns c =
    slot-between _ _ _ c.args.i c.args.j c.args.k _ c.args.gone _ _ c.id_at.ensures c.id_at-2.ensures c.if-id_at.false c.move_between.ensures
