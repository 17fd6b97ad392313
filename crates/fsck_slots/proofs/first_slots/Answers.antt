-- `fsck_slots::first_slots`: slot 0, then slot 1.
use Rattle.fsck_slots.proofs.Slots.{start-dot, start-dots}
use Rattle.fsck_slots.proofs.first_slots.Goals as goal

pub returns-then-not-dot_ok : goal.returns-then-not-dot_ok
returns-then-not-dot_ok c =
    start-dot c.args.arena.now c.args.rec c.args.id _ c.read_slot.ensures c.dot_ok.result c.dot_ok.ensures c.if-not-dot_ok.true

pub returns : goal.returns
returns c =
    start-dots c.args.arena.now c.args.rec c.args.id _ c.read_slot.ensures c.dot_ok.result c.dot_ok.ensures c.if-not-dot_ok.false _ c.dots_ok.result c.read_slot-2.ensures c.dots_ok.ensures
