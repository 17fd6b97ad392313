-- `fsck_climb::child_ok`: the definition, test by test.
use mathlib.Core.Path.{sym, ◌∙◌}
use Rattle.fsck_climb.proofs.Ways.{slot-id, slot-kind, child-other, child-folder}
use Rattle.fsck_climb.proofs.child_ok.Goals as goal

pub returns-then-u32_at-ne2 : goal.returns-then-u32_at-ne2
returns-then-u32_at-ne2 c =
    child-other c.args.arena.now c.args.parents.now c.args.rec c.args.id c.args.k
    (λ q. c.if-u32_at-ne2.true (c.u32_at.ensures ∙ slot-kind c.args.arena.now _ c.args.rec c.args.k c.read_slot.ensures ∙ q))

pub returns : goal.returns
returns c =
    child-folder c.args.arena.now c.args.parents.now c.args.rec c.args.id c.args.k c.index-child.result c.index16.result
    (sym (slot-kind c.args.arena.now _ c.args.rec c.args.k c.read_slot.ensures) ∙ sym c.u32_at.ensures ∙ c.if-u32_at-ne2.false)
    (c.index-child.ensures ∙ c.u32_at-2.ensures ∙ slot-id c.args.arena.now _ c.args.rec c.args.k c.read_slot.ensures) c.index16.ensures
