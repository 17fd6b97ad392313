-- `fsck_climb::parent_of`: the first four bytes of slot 1.
use mathlib.Core.Path.{◌∙◌}
use native.Mathlib.Omega.{arith}
use Rattle.fsck_climb.proofs.Ways.{slot-id, up-low, up-high}
use Rattle.fsck_climb.proofs.parent_of.Goals as goal

pub returns-then-id-lt4096 : goal.returns-then-id-lt4096
returns-then-id-lt4096 c =
    let e = c.u32_at-id.ensures ∙ slot-id c.args.arena.now _ c.args.rec 1 c.read_slot.ensures in
    (up-low c.args.arena.now c.args.rec c.u32_at-id.result e c.if-id-lt4096.true, omega arith)

pub returns : goal.returns
returns c =
    let e = c.u32_at-id.ensures ∙ slot-id c.args.arena.now _ c.args.rec 1 c.read_slot.ensures in
    (up-high c.args.arena.now c.args.rec c.u32_at-id.result e (omega arith), omega arith)
