-- `sound::block::within_ok`: past the length, a whole block below it, or the last.
use mathlib.Core.Path.{◌∙◌}
use borrow.Author.Tests.{le-leb}
use Rattle.sound.proofs.Sounds.{within-far, within-full, within-tail}
use Rattle.sound.proofs.block.within_ok.Goals as goal

pub returns-then-from-to : goal.returns-then-from-to
returns-then-from-to c =
    within-far c.args.part.now c.args.len (c.index-from.ensures ∙ c.u32_at.ensures) c.index-to.ensures c.if-from-to.true

pub returns-then-left-ge-PAYLOAD : goal.returns-then-left-ge-PAYLOAD
returns-then-left-ge-PAYLOAD c =
    le-leb _ _ c.if-left-ge-PAYLOAD.true
    ∙ within-full c.args.part.now c.args.len (c.index-from.ensures ∙ c.u32_at.ensures) c.index-to.ensures c.if-from-to.false c.if-left-ge-PAYLOAD.true

pub returns-else-left-ge-PAYLOAD : goal.returns-else-left-ge-PAYLOAD
returns-else-left-ge-PAYLOAD c =
    c.all_zero.ensures ∙ within-tail c.args.part.now c.args.len (c.index-from.ensures ∙ c.u32_at.ensures) c.index-to.ensures c.if-from-to.false
