-- `calls_link::link_asks`: question after question.
use Rattle.std.proofs.lemmas.Result.{err_from_is_err_and}
use Rattle.base.proofs.Tells.{number-ne}
use mathlib.Core.Path.{refl}
use Rattle.calls_link.proofs.Links.{work-ask, work-slot, work-child}
use Rattle.mem.specs.State.{fs_at}
use Rattle.calls_link.proofs.link_asks.Goals as goal

pub returns-in_err-link_ask : goal.returns-in_err-link_ask
returns-in_err-link_ask c =
    let p = err_from_is_err_and c.from_residual.result c.from_residual.ensures.1 in
    rw (p.1, p.2) (work-ask (fs_at c.args.arena.now c.args.mem.now) c.args.i c.args.c c.args.name.now _ c.rec_at-rec.ensures c.in_err-link_ask.ensures (number-ne c.in_err-link_ask.field-0.0))

pub returns-in_err-no_slot : goal.returns-in_err-no_slot
returns-in_err-no_slot c =
    let p = err_from_is_err_and c.from_residual-in_err-no_slot.result c.from_residual-in_err-no_slot.ensures.1 in
    rw (p.1, p.2) (work-slot (fs_at c.args.arena.now c.args.mem.now) c.args.i c.args.c c.args.name.now _ c.rec_at-rec.ensures c.in_ok-link_ask.ensures refl c.in_err-no_slot.ensures (number-ne c.in_err-no_slot.field-0.0))

pub returns : goal.returns
returns c =
    work-child (fs_at c.args.arena.now c.args.mem.now) c.args.i c.args.c c.args.name.now _ c.rec_at-rec.ensures c.in_ok-link_ask.ensures refl c.in_ok-no_slot.ensures _ c.rec_at.ensures refl c.link_child.ensures
