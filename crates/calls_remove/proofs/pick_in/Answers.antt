-- `calls_remove::pick_in`: the questions, then the slot.
use Rattle.std.proofs.lemmas.Result.{err_from_is_err_and}
use Rattle.base.proofs.Tells.{number-ne}
use mathlib.Core.Path.{refl}
use Rattle.calls_remove.proofs.Parts.{from-stop, from_next}
use Rattle.calls_remove.proofs.pick_in.Goals as goal

pub returns-in_err-remove_ask : goal.returns-in_err-remove_ask
returns-in_err-remove_ask c =
    let p = err_from_is_err_and c.from_residual.result c.from_residual.ensures.1 in
    rw (p.1, p.2) (from-stop c.args.folder c.args.arena.now c.args.mem.now c.args.i c.args.name.now _ _ c.rec_at.ensures c.in_err-remove_ask.ensures (number-ne c.in_err-remove_ask.field-0.0))

pub returns : goal.returns
returns c =
    from_next c.args.folder c.args.arena.now c.args.mem.now c.args.i c.args.name.now _ _ c.rec_at.ensures c.in_ok-remove_ask.ensures refl c.pick_name.ensures
