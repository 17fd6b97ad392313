-- `calls_find::find_in`: the questions, then the slot.
use Rattle.std.proofs.lemmas.Result.{err_from_is_err_and}
use Rattle.base.proofs.Tells.{number-ne}
use mathlib.Core.Path.{refl}
use Rattle.calls_find.proofs.Finds.{ask-stop, ask-next}
use Rattle.calls_find.proofs.find_in.Goals as goal

pub returns-in_err-find_ask : goal.returns-in_err-find_ask
returns-in_err-find_ask c =
    let p = err_from_is_err_and c.from_residual.result c.from_residual.ensures.1 in
    rw (p.1, p.2) (let s = c.args in
    ask-stop s.rec s.name.now _ s.arena.now _ c.in_err-find_ask.ensures (number-ne c.in_err-find_ask.field-0.0))

pub returns : goal.returns
returns c =
    let s = c.args in
    rw (ask-next s.rec s.name.now _ s.arena.now c.in_ok-find_ask.ensures refl) c.find_id.ensures
