-- `calls_resize::resize_on`: what is asked first, and the stores.
use Rattle.std.proofs.lemmas.Result.{err_from_is_err_and}
use Rattle.base.proofs.Tells.{number-ne}
use mathlib.Core.Path.{refl}
use Rattle.base.proofs.Outs.{went-is, went-has, went-not}
use Rattle.mem.specs.Mem.{table_in}
use Rattle.steps.proofs.Ends.{ended-refused}
use Rattle.calls_resize.proofs.Resizes.{resize-not, resized}
use Rattle.calls_resize.proofs.resize_on.Goals as goal

pub returns-in_err-s : goal.returns-in_err-s
returns-in_err-s c =
    let p = err_from_is_err_and c.from_residual.result c.from_residual.ensures.1 in
    rw (p.1, p.2) (let s = c.args in
    ended-refused (number-ne c.in_err-s.field-0.0) (resize-not s.arena.now (table_in s.mem.now) s.who s.h s.n (went-not c.in_err-s.ensures (number-ne c.in_err-s.field-0.0))) refl)

pub set_size-requires : goal.set_size-requires
set_size-requires c = (c.requires, went-has c.in_ok-s.ensures refl)

pub returns : goal.returns
returns c =
    let s = c.args in
    resized s.arena.now _ s.mem.now _ s.who s.h s.n _ (went-is c.in_ok-s.ensures refl) c.set_size.ensures
