-- `calls_move::ask_late`: question after question.
use Rattle.std.proofs.lemmas.Result.{err_from_is_err_and}
use Rattle.base.proofs.Tells.{number-ne}
use mathlib.Core.Path.{refl}
use Rattle.calls_move.proofs.Asks.{late-plain, late-short, late-live}
use Rattle.calls_move.proofs.ask_late.Goals as goal

pub returns-in_err-not_specials : goal.returns-in_err-not_specials
returns-in_err-not_specials c =
    let p = err_from_is_err_and c.from_residual.result c.from_residual.ensures.1 in
    rw (p.1, p.2) (late-plain c.args.target c.args.old.now c.args.name.now c.in_err-not_specials.ensures (number-ne c.in_err-not_specials.field-0.0))

pub returns-in_err-not_longs : goal.returns-in_err-not_longs
returns-in_err-not_longs c =
    let p = err_from_is_err_and c.from_residual-in_err-not_longs.result c.from_residual-in_err-not_longs.ensures.1 in
    rw (p.1, p.2) (late-short c.args.target c.args.old.now c.args.name.now c.in_ok-not_specials.ensures refl c.in_err-not_longs.ensures (number-ne c.in_err-not_longs.field-0.0))

pub returns : goal.returns
returns c =
    late-live c.args.target c.args.old.now c.args.name.now c.in_ok-not_specials.ensures refl c.in_ok-not_longs.ensures refl c.live_folder.ensures
