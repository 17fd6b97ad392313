-- `calls_fallocate::fallocate_in`: what is asked first, and the stores.
use Rattle.std.proofs.lemmas.Result.{err_from_is_err_and}
use Rattle.base.proofs.Tells.{number-ne}
use mathlib.Core.Path.{refl}
use Rattle.steps.specs.Ends.{went}
use Rattle.steps.proofs.Ends.{ended-refused}
use Rattle.calls_fallocate.proofs.Questions.{ranged-ended}
use Rattle.calls_fallocate.proofs.fallocate_in.Goals as goal

pub returns-in_err-s : goal.returns-in_err-s
returns-in_err-s c =
    let p = err_from_is_err_and c.from_residual.result c.from_residual.ensures.1 in
    rw (p.1, p.2) (ended-refused (number-ne c.in_err-s.field-0.0) (c.in_err-s.ensures.refuses (number-ne c.in_err-s.field-0.0)) refl)

pub returns-then-s : goal.returns-then-s
returns-then-s c = went (c.in_ok-s.ensures.idles refl c.if-s.true)

pub fallocate_row-requires : goal.fallocate_row-requires
fallocate_row-requires c =
    (c.requires.0, c.in_ok-s.ensures.supplied refl c.if-s.false)

pub returns : goal.returns
returns c =
    ranged-ended c.in_ok-s.ensures c.if-s.false c.fallocate_row.ensures
