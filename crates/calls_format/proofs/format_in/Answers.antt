-- `calls_format::format_in`: the view is zeros; what the steps left is written where they were done.
use Rattle.std.proofs.lemmas.Result.{err_from_is_err_and}
use Rattle.base.proofs.Tells.{number-ne}
use mathlib.Core.Path.{refl}
use Rattle.base.proofs.Outs.{went-has}
use Rattle.calls_format.proofs.Formats.{fs-cleared, wrote-not, wrote-all}
use Rattle.calls_format.proofs.format_in.Goals as goal

pub returns-in_err-format_work : goal.returns-in_err-format_work
returns-in_err-format_work c =
    let p = err_from_is_err_and c.from_residual.result c.from_residual.ensures.1 in
    rw (p.1, p.2) (wrote-not _ _ _ _ _ _ c.args.file c.args.time (fs-cleared _ _ _ _ c.clear_all.ensures) c.in_err-format_work.ensures (number-ne c.in_err-format_work.field-0.0) refl)

pub commit-requires : goal.commit-requires
commit-requires c = (went-has c.in_ok-format_work.ensures refl).fine

pub returns : goal.returns
returns c =
    wrote-all _ _ _ _ _ _ c.args.file c.args.time (fs-cleared _ _ _ _ c.clear_all.ensures) c.in_ok-format_work.ensures refl c.commit.ensures
