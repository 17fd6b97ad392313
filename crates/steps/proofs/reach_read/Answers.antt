-- `steps::reach_read`: superblock and maps are read where nothing refused.
use Rattle.std.proofs.lemmas.Result.{err_from_is_err_and}
use Rattle.base.proofs.Tells.{number-ne}
use Rattle.steps.proofs.Ends.{begin-not, begin-read}
use Rattle.steps.proofs.reach_read.Goals as goal

pub returns-in_err-row : goal.returns-in_err-row
returns-in_err-row c =
    let p = err_from_is_err_and c.from_residual.result c.from_residual.ensures.1 in
    rw (p.1, p.2) (begin-not c.in_err-row.ensures _ (number-ne c.in_err-row.field-0.0))

pub returns : goal.returns
returns c =
    begin-read c.in_ok-row.ensures c.args.mem.now _ c.requires.led c.load_meta.ensures
