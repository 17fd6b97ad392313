-- `steps::reach_two_read`: superblock and maps are read where nothing refused.
use Rattle.std.proofs.lemmas.Result.{err_from_is_err_and}
use Rattle.base.proofs.Tells.{number-ne}
use Rattle.steps.proofs.Ends.{begin-not, begin-read}
use Rattle.steps.proofs.reach_two_read.Goals as goal

pub returns-in_err-rows : goal.returns-in_err-rows
returns-in_err-rows c =
    let p = err_from_is_err_and c.from_residual.result c.from_residual.ensures.1 in
    rw (p.1, p.2) (begin-not c.in_err-rows.ensures _ (number-ne c.in_err-rows.field-0.0))

pub returns : goal.returns
returns c =
    begin-read c.in_ok-rows.ensures c.args.mem.now _ c.requires.led c.load_meta.ensures
