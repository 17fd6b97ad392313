-- `utf8_run::show_name`: the first zero is not past the end.
use Rattle.std.proofs.Common.{sym, arith, length-take-le}
use Rattle.utf8.proofs.Names.{zero_at-le}
use Rattle.utf8_run.proofs.show_name.Goals as goal

pub slice_bounds-write_all-end : goal.slice_bounds-write_all-end
slice_bounds-write_all-end g c = sym (length-take-le _ _ (omega (arith, c.first_zero-end.ensures, zero_at-le c.args.name.now)))
