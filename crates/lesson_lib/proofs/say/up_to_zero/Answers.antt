-- `lesson_lib::say::up_to_zero`: the first zero is not past the end.
use Rattle.std.proofs.Common.{sym, arith, length-take-le}
use Rattle.utf8.proofs.Names.{zero_at-le}
use Rattle.lesson_lib.proofs.say.up_to_zero.Goals as goal

pub slice_bounds-result-end : goal.slice_bounds-result-end
slice_bounds-result-end c = sym (length-take-le _ _ (omega (arith, c.first_zero-n.ensures, zero_at-le c.args.bytes.now)))
