-- `walk_parts::texts::end_at`: the first slash from i on.
use Rattle.walk_parts.proofs.Splits.{end-places}
use native.Mathlib.Omega.{arith}
use Rattle.walk_parts.proofs.texts.end_at.Goals as goal

pub overflow_add-result : goal.overflow_add-result
overflow_add-result c = omega (arith, (end-places c.args.text.now c.args.i c.requires c.first_of.ensures).1.1)

pub returns : goal.returns
returns c = end-places c.args.text.now c.args.i c.requires c.first_of.ensures
