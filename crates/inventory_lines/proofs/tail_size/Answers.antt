-- `inventory_lines::tail_size`: the name, the slash and the newline.
use native.Mathlib.Omega.{arith}
use Rattle.inventory_lines.proofs.Lines.{length-tail}
use Rattle.inventory_lines.proofs.tail_size.Goals as goal

pub returns : goal.returns
returns c = omega (arith, length-tail c.args.name.now)
