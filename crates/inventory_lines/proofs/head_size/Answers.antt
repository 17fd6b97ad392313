-- `inventory_lines::head_size`: three numbers, and a space behind each.
use native.Mathlib.Omega.{arith}
use Rattle.inventory_lines.proofs.Lines.{length-head}
use Rattle.inventory_lines.proofs.head_size.Goals as goal

pub returns : goal.returns
returns c = omega (arith, length-head c.args.id c.args.kind c.args.links)
