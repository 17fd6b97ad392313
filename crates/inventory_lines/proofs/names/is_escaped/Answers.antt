-- `inventory_lines::names::is_escaped`: the definition's own test.
use mathlib.Core.Path.{refl}
use Rattle.inventory.specs.Text.{is_escaped}
use Rattle.inventory_lines.proofs.names.is_escaped.Goals as goal

pub returns : goal.returns
unfolding is_escaped
returns c = refl
