-- `inventory_lines::names::byte_size`: a byte that is escaped takes three.
use mathlib.Core.Path.{sym, ◌∙◌}
use native.Mathlib.Omega.{arith}
use Rattle.inventory_lines.proofs.Escaped.{size-escaped, size-kept}
use Rattle.inventory_lines.proofs.names.byte_size.Goals as goal

pub returns-then-is_escaped : goal.returns-then-is_escaped
returns-then-is_escaped c = (sym (size-escaped _ (sym c.is_escaped.ensures ∙ c.if-is_escaped.true)), omega arith)

pub returns-else-is_escaped : goal.returns-else-is_escaped
returns-else-is_escaped c = (sym (size-kept _ (sym c.is_escaped.ensures ∙ c.if-is_escaped.false)), omega arith)
