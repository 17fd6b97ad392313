-- `inventory_lines::names::hex_digit`: digits below ten, then letters.
use borrow.Author.Tests.{lt-ltb, le-ltb}
use Rattle.inventory_lines.proofs.names.hex_digit.Goals as goal

pub returns-then-d-lt10 : goal.returns-then-d-lt10
returns-then-d-lt10 c = rw (lt-ltb _ 10 c.if-d-lt10.true)

pub returns-else-d-lt10 : goal.returns-else-d-lt10
returns-else-d-lt10 c = rw (le-ltb _ 10 c.if-d-lt10.false)
