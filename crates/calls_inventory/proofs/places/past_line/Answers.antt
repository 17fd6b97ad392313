-- `calls_inventory::places::past_line`: by the type of what the line names.
use mathlib.Core.Path.{sym}
use borrow.Author.Tests.{eq-eqb, ne_eqb}
use Rattle.calls_inventory.proofs.Stands.{past-into, past-on}
use Rattle.calls_inventory.proofs.places.past_line.Goals as goal

pub returns-then-node-eq-FOLDER : goal.returns-then-node-eq-FOLDER
returns-then-node-eq-FOLDER c = sym (past-into _ _ _ _ (eq-eqb _ _ c.if-node-eq-FOLDER.true))

pub returns : goal.returns
returns c = sym (past-on _ _ _ _ (ne_eqb _ _ c.if-node-eq-FOLDER.false))
