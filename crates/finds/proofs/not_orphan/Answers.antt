-- `finds::not_orphan`: the test that its definition makes.
use mathlib.Core.Path.{ap, sym, ◌∙◌}
use mathlib.Core.Bool.{not}
use Rattle.calls.proofs.Asks.{ensure-done, ensure-not}
use Rattle.finds.proofs.not_orphan.Goals as goal

pub returns-then-is_orphan : goal.returns-then-is_orphan
returns-then-is_orphan c = ensure-not 8 (ap not (sym c.is_orphan.ensures ∙ c.if-is_orphan.true))

pub returns : goal.returns
returns c = ensure-done 8 (ap not (sym c.is_orphan.ensures ∙ c.if-is_orphan.false))
