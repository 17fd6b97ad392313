-- `calls::not_special`: the test that its definition makes.
use mathlib.Core.Path.{ap, sym, ◌∙◌}
use mathlib.Core.Bool.{not}
use Rattle.calls.proofs.Asks.{ensure-done, ensure-not}
use Rattle.calls.proofs.not_special.Goals as goal

pub returns-then-is_special : goal.returns-then-is_special
returns-then-is_special c = ensure-not 9 (ap not (sym c.is_special.ensures ∙ c.if-is_special.true))

pub returns : goal.returns
returns c = ensure-done 9 (ap not (sym c.is_special.ensures ∙ c.if-is_special.false))
