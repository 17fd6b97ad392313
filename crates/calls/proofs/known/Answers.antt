-- `calls::known`: the test that its definition makes.
use mathlib.Core.Path.{◌∙◌, sym}
use Rattle.calls.proofs.Asks.{ensure-done, ensure-not}
use Rattle.calls.proofs.known.Goals as goal

pub returns-then-is_type : goal.returns-then-is_type
returns-then-is_type c = ensure-done 19 (sym c.is_type.ensures ∙ c.if-is_type.true)

pub returns : goal.returns
returns c = ensure-not 19 (sym c.is_type.ensures ∙ c.if-is_type.false)
