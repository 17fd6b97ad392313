-- `calls::an_owner`: the test that its definition makes.
use mathlib.Core.Path.{◌∙◌, sym}
use Rattle.calls.proofs.Asks.{ensure-done, ensure-not}
use Rattle.calls.proofs.an_owner.Goals as goal

pub returns-then-is_owner : goal.returns-then-is_owner
returns-then-is_owner c = ensure-done 6 (sym c.is_owner.ensures ∙ c.if-is_owner.true)

pub returns : goal.returns
returns c = ensure-not 6 (sym c.is_owner.ensures ∙ c.if-is_owner.false)
