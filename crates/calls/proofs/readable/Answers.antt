-- `calls::readable`: the type, and then 7.
use mathlib.Core.Path.{◌∙◌}
use borrow.Author.Tests.{lt-leb, le-leb}
use Rattle.calls.proofs.Asks.{readable-stop, readable-next}
use Rattle.calls.proofs.readable.Goals as goal

pub returns-then-rec-gt4 : goal.returns-then-rec-gt4
returns-then-rec-gt4 c = readable-stop c.args.rec (lt-leb _ _ c.if-rec-gt4.true)

pub returns : goal.returns
returns c = c.folder.ensures ∙ readable-next c.args.rec (le-leb _ _ c.if-rec-gt4.false)
