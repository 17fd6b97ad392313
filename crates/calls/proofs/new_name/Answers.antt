-- `calls::new_name`: a verdict is good, bad, or good but with a slash.
use mathlib.Core.Path.{ap, ◌∙◌}
use Rattle.calls.proofs.Asks.{newly}
use Rattle.utf8.specs.Names.{new_reason, name_verdict}
use Rattle.calls.proofs.new_name.Goals as goal

pub returns : goal.returns
returns c =
    c.new_reason.ensures
    ∙ ap new_reason c.name_verdict.ensures
    ∙ newly (name_verdict c.args.name.now)
