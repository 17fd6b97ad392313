-- `calls::good_name`: a verdict is good, bad, or good but with a slash.
use mathlib.Core.Path.{ap, ◌∙◌}
use Rattle.calls.proofs.Asks.{early}
use Rattle.utf8.specs.Names.{early_reason, name_verdict}
use Rattle.calls.proofs.good_name.Goals as goal

pub returns : goal.returns
returns c =
    c.early_reason.ensures
    ∙ ap early_reason c.name_verdict.ensures
    ∙ early (name_verdict c.args.name.now)
