-- `calls_format::format_fresh`: memory has what format starts from.
use mathlib.Core.Path.{◌∙◌}
use Rattle.calls_format.proofs.Formats.{ended-format}
use Rattle.calls_format.proofs.format_fresh.Goals as goal

pub returns : goal.returns
returns c =
    ended-format _ c.args.file c.args.time _ c.requires (c.fresh_meta.ensures.1 ∙ c.put_empty.ensures.0) c.fresh_meta.ensures.0 c.format_over.ensures
