-- `calls_format::format_on`: the arena, then the steps.
use mathlib.Core.Path.{refl, sym, ◌∙◌}
use Rattle.steps.specs.Ends.{stopped}
use Rattle.calls_format.proofs.Formats.{format-stop}
use native.Mathlib.Omega.{arith}
use Rattle.calls_format.proofs.format_on.Goals as goal

pub returns-then-not-legal : goal.returns-then-not-legal
returns-then-not-legal c =
    stopped {r = 1} (omega arith) (format-stop _ c.args.file c.args.time (sym c.legal.ensures ∙ c.if-not-legal.true)) refl

pub format_fresh-requires : goal.format_fresh-requires
format_fresh-requires c =
    sym c.legal.ensures ∙ c.if-not-legal.false

pub returns : goal.returns
returns c =
    c.format_fresh.ensures
