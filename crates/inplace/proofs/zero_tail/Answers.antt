-- `inplace::zero_tail`: the definition's two cases.
use mathlib.Core.Path.{◌∙◌}
use Rattle.arena.specs.Fields.{file}
use Rattle.inplace.proofs.Searches.{tail_none, tail-cleared}
use Rattle.inplace.proofs.zero_tail.Goals as goal

pub returns-then-k-arena : goal.returns-then-k-arena
returns-then-k-arena c =
    tail_none c.args.arena.now (file c.args.which c.args.name.now) c.args.len _ c.find_data-k.ensures c.if-k-arena.true

pub returns : goal.returns
returns c =
    c.clear_tail.ensures ∙ tail-cleared c.args.arena.now (file c.args.which c.args.name.now) c.args.len _ c.find_data-k.ensures c.if-k-arena.false
