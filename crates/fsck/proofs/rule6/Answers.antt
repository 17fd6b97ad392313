-- `fsck::rule6`: folders, then the sizes of other nodes.
use mathlib.Core.Path.{sym, ◌∙◌}
use Rattle.mem.specs.Mem.{table_in}
use Rattle.fsck.proofs.Verdicts.{six-folders, six-sizes}
use Rattle.fsck.proofs.rule6.Goals as goal

pub returns-then-not-folders_ok : goal.returns-then-not-folders_ok
returns-then-not-folders_ok c =
    sym (six-folders c.args.arena.now (table_in c.args.mem.now) (sym c.folders_ok.ensures ∙ c.if-not-folders_ok.true))

pub returns : goal.returns
returns c =
    c.sizes_ok.ensures ∙ sym (six-sizes c.args.arena.now (table_in c.args.mem.now) (sym c.folders_ok.ensures ∙ c.if-not-folders_ok.false))
