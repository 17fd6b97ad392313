-- `move_steps::move_parent`: by the moved node's type.
use Rattle.move_steps.proofs.Steps.{parent-folder, parent-other}
use Rattle.move_steps.proofs.move_parent.Goals as goal

pub returns-then-kind_at-eq2 : goal.returns-then-kind_at-eq2
returns-then-kind_at-eq2 c =
    parent-folder _ _ _ c.args.j c.args.c _ c.kind_at.ensures _ c.id_at.ensures c.if-kind_at-eq2.true c.put_dots.ensures

pub returns : goal.returns
returns c =
    parent-other _ _ _ c.args.j c.args.c _ c.kind_at.ensures c.if-kind_at-eq2.false c.requires.0
