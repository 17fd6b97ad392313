-- `move_steps::move_links`: by the moved node's type.
use Rattle.move_steps.proofs.Steps.{links-stuck, links-folder, links-other}
use native.Mathlib.Omega.{arith}
use Rattle.move_steps.proofs.move_links.Goals as goal

pub returns-then-kind-gt4 : goal.returns-then-kind-gt4
returns-then-kind-gt4 c =
    links-stuck _ c.args.i c.args.j c.args.c _ (c.kind_at-kind.ensures) _ (omega (arith, (c.if-kind-gt4.true)))

pub returns-then-kind-eq2 : goal.returns-then-kind-eq2
returns-then-kind-eq2 c =
    links-folder _ c.args.i c.args.j c.args.c _ (c.kind_at-kind.ensures) (omega (arith, (c.if-kind-gt4.false))) (c.if-kind-eq2.true) (c.move_dots.ensures)

pub returns : goal.returns
returns c =
    links-other _ c.args.i c.args.j c.args.c _ (c.kind_at-kind.ensures) (omega (arith, (c.if-kind-gt4.false))) (c.if-kind-eq2.false) c.requires.0
