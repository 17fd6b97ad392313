-- `calls_close::drop_in`: what the steps left is written where they were done.
use Rattle.std.proofs.lemmas.Result.{err_from_is_err_and}
use Rattle.base.proofs.Tells.{number-ne}
use mathlib.Core.Path.{refl}
use Rattle.base.proofs.Outs.{went-has}
use Rattle.sefs.specs.Nodes.{drop_node}
use Rattle.steps.proofs.Ends.{fs-begun, ended-not, ended-done}
use Rattle.calls_close.proofs.drop_in.Goals as goal

pub returns-in_err-drop_node : goal.returns-in_err-drop_node
returns-in_err-drop_node c =
    let p = err_from_is_err_and c.from_residual.result c.from_residual.ensures.1 in
    rw (p.1, p.2) (ended-not (λ x. drop_node x c.args.i) _ _ _ (fs-begun _ _ _ 23 c.requires.0) c.in_err-drop_node.ensures (number-ne c.in_err-drop_node.field-0.0) refl)

pub commit-requires : goal.commit-requires
commit-requires c = (went-has c.in_ok-drop_node.ensures refl).fine

pub returns : goal.returns
returns c =
    ended-done (λ x. drop_node x c.args.i) _ _ _ _ (fs-begun _ _ _ 23 c.requires.0) c.in_ok-drop_node.ensures refl c.commit.ensures
