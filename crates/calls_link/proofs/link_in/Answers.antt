-- `calls_link::link_in`: what the steps left is written where they were done.
use Rattle.std.proofs.lemmas.Result.{err_from_is_err_and}
use Rattle.base.proofs.Tells.{number-ne}
use mathlib.Core.Path.{refl}
use Rattle.base.proofs.Outs.{went-has}
use Rattle.calls_link.specs.Link.{link_moves}
use Rattle.steps.proofs.Ends.{fs-begun, ended-not, ended-done}
use Rattle.calls_link.proofs.link_in.Goals as goal

pub returns-in_err-link_moves : goal.returns-in_err-link_moves
returns-in_err-link_moves c =
    let p = err_from_is_err_and c.from_residual.result c.from_residual.ensures.1 in
    rw (p.1, p.2) (ended-not (λ x. link_moves x c.args.i c.args.name.now c.args.c) _ _ _ (fs-begun _ _ _ 19 c.requires.0) c.in_err-link_moves.ensures (number-ne c.in_err-link_moves.field-0.0) refl)

pub commit-requires : goal.commit-requires
commit-requires c = (went-has c.in_ok-link_moves.ensures refl).fine

pub returns : goal.returns
returns c =
    ended-done (λ x. link_moves x c.args.i c.args.name.now c.args.c) _ _ _ _ (fs-begun _ _ _ 19 c.requires.0) c.in_ok-link_moves.ensures refl c.commit.ensures
