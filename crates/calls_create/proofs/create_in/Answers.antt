-- `calls_create::create_in`: what the steps left is written where they were done.
use Rattle.std.proofs.lemmas.Result.{err_from_is_err_and}
use Rattle.base.proofs.Tells.{number-ne}
use mathlib.Core.Path.{refl}
use Rattle.base.proofs.Outs.{went-has}
use Rattle.calls_create.specs.Create.{create_moves}
use Rattle.steps.proofs.Ends.{fs-begun}
use Rattle.calls_create.proofs.Held.{opens_not, opens-done}
use Rattle.calls_create.proofs.create_in.Goals as goal

pub returns-in_err-row : goal.returns-in_err-row
returns-in_err-row c =
    let p = err_from_is_err_and c.from_residual.result c.from_residual.ensures.1 in
    rw (p.1, p.2) (opens_not (λ x. create_moves x c.args.i c.args.name.now c.args.new.kind c.args.new.mode c.args.new.time c.args.new.file) _ _ _ _ (fs-begun _ _ _ 38 c.requires.0) c.in_err-row.ensures (number-ne c.in_err-row.field-0.0) refl)

pub commit-requires : goal.commit-requires
commit-requires c = (went-has c.in_ok-row.ensures refl).0.fine

pub returns : goal.returns
returns c =
    opens-done (λ x. create_moves x c.args.i c.args.name.now c.args.new.kind c.args.new.mode c.args.new.time c.args.new.file) _ _ _ _ _ (fs-begun _ _ _ 38 c.requires.0) c.in_ok-row.ensures refl c.commit.ensures
