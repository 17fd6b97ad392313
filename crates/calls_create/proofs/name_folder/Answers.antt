-- `calls_create::name_folder`: one count, then the other.
use Rattle.std.proofs.lemmas.Result.{err_from_is_err_and}
use Rattle.base.proofs.Tells.{number-ne}
use mathlib.Core.Path.{refl}
use mathlib.Core.List.{[]}
use Rattle.base.proofs.Outs.{went-has}
use Rattle.calls_create.proofs.Creates.{folder-stop, folder-done}
use Rattle.calls_create.proofs.name_folder.Goals as goal

pub returns-in_err-nlinks_inc : goal.returns-in_err-nlinks_inc
returns-in_err-nlinks_inc c =
    let p = err_from_is_err_and c.from_residual.result c.from_residual.ensures.1 in
    rw (p.1, p.2) (λ a w. folder-stop _ c.args.i c.args.c (c.in_err-nlinks_inc.ensures a w) _ _ (number-ne c.in_err-nlinks_inc.field-0.0))

pub nlinks_inc-requires-2 : goal.nlinks_inc-requires-2
nlinks_inc-requires-2 c =
    (went-has (c.in_ok-nlinks_inc.ensures [] []) refl, c.requires.1.0)

pub returns : goal.returns
returns c =
    λ a w. folder-done _ c.args.i c.args.c (c.in_ok-nlinks_inc.ensures a w) refl (c.nlinks_inc-2.ensures a w)
