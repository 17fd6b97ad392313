-- `calls_create::name_node`: the node, and by its kind the folder.
use Rattle.std.proofs.lemmas.Result.{err_from_is_err_and}
use Rattle.base.proofs.Tells.{number-ne}
use mathlib.Core.Path.{refl}
use mathlib.Core.List.{[]}
use Rattle.base.proofs.Outs.{went-has}
use Rattle.calls_create.proofs.Creates.{named-stop, named-folder, named_other}
use Rattle.calls_create.proofs.name_node.Goals as goal

pub returns-in_err-nlinks_inc : goal.returns-in_err-nlinks_inc
returns-in_err-nlinks_inc c =
    let p = err_from_is_err_and c.from_residual.result c.from_residual.ensures.1 in
    rw (p.1, p.2) (λ a w. named-stop _ c.args.i c.args.c (c.in_err-nlinks_inc.ensures a w) c.args.kind _ _ (number-ne c.in_err-nlinks_inc.field-0.0))

pub name_folder-requires : goal.name_folder-requires
name_folder-requires c =
    (went-has (c.in_ok-nlinks_inc.ensures [] []) refl, c.requires.1)

pub returns-then-kind-eq2 : goal.returns-then-kind-eq2
returns-then-kind-eq2 c =
    λ a w. named-folder _ c.args.i c.args.c (c.in_ok-nlinks_inc.ensures a w) c.args.kind refl c.if-kind-eq2.true (c.name_folder.ensures a w)

pub returns : goal.returns
returns c =
    λ a w. named_other _ c.args.i c.args.c (c.in_ok-nlinks_inc.ensures a w) c.args.kind refl c.if-kind-eq2.false
