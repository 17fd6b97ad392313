-- `calls_link::link_child`: question after question.
use Rattle.std.proofs.lemmas.Result.{err_from_is_err_and}
use Rattle.base.proofs.Tells.{number-ne}
use mathlib.Core.Path.{refl}
use Rattle.calls_link.proofs.Links.{child-stop, child-folder, child-full, child-fine}
use Rattle.calls_link.proofs.link_child.Goals as goal

pub returns-in_err-known : goal.returns-in_err-known
returns-in_err-known c =
    let p = err_from_is_err_and c.from_residual.result c.from_residual.ensures.1 in
    rw (p.1, p.2) (child-stop c.args.rec c.in_err-known.ensures (number-ne c.in_err-known.field-0.0))

pub returns-then-rec-eq2 : goal.returns-then-rec-eq2
returns-then-rec-eq2 c =
    child-folder c.args.rec c.in_ok-known.ensures refl c.if-rec-eq2.true

pub returns-then-rec-lt65535 : goal.returns-then-rec-lt65535
returns-then-rec-lt65535 c =
    child-fine c.args.rec c.in_ok-known.ensures refl c.if-rec-eq2.false c.if-rec-lt65535.true

pub returns : goal.returns
returns c =
    child-full c.args.rec c.in_ok-known.ensures refl c.if-rec-eq2.false c.if-rec-lt65535.false
