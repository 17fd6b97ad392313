-- `folders::unname`: two steps, whatever the arena.
use Rattle.std.proofs.lemmas.Result.{err_from_is_err_and}
use Rattle.base.proofs.Tells.{number-ne}
use mathlib.Core.Path.{refl}
use Rattle.base.proofs.Outs.{went-is, went-has, went-next, went-stop}
use mathlib.Core.List.{[]}
use Rattle.folders.proofs.unname.Goals as goal

pub returns-in_err-nlinks_dec : goal.returns-in_err-nlinks_dec
returns-in_err-nlinks_dec c =
    let p = err_from_is_err_and c.from_residual.result c.from_residual.ensures.1 in
    rw (p.1, p.2) (λ a w. went-stop _ _ (number-ne c.in_err-nlinks_dec.field-0.0) (c.in_err-nlinks_dec.ensures a w))

pub unlink_dots-requires : goal.unlink_dots-requires
unlink_dots-requires c = (went-has (c.in_ok-nlinks_dec.ensures [] []) refl, c.requires.1)

pub returns : goal.returns
returns c = λ a w. went-next _ (went-is (c.in_ok-nlinks_dec.ensures a w) refl) (c.unlink_dots.ensures a w)
