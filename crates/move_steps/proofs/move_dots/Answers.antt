-- `move_steps::move_dots`: two counts, whatever the arena.
use Rattle.std.proofs.lemmas.Result.{err_from_is_err_and}
use Rattle.base.proofs.Tells.{number-ne}
use mathlib.Core.Path.{refl}
use Rattle.base.proofs.Outs.{went-is, went-has, went-next, went-stop}
use Rattle.sefs.specs.Move.{move_dots}
use mathlib.Core.List.{[]}
use Rattle.move_steps.proofs.move_dots.Goals as goal

pub returns-in_err-nlinks_dec : goal.returns-in_err-nlinks_dec
unfolding move_dots
returns-in_err-nlinks_dec c =
    let p = err_from_is_err_and c.from_residual.result c.from_residual.ensures.1 in
    rw (p.1, p.2) (λ a w. went-stop _ _ (number-ne c.in_err-nlinks_dec.field-0.0) (c.in_err-nlinks_dec.ensures a w))

pub nlinks_inc-requires : goal.nlinks_inc-requires
nlinks_inc-requires c =
    (went-has (c.in_ok-nlinks_dec.ensures [] []) refl, c.requires.1.1)

pub returns : goal.returns
unfolding move_dots
returns c =
    λ a w. went-next _ (went-is (c.in_ok-nlinks_dec.ensures a w) refl) (c.nlinks_inc.ensures a w)
