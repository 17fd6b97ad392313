-- `calls_format::name_twice`: two steps, whatever the arena.
use Rattle.std.proofs.lemmas.Result.{err_from_is_err_and}
use Rattle.base.proofs.Tells.{number-ne}
use mathlib.Core.Path.{refl}
use mathlib.Core.List.{[]}
use Rattle.base.proofs.Outs.{went-is, went-has, went-next, went-stop}
use Rattle.calls_format.specs.Format.{name_twice}
use Rattle.calls_format.proofs.name_twice.Goals as goal

pub returns-in_err-nlinks_inc : goal.returns-in_err-nlinks_inc
unfolding name_twice
returns-in_err-nlinks_inc c =
    let p = err_from_is_err_and c.from_residual.result c.from_residual.ensures.1 in
    rw (p.1, p.2) (λ a w. went-stop _ _ (number-ne c.in_err-nlinks_inc.field-0.0) (c.in_err-nlinks_inc.ensures a w))

pub nlinks_inc-requires-2 : goal.nlinks_inc-requires-2
nlinks_inc-requires-2 c =
    (went-has (c.in_ok-nlinks_inc.ensures [] []) refl, c.requires.1)

pub returns : goal.returns
unfolding name_twice
returns c =
    λ a w. went-next _ (went-is (c.in_ok-nlinks_inc.ensures a w) refl) (c.nlinks_inc-2.ensures a w)
