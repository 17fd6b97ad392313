-- `calls_move::plan_free`: what is asked of the moved node, then its slot.
use Rattle.std.proofs.lemmas.Result.{err_from_is_err_and}
use Rattle.base.proofs.Tells.{number-ne}
use mathlib.Core.Path.{refl}
use Rattle.steps.proofs.Ends.{rest-is, rest_has, rest-not, rest-off, rest-as}
use mathlib.Core.Path.{◌∙◌}
use Rattle.calls_move.proofs.plan_free.Goals as goal

pub open_moved-requires : goal.open_moved-requires
open_moved-requires c = record { led = c.requires.led; whole = (c.requires.whole.0, (c.requires.whole.1.0, (c.requires.whole.1.1.0, c.requires.whole.1.1.1.1))) }

pub returns-in_err-open_moved : goal.returns-in_err-open_moved
returns-in_err-open_moved c =
    let p = err_from_is_err_and c.from_residual.result c.from_residual.ensures.1 in
    rw (p.1, p.2) (rest-off (number-ne c.in_err-open_moved.field-0.0) (rest-not (c.in_err-open_moved.ensures c.args.name.now) (number-ne c.in_err-open_moved.field-0.0)))

pub plan_slot-requires : goal.plan_slot-requires
plan_slot-requires c = record { led = c.requires.led; whole = (rest_has (c.in_ok-open_moved.ensures c.args.name.now) refl, (c.requires.whole.1.0, (c.requires.whole.1.1.0, (c.requires.whole.1.1.1.0, c.open_moved.auto.slot ∙ c.requires.whole.1.1.1.1)))) }

pub returns : goal.returns
returns c =
    rest-as (rest-is (c.in_ok-open_moved.ensures c.args.name.now) refl) (λ p. p) (c.plan_slot.ensures _)
