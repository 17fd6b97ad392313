-- `calls_mend::mend_in`: nothing refuses the stores.
use Rattle.std.proofs.lemmas.Result.{err_from_is_err_and}
use Rattle.base.proofs.Tells.{number-ne}
use Rattle.base.specs.Told.{number}
use mathlib.Core.Path.{refl, ◌∙◌}
use Rattle.base.proofs.Outs.{above_zero}
use Rattle.mem.specs.Mem.{table_in}
use Rattle.calls_mend.specs.Mends.{went, stopped}
use Rattle.calls_mend.proofs.Asks.{asked-stop, asked-call, asked-room, asked-has}
use Rattle.calls_mend.proofs.mend_in.Goals as goal

pub plan_asked-requires : goal.plan_asked-requires
plan_asked-requires c = c.requires

pub returns-in_err-plan_asked : goal.returns-in_err-plan_asked
returns-in_err-plan_asked c =
    let p = err_from_is_err_and c.from_residual.result c.from_residual.ensures.1 in
    rw (p.1, p.2) (stopped (above_zero (number c.in_err-plan_asked.field-0.0) (number-ne c.in_err-plan_asked.field-0.0)) (asked-stop c.in_err-plan_asked.ensures (number-ne c.in_err-plan_asked.field-0.0)) refl)

pub mend_stores-requires : goal.mend_stores-requires
mend_stores-requires c = record { arena_value = asked-room c.in_ok-plan_asked.ensures refl; loaded = asked-has c.in_ok-plan_asked.ensures refl }

pub returns : goal.returns
returns c = went (asked-call c.in_ok-plan_asked.ensures refl ∙ c.mend_stores.ensures (table_in c.args.mem.now))
