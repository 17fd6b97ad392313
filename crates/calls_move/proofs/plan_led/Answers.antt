-- `calls_move::plan_led`: the handles' rows, then the other questions.
use Rattle.std.proofs.lemmas.Result.{err_from_is_err_and}
use Rattle.base.proofs.Tells.{number-ne}
use mathlib.Core.Path.{refl}
use Rattle.base.proofs.Outs.{went-has}
use Rattle.structs.specs.Layout.{entry_of}
use Rattle.mem.specs.State.{fs_at}
use Rattle.calls.proofs.Asks.{admitted}
use Rattle.std.specs.Result.{result_unwrap_or}
use Rattle.calls_move.specs.Parts.{planned}
use Rattle.calls_move.specs.Plans.{no_plan}
use Rattle.calls_move.proofs.Decisions.{move-not, move-rows}
use Rattle.calls_move.proofs.plan_led.Goals as goal

pub returns-in_err-i : goal.returns-in_err-i
returns-in_err-i c =
    let p = err_from_is_err_and c.from_residual.result c.from_residual.ensures.1 in
    rw (p.1, p.2) (move-not c.args.arena.now _ _ c.args.mem.now _ c.args.who c.args.h c.args.target c.args.old.now c.args.name.now (admitted c.requires.0) c.in_err-i.ensures (number-ne c.in_err-i.field-0.0))

pub plan_work-requires : goal.plan_work-requires
plan_work-requires c =
    let p = went-has c.in_ok-i.ensures refl in record { led = p.0.led; whole = (p.0.whole, (p.1.0, (p.1.1, c.requires.1))) }

pub returns : goal.returns
returns c =
    move-rows c.args.arena.now _ _ c.args.mem.now _ c.args.who c.args.h c.args.target c.args.old.now c.args.name.now (admitted c.requires.0)
    c.in_ok-i.ensures
    (λ z. planned z (fs_at c.args.arena.now c.plan_work.new.mem) (result_unwrap_or c.plan_work.result no_plan).way (result_unwrap_or c.plan_work.result no_plan).row (result_unwrap_or c.plan_work.result no_plan).other c.args.old.now c.args.name.now (entry_of c.plan_work.new.slot)
    (result_unwrap_or c.plan_work.result no_plan).place (result_unwrap_or c.plan_work.result no_plan).gone (result_unwrap_or c.plan_work.result no_plan).moved) refl c.plan_work.ensures
