-- `calls_mend::plan_led`: 1, 2, 3, 24, and then what the plan decides. The plan has the empty table.
use Rattle.std.proofs.lemmas.Result.{err_from_is_err_and}
use Rattle.base.proofs.Tells.{number-ne}
use mathlib.Core.Path.{refl}
use mathlib.Core.Path.{sym, ◌∙◌}
use Rattle.base.proofs.Outs.{went-is, went-has, went-not}
use Rattle.sound.proofs.Chains.{length-firsts}
use Rattle.mem.specs.Mem.{table_in}
use Rattle.calls_mend.proofs.Asks.{asked-first, asked-held, asked_by}
use Rattle.calls_mend.proofs.plan_led.Goals as goal

pub admit-requires : goal.admit-requires
admit-requires c = c.requires.blank

pub returns-in_err-admit : goal.returns-in_err-admit
returns-in_err-admit c =
    let p = err_from_is_err_and c.from_residual.result c.from_residual.ensures.1 in
    rw (p.1, p.2) (asked-first c.args.arena.now (table_in c.args.mem.now) (number-ne c.in_err-admit.field-0.0) (went-not c.in_err-admit.ensures (number-ne c.in_err-admit.field-0.0)))

pub no_holds-requires : goal.no_holds-requires
no_holds-requires c = c.requires.blank.1

pub returns-then-not-no_holds : goal.returns-then-not-no_holds
returns-then-not-no_holds c = asked-held c.args.arena.now (table_in c.args.mem.now) (went-is c.in_ok-admit.ensures refl) (sym c.no_holds.ensures ∙ c.if-not-no_holds.true)

pub put_empty-requires : goal.put_empty-requires
put_empty-requires c = c.requires.blank.1.size

pub slice_bounds-plan_mending-end : goal.slice_bounds-plan_mending-end
slice_bounds-plan_mending-end c = sym (length-firsts c.admit.new.chains (c.admit.auto.chains ∙ c.requires.blank.0.size))

pub plan_mending-requires : goal.plan_mending-requires
plan_mending-requires c = record { led = (went-has c.in_ok-admit.ensures refl).led; mem_len = (c.put_empty.ensures.1.size, c.put_empty.ensures.0); work_len = c.requires.work_len }

pub returns : goal.returns
returns c =
    asked_by c.args.arena.now (table_in c.args.mem.now) (went-is c.in_ok-admit.ensures refl) (sym c.no_holds.ensures ∙ c.if-not-no_holds.false) c.plan_mending.ensures
