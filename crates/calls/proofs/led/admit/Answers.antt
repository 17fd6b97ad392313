-- `calls::led::admit`: the arena, and then the table.
use Rattle.std.proofs.lemmas.Result.{err_from_is_err_and}
use Rattle.base.proofs.Tells.{number-ne}
use mathlib.Core.Path.{refl}
use mathlib.Core.Path.{sym, ◌∙◌}
use Rattle.calls.proofs.Asks.{admit-not, admit-formed, admit-ill}
use Rattle.calls.proofs.led.admit.Goals as goal

pub returns-in_err-admit_arena : goal.returns-in_err-admit_arena
returns-in_err-admit_arena c =
    let p = err_from_is_err_and c.from_residual.result c.from_residual.ensures.1 in
    rw (p.1, p.2) (admit-not c.args.arena.now c.args.mem.now c.in_err-admit_arena.ensures _ (number-ne c.in_err-admit_arena.field-0.0))

pub returns-then-well_formed : goal.returns-then-well_formed
returns-then-well_formed c = admit-formed c.args.arena.now c.args.mem.now c.in_ok-admit_arena.ensures refl c.requires.1 (sym c.well_formed-2.ensures ∙ c.if-well_formed.true)

pub returns : goal.returns
returns c = admit-ill c.args.arena.now c.args.mem.now c.in_ok-admit_arena.ensures _ refl (sym c.well_formed-2.ensures ∙ c.if-well_formed.false)
