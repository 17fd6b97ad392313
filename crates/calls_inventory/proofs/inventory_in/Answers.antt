-- `calls_inventory::inventory_in`: the arena, and then the call by the chains that were left.
use mathlib.Core.Path.{refl, sym, ◌∙◌}
use Rattle.std.proofs.lemmas.Result.{err_from_is_err_and}
use Rattle.base.proofs.Outs.{went-has, went-not}
use Rattle.base.proofs.Tells.{number-ne}
use Rattle.sound.proofs.Chains.{length-firsts}
use Rattle.calls_inventory.proofs.Answers.{not-admitted}
use Rattle.calls_inventory.proofs.inventory_in.Goals as goal

pub returns-in_err-admit_arena : goal.returns-in_err-admit_arena
returns-in_err-admit_arena c =
    let e = c.in_err-admit_arena.field-0.0 in
    let p = err_from_is_err_and c.from_residual.result c.from_residual.ensures.1 in
    rw (p.1, p.2) (not-admitted c.args.arena.now c.args.out.now e (went-not c.in_err-admit_arena.ensures (number-ne e)))

pub slice_bounds-inventory_led-end : goal.slice_bounds-inventory_led-end
slice_bounds-inventory_led-end c =
    sym (length-firsts c.admit_arena.new.chains (c.admit_arena.auto.chains ∙ c.requires.blank.size))

pub inventory_led-requires : goal.inventory_led-requires
inventory_led-requires c = record { led = went-has c.in_ok-admit_arena.ensures refl; whole = c.requires.whole }
