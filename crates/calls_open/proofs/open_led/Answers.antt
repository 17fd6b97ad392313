-- `calls_open::open_led`: the arena, then what is read of it by the chains.
use Rattle.std.proofs.lemmas.Result.{err_from_is_err_and}
use Rattle.base.proofs.Tells.{number-ne}
use mathlib.Core.Path.{refl}
use mathlib.Core.Path.{sym, ◌∙◌}
use Rattle.base.proofs.Outs.{went-has}
use Rattle.sound.proofs.Chains.{length-firsts}
use Rattle.calls_open.proofs.Opens.{open-stop, open_next}
use Rattle.calls_open.proofs.open_led.Goals as goal

pub returns-in_err-admit_arena : goal.returns-in_err-admit_arena
returns-in_err-admit_arena c =
    let p = err_from_is_err_and c.from_residual.result c.from_residual.ensures.1 in
    rw (p.1, p.2) (open-stop c.args.arena.now c.in_err-admit_arena.ensures (number-ne c.in_err-admit_arena.field-0.0))

pub slice_bounds-open_read-end : goal.slice_bounds-open_read-end
slice_bounds-open_read-end c = sym (length-firsts c.admit_arena.new.chains (c.admit_arena.auto.chains ∙ c.requires.0.size))

pub open_read-requires : goal.open_read-requires
open_read-requires c = record { led = went-has c.in_ok-admit_arena.ensures refl; mem_len = c.requires.1 }

pub returns : goal.returns
returns c = open_next c.args.arena.now c.in_ok-admit_arena.ensures refl c.open_read.ensures
