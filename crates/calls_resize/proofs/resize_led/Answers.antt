-- `calls_resize::resize_led`: an end from place 0 on.
use native.Mathlib.Nat.{zero-add}
use Rattle.calls_resize.proofs.resize_led.Goals as goal

pub returns : goal.returns
returns c = rw (zero-add c.args.n) at c.reach_file.ensures
