-- `calls_open::open_on`: the chains' place is zero.
use mathlib.Core.Path.{refl}
use Rattle.calls.proofs.Asks.{blank}
use Rattle.calls_open.proofs.open_on.Goals as goal

pub open_led-requires : goal.open_led-requires
open_led-requires c = (blank, refl)
