-- `climbs::if_empty`: by the count of slots.
use native.Mathlib.Omega.{arith}
use Rattle.climbs.proofs.Types.{empty-not, empty-read}
use Rattle.climbs.proofs.if_empty.Goals as goal

pub returns-then-n-gt2 : goal.returns-then-n-gt2
returns-then-n-gt2 c = empty-not _ _ c.args.d _ c.rec_at-n.ensures (omega (arith, c.if-n-gt2.true))

pub read_slots-requires : goal.read_slots-requires
read_slots-requires c = record { led = c.requires.led; whole = (c.requires.whole.0, (c.requires.whole.1, omega (arith, c.index.ensures, c.if-n-gt2.false))) }

pub returns : goal.returns
returns c = empty-read _ _ c.args.d _ c.rec_at-n.ensures _ c.index.ensures (omega (arith, c.if-n-gt2.false)) c.read_slots.ensures
