-- `verdicts::is_orphan`: the test that its contract says.
use mathlib.Core.Path.{ap}
use mathlib.Core.Bool.{Bool, ◌&&◌}
use lib.Dec.{eqb}
use Rattle.verdicts.proofs.is_orphan.Goals as goal

pub returns : goal.returns
returns c = ap (λ (b : Bool). b && eqb c.args.rec.nlinks 0) c.is_dots.ensures
