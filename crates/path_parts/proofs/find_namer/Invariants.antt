-- `path_parts::find_namer`: the later slots before k were passed.
use mathlib.Core.Path.{◌≡◌}
use lib.ListN.{length}
use Rattle.base.specs.Out.{done}
use Rattle.paths.specs.Path.{namer_to}
use Rattle.path_parts.proofs.find_namer.Given as goal

abbrev pub invariant-loop-k : goal.invariant-loop-k
invariant-loop-k l = (length l.slot ≡ 264) × (namer_to l.arena l.rec l.x l.k ≡ done l.k)
