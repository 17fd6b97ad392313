-- `walk_parts::texts::split`: a part follows each slash passed.
use mathlib.Core.Path.{◌≡◌}
use mathlib.Core.Bool.{true}
use Rattle.base.specs.Count.{all_to}
use Rattle.walk.specs.Walk.{part_at}
use Rattle.walk_parts.proofs.Splits.{followed}
use Rattle.walk_parts.proofs.texts.split.Given as goal

abbrev pub invariant-loop-i : goal.invariant-loop-i
invariant-loop-i l = (part_at l.text 0 ≡ true) × (all_to (followed l.text) l.i ≡ true)
