-- `calls_inventory::passes::run`: turn after turn, each nearer to the end. In its midst the pass stays one over the output that it began with.
use mathlib.Core.Path.{◌≡◌}
use mathlib.Core.List.{List}
use Prim.Native.Nat.{ℕ}
use lib.ListN.{length}
use Rattle.calls_inventory.specs.Passes.{Midst, ahead}
use Rattle.calls_inventory.proofs.passes.run.Given as goal

abbrev pub invariant-loop-now : goal.invariant-loop-now
invariant-loop-now l = (length l.slot ≡ 264) × (length l.out ≡ length l.initial.out) × ((o : List ℕ) → Midst l.arena l.write o l.initial.out l.initial.now → Midst l.arena l.write o l.out l.now)

abbrev pub decreases-loop-now : goal.decreases-loop-now
decreases-loop-now l = ahead l.initial.out l.now
