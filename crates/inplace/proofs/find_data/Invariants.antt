-- `inplace::find_data`: no block below k has it.
use mathlib.Core.Path.{◌≡◌}
use mathlib.Core.Bool.{false}
use Prim.Native.Nat.{ℕ, ◌<◌}
use Rattle.arena.specs.Blocks.{blk}
use Rattle.arena.specs.Fields.{file, is_data}
use Rattle.inplace.proofs.find_data.Given as goal

abbrev pub invariant-loop-k : goal.invariant-loop-k
invariant-loop-k l = (j : ℕ) → j < l.k → is_data (file l.which l.name) l.number (blk l.arena j) ≡ false
