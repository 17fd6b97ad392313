-- `files::find_head`: no block below k has it.
use mathlib.Core.Path.{◌≡◌}
use mathlib.Core.Bool.{false}
use Prim.Native.Nat.{ℕ, ◌<◌}
use Rattle.arena.specs.Fields.{file, is_head}
use Rattle.overlay.specs.View.{blk_of}
use Rattle.files.proofs.find_head.Given as goal

abbrev pub invariant-loop-k : goal.invariant-loop-k
invariant-loop-k l = ((j : ℕ) → j < l.k → is_head (file l.which l.name) (blk_of l.arena l.work j) ≡ false)
