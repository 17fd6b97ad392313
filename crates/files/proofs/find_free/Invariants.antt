-- `files::find_free`: no block below k has it.
use mathlib.Core.Path.{◌≡◌}
use mathlib.Core.Bool.{false}
use Prim.Native.Nat.{ℕ, ◌<◌}
use Rattle.arena.specs.Fields.{is_free}
use Rattle.overlay.specs.View.{blk_of}
use Rattle.files.proofs.find_free.Given as goal

abbrev pub invariant-loop-k : goal.invariant-loop-k
invariant-loop-k l = ((j : ℕ) → j < l.k → is_free (blk_of l.arena l.work j) ≡ false)
