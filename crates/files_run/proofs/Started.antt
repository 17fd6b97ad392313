-- The program's workspace of 18 blocks, ready for a step.
use Rattle.std.proofs.Common.{◌≡◌, ℕ, ◌*◌, ◌≤◌, List, length, replicate, arith}
use Rattle.arena.specs.Blocks.{blocks}
use Rattle.overlay.specs.View.{begun, Empty}
use Rattle.overlay.proofs.Views.{ready}

pub started : (a w : List ℕ) → length a ≡ 512 * blocks a → blocks a ≤ 128 → w ≡ begun (replicate 9216 0) → Empty a w 18
started a w whole small e = ready a w 18 whole (omega arith) (omega arith) (omega arith) e
