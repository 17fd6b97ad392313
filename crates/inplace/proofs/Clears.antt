-- One turn of freeing: block k is tested as the arena has it, and goes or stays.
use mathlib.Core.Path.{◌≡◌, ap, ◌∙◌}
use mathlib.Core.Bool.{Bool}
use mathlib.Core.List.{List}
use Prim.Native.Nat.{ℕ, ◌+◌, ◌<◌}
use native.Mathlib.Numerals.{add-one}
use native.Mathlib.Omega.{arith}
use Rattle.base.specs.Search.{pick}
use Rattle.arena.specs.Blocks.{blk, put_blk, blocks}
use Rattle.arena.specs.Fields.{zeros}
use Rattle.files.specs.Store.{clear_to}
use Rattle.files.proofs.Clears.{blk-clear_to}

pub clear-turn : (p : List ℕ → Bool) (a d e : List ℕ) (k : ℕ) (go : Bool) → k < blocks a → d ≡ clear_to p a k → go ≡ p (blk d k) → e ≡ pick go (put_blk d k zeros) d → e ≡ clear_to p a (k + 1)
unfolding clear_to
clear-turn p a d e k go l ed ey ee =
    rw add-one
    (ee
    ∙ ap (λ (x : List ℕ). pick go (put_blk x k zeros) x) ed
    ∙ ap (λ (b : Bool). pick b (put_blk (clear_to p a k) k zeros) (clear_to p a k)) (ey ∙ ap p (ap (λ (x : List ℕ). blk x k) ed ∙ blk-clear_to p a k k (omega arith) (omega arith))))
