-- Demand 2 and order 13: "Its backward copy .. reads the wrong place in its last step when the bytes to move exceed 128 and aren't a multiple of
-- 128 .. leave that case out of demand 2's comparison with the Rust". 000's own loop, to compare `copy_up` with, and nothing else.
use Rattle.std.specs.Prelude.{◌≡◌, List, ◌≢◌, ◌⊎◌, ℕ, zero, suc, ◌+◌, ◌*◌, ◌-◌, ◌%◌, ◌≤◌, ◌<◌, min, leb}
use Rattle.base.specs.Out.{Out, done, refused, ensure, ◌>>=◌}
use Rattle.base.specs.Reasons.{stuck}
use Rattle.arena.specs.Fields.{File}
use Rattle.pieces.specs.Pieces.{pieces, piece_len, falling, copy_piece, copy_up}

-- the place of 000's k-th piece, of n bytes from `at` on: each is 128 below the one before it, the last too. Where it would be below 0, 000 breaks off
abbrev pub rust_place : ℕ → ℕ → ℕ → Out ℕ
rust_place at n k = do
  _ ← ensure (leb (min n 128 + 128 * k) (at + n)) stuck
  done (at + n - min n 128 - 128 * k)

unfoldable pub rust_up_to : List ℕ → File → ℕ → ℕ → ℕ → ℕ → Out (List ℕ)
rust_up_to a f src dst n zero = done a
rust_up_to a f src dst n (suc k) = do
  d ← rust_up_to a f src dst n k
  s ← rust_place src n k
  e ← rust_place dst n k
  copy_piece d f s e (piece_len n k)

-- in every other case the backward copy is 000's own
unfoldable pub AsRust : Type 0
AsRust = (a : List ℕ) (f : File) (src dst n : ℕ) → (n ≤ 128) ⊎ (n % 128 ≡ 0) → copy_up a f src dst n ≡ rust_up_to a f src dst n (pieces n)

-- in that case its last step is 128 - rest too low, and where that is below 0 it breaks off
pub record LastStep (at n : ℕ) : Type 0 where
  pub right : at + falling n (pieces n - 1) ≡ at
  pub low : 128 - n % 128 ≤ at → rust_place at n (pieces n - 1) ≡ done (at - (128 - n % 128))
  pub breaks : at < 128 - n % 128 → rust_place at n (pieces n - 1) ≡ refused stuck

unfoldable pub TooLow : Type 0
TooLow = (at n : ℕ) → 128 < n → 0 < n % 128 → LastStep at n

-- so there it is never done (size 129, insert 128 at 0)
unfoldable pub BreaksOff : Type 0
BreaksOff = (a : List ℕ) (f : File) (src dst n : ℕ) (d : List ℕ) → 128 < n → 0 < n % 128 → src < 128 - n % 128 → rust_up_to a f src dst n (pieces n) ≢ done d
