-- What making the chains of all blocks leaves, before an owner's first call.
use Rattle.std.specs.Prelude.{◌≡◌, List, ◌≢◌, ℕ}
use Rattle.base.specs.Out.{ensure, Went}
use Rattle.base.specs.Reasons.{bad_arena}
use Rattle.arena.specs.Blocks.{legal}
use Rattle.edge.specs.Edge.{sized}
use Rattle.owners_kept.specs.Owned.{Chained}

-- the words were c and are d: the chains where the number is 0; 255 where they are not 8,192, 1 where the arena's length is not legal, and
-- then nothing changes
pub record Builds (a c d : List ℕ) (n : ℕ) : Type 0 where
  pub went : Went (sized 8192 c (ensure (legal a) bad_arena)) tt (Chained a d) n
  pub kept : n ≢ 0 → d ≡ c
