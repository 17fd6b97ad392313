-- The arena as it would be after the stores so far. The arena itself is only read; the blocks that were changed stand in a lent
-- workspace w of blocks of 512 bytes:
--   blocks 0 to 7   the marks, a byte for each block of the arena: 0, it is as the arena has it; m, it is block m of w
--   block 8         its first byte says how many blocks of w are in use
--   block 9         zeros: what a freed block is
--   block 10 on     changed blocks, each with its check
use Rattle.std.specs.Prelude.{◌≡◌, Bool, ◌&&◌, List, ℕ, zero, suc, ◌+◌, ◌*◌, ◌-◌, ◌≤◌, ◌<◌, length, get_or, set, eqb, ltb}
use Rattle.base.specs.Search.{pick}
use Rattle.arena.specs.Blocks.{blk, put_blk, blocks}
use Rattle.arena.specs.Fields.{seal, zeros}

abbrev pub mark_of : List ℕ → ℕ → ℕ
mark_of w k = get_or w k 0

abbrev pub used_of : List ℕ → ℕ
used_of w = get_or w 4096 0

-- block k as it would be
unfoldable pub blk_of : List ℕ → List ℕ → ℕ → List ℕ
blk_of a w k = pick (eqb (mark_of w k) 0) (blk a k) (blk w (mark_of w k))

-- the arena with the first n blocks as they would be
unfoldable pub view_to : List ℕ → List ℕ → ℕ → List ℕ
view_to a w zero = a
view_to a w (suc n) = pick (eqb (mark_of w n) 0) (view_to a w n) (put_blk (view_to a w n) n (blk w (mark_of w n)))

-- the arena as it would be
unfoldable pub view : List ℕ → List ℕ → List ℕ
view a w = view_to a w (blocks a)

-- the arena when block k has been written: the block writer fills the check
unfoldable pub committed : List ℕ → List ℕ → ℕ → List ℕ
committed a w k = pick (eqb (mark_of w k) 0) a (put_blk a k (seal (blk w (mark_of w k))))

-- how many blocks of the workspace are left
unfoldable pub left : List ℕ → ℕ
left w = blocks w - used_of w

-- block k has a block of the workspace of its own
unfoldable pub has_own : List ℕ → ℕ → Bool
has_own w k = ltb 9 (mark_of w k) && ltb (mark_of w k) (used_of w)

-- the workspace with b, and its check, in a new block for block k
unfoldable pub stored_new : List ℕ → ℕ → List ℕ → List ℕ
stored_new w k b = set (set (put_blk w (used_of w) (seal b)) k (used_of w)) 4096 (used_of w + 1)

-- the workspace with b, and its check, for block k: a block that is stored again keeps its place
unfoldable pub stored : List ℕ → ℕ → List ℕ → List ℕ
stored w k b = pick (has_own w k) (put_blk w (mark_of w k) (seal b)) (stored_new w k b)

-- the workspace with block k freed
unfoldable pub freed : List ℕ → ℕ → List ℕ
freed w k = set w k 9

-- the workspace at the start: zeros, but for the count
unfoldable pub begun : List ℕ → List ℕ
begun w = set w 4096 10

-- an arena and a workspace that fit each other
pub record Fine (a w : List ℕ) : Type 0 where
  -- whole blocks, and no more than there are marks for
  pub whole : length a ≡ 512 * blocks a
  pub small : blocks a ≤ 4096
  -- whole blocks of the workspace, and no more than a byte can name
  pub size : length w ≡ 512 * blocks w
  pub few : blocks w ≤ 255
  pub high : 10 ≤ used_of w
  pub room : used_of w ≤ blocks w
  -- a mark is 0 or names a block in use, behind the marks and the count
  pub low : (k : ℕ) → k < 4096 → mark_of w k < used_of w
  pub apart : (k : ℕ) → k < 4096 → (mark_of w k ≡ 0 → ⊥) → 9 ≤ mark_of w k
  -- no two blocks of the arena have one changed block
  pub own : (i j : ℕ) → i < 4096 → j < 4096 → 9 < mark_of w i → mark_of w i ≡ mark_of w j → i ≡ j
  -- what marks can name has its check
  pub zero : blk w 9 ≡ zeros
  pub sealed : (m : ℕ) → 9 ≤ m → m < used_of w → seal (blk w m) ≡ blk w m

-- a workspace of m blocks that was just begun: the view is the arena
pub record Empty (a w : List ℕ) (m : ℕ) : Type 0 where
  pub fine : Fine a w
  pub is : view a w ≡ a
  pub room : left w ≡ m - 10
