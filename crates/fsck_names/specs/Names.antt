-- Which heads of node files the nodes have claimed: one byte for each block.
use Rattle.std.specs.Prelude.{◌≡◌, Bool, not, ◌&&◌, ◌||◌, List, ℕ, ◌<◌, eqb, length, get_or}
use Rattle.base.specs.Count.{all_to, bit}
use Rattle.structs.specs.declared.DiskINode.{DiskINode}
use Rattle.table.specs.declared.Table.{Table}
use Rattle.arena.specs.Blocks.{blk, blocks}
use Rattle.arena.specs.Fields.{tag_of, which_of, is_head}
use Rattle.arena.specs.Places.{head_of}
use Rattle.files.specs.Read.{there}
use Rattle.sefs.specs.Nodes.{node_file}
use Rattle.rules.specs.Image.{is_node, rec_of}

-- the file of a record is there, and no byte says that its head was claimed
unfoldable pub claimable : List ℕ → List ℕ → DiskINode → Bool
claimable a c r = there a (node_file r) && eqb (get_or c (head_of a (node_file r)) 0) 0

-- block k is the head of node j's file
unfoldable pub owns : List ℕ → Table → ℕ → ℕ → Bool
owns a t k j = is_node a j && is_head (node_file (rec_of a t j)) (blk a k)

-- it is no head of the first n nodes' files
unfoldable pub unclaimed : List ℕ → Table → ℕ → ℕ → Bool
unclaimed a t k n = all_to (λ j. not (owns a t k j)) n

-- the bytes say which blocks are the heads of the files of the nodes below n
pub record Claimed (a : List ℕ) (t : Table) (c : List ℕ) (n : ℕ) : Type 0 where
  pub size : length c ≡ 4096
  pub each : (k : ℕ) → k < blocks a → get_or c k 0 ≡ bit (not (unclaimed a t k n))

-- where block k is the head of a node file, its byte is set
unfoldable pub head_claimed : List ℕ → List ℕ → ℕ → Bool
head_claimed a c k = not (eqb (tag_of (blk a k)) 1 && eqb (which_of (blk a k)) 1) || eqb (get_or c k 0) 1
