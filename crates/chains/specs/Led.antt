-- What reading by the chains is given.
use Rattle.std.specs.Prelude.{◌≡◌, true, List, ℕ, suc, ◌≤◌, length}
use Rattle.base.specs.Search.{pick}
use Rattle.arena.specs.Blocks.{blocks, legal}
use Rattle.arena.specs.Fields.{File}
use Rattle.sound.specs.Sound.{sound}
use Rattle.sound.specs.Chain.{Chains}
use Rattle.arena.specs.Places.{head_of, data_of}
use Rattle.files.specs.Read.{there, length_of, present}

-- a sound arena, and the chains that lead to its blocks
pub record Led (a first next : List ℕ) : Type 0 where
  pub whole : legal a ≡ true
  pub most : blocks a ≤ 4096
  pub starts : length first ≡ 4096
  pub links : length next ≡ 4096
  pub chains : Chains a first next (blocks a)
  pub fine : sound a ≡ true

-- a file's end: one more than its length, or 0 where it is not there
abbrev pub end_of : List ℕ → File → ℕ
end_of a f = pick (there a f) (suc (length_of a f)) 0

-- one more than the number of a file's head, or 0 where the file is not there
abbrev pub head_at : List ℕ → File → ℕ
head_at a f = pick (there a f) (suc (head_of a f)) 0

-- one more than the number of the block that is block q of a file, or 0 where it is not there
abbrev pub block_at : List ℕ → File → ℕ → ℕ
block_at a f q = pick (present a f q) (suc (data_of a f q)) 0
