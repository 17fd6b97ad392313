-- What an owner keeps and promises: an arena and a table that nobody else writes, seen once by the check or by format, and beside the arena its
-- chains. The functions of an owner have the relations of the C edge; what is defined here stands before and after them.
use Rattle.std.specs.Prelude.{◌≡◌, true, List, ℕ, length}
use Rattle.table.specs.Formed.{well_formed}
use Rattle.table_bytes.specs.Layout.{table_of}
use Rattle.arena.specs.Blocks.{blocks, legal}
use Rattle.sound.specs.Sound.{sound}
use Rattle.sound.specs.Chain.{Chains, firsts, nexts}
use Rattle.calls.specs.Asked.{Admitted}

-- the words c are the chains of all blocks of the arena a
pub record Chained (a c : List ℕ) : Type 0 where
  pub size : length c ≡ 8192
  pub chains : Chains a (firsts c) (nexts c) (blocks a)

-- what 1, 2 and 3 would ask is known of the arena a and of the table's bytes t
pub record Owned (a c t : List ℕ) : Type 0 where
  pub whole : legal a ≡ true
  pub fine : sound a ≡ true
  pub chained : Chained a c
  pub size : length t ≡ 4402
  pub formed : well_formed (table_of t) ≡ true

-- the same while a call runs, with the table in the memory m
pub record Kept (a c m : List ℕ) : Type 0 where
  pub chained : Chained a c
  pub admitted : Admitted a (firsts c) (nexts c) m
