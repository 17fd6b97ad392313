-- Order 11, when the mender works: as a statement, and as a test. The host has died and no node is open, so the table is the empty one and every
-- record the stored one.
use Rattle.std.specs.Prelude.{◌≡◌, ◌≢◌, ◌⊎◌, Bool, true, not, ◌&&◌, ◌||◌, List, ℕ}
use Rattle.base.specs.Count.{all_to}
use Rattle.structs.specs.declared.DiskINode.{DiskINode}
use Rattle.table.specs.Table.{empty_table}
use Rattle.rules.specs.Image.{ids_in, rec_of, is_folder_at, named, parent_of}
use Rattle.rules.specs.Rules.{Rule1, Rule3, Rule4, Rule5, Folder, Loose, Rooted}
use Rattle.rules.specs.Tests.{test1, test3, test4, test5, folders_allowed, named_due, loose, rooted}

-- the record of id, as it is stored
abbrev pub rec_in : List ℕ → ℕ → DiskINode
rec_in a id = rec_of a empty_table id

-- how many later slots name id
abbrev pub times_named : List ℕ → ℕ → ℕ
times_named a id = named a empty_table id

-- ---- the statement

-- "is named by one later slot and meets rule 8, its links aside"
pub record Standing (a : List ℕ) (id : ℕ) : Type 0 where
  pub once : times_named a id ≡ 1
  pub rooted : Rooted a empty_table id

-- "It works if rules 1 to 6 hold, sizes of non-folders aside, no later slot names root, root's slot 1 does, and each other folder either is named
-- by one later slot and meets rule 8, its links aside, or is named by none and has 2 slots." (Rule 2 holds of the empty table.)
pub record Mendable (a : List ℕ) : Type 0 where
  pub rule1 : Rule1 a
  pub rule3 : Rule3 a
  pub rule4 : Rule4 a empty_table
  pub rule5 : Rule5 a empty_table
  pub folder : (id : ℕ) → is_folder_at a empty_table id ≡ true → Folder a empty_table id
  pub unnamed : times_named a 2 ≡ 0
  pub root : parent_of a empty_table 2 ≡ 2
  pub other : (id : ℕ) → is_folder_at a empty_table id ≡ true → id ≢ 2 → Standing a id ⊎ Loose a empty_table id

-- ---- the test

-- a folder's place in the tree, the root's too: named as it has to be and rooted, or loose
unfoldable pub place_fits : List ℕ → ℕ → Bool
place_fits a id = named_due a empty_table id && rooted a empty_table id || loose a empty_table id (rec_in a id)

unfoldable pub mendable : List ℕ → Bool
mendable a =
    test1 a
    && (test3 a
    && (test4 a empty_table
    && (test5 a empty_table
    && (folders_allowed a empty_table && all_to (λ id. not (is_folder_at a empty_table id) || place_fits a id) (ids_in a)))))
