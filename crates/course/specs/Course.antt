-- Document 01's course examples that are marked (P), as one table: what was done, and the facts that came out. What is done, `fresh`,
-- `opened`, `made` and the like, is said in crates/course_states/specs/Worlds.antt, by the calls' definitions.
use Rattle.std.specs.Prelude.{List, [], ◌∷◌, ◌++◌, ℕ, zero, suc, ◌*◌, ℤ, negsuc, get_or, set, replicate}
use Rattle.base.specs.Out.{Out, done, refused, answer, ◌>>=◌}
use Rattle.base.specs.Search.{pick}
use Rattle.le.specs.Le.{le_at}
use Rattle.le.specs.Signed.{signed}
use Rattle.structs.specs.Constants.{type_file, type_dir}
use Rattle.structs.specs.Layout.{record_of, entry_of}
use Rattle.utf8.specs.Names.{name_of}
use Rattle.table.specs.Table.{row_at}
use Rattle.arena.specs.Blocks.{blk, blocks}
use Rattle.arena.specs.Fields.{zeros, check_of, is_free}
use Rattle.files.specs.Read.{byte_at, length_of, read_file}
use Rattle.sefs.specs.Meta.{meta_file, map_at}
use Rattle.sefs.specs.Create.{After, Given}
use Rattle.sefs.specs.Remove.{call_remove_file}
use Rattle.course_states.specs.Worlds.{root_file, editor, fresh, opened, begun, made, filed, stored, full}

-- ---- what an example says: a number, or several, and what they are

-- one fact
pub data Fact : Type 0 where
  -- the new node's id
  id : ℕ → Fact
  -- the superblock's `unused`, as stored
  unused : ℕ → Fact
  -- the first byte of a group's map: group, byte
  map_byte : ℕ → ℕ → Fact
  -- the arena blocks that are used, one by one; every other one is free
  used : List ℕ → Fact
  -- a node's link count, as stored: id, links
  links : ℕ → ℕ → Fact
  -- a slot of the root: its number, and the whole name in it
  slot : ℕ → List ℕ → Fact
  -- the length of the root's folder file, and of the metadata file
  root_length : ℕ → Fact
  meta_length : ℕ → Fact
  -- a block's check
  check : ℕ → Fact
  -- what a call answers: 0 where it is done, else the reason
  answers : ℕ → Fact
  -- a number with its sign
  number : ℤ → Fact
  -- a step of the example was refused, by this reason: no row says so
  stopped : ℕ → Fact

-- ---- the facts, read from an arena

-- the used ones of the first n blocks
unfoldable pub used_to : List ℕ → ℕ → List ℕ
used_to a zero = []
used_to a (suc n) = used_to a n ++ pick (is_free (blk a n)) [] (n ∷ [])

-- of all blocks
abbrev pub used_in : List ℕ → Fact
used_in a = used (used_to a (blocks a))

-- unused, the first map byte, the used blocks
unfoldable pub image_facts : List ℕ → Out (List Fact)
image_facts a = do
  b ← stored a
  done (unused b.unused ∷ map_byte 0 (byte_at a meta_file (map_at 0)) ∷ used_in a ∷ [])

-- the id behind a new handle: that of its hold's row
abbrev pub id_of : Given → Fact
id_of g = id (row_at g.table (get_or g.table.holds g.handle.hold (record { row = 34; stamp = 0; owner = 0 })).row).id

-- a node's links, by its record
unfoldable pub links_of : List ℕ → ℕ → Out Fact
links_of a n = do
  l ← read_file a meta_file (128 * n) 112
  done (links n (record_of l).nlinks)

-- n slots of the root from k on
unfoldable pub slots_from : List ℕ → ℕ → ℕ → Out (List Fact)
slots_from a k zero = done []
slots_from a k (suc n) = do
  l ← read_file a root_file (264 * k) 264
  r ← slots_from a (suc k) n
  done (slot k (name_of (entry_of l).name) ∷ r)

-- ---- the examples: what was done, line by line, and the facts

-- "Fresh: unused 1021, first map byte 248, blocks 0 to 4 used."
unfoldable pub fresh_row : Out (List Fact)
fresh_row = do
  a ← fresh
  image_facts a

-- what is read once a file is made: its id, and the facts of the image
unfoldable pub file_read : Given → Out (List Fact)
file_read g = do
  f ← image_facts g.arena
  done (id_of g ∷ f)

-- "Then file `A` in root: id 3, unused 1020, map byte 240, 7 blocks used."
unfoldable pub file_row : Out (List Fact)
file_row = do
  w ← begun
  g ← made w (65 ∷ []) type_file 2
  file_read g

-- once a folder is made: its id, the root's links and its own, the used blocks
unfoldable pub folder_read : Given → Out (List Fact)
folder_read g = do
  r ← links_of g.arena 2
  b ← links_of g.arena 3
  done (id_of g ∷ r ∷ b ∷ used_in g.arena ∷ [])

-- "Instead folder `B`: id 3, root links 3, `B` links 2, 9 used."
unfoldable pub folder_row : Out (List Fact)
folder_row = do
  w ← begun
  g ← made w (66 ∷ []) type_dir 2
  folder_read g

-- once a name is removed: slots 2 and 3, and the length of the root's folder file
unfoldable pub gone_read : After → Out (List Fact)
gone_read u = do
  r ← slots_from u.arena 2 2
  done (r ++ (root_length (length_of u.arena root_file) ∷ []))

-- "Slots 2 to 4 `a`, `b`, `c`; unlink `a`: slots 2, 3 are `c`, `b`, length 1056." Since order 9 a file goes by remove-file
unfoldable pub remove_row : Out (List Fact)
remove_row = do
  w ← begun
  w ← filed w (97 ∷ []) 2
  w ← filed w (98 ∷ []) 3
  w ← filed w (99 ∷ []) 4
  before ← slots_from w.arena 2 3
  u ← call_remove_file w.arena w.table editor w.root (97 ∷ [])
  now ← gone_read u
  done (before ++ now)

-- once a group has come: the new id, unused, the second map's first byte, the length of the metadata file
unfoldable pub group_read : Given → Out (List Fact)
group_read g = do
  b ← stored g.arena
  done (id_of g ∷ unused b.unused ∷ map_byte 1 (byte_at g.arena meta_file (map_at 1)) ∷ meta_length (length_of g.arena meta_file) ∷ [])

-- "One group, no bit set, unused 0: next id 1024, unused 1022, second map's first byte 252, metadata 262,144 bytes." (`full` makes it so)
unfoldable pub group_row : Out (List Fact)
group_row = do
  a ← fresh
  a ← full a
  w ← opened a
  g ← made w (65 ∷ []) type_file 2
  group_read g

-- "Arena block with only byte 0 = 2: check 2."
unfoldable pub check_row : Out (List Fact)
check_row = done (check (check_of (set zeros 0 2)) ∷ [])

-- "Name of 255 accepted, 256 refused."
unfoldable pub long_row : Out (List Fact)
long_row = do
  w ← begun
  done (answers (answer (made w (replicate 255 97) type_file 2)) ∷ answers (answer (made w (replicate 256 97) type_file 2)) ∷ [])

-- "Create with the empty name: 12."
unfoldable pub empty_row : Out (List Fact)
empty_row = do
  w ← begun
  done (answers (answer (made w [] type_file 2)) ∷ [])

-- "Eight bytes FF: -1."
unfoldable pub minus_row : Out (List Fact)
minus_row = done (number (signed (le_at (replicate 8 255) 0 8)) ∷ [])

-- ---- the table, and what document 01 says of each row

-- the facts of a row; where a step of it was refused, the reason
unfoldable pub facts : Out (List Fact) → List Fact
facts (done l) = l
facts (refused n) = stopped n ∷ []

-- what came out, a row for each example
unfoldable pub table : List (List Fact)
table =
    facts fresh_row
    ∷ facts file_row
    ∷ facts folder_row
    ∷ facts remove_row
    ∷ facts group_row
    ∷ facts check_row
    ∷ facts long_row
    ∷ facts empty_row
    ∷ facts minus_row
    ∷ []

-- what document 01 says, row by row
abbrev pub expected : List (List Fact)
expected =
    (unused 1021 ∷ map_byte 0 248 ∷ used (0 ∷ 1 ∷ 2 ∷ 3 ∷ 4 ∷ []) ∷ [])
    ∷ (id 3 ∷ unused 1020 ∷ map_byte 0 240 ∷ used (0 ∷ 1 ∷ 2 ∷ 3 ∷ 4 ∷ 5 ∷ 6 ∷ []) ∷ [])
    ∷ (id 3 ∷ links 2 3 ∷ links 3 2 ∷ used (0 ∷ 1 ∷ 2 ∷ 3 ∷ 4 ∷ 5 ∷ 6 ∷ 7 ∷ 8 ∷ []) ∷ [])
    -- 97, 98, 99 are `a`, `b`, `c`: three slots before the removal, two after it
    ∷ (slot 2 (97 ∷ []) ∷ slot 3 (98 ∷ []) ∷ slot 4 (99 ∷ []) ∷ slot 2 (99 ∷ []) ∷ slot 3 (98 ∷ []) ∷ root_length 1056 ∷ [])
    ∷ (id 1024 ∷ unused 1022 ∷ map_byte 1 252 ∷ meta_length 262144 ∷ [])
    ∷ (check 2 ∷ [])
    ∷ (answers 0 ∷ answers 10 ∷ [])
    ∷ (answers 12 ∷ [])
    ∷ (number (negsuc 0) ∷ [])
    ∷ []
