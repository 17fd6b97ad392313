-- The fields of a block: "Byte 0: 0 free, 1 head, 2 data. Byte 1: 0 metadata file, 1 node file. 2 to 3 zero. 4 to 19 file name (zero for
-- metadata). 20 to 23: length in a head, number in the file in a data block. 24 to 503 payload (480 bytes; zero in a head). 504 to 507
-- zero. 508 to 511 the check: the sum over i from 0 to 507 of (i+1) x byte i".
use Rattle.std.specs.Prelude.{Bool, ◌&&◌, List, ℕ, ◌+◌, ◌*◌, get_or, set, replicate, eqb}
use Rattle.base.specs.Count.{sum_to}
use Rattle.base.specs.Decides.{same}
use Rattle.base.specs.Parts.{part, paste}
use Rattle.le.specs.Le.{le_at, le_put}

abbrev pub tag_of : List ℕ → ℕ
tag_of b = get_or b 0 0

abbrev pub which_of : List ℕ → ℕ
which_of b = get_or b 1 0

abbrev pub name_of : List ℕ → List ℕ
name_of b = part b 4 20

-- a head's length, a data block's number in its file
abbrev pub number_of : List ℕ → ℕ
number_of b = le_at b 20 4

abbrev pub stored_check : List ℕ → ℕ
stored_check b = le_at b 508 4

-- the sum over i from 0 to 507 of (i+1) x byte i
unfoldable pub check_of : List ℕ → ℕ
check_of b = sum_to (λ i. (i + 1) * get_or b i 0) 508

-- a block with its check
unfoldable pub seal : List ℕ → List ℕ
seal b = le_put b 508 4 (check_of b)

-- ---- files

-- the metadata file (0, and a name of zeros), or a node file (1, and its name of 16 bytes)
pub record File : Type 0 where
  pub which : ℕ
  pub name : List ℕ

abbrev pub file : ℕ → List ℕ → File
file w nm = record { which = w; name = nm }

unfoldable pub same_file : File → File → Bool
same_file f g = eqb f.which g.which && same f.name g.name

-- the file that a block belongs to
abbrev pub file_of : List ℕ → File
file_of b = file (which_of b) (name_of b)

-- ---- the three kinds of block

unfoldable pub is_free : List ℕ → Bool
is_free b = eqb (tag_of b) 0

-- the head of file f
unfoldable pub is_head : File → List ℕ → Bool
is_head f b = eqb (tag_of b) 1 && same_file (file_of b) f

-- block q of file f
unfoldable pub is_data : File → ℕ → List ℕ → Bool
is_data f q b = eqb (tag_of b) 2 && (eqb (number_of b) q && same_file (file_of b) f)

-- ---- new blocks

-- what a free block is
unfoldable pub zeros : List ℕ
zeros = replicate 512 0

-- a block of file f, all zero but for its tag, its file and its number: no check yet
unfoldable pub fresh : ℕ → File → ℕ → List ℕ
fresh tag f n = le_put (paste (set (set zeros 0 tag) 1 f.which) 4 f.name) 20 4 n
