-- "Whole blocks of 512 bytes, 16 to 4,096 of them." An arena is a flat list of bytes; whatever is said of it above is said by way of
-- block k, and of the arena with block k replaced.
use Rattle.std.specs.Prelude.{Bool, ◌&&◌, List, ℕ, ◌+◌, ◌*◌, ◌/◌, ◌%◌, length, eqb, leb}
use Rattle.base.specs.Parts.{part, back}

-- block k: `&a[512 * k..512 * k + 512]`
unfoldable pub blk : List ℕ → ℕ → List ℕ
blk a k = part a (512 * k) (512 * k + 512)

-- the arena, when block k comes back as b
unfoldable pub put_blk : List ℕ → ℕ → List ℕ → List ℕ
put_blk a k b = back a (512 * k) (512 * k + 512) b

-- how many blocks there are
abbrev pub blocks : List ℕ → ℕ
blocks a = length a / 512

-- reason 1, "length not 16 to 4,096 whole blocks", is its contrary
unfoldable pub legal : List ℕ → Bool
legal a = eqb (length a % 512) 0 && (leb 16 (blocks a) && leb (blocks a) 4096)
