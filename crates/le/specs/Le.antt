-- Little-endian numbers of any width, and their bytes.
use Rattle.std.specs.Prelude.{List, [], ◌∷◌, ℕ, zero, suc, ◌+◌, ◌*◌, ◌/◌, ◌%◌, ◌<◌, get_or}
use Rattle.base.specs.Parts.{part, paste}

-- each element is a byte
abbrev pub Bytes : List ℕ → Type 0
Bytes l = (i : ℕ) → get_or l i 0 < 256

-- the number whose bytes are l, the lowest first
unfoldable pub le_of : List ℕ → ℕ
le_of [] = 0
le_of (b ∷ l) = b + 256 * le_of l

-- the n lowest bytes of v, the lowest first
unfoldable pub le_bytes : ℕ → ℕ → List ℕ
le_bytes zero v = []
le_bytes (suc n) v = v % 256 ∷ le_bytes n (v / 256)

-- the number in the n bytes of l from s on
unfoldable pub le_at : List ℕ → ℕ → ℕ → ℕ
le_at l s n = le_of (part l s (s + n))

-- l with the n lowest bytes of v laid over it from s on
unfoldable pub le_put : List ℕ → ℕ → ℕ → ℕ → List ℕ
le_put l s n v = paste l s (le_bytes n v)
