-- The free maps: "A set bit means free; block i is bit i%8 of byte i/8 of the maps joined."
use Rattle.std.specs.Prelude.{Bool, List, ℕ, ◌+◌, ◌*◌, ◌-◌, ◌/◌, ◌%◌, ◌^◌, eqb, get_or, set}
use Rattle.base.specs.Count.{bit, count_to}

-- bit k of a number
unfoldable pub bit_of : ℕ → ℕ → Bool
bit_of x k = eqb (x / 2 ^ k % 2) 1

-- a number with b for its bit k
unfoldable pub put_bit : ℕ → ℕ → Bool → ℕ
put_bit x k b = x - bit (bit_of x k) * 2 ^ k + bit b * 2 ^ k

-- bit i of the maps: block i is free
unfoldable pub bit_at : List ℕ → ℕ → Bool
bit_at m i = bit_of (get_or m (i / 8) 0) (i % 8)

-- the maps with b for bit i
unfoldable pub with_bit : List ℕ → ℕ → Bool → List ℕ
with_bit m i b = set m (i / 8) (put_bit (get_or m (i / 8) 0) (i % 8) b)

-- how many of the first n bits are set
unfoldable pub set_bits : List ℕ → ℕ → ℕ
set_bits m n = count_to (bit_at m) n
