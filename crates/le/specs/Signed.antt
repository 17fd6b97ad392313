-- "seconds and nanoseconds are signed, so a date before 1970 is negative (two's complement, 64 bits each)"
use Rattle.std.specs.Prelude.{cond, ℕ, ◌-◌, ltb, ℤ, pos, negsuc}

-- the signed number that 64 bits are: from 2^63 on, x stands for x - 2^64. (`negsuc n` is -1 - n.)
unfoldable pub signed : ℕ → ℤ
signed x = cond (ltb x 9223372036854775808) (pos x) (negsuc (18446744073709551615 - x))

-- the 64 bits of a signed number
unfoldable pub bits_of : ℤ → ℕ
bits_of (pos n) = n
bits_of (negsuc n) = 18446744073709551615 - n
