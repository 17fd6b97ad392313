-- The sum over bytes that a line of a script's answers ends with.
use Rattle.std.specs.Prelude.{List, ℕ, zero, suc, ◌+◌, ◌*◌, ◌%◌, get_or}

-- over the first n bytes of l: h starts at 0; for each byte b, h becomes (h * 257 + b + 1) mod 4,294,967,291
unfoldable pub sum_of : List ℕ → ℕ → ℕ
sum_of l zero = 0
sum_of l (suc n) = (sum_of l n * 257 + get_or l n 0 + 1) % 4294967291
