-- Order 10, one line: "id, type and links in decimal and the path from root, a slash before each name, split by single spaces and ended by a
-- newline". Without folders: numbers, names and bytes alone.
use Rattle.std.specs.Prelude.{Bool, ◌||◌, List, [], ◌∷◌, ◌++◌, ℕ, zero, suc, ◌+◌, ◌/◌, ◌%◌, eqb, ltb}
use Rattle.base.specs.Search.{pick}
use Rattle.structs.specs.Layout.{join}

-- ---- "in decimal"

-- the digits of n, the highest first: those of n / 10, and then n % 10. k is above n, so there are enough turns for all of them
unfoldable pub digits : ℕ → ℕ → List ℕ
digits zero n = []
digits (suc k) n = pick (ltb n 10) ((48 + n) ∷ []) (digits k (n / 10) ++ ((48 + n % 10) ∷ []))

unfoldable pub decimal : ℕ → List ℕ
decimal n = digits (suc n) n

-- ---- "In paths, bytes below 33, 127 and the backslash become a backslash and two lowercase hex digits."

-- `0` to `9`, then `a` to `f`
abbrev pub hex_digit : ℕ → ℕ
hex_digit d = pick (ltb d 10) (48 + d) (87 + d)

unfoldable pub is_escaped : ℕ → Bool
is_escaped b = ltb b 33 || (eqb b 127 || eqb b 92)

unfoldable pub escape_byte : ℕ → List ℕ
escape_byte b = pick (is_escaped b) (92 ∷ hex_digit (b / 16) ∷ hex_digit (b % 16) ∷ []) (b ∷ [])

-- all other bytes stay: those above 127, and a slash in a name, which may stand in an image from before order 4
unfoldable pub escape : List ℕ → List ℕ
escape [] = []
escape (b ∷ l) = escape_byte b ++ escape l

-- "the path from root, a slash before each name": the folder's path, and then a name in it. Root's own is empty
unfoldable pub path_to : List ℕ → List ℕ → List ℕ
path_to path name = path ++ (47 ∷ escape name)

-- ---- "split by single spaces and ended by a newline"

abbrev pub space : List ℕ
space = 32 ∷ []

abbrev pub newline : List ℕ
newline = 10 ∷ []

unfoldable pub line : ℕ → ℕ → ℕ → List ℕ → List ℕ
line id kind links path = join (decimal id ∷ space ∷ decimal kind ∷ space ∷ decimal links ∷ space ∷ path ∷ newline ∷ [])
