-- A line as the code writes it: three numbers, the folder's path, and the name with its end.
use Rattle.std.specs.Prelude.{List, [], ◌∷◌, ◌++◌, ℕ}
use Rattle.structs.specs.Layout.{join}
use Rattle.inventory.specs.Text.{decimal, escape, space, newline}

-- "id, type and links", each with the space behind it
unfoldable pub line_head : ℕ → ℕ → ℕ → List ℕ
line_head id kind links = join (decimal id ∷ space ∷ decimal kind ∷ space ∷ decimal links ∷ space ∷ [])

-- "a slash before each name", and "ended by a newline"
unfoldable pub line_tail : List ℕ → List ℕ
line_tail name = 47 ∷ (escape name ++ newline)
