-- Places in a text, as the code finds them.
use Rattle.std.specs.Prelude.{List, ℕ, zero, suc, ◌+◌, min, length, drop}
use Rattle.base.specs.Parts.{part}
use Rattle.utf8.specs.Names.{first_at}

-- the part that begins at i ends at the next slash, or with the text
abbrev pub end_at : List ℕ → ℕ → ℕ
end_at l i = i + first_at 47 (drop i l)

-- after the slash at e the next part begins
abbrev pub next_at : List ℕ → ℕ → ℕ
next_at l e = min (suc e) (length l)

-- what is left of a text: of the path, or of a target in the link buffer
abbrev pub left_of : List ℕ → List ℕ → ℕ → ℕ → ℕ → List ℕ
left_of path b zero from to = part path from to
left_of path b (suc d) from to = part b from to

-- the length of path or buffer
abbrev pub bound_of : List ℕ → List ℕ → ℕ → ℕ
bound_of path b zero = length path
bound_of path b (suc d) = length b
