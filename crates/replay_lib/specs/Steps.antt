-- What a desk says of its script.
use Rattle.std.specs.Prelude.{Bool, true, not, cond, List, ℕ, ◌+◌, ◌-◌, eqb, length, get_or}
use Rattle.le.specs.Le.{le_at}

-- the desk says that the script has ended; a desk of another length has none
abbrev pub ended_in : List ℕ → Bool
ended_in d = cond (eqb (length d) 4419) (not (eqb (get_or d 4418 0) 0)) true

-- what is left of a script of n bytes, once more than its bytes: 0 where it has ended
unfoldable pub to_go : ℕ → List ℕ → ℕ
to_go n d = cond (ended_in d) 0 (1 + (n - le_at d 4410 8))
