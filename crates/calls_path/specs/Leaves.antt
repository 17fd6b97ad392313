-- What the call leaves of the lent buffer: "Bytes after the path stay."
use Rattle.std.specs.Prelude.{◌≡◌, List, ℕ, ◌≤◌, ◌<◌, length, get_or}
use Rattle.base.specs.Out.{Out, done, refused}
use Rattle.table.specs.declared.Table.{Table}
use Rattle.table.specs.declared.Handle.{Handle}
use Rattle.calls.specs.Answers.{laid}
use Rattle.paths.specs.Path.{call_path}

-- the buffer was `out` and is `now`: the path over its start
pub record Overlaid (out l now : List ℕ) : Type 0 where
  pub long : length now ≡ length out
  pub path : (k : ℕ) → k < length l → get_or now k 0 ≡ get_or l k 0
  pub rest : (k : ℕ) → length l ≤ k → get_or now k 0 ≡ get_or out k 0

-- or, where the call is refused, every byte as it was
pub record LeavesBuffer (out : List ℕ) (o : Out (List ℕ)) (now : List ℕ) : Type 0 where
  pub given : (l : List ℕ) → o ≡ done l → Overlaid out l now
  pub refusal : (n : ℕ) → o ≡ refused n → now ≡ out

unfoldable pub PathLeaves : Type 0
PathLeaves = (a : List ℕ) (t : Table) (w : ℕ) (h : Handle) (out : List ℕ)
    → LeavesBuffer out (call_path a t w h (length out)) (laid out (call_path a t w h (length out)))
