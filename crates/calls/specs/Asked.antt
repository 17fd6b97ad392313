-- What a call asks first, as the code asks it.
use Rattle.std.specs.Prelude.{◌≡◌, true, List, ℕ, ◌<◌, length, get_or}
use Rattle.base.specs.Out.{Out, done, ◌>>=◌}
use Rattle.table.specs.declared.Table.{Table}
use Rattle.table.specs.declared.Handle.{Handle}
use Rattle.table.specs.Formed.{well_formed}
use Rattle.sefs.specs.Ask.{by_handle}
use Rattle.chains.specs.Led.{Led}
use Rattle.mem.specs.Mem.{table_in, Whole}

-- where the chains go: two arrays of 4,096, and the first is zero
pub record Blank (c : List ℕ) : Type 0 where
  pub size : length c ≡ 8192
  pub zeros : (h : ℕ) → h < 4096 → get_or c h 0 ≡ 0

-- arena and table (in the memory m) are not refused by 1, 2 or 3, and the chains lead to the arena's blocks
pub record Admitted (a first next m : List ℕ) : Type 0 where
  pub led : Led a first next
  pub whole : Whole m
  pub formed : well_formed (table_in m) ≡ true

-- 6 and 4, for one handle after the other, and the rows of both
unfoldable pub by_two : Table → ℕ → Handle → Handle → Out (ℕ × ℕ)
by_two t w h k = do
  i ← by_handle t w h
  j ← by_handle t w k
  done (i, j)
