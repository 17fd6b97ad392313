-- Order 14 on any pair, passed or not: "Root gives one slash", and the longest path.
use Rattle.std.specs.Prelude.{◌≡◌, true, List, [], ◌∷◌, ◌≢◌, ℕ, ◌≤◌, leb, length}
use Rattle.base.specs.Out.{done, guard}
use Rattle.base.specs.Reasons.{out_full}
use Rattle.structs.specs.Types.{is_folder}
use Rattle.table.specs.declared.Table.{Table}
use Rattle.table.specs.declared.Handle.{Handle}
use Rattle.table.specs.Table.{row_at}
use Rattle.sefs.specs.Ask.{admit, by_handle}
use Rattle.paths.specs.Path.{call_path}

-- "Root gives one slash."
unfoldable pub RootSlash : Type 0
RootSlash = (a : List ℕ) (t : Table) (w : ℕ) (h : Handle) (i room : ℕ) → admit a t ≡ done tt → by_handle t w h ≡ done i
    → (row_at t i).id ≡ 2 → is_folder (row_at t i).rec.kind ≡ true → (row_at t i).rec.nlinks ≢ 0
    → call_path a t w h room ≡ guard (leb 1 room) out_full (done (47 ∷ []))

-- the longest path: 4,096 names of 255 bytes, each with its slash
unfoldable pub Longest : Type 0
Longest = (a : List ℕ) (t : Table) (w : ℕ) (h : Handle) (room : ℕ) (l : List ℕ) → call_path a t w h room ≡ done l → length l ≤ 1048576
