-- Order 14 "on a pair that the checker passes": when a path is given, what it is, and that "walking the answer by order 7 opens the same folder".
use Rattle.std.specs.Prelude.{◌≡◌, true, false, List, [], ◌≢◌, ℕ, ◌*◌, ◌/◌, ◌≤◌, ◌<◌, leb, length, get_or, Some}
use Rattle.base.specs.Out.{Out, done, refused, guard}
use Rattle.base.specs.Reasons.{not_dir, dir_removed, out_full}
use Rattle.structs.specs.Types.{is_folder}
use Rattle.utf8.specs.Names.{NoSlash}
use Rattle.table.specs.declared.Handle.{Handle}
use Rattle.table.specs.declared.Added.{Added}
use Rattle.table.specs.Table.{row_at, live_row, can_hold}
use Rattle.arena.specs.Blocks.{blocks}
use Rattle.sefs.specs.Ask.{start}
use Rattle.rules.specs.Image.{rec_of}
use Rattle.walk.specs.Walk.{spot, walked, most_links, call_walk}
use Rattle.walk.specs.Laws.{Chain}
use Rattle.paths.specs.Path.{most_folders, names_to, path_of, call_path}
use Rattle.sequences.specs.Pairs.{Pair, Passed}
use Rattle.sequences.specs.Promises.{On}

-- the names on the path of the folder in row i
abbrev pub names_at : Pair → ℕ → Out (List (List ℕ))
names_at p i = names_to (start p.arena p.table) most_folders (row_at p.table i).id (row_at p.table i).rec

-- by a live handle the call is done unless 7, 8 or 20, each where the order says so: never 19
pub record PathAnswered (p : Pair) (w : ℕ) (h : Handle) (i : ℕ) : Type 0 where
  pub not-folder : is_folder (row_at p.table i).rec.kind ≡ false → (room : ℕ) → call_path p.arena p.table w h room ≡ refused not_dir
  pub removed : is_folder (row_at p.table i).rec.kind ≡ true → (row_at p.table i).rec.nlinks ≡ 0
      → (room : ℕ) → call_path p.arena p.table w h room ≡ refused dir_removed
  pub has-path : is_folder (row_at p.table i).rec.kind ≡ true → (row_at p.table i).rec.nlinks ≢ 0
      → (names : List (List ℕ)) × (names_at p i ≡ done names)
      × ((room : ℕ) → call_path p.arena p.table w h room ≡ guard (leb (length (path_of names)) room) out_full (done (path_of names)))

unfoldable pub PathAnswers : Type 0
PathAnswers = (p : Pair) (w : ℕ) (h : Handle) (i : ℕ) → Passed p → live_row p.table w h ≡ Some i → PathAnswered p w h i

-- slashes or not: the path is that of names which lead from root to the folder, each looked up in the folder that the one before has led to, as a
-- walk looks up a part (`Chain`), and none of them leads to a link
pub record WayDown (p : Pair) (i : ℕ) (l : List ℕ) : Type 0 where
  pub names : List (List ℕ)
  pub path : l ≡ path_of names
  pub chain : Chain (start p.arena p.table) (spot 2 (rec_of p.arena p.table 2)) names (spot (row_at p.table i).id (row_at p.table i).rec)

unfoldable pub NamedWay : Type 0
NamedWay = (p : Pair) (w : ℕ) (h : Handle) (i : ℕ) (l : List ℕ) (room : ℕ) → Passed p → live_row p.table w h ≡ Some i
    → call_path p.arena p.table w h room ≡ done l → WayDown p i l

-- "no name on it has a slash"
abbrev pub Slashfree : Pair → ℕ → Type 0
Slashfree p i = (names : List (List ℕ)) → names_at p i ≡ done names → (k : ℕ) → k < length names → NoSlash (get_or names k [])

-- a walk along the path by handle g of the same asker has opened node n, whose file is f, with a hold. No link was met, and no byte put into the link buffer
pub record OpensSame (p : Pair) (w : ℕ) (g : Handle) (path : List ℕ) (room n : ℕ) (f : List ℕ) : Type 0 where
  pub given : Added
  pub walks : call_walk p.arena p.table w g path room ≡ walked [] most_links (done given)
  pub on : On given.table w given.handle n f

-- "walking the answer by order 7 opens the same folder if no name on it has a slash and the asker has a hold and a stamp free". The walk may begin at
-- any live handle of the asker, and its link buffer may have any room: the path has a leading slash
unfoldable pub WalksBack : Type 0
WalksBack = (p : Pair) (w : ℕ) (h g : Handle) (i j : ℕ) (l : List ℕ) (out room : ℕ) → Passed p → live_row p.table w h ≡ Some i → live_row p.table w g ≡ Some j
    → call_path p.arena p.table w h out ≡ done l → Slashfree p i → can_hold p.table w ≡ true
    → OpensSame p w g l room (row_at p.table i).id (row_at p.table i).rec.file

-- "two weights both have an `a`": paths of two folders differ, whoever asks. (Not so where a name has a slash: a folder `a/b` in root, and `b` in `a`)
unfoldable pub PathsApart : Type 0
PathsApart = (p : Pair) (w v : ℕ) (h g : Handle) (i j : ℕ) (l : List ℕ) (m n : ℕ) → Passed p → live_row p.table w h ≡ Some i → live_row p.table v g ≡ Some j
    → call_path p.arena p.table w h m ≡ done l → call_path p.arena p.table v g n ≡ done l → Slashfree p i → Slashfree p j
    → (row_at p.table i).id ≡ (row_at p.table j).id

-- the longest path there: each folder on it, root too, takes a head and two blocks of data
unfoldable pub LongestThere : Type 0
LongestThere = (p : Pair) (w : ℕ) (h : Handle) (room : ℕ) (l : List ℕ) → Passed p → call_path p.arena p.table w h room ≡ done l → length l ≤ 256 * (blocks p.arena / 3)
