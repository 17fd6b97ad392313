-- Her drawing by its name: which calls can take a folder's name for a node away, or give it to another. All others leave it, so the drawing is found.
use Rattle.std.specs.Prelude.{◌≡◌, List, ◌≢◌, ◌⊎◌, ℕ, length, Some}
use Rattle.base.specs.Out.{done}
use Rattle.base.specs.Reasons.{table_full}
use Rattle.table.specs.declared.Table.{Table}
use Rattle.table.specs.declared.Handle.{Handle}
use Rattle.table.specs.declared.Added.{Added}
use Rattle.table.specs.Table.{row_at, live_row}
use Rattle.sefs.specs.Open.{call_find}
use Rattle.sefs.specs.Contents.{call_read}
use Rattle.sequences.specs.Pairs.{Pair, Passed}
use Rattle.sequences.specs.Calls.{Call, find, remove_file, remove_folder, move, Fits, reason_of, next}
use Rattle.sequences.specs.Promises.{Along, On, Through}
use Rattle.drawings.specs.Saved.{led, Saves}
use Rattle.drawings.specs.Rests.{Named}

-- the calls that can take a name of folder d away, each through a live handle of its asker's on the folder: a removal of that name, a move of that
-- name to elsewhere or to another name, and a move to that name, which replaces what has it (or, where the same node moves there, changes nothing)
pub data TakesName (d : ℕ) (name : List ℕ) (t : Table) : Call → Type 0 where
  removes-file : {v : ℕ} {g : Handle} {i : ℕ} → live_row t v g ≡ Some i → (row_at t i).id ≡ d → TakesName d name t (remove_file v g name)
  removes-folder : {v : ℕ} {g : Handle} {i : ℕ} → live_row t v g ≡ Some i → (row_at t i).id ≡ d → TakesName d name t (remove_folder v g name)
  moves-away : {v : ℕ} {g target : Handle} {i : ℕ} {new : List ℕ} → live_row t v g ≡ Some i → (row_at t i).id ≡ d → TakesName d name t (move v g name target new)
  moves-onto : {v : ℕ} {g target : Handle} {i : ℕ} {old : List ℕ} → live_row t v target ≡ Some i → (row_at t i).id ≡ d → TakesName d name t (move v g old target name)

-- a call that leaves the name: it fits its types, and where it is one of these it is refused
pub record LeavesName (d : ℕ) (name : List ℕ) (c : Call) (p : Pair) : Type 0 where
  pub fits : Fits c
  pub not_taken : TakesName d name p.table c → reason_of c p ≢ 0

-- one such call, from a passed pair: the name stays. (So does its folder: a folder that has a name in it is not removed.)
unfoldable pub NameStays : Type 0
NameStays = (p : Pair) (c : Call) (d n : ℕ) (name : List ℕ) → Passed p → Named d name n p → LeavesName d name c p → Named d name n (next c p)

-- any list of them
unfoldable pub NamesStay : Type 0
NamesStay = (p : Pair) (l : List Call) (d n : ℕ) (name : List ℕ) → Passed p → Named d name n p → Along (LeavesName d name) p l → Named d name n (led p l)

-- ---- the sentence

-- a call, whoever's, that leaves the name, and the drawing too: no write, resize or fallocate is done through a handle on node n
pub record LeavesBoth (d : ℕ) (name : List ℕ) (n : ℕ) (c : Call) (p : Pair) : Type 0 where
  pub leaves-name : LeavesName d name c p
  pub not_written : Through n p.table c → reason_of c p ≢ 0

-- from a passed pair she saves, and a folder has a name for her drawing; then come any such calls, her close of h among them: whoever has a handle
-- on the folder and finds that name there reads what she wrote. (Neither the folder's names at the end nor whether n is still a node is asked:
-- both follow.)
unfoldable pub FoundByName : Type 0
FoundByName = (p q : Pair) (l : List Call) (w v : ℕ) (h g : Handle) (n d : ℕ) (f e name : List ℕ) (place : ℕ) (bytes : List ℕ) (x : Added)
    → Passed p → Saves w h n f place bytes p q → Named d name n q → Along (LeavesBoth d name n) q l → On (led q l).table v g d e
    → Fits (find v g name) → call_find (led q l).arena (led q l).table v g name ≡ done x
    → call_read (led q l).arena x.table v x.handle place (length bytes) ≡ done bytes

-- and it is found: of who has a handle on the folder, a find of the name is done, or he has no place for a hold more (16)
unfoldable pub FindsIt : Type 0
FindsIt = (p : Pair) (v : ℕ) (g : Handle) (n d : ℕ) (e name : List ℕ) → Passed p → On p.table v g d e → Named d name n p
    → (reason_of (find v g name) p ≡ 0) ⊎ (reason_of (find v g name) p ≡ table_full)
