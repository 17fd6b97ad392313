-- Order 5, "Places reserved for each editor": "each owner may have 8", and "a handle works only for its owner".
use Rattle.std.specs.Prelude.{◌≡◌, true, false, List, ◌≢◌, ◌↔◌, ℕ, Some}
use Rattle.base.specs.Out.{done}
use Rattle.base.specs.Reasons.{bad_handle, table_full}
use Rattle.structs.specs.declared.Timespec.{Timespec}
use Rattle.table.specs.declared.Table.{Table}
use Rattle.table.specs.declared.Handle.{Handle}
use Rattle.table.specs.Table.{row_at, live_row, own_holds, can_hold}
use Rattle.table.specs.Formed.{well_formed}
use Rattle.table_laws.specs.Rules.{Owner}
use Rattle.sefs.specs.Ask.{start}
use Rattle.ranges.specs.declared.FallocateMode.{FallocateMode}
use Rattle.walk.specs.Walk.{Spot, spot, walk_in}
use Rattle.sequences.specs.Pairs.{Pair, pair, Passed}
use Rattle.sequences.specs.Calls.{Call, root, find, walk, create, link, remove_file, remove_folder, move, metadata, set_metadata, get_entry, listing, full_path, read, write, resize, fallocate, close, Fits, asker, reason_of, next}
use Rattle.sequences.specs.Promises.{Along, On, Safe}

-- ---- "Whether a call that reaches that check meets TableFull depends on its owner's own live holds and the stamp supply alone."

-- the check looks at nothing else
unfoldable pub CountsOwn : Type 0
CountsOwn = (t u : Table) (w : ℕ) → own_holds t w ≡ own_holds u w → t.next ≡ u.next → can_hold t w ≡ can_hold u w

-- the calls that make a hold
pub data Makes : Call → Type 0 where
  by-root : {w : ℕ} → Makes (root w)
  by-find : {w : ℕ} {h : Handle} {name : List ℕ} → Makes (find w h name)
  by-walk : {w : ℕ} {h : Handle} {path : List ℕ} {room : ℕ} → Makes (walk w h path room)
  by-create : {w : ℕ} {h : Handle} {name : List ℕ} {kind mode : ℕ} {time : Timespec} {file : List ℕ} → Makes (create w h name kind mode time file)

-- on any pair: TableFull says that the asker has no place left, and where he has none no call makes him one: all stays as it is
pub record Full (c : Call) (p : Pair) : Type 0 where
  pub only : reason_of c p ≡ table_full → can_hold p.table (asker c) ≡ false
  pub none_made : Makes c → can_hold p.table (asker c) ≡ false → next c p ≡ p

unfoldable pub FullMeans : Type 0
FullMeans = (c : Call) (p : Pair) → Full c p

-- root reaches the check whenever the pair passes and the asker is an owner
unfoldable pub RootFull : Type 0
RootFull = (p : Pair) (w : ℕ) → Passed p → Owner w → (reason_of (root w) p ≡ table_full) ↔ (can_hold p.table w ≡ false)

-- w has the same in tables t and u: as many live holds, and the next stamp; and the same handles, on rows with the same records, so that a call
-- of his but walk reaches the check with both or with neither. What the other three hold may be anything
pub record SameFor (w : ℕ) (t u : Table) : Type 0 where
  pub own : own_holds t w ≡ own_holds u w
  pub supply : t.next ≡ u.next
  pub handles : (h : Handle) → live_row t w h ≡ live_row u w h
  pub records : (h : Handle) (i : ℕ) → live_row t w h ≡ Some i → (row_at t i).rec ≡ (row_at u i).rec

-- walk reaches the check where the path comes to its end. It goes by the records of the nodes on its way, and of an open node that is the record
-- in memory, which another may have changed
abbrev pub Arrives : List ℕ → Table → Call → Type 0
Arrives a u c = (w : ℕ) (h : Handle) (path : List ℕ) (room i : ℕ) → c ≡ walk w h path room → live_row u w h ≡ Some i
    → (at : Spot) × ((walk_in (start a u) (spot (row_at u i).id (row_at u i).rec) path room).end ≡ done at)

-- then his call meets TableFull with both or with neither
unfoldable pub FullByOwn : Type 0
FullByOwn = (a : List ℕ) (t u : Table) (c : Call) → well_formed t ≡ true → well_formed u ≡ true → SameFor (asker c) t u → Arrives a u c
    → reason_of c (pair a t) ≡ table_full → reason_of c (pair a u) ≡ table_full

-- ---- "a handle works only for its owner"

-- the handle is one that the call names
pub data Names (h : Handle) : Call → Type 0 where
  finds : {v : ℕ} {name : List ℕ} → Names h (find v h name)
  walks : {v room : ℕ} {path : List ℕ} → Names h (walk v h path room)
  creates : {v : ℕ} {name : List ℕ} {kind mode : ℕ} {time : Timespec} {file : List ℕ} → Names h (create v h name kind mode time file)
  links : {v : ℕ} {name : List ℕ} {child : Handle} → Names h (link v h name child)
  is-linked : {v : ℕ} {g : Handle} {name : List ℕ} → Names h (link v g name h)
  removes-file : {v : ℕ} {name : List ℕ} → Names h (remove_file v h name)
  removes-folder : {v : ℕ} {name : List ℕ} → Names h (remove_folder v h name)
  moves : {v : ℕ} {old name : List ℕ} {target : Handle} → Names h (move v h old target name)
  is-target : {v : ℕ} {g : Handle} {old name : List ℕ} → Names h (move v g old h name)
  asks : {v : ℕ} → Names h (metadata v h)
  sets : {v mode uid gid : ℕ} {at mt ct : Timespec} → Names h (set_metadata v h mode uid gid at mt ct)
  entries : {v k room : ℕ} → Names h (get_entry v h k room)
  lists : {v next room : ℕ} → Names h (listing v h next room)
  paths : {v room : ℕ} → Names h (full_path v h room)
  reads : {v place room : ℕ} → Names h (read v h place room)
  writes : {v place : ℕ} {bytes : List ℕ} → Names h (write v h place bytes)
  resizes : {v n : ℕ} → Names h (resize v h n)
  fallocates : {v from len : ℕ} {mode : FallocateMode} → Names h (fallocate v h mode from len)
  closes : {v : ℕ} → Names h (close v h)

-- "4 for another's handle": w's live handle in a call of another owner
unfoldable pub Refused : Type 0
Refused = (p : Pair) (c : Call) (w : ℕ) (h : Handle) (i : ℕ) → Passed p → live_row p.table w h ≡ Some i → Owner (asker c) → asker c ≢ w → Names h c
    → reason_of c p ≡ bad_handle

-- and whatever the others call, they neither close her handle nor change its node: no premise about closes
unfoldable pub ApartByOwner : Type 0
ApartByOwner = (p : Pair) (l : List Call) (w : ℕ) (h : Handle) (n : ℕ) (f : List ℕ) → Passed p → On p.table w h n f
    → Along (λ c q. Fits c × (asker c ≢ w)) p l → Along (Safe w h n f) p l
