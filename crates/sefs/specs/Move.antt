-- move (000's move_).
use Rattle.std.specs.Prelude.{not, ◌&&◌, List, ℕ, zero, suc, ◌*◌, eqb, leb, Option, Some, None}
use Rattle.base.specs.Out.{Out, done, refused, guard, ◌>>=◌}
use Rattle.base.specs.Reasons.{invalid_param, not_dir, is_dir, dir_not_empty, stuck}
use Rattle.base.specs.Search.{pick}
use Rattle.structs.specs.Layout.{record_of, entry_of, entry_bytes}
use Rattle.structs.specs.Types.{is_folder, move_verdict_of}
use Rattle.structs.specs.declared.DiskINode.{DiskINode}
use Rattle.structs.specs.declared.DiskEntry.{DiskEntry}
use Rattle.structs.specs.declared.MoveVerdict.{MoveVerdict}
use Rattle.structs.specs.declared.MoveVerdict.TheVariants.{Allowed, NotDir, IsDir, IfEmpty}
use Rattle.table.specs.declared.Table.{Table}
use Rattle.table.specs.declared.Handle.{Handle}
use Rattle.table.specs.Table.{row_at, row_of}
use Rattle.files.specs.Read.{read_file}
use Rattle.sefs.specs.State.{Fs}
use Rattle.sefs.specs.Meta.{meta_file, is_used}
use Rattle.sefs.specs.Nodes.{rec_at, id_at, get_node, sync_row, release}
use Rattle.sefs.specs.Slots.{slot_bytes, lookup, slot_at, Slot, find_slot}
use Rattle.sefs.specs.Folders.{entry, dots_entry, put_slot, dirent_append, dirent_remove, dirent_node_remove, nlinks_inc, nlinks_dec}
use Rattle.sefs.specs.Ask.{admit, by_handle, good_name, new_name, not_long, not_special, known, type_in_range, live_folder, start}
use Rattle.sefs.specs.Create.{After, after}

-- the first n slots can be read
unfoldable pub read_slots : Fs → ℕ → ℕ → Out Fs
read_slots s i zero = done s
read_slots s i (suc n) = do
  s ← read_slots s i n
  e ← slot_at s.arena (rec_at s i) n
  done s

-- "folder onto folder 13 if the replaced one has over 2 slots"; those there are, are read
abbrev pub judge : MoveVerdict → Fs → ℕ → Out Fs
judge Allowed s d = done s
judge NotDir s d = refused not_dir
judge IsDir s d = refused is_dir
judge IfEmpty s d = guard (leb (rec_at s d).blocks 2) dir_not_empty (read_slots s d (rec_at s d).blocks)

-- ---- order 2: "a folder can't go into itself or below". The climb takes no row and changes nothing

-- a folder's record: that of its row, or the stored one
abbrev pub record_by : Fs → ℕ → Option ℕ → Out DiskINode
record_by s id (Some i) = done (rec_at s i)
record_by s id None = do
  l ← read_file s.arena meta_file (128 * id) 112
  done (record_of l)

-- it sticks where an opening would
unfoldable pub record_on : Fs → ℕ → Out DiskINode
record_on s id = do
  m ← s.meta
  guard (is_used m id) stuck (record_by s id (row_of s.table id))

-- what slot 1 of a folder names
unfoldable pub dots_of : Fs → DiskINode → Out ℕ
dots_of s r = guard (is_folder r.kind) stuck (do
  l ← slot_bytes s.arena r 1
  done (entry_of l).id)

-- from folder x, whose record is r, up to node 2: 6 where node c is met, 19 "if that climb passes 4,096 folders" (n may still be climbed from)
unfoldable pub climb : Fs → ℕ → ℕ → ℕ → Out DiskINode → Out Unit
climb s c zero x r = guard (not (eqb x c)) invalid_param (guard (eqb x 2) stuck (done tt))
climb s c (suc n) x r = guard (not (eqb x c)) invalid_param (pick (eqb x 2) (done tt) (do
  r ← r
  y ← dots_of s r
  climb s c n y (record_on s y)))

-- "6 when the target is the moved folder or the climb from the target meets it": node c goes from folder i to folder j
unfoldable pub not_below : Fs → ℕ → ℕ → ℕ → Out Unit
not_below s i j c =
    pick (not (eqb (id_at s i) (id_at s j)) && is_folder (rec_at s c).kind) (climb s (id_at s c) 4096 (id_at s j) (done (rec_at s j))) (done tt)

-- ---- the steps: slots first, then the replaced node, then the folders' records

-- the replaced node, at slot k of the target: or there is none
pub data Replaced : Type 0 where
  none : Replaced
  node : ℕ → ℕ → Replaced

abbrev pub remove_replaced : Fs → ℕ → Replaced → Out Fs
remove_replaced s j none = done s
remove_replaced s j (node d k) = dirent_node_remove s j d k

-- "The moved slot keeps the old slot's id and type"
abbrev pub renamed : DiskEntry → List ℕ → DiskEntry
renamed e name = entry e.id name e.kind

-- within one folder the slot gets another name
unfoldable pub move_within : Fs → ℕ → Slot → List ℕ → Replaced → Out After
move_within s i old name r = do
  s ← put_slot s i old.place (entry_bytes (renamed old.entry name))
  s ← remove_replaced s i r
  s ← sync_row s i
  done (after s)

-- a folder that moves takes its `..` along: the source is named once less, the target once more
unfoldable pub move_dots : Fs → ℕ → ℕ → Out Fs
move_dots s i j = do
  s ← nlinks_dec s i
  nlinks_inc s j

-- (000 looks at the moved node's type)
unfoldable pub move_links : Fs → ℕ → ℕ → ℕ → Out Fs
move_links s i j c = do
  _ ← type_in_range (rec_at s c)
  pick (is_folder (rec_at s c).kind) (move_dots s i j) (done s)

-- order 2: "`..` must name the new parent". "Slot 1 is stored last before the syncs", whole
unfoldable pub move_parent : Fs → ℕ → ℕ → Out Fs
move_parent s j c = pick (is_folder (rec_at s c).kind) (put_slot s c 1 (entry_bytes (dots_entry (id_at s j)))) (done s)

unfoldable pub move_between : Fs → ℕ → ℕ → Slot → List ℕ → Replaced → Out After
move_between s i j old name r = do
  s ← dirent_append s j (renamed old.entry name)
  s ← dirent_remove s i old.place
  s ← remove_replaced s j r
  o ← get_node s old.entry.id
  s ← move_links o.state i j o.row
  s ← move_parent s j o.row
  s ← sync_row s i
  s ← sync_row s j
  s ← release s o.row
  done (after s)

unfoldable pub move_steps : Fs → ℕ → ℕ → List ℕ → List ℕ → Replaced → Out After
move_steps s i j old name r = do
  e ← find_slot s.arena (rec_at s i) old
  pick (eqb (id_at s i) (id_at s j)) (move_within s i e name r) (move_between s i j e name r)

-- ---- "if the new name exists, 11 for the old name, same node is done with nothing changed, then type rules"

-- node c goes in the place of node d, which slot k of the target names; the opening of c ends here
unfoldable pub move_onto : Fs → ℕ → ℕ → List ℕ → List ℕ → ℕ → ℕ → ℕ → Out After
move_onto s i j old name c d k = do
  s ← judge (move_verdict_of (rec_at s c).kind (rec_at s d).kind) s d
  _ ← not_below s i j c
  s ← release s c
  move_steps s i j old name (node d k)

unfoldable pub replace : Fs → ℕ → ℕ → List ℕ → List ℕ → ℕ → Out After
replace s i j old name k = do
  new ← slot_at s.arena (rec_at s j) k
  was ← find_slot s.arena (rec_at s i) old
  d ← get_node s new.id
  c ← get_node d.state was.entry.id
  _ ← known (rec_at c.state c.row)
  _ ← known (rec_at c.state d.row)
  pick (eqb was.entry.id new.id) (done (after s)) (move_onto c.state i j old name c.row d.row k)

-- no node has the new name. Between two folders the moved node is opened first and its type is looked at, since it decides whether there is a
-- climb; the opening stays to the end
unfoldable pub move_free : Fs → ℕ → ℕ → List ℕ → List ℕ → Out After
move_free s i j old name = pick (eqb (id_at s i) (id_at s j)) (move_steps s i j old name none) (do
  was ← find_slot s.arena (rec_at s i) old
  c ← get_node s was.entry.id
  _ ← type_in_range (rec_at c.state c.row)
  _ ← not_below c.state i j c.row
  move_steps c.state i j old name none)

abbrev pub move_to : Fs → ℕ → ℕ → List ℕ → List ℕ → Option ℕ → Out After
move_to s i j old name (Some k) = replace s i j old name k
move_to s i j old name None = move_free s i j old name

-- ---- the order of reasons: source 7, 8; 9 for either name; 10; target 7, 8; then as above

unfoldable pub call_move : List ℕ → Table → ℕ → Handle → List ℕ → Handle → List ℕ → Out After
call_move a t w h old target name = do
  _ ← admit a t
  i ← by_handle t w h
  j ← by_handle t w target
  _ ← good_name old
  _ ← new_name name
  _ ← live_folder (row_at t i).rec
  _ ← not_special old
  _ ← not_special name
  _ ← not_long old
  _ ← not_long name
  _ ← live_folder (row_at t j).rec
  f ← lookup a (row_at t j).rec name
  move_to (start a t) i j old name f
