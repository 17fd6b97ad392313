-- The calls of the examples, and those that `cheats` asks for, with less work: each is its definition, line by line, with the readings of
-- Near in place of the definition's own, and is proved equal to it where arena and table are admitted.
use mathlib.Core.Path.{◌≡◌}
use mathlib.Core.Bool.{Bool, false, not, ◌&&◌}
use mathlib.Core.List.{List}
use Prim.Native.Nat.{ℕ, ◌+◌, ◌-◌, ◌*◌}
use native.Mathlib.Omega.{arith}
use lib.ListN.{length}
use lib.Dec.{eqb, ltb, leb}
use Rattle.base.specs.Out.{Out, done, bind, guard, ensure, ◌>>=◌}
use Rattle.base.specs.Reasons.{stuck, table_full, invalid_param, file_taken, too_many_links, dir_removed, is_dir}
use Rattle.base.specs.Search.{pick}
use Rattle.std.specs.Prelude.{Option, Some, None}
use Rattle.structs.specs.Layout.{record_of}
use Rattle.structs.specs.Types.{is_folder}
use Rattle.structs.specs.declared.Timespec.{Timespec}
use Rattle.utf8.specs.Names.{is_dots}
use Rattle.table.specs.Table.{row_at, row_of, free_row, can_hold, add_hold}
use Rattle.table.specs.declared.Added.{Added}
use Rattle.table.specs.declared.Handle.{Handle}
use Rattle.table.specs.declared.Table.{Table}
use Rattle.arena.specs.Fields.{file}
use Rattle.files.specs.Read.{there}
use Rattle.files.specs.Store.{cut_file}
use Rattle.sefs.specs.State.{Fs, with_arena}
use Rattle.sefs.specs.Records.{with_blocks}
use Rattle.sefs.specs.Meta.{meta_file, is_used}
use Rattle.sefs.specs.Nodes.{Opened, node_file, rec_at, id_at, set_rec, open_in, open_at, load_node, get_node, sync_row, release}
use Rattle.sefs.specs.Folders.{put_slot, dirent_remove, nlinks_dec, unlink_folder, dirent_node_remove}
use Rattle.sefs.specs.Ask.{admit, an_owner, by_handle, good_name, new_name, not_long, not_special, known, type_in_range, folder, live_folder, or_exists, start}
use Rattle.sefs.specs.Open.{hold_node, call_root, call_find}
use Rattle.sefs.specs.Create.{After, after, Given, can_make, create_steps, call_create, link_steps, call_link}
use Rattle.sefs.specs.Remove.{removable, remove_steps, call_remove}
use Rattle.sefs.specs.Move.{Replaced, none, move_within, move_between, not_below, move_steps, move_free, move_to, call_move}
use Rattle.sefs.specs.Contents.{has_contents, not_too_big, write_steps, call_write, resize_steps, call_resize}
use Rattle.sefs.specs.Close.{sync_from, call_sync}
use Rattle.course_states.proofs.Near.{read_near, read-near, meta_near, meta-near, slot_bytes_near, slot-bytes-near, look_near, look-near, find_near, find-near}

unfoldable pub start_near : List ℕ → Table → Fs
start_near a t = record { arena = a; table = t; meta = meta_near a }

start-near : (a : List ℕ) (t : Table) → start a t ≡ start_near a t
unfolding start_near
start-near a t = λ j. record { arena = a; table = t; meta = meta-near a j }

-- ---- a node opened

unfoldable pub load_near : Fs → ℕ → Out Opened
load_near s id = do
  l ← read_near s.arena meta_file (128 * id) 112
  guard (leb (record_of l).kind 4) stuck (guard (there s.arena (node_file (record_of l))) stuck
      (open_in s id (record_of l) false (free_row s.table)))

load-near : (s : Fs) (id : ℕ) → load_node s id ≡ load_near s id
unfolding load_node load_near
load-near s id =
    λ j. bind (read-near s.arena meta_file (128 * id) 112 (omega arith) j)
    (λ l. guard (leb (record_of l).kind 4) stuck (guard (there s.arena (node_file (record_of l))) stuck
    (open_in s id (record_of l) false (free_row s.table))))

unfoldable pub open_near : Fs → ℕ → Option ℕ → Out Opened
open_near s id (Some i) = open_at s id (Some i)
open_near s id None = load_near s id

open-near : (s : Fs) (id : ℕ) (f : Option ℕ) → open_at s id f ≡ open_near s id f
unfolding open_near
open-near s id (Some i) = λ j. open_at s id (Some i)
open-near s id None = load-near s id

unfoldable pub get_near : Fs → ℕ → Out Opened
get_near s id = do
  m ← s.meta
  guard (is_used m id) stuck (open_near s id (row_of s.table id))

get-near : (s : Fs) (id : ℕ) → get_node s id ≡ get_near s id
unfolding get_node get_near
get-near s id = λ j. bind s.meta (λ m. guard (is_used m id) stuck (open-near s id (row_of s.table id) j))

unfoldable pub hold_near : Fs → ℕ → ℕ → Out Added
hold_near s w id = do
  o ← get_near s id
  done (add_hold o.state.table w o.row)

hold-near : (s : Fs) (w id : ℕ) → hold_node s w id ≡ hold_near s w id
unfolding hold_node hold_near
hold-near s w id = λ j. bind (get-near s id j) (λ o. done (add_hold o.state.table w o.row))

-- ---- root

unfoldable pub root_near : List ℕ → Table → ℕ → Out Added
root_near a t w = do
  _ ← an_owner w
  _ ← ensure (can_hold t w) table_full
  hold_near (start_near a t) w 2

pub root-near : (a : List ℕ) (t : Table) (w : ℕ) → admit a t ≡ done tt → call_root a t w ≡ root_near a t w
unfolding call_root root_near
root-near a t w ok = λ j. bind (ok j) (λ _. bind (an_owner w) (λ _. bind (ensure (can_hold t w) table_full) (λ _. hold-near (start-near a t j) w 2 j)))

-- ---- find

unfoldable pub find_call_near : List ℕ → Table → ℕ → Handle → List ℕ → Out Added
find_call_near a t w h name = do
  i ← by_handle t w h
  _ ← good_name name
  _ ← known (row_at t i).rec
  _ ← folder (row_at t i).rec
  _ ← not_long name
  _ ← ensure (not (is_dots name && eqb (row_at t i).rec.nlinks 0)) dir_removed
  s ← find_near a (row_at t i).rec name
  _ ← ensure (can_hold t w) table_full
  hold_near (start_near a t) w s.entry.id

pub find-call-near : (a : List ℕ) (t : Table) (w : ℕ) (h : Handle) (name : List ℕ) → admit a t ≡ done tt → call_find a t w h name ≡ find_call_near a t w h name
unfolding call_find find_call_near
find-call-near a t w h name ok =
    λ j. bind (ok j)
    (λ _. bind (by_handle t w h)
    (λ i. bind (good_name name)
    (λ _. bind (known (row_at t i).rec)
    (λ _. bind (folder (row_at t i).rec)
    (λ _. bind (not_long name)
    (λ _. bind (ensure (not (is_dots name && eqb (row_at t i).rec.nlinks 0)) dir_removed)
    (λ _. bind (find-near a (row_at t i).rec name j)
    (λ s. bind (ensure (can_hold t w) table_full) (λ _. hold-near (start-near a t j) w s.entry.id j)))))))))

-- ---- create

unfoldable pub create_near : List ℕ → Table → ℕ → Handle → List ℕ → ℕ → ℕ → Timespec → List ℕ → Out Given
create_near a t w h name kind mode time uuid = do
  i ← by_handle t w h
  _ ← new_name name
  _ ← ensure (can_make kind) invalid_param
  _ ← live_folder (row_at t i).rec
  _ ← not_long name
  f ← look_near a (row_at t i).rec name
  _ ← or_exists f
  _ ← ensure (not (there a (file 1 uuid))) file_taken
  _ ← ensure (not (is_folder kind && eqb (row_at t i).rec.nlinks 65535)) too_many_links
  _ ← ensure (can_hold t w) table_full
  create_steps (start_near a t) w i name kind mode time uuid

pub create-near : (a : List ℕ) (t : Table) (w : ℕ) (h : Handle) (name : List ℕ) (kind mode : ℕ) (time : Timespec) (uuid : List ℕ)
    → admit a t ≡ done tt → call_create a t w h name kind mode time uuid ≡ create_near a t w h name kind mode time uuid
unfolding call_create create_near
create-near a t w h name kind mode time uuid ok =
    λ j. bind (ok j)
    (λ _. bind (by_handle t w h)
    (λ i. bind (new_name name)
    (λ _. bind (ensure (can_make kind) invalid_param)
    (λ _. bind (live_folder (row_at t i).rec)
    (λ _. bind (not_long name)
    (λ _. bind (look-near a (row_at t i).rec name j)
    (λ f. bind (or_exists f)
    (λ _. bind (ensure (not (there a (file 1 uuid))) file_taken)
    (λ _. bind (ensure (not (is_folder kind && eqb (row_at t i).rec.nlinks 65535)) too_many_links)
    (λ _. bind (ensure (can_hold t w) table_full) (λ _. create_steps (start-near a t j) w i name kind mode time uuid)))))))))))

-- ---- remove-file and remove-folder

unfoldable pub remove_near : Fs → ℕ → ℕ → Out Fs
remove_near s i k =
    guard (ltb 0 (rec_at s i).blocks) stuck (do
      l ← slot_bytes_near s.arena (rec_at s i) ((rec_at s i).blocks - 1)
      s ← pick (eqb k ((rec_at s i).blocks - 1)) (done s) (put_slot s i k l)
      a ← cut_file s.arena (node_file (rec_at s i)) (264 * ((rec_at s i).blocks - 1))
      done (set_rec (with_arena s a) i (with_blocks (rec_at s i) ((rec_at s i).blocks - 1))))

remove-near : (s : Fs) (i k : ℕ) → dirent_remove s i k ≡ remove_near s i k
unfolding dirent_remove remove_near
remove-near s i k =
    λ j. guard (ltb 0 (rec_at s i).blocks) stuck
    (bind (slot-bytes-near s.arena (rec_at s i) ((rec_at s i).blocks - 1) j)
    (λ l. bind (pick (eqb k ((rec_at s i).blocks - 1)) (done s) (put_slot s i k l))
    (λ s. bind (cut_file s.arena (node_file (rec_at s i)) (264 * ((rec_at s i).blocks - 1)))
    (λ a. done (set_rec (with_arena s a) i (with_blocks (rec_at s i) ((rec_at s i).blocks - 1)))))))

unfoldable pub remove_steps_near : Fs → ℕ → ℕ → ℕ → Out After
remove_steps_near s i c k = do
  s ← bind (remove_near s i k) (λ s. bind (nlinks_dec s c) (λ s. bind (pick (is_folder (rec_at s c).kind) (unlink_folder s i c) (done s)) (λ s. release s c)))
  s ← sync_row s i
  done (after s)

remove-steps-near : (s : Fs) (i c k : ℕ) → remove_steps s i c k ≡ remove_steps_near s i c k
unfolding remove_steps dirent_node_remove remove_steps_near
remove-steps-near s i c k =
    λ j. bind (bind (remove-near s i k j) (λ s. bind (nlinks_dec s c) (λ s. bind (pick (is_folder (rec_at s c).kind) (unlink_folder s i c) (done s)) (λ s. release s c))))
    (λ s. bind (sync_row s i) (λ s. done (after s)))

unfoldable pub remove_call_near : Bool → List ℕ → Table → ℕ → Handle → List ℕ → Out After
remove_call_near dir a t w h name = do
  i ← by_handle t w h
  _ ← good_name name
  _ ← live_folder (row_at t i).rec
  _ ← not_special name
  _ ← not_long name
  s ← find_near a (row_at t i).rec name
  o ← get_near (start_near a t) s.entry.id
  _ ← removable dir (rec_at o.state o.row)
  remove_steps_near o.state i o.row s.place

pub remove-call-near : (dir : Bool) (a : List ℕ) (t : Table) (w : ℕ) (h : Handle) (name : List ℕ) → admit a t ≡ done tt → call_remove dir a t w h name ≡ remove_call_near dir a t w h name
unfolding call_remove remove_call_near
remove-call-near dir a t w h name ok =
    λ j. bind (ok j)
    (λ _. bind (by_handle t w h)
    (λ i. bind (good_name name)
    (λ _. bind (live_folder (row_at t i).rec)
    (λ _. bind (not_special name)
    (λ _. bind (not_long name)
    (λ _. bind (find-near a (row_at t i).rec name j)
    (λ s. bind (get-near (start-near a t j) s.entry.id j)
    (λ o. bind (removable dir (rec_at o.state o.row)) (λ _. remove-steps-near o.state i o.row s.place j)))))))))

-- ---- write, resize and sync: they read nothing of a file, so they are as defined but for the test of arena and table

unfoldable pub write_near : List ℕ → Table → ℕ → Handle → ℕ → List ℕ → Out After
write_near a t w h place bytes = do
  i ← by_handle t w h
  _ ← has_contents (row_at t i).rec
  _ ← not_too_big (place + length bytes)
  s ← write_steps (start a t) i place bytes
  done (after s)

pub write-near : (a : List ℕ) (t : Table) (w : ℕ) (h : Handle) (place : ℕ) (bytes : List ℕ) → admit a t ≡ done tt → call_write a t w h place bytes ≡ write_near a t w h place bytes
unfolding call_write write_near
write-near a t w h place bytes ok = rw ok

unfoldable pub resize_near : List ℕ → Table → ℕ → Handle → ℕ → Out After
resize_near a t w h n = do
  i ← by_handle t w h
  _ ← has_contents (row_at t i).rec
  _ ← not_too_big n
  s ← resize_steps (start a t) i n
  done (after s)

pub resize-near : (a : List ℕ) (t : Table) (w : ℕ) (h : Handle) (n : ℕ) → admit a t ≡ done tt → call_resize a t w h n ≡ resize_near a t w h n
unfolding call_resize resize_near
resize-near a t w h n ok = rw ok

unfoldable pub sync_near : List ℕ → Table → Out After
sync_near a t = do
  s ← sync_from (start a t) 0 34
  done (after s)

pub sync-near : (a : List ℕ) (t : Table) → admit a t ≡ done tt → call_sync a t ≡ sync_near a t
unfolding call_sync sync_near
sync-near a t ok = rw ok

-- ---- link

unfoldable pub link_near : List ℕ → Table → ℕ → Handle → List ℕ → Handle → Out After
link_near a t w h name child = do
  i ← by_handle t w h
  c ← by_handle t w child
  _ ← new_name name
  _ ← live_folder (row_at t i).rec
  _ ← not_long name
  f ← look_near a (row_at t i).rec name
  _ ← or_exists f
  _ ← known (row_at t c).rec
  _ ← ensure (not (is_folder (row_at t c).rec.kind)) is_dir
  _ ← ensure (ltb (row_at t c).rec.nlinks 65535) too_many_links
  link_steps (start a t) i name c

pub link_near_lem : (a : List ℕ) (t : Table) (w : ℕ) (h : Handle) (name : List ℕ) (child : Handle) → admit a t ≡ done tt → call_link a t w h name child ≡ link_near a t w h name child
unfolding call_link link_near
link_near_lem a t w h name child ok =
    λ j. bind (ok j)
    (λ _. bind (by_handle t w h)
    (λ i. bind (by_handle t w child)
    (λ c. bind (new_name name)
    (λ _. bind (live_folder (row_at t i).rec)
    (λ _. bind (not_long name)
    (λ _. bind (look-near a (row_at t i).rec name j)
    (λ f. bind (or_exists f)
    (λ _. bind (known (row_at t c).rec)
    (λ _. bind (ensure (not (is_folder (row_at t c).rec.kind)) is_dir)
    (λ _. bind (ensure (ltb (row_at t c).rec.nlinks 65535) too_many_links) (λ _. link_steps (start a t) i name c)))))))))))

-- ---- move; where the new name exists it is as defined

unfoldable pub move_steps_near : Fs → ℕ → ℕ → List ℕ → List ℕ → Replaced → Out After
move_steps_near s i j old name r = do
  e ← find_near s.arena (rec_at s i) old
  pick (eqb (id_at s i) (id_at s j)) (move_within s i e name r) (move_between s i j e name r)

move-steps-near : (s : Fs) (i j : ℕ) (old name : List ℕ) (r : Replaced) → move_steps s i j old name r ≡ move_steps_near s i j old name r
unfolding move_steps move_steps_near
move-steps-near s i j old name r =
    λ z. bind (find-near s.arena (rec_at s i) old z)
    (λ e. pick (eqb (id_at s i) (id_at s j)) (move_within s i e name r) (move_between s i j e name r))

unfoldable pub move_free_near : Fs → ℕ → ℕ → List ℕ → List ℕ → Out After
move_free_near s i j old name = pick (eqb (id_at s i) (id_at s j)) (move_steps_near s i j old name none) (do
  was ← find_near s.arena (rec_at s i) old
  c ← get_near s was.entry.id
  _ ← type_in_range (rec_at c.state c.row)
  _ ← not_below c.state i j c.row
  move_steps_near c.state i j old name none)

move-free-near : (s : Fs) (i j : ℕ) (old name : List ℕ) → move_free s i j old name ≡ move_free_near s i j old name
unfolding move_free move_free_near
move-free-near s i j old name =
    λ z. pick (eqb (id_at s i) (id_at s j)) (move-steps-near s i j old name none z)
    (bind (find-near s.arena (rec_at s i) old z)
    (λ was. bind (get-near s was.entry.id z)
    (λ c. bind (type_in_range (rec_at c.state c.row))
    (λ _. bind (not_below c.state i j c.row) (λ _. move-steps-near c.state i j old name none z)))))

unfoldable pub move_to_near : Fs → ℕ → ℕ → List ℕ → List ℕ → Option ℕ → Out After
move_to_near s i j old name (Some k) = move_to s i j old name (Some k)
move_to_near s i j old name None = move_free_near s i j old name

move-to-near : (s : Fs) (i j : ℕ) (old name : List ℕ) (f : Option ℕ) → move_to s i j old name f ≡ move_to_near s i j old name f
unfolding move_to_near
move-to-near s i j old name (Some k) = λ z. move_to s i j old name (Some k)
move-to-near s i j old name None = move-free-near s i j old name

unfoldable pub move_near : List ℕ → Table → ℕ → Handle → List ℕ → Handle → List ℕ → Out After
move_near a t w h old target name = do
  i ← by_handle t w h
  j ← by_handle t w target
  _ ← good_name old
  _ ← new_name name
  _ ← live_folder (row_at t i).rec
  _ ← not_special old
  _ ← not_special name
  _ ← not_long old
  _ ← not_long name
  _ ← live_folder (row_at t j).rec
  f ← look_near a (row_at t j).rec name
  move_to_near (start a t) i j old name f

pub move-near : (a : List ℕ) (t : Table) (w : ℕ) (h : Handle) (old : List ℕ) (target : Handle) (name : List ℕ)
    → admit a t ≡ done tt → call_move a t w h old target name ≡ move_near a t w h old target name
unfolding call_move move_near
move-near a t w h old target name ok =
    λ z. bind (ok z)
    (λ _. bind (by_handle t w h)
    (λ i. bind (by_handle t w target)
    (λ j. bind (good_name old)
    (λ _. bind (new_name name)
    (λ _. bind (live_folder (row_at t i).rec)
    (λ _. bind (not_special old)
    (λ _. bind (not_special name)
    (λ _. bind (not_long old)
    (λ _. bind (not_long name)
    (λ _. bind (live_folder (row_at t j).rec)
    (λ _. bind (look-near a (row_at t j).rec name z) (λ f. move-to-near (start a t) i j old name f z))))))))))))
