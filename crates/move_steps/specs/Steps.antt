-- Parts of the steps of move, as the code's functions have them.
use Rattle.std.specs.Prelude.{List, ℕ, ◌<◌, eqb}
use Rattle.base.specs.Out.{Out, ◌>>=◌}
use Rattle.base.specs.Search.{pick}
use Rattle.structs.specs.Layout.{entry_bytes}
use Rattle.structs.specs.declared.DiskEntry.{DiskEntry}
use Rattle.sefs.specs.State.{Fs}
use Rattle.sefs.specs.Nodes.{rec_at, id_at, get_node, sync_row, release}
use Rattle.sefs.specs.Slots.{find_slot}
use Rattle.sefs.specs.Folders.{put_slot, dirent_append, dirent_remove}
use Rattle.sefs.specs.Move.{Replaced, none, node, remove_replaced, renamed, move_links, move_parent}
use Rattle.steps.specs.Steps.{sync_two}
use Rattle.move_steps.specs.declared.Gone.{Gone}
use Rattle.move_steps.specs.declared.Gone.TheVariants.{Free, Node}

-- ---- the node that is replaced, as the code has it

abbrev pub replaced_of : Gone → Replaced
replaced_of Free = none
replaced_of (Node d k) = node d k

-- where there is one, it has a row
abbrev pub InRow : Gone → Type 0
InRow Free = Unit
InRow (Node d k) = d < 34

unfoldable pub remove_gone : Fs → ℕ → Gone → Out Fs
remove_gone s j g = remove_replaced s j (replaced_of g)

-- ---- the steps, with the moved slot e

-- within one folder, at slot k
unfoldable pub within_folder : Fs → ℕ → ℕ → DiskEntry → Gone → Out Fs
within_folder s i k e g = do
  s ← put_slot s i k (entry_bytes e)
  s ← remove_gone s i g
  sync_row s i

-- the moved node is in row c: its slot 1, and the folders' records
unfoldable pub end_folders : Fs → ℕ → ℕ → ℕ → Out Fs
end_folders s i j c = do
  s ← move_parent s j c
  sync_two s j i

unfoldable pub end_move : Fs → ℕ → ℕ → ℕ → Out Fs
end_move s i j c = do
  s ← move_links s i j c
  s ← end_folders s i j c
  release s c

unfoldable pub open_moved : Fs → ℕ → ℕ → ℕ → Out Fs
open_moved s i j id = do
  o ← get_node s id
  end_move o.state i j o.row

-- the slots are moved
unfoldable pub rest_move : Fs → ℕ → ℕ → ℕ → Gone → Out Fs
rest_move s i j id g = do
  s ← remove_gone s j g
  open_moved s i j id

-- from slot k of the source to the target's end
unfoldable pub between_folders : Fs → ℕ → ℕ → ℕ → DiskEntry → Gone → Out Fs
between_folders s i j k e g = do
  s ← dirent_append s j e
  s ← dirent_remove s i k
  rest_move s i j e.id g

unfoldable pub move_slot : Fs → ℕ → ℕ → ℕ → DiskEntry → Gone → Out Fs
move_slot s i j k e g = pick (eqb (id_at s i) (id_at s j)) (within_folder s i k e g) (between_folders s i j k e g)

-- the slot is found by its name
unfoldable pub move_named : Fs → ℕ → ℕ → List ℕ → List ℕ → Gone → Out Fs
move_named s i j old name g = do
  f ← find_slot s.arena (rec_at s i) old
  move_slot s i j f.place (renamed f.entry name) g

-- ---- the new name exists

-- node c in the place of node d, which slot k of the target names
unfoldable pub move_over : Fs → ℕ → ℕ → List ℕ → List ℕ → ℕ → ℕ → ℕ → Out Fs
move_over s i j old name c d k = do
  s ← release s c
  move_named s i j old name (Node d k)
