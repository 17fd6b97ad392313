-- What the steps inside a node's steps are, for their contracts.
use Rattle.std.specs.Prelude.{true, not, ◌&&◌, List, ℕ, eqb}
use Rattle.base.specs.Out.{Out, done, bind, guard}
use Rattle.base.specs.Reasons.{stuck}
use Rattle.structs.specs.declared.Timespec.{Timespec}
use Rattle.table.specs.Table.{row_of, free_row}
use Rattle.arena.specs.Fields.{file}
use Rattle.files.specs.Store.{make_file, drop_file}
use Rattle.sefs.specs.State.{Fs, Meta, with_arena}
use Rattle.sefs.specs.Meta.{sync_meta}
use Rattle.sefs.specs.Records.{new_record}
use Rattle.sefs.specs.Nodes.{Opened, no_row, open_in, node_file, rec_at}
use Rattle.mem.specs.Mem.{super_in, maps_in}

-- superblock and maps in memory, where they could be read
abbrev pub meta_of : List ℕ → Meta
meta_of m = record { super = super_in m; maps = maps_in m }

-- what `new_node` does with the id that it allocated
unfoldable pub made_node : Fs → ℕ → ℕ → ℕ → Timespec → List ℕ → Out Opened
made_node s id kind mode time name =
    guard (not (eqb id 0) && no_row (row_of s.table id)) stuck
    (bind (make_file s.arena (file 1 name)) (λ a. open_in (with_arena s a) id (new_record kind mode time name) true (free_row s.table)))

-- what `free_node` does when the id is free
unfoldable pub remove_node : Fs → ℕ → Out Fs
remove_node s i = bind (sync_meta s) (λ s. bind (drop_file s.arena (node_file (rec_at s i))) (λ a. done (with_arena s a)))
