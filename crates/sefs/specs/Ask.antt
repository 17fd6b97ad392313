-- What a call asks before its steps: the reasons that every call can give, in document 01's order, and those about folders and names.
use Rattle.std.specs.Prelude.{not, List, ℕ, length, eqb, ltb, leb, Option, Some, None}
use Rattle.structs.specs.Types.{is_folder, is_type}
use Rattle.base.specs.Out.{Out, done, refused, ensure, ◌>>=◌}
use Rattle.base.specs.Reasons.{bad_arena, damaged, bad_table, bad_handle, bad_name, invalid_param, not_dir, dir_removed, name_too_long, stuck, entry_exist, is_dir}
use Rattle.structs.specs.declared.DiskINode.{DiskINode}
use Rattle.utf8.specs.Names.{name_verdict, early_reason, new_reason, is_special}
use Rattle.table.specs.declared.Table.{Table}
use Rattle.table.specs.declared.Handle.{Handle}
use Rattle.table.specs.Table.{live_row, is_owner}
use Rattle.table.specs.Formed.{well_formed}
use Rattle.arena.specs.Blocks.{legal}
use Rattle.sound.specs.Sound.{sound}
use Rattle.sefs.specs.State.{Fs}
use Rattle.sefs.specs.Meta.{load_meta}

-- reasons 1 and 2: "length not 16 to 4,096 whole blocks", "arena not sound"
unfoldable pub admit_arena : List ℕ → Out Unit
admit_arena a = do
  _ ← ensure (legal a) bad_arena
  ensure (sound a) damaged

-- and reason 3: "table not well formed"
unfoldable pub admit : List ℕ → Table → Out Unit
admit a t = do
  _ ← admit_arena a
  ensure (well_formed t) bad_table

-- order 5: "6 for an owner outside 1 to 4, right after 3"
abbrev pub an_owner : ℕ → Out Unit
an_owner w = ensure (is_owner w) invalid_param

-- reason 4: "not a live hold with that stamp"; else its row
abbrev pub or_bad_handle : Option ℕ → Out ℕ
or_bad_handle (Some i) = done i
or_bad_handle None = refused bad_handle

-- order 5: "Every call that takes or makes a handle says who asks": w, and so "4 for another's handle"
unfoldable pub by_handle : Table → ℕ → Handle → Out ℕ
by_handle t w h = do
  _ ← an_owner w
  or_bad_handle (live_row t w h)

-- reason 5: "zero byte inside, or not UTF-8"
abbrev pub good_name : List ℕ → Out Unit
good_name name = ensure (eqb (early_reason (name_verdict name)) 0) bad_name

-- order 4, of a new name: "5 also for a slash in those three, in its old place"
abbrev pub new_name : List ℕ → Out Unit
new_name name = ensure (eqb (new_reason (name_verdict name)) 0) bad_name

-- reason 10: "over 255 bytes"
abbrev pub not_long : List ℕ → Out Unit
not_long name = ensure (leb (length name) 255) name_too_long

-- reason 9 for `.`, `..` and the empty name
abbrev pub not_special : List ℕ → Out Unit
not_special name = ensure (not (is_special name)) is_dir

-- 000 takes metadata: "type 0 where 000 takes metadata" and "a type above 4" stick
abbrev pub known : DiskINode → Out Unit
known r = ensure (is_type r.kind) stuck

-- 000 looks at the type alone: one above 4 sticks, and type 0 goes on
abbrev pub type_in_range : DiskINode → Out Unit
type_in_range r = ensure (leb r.kind 4) stuck

-- reason 7, once the type is known
abbrev pub folder : DiskINode → Out Unit
folder r = ensure (is_folder r.kind) not_dir

-- reason 8: "links 0"
abbrev pub not_removed : DiskINode → Out Unit
not_removed r = ensure (ltb 0 r.nlinks) dir_removed

-- a folder that something is done in: its metadata, 7, 8
unfoldable pub live_folder : DiskINode → Out Unit
live_folder r = do
  _ ← known r
  _ ← folder r
  not_removed r

-- none was found, or 12
abbrev pub or_exists : Option ℕ → Out Unit
or_exists (Some k) = refused entry_exist
or_exists None = done tt

-- the state at a call's start
abbrev pub start : List ℕ → Table → Fs
start a t = record { arena = a; table = t; meta = load_meta a }
