-- A folder's slots, read (000's read_direntry and the lookups).
use Rattle.std.specs.Prelude.{Bool, true, false, List, ℕ, zero, suc, ◌*◌, ltb, leb, Option, Some, None}
use Rattle.base.specs.Out.{Out, done, refused, guard, ◌>>=◌}
use Rattle.base.specs.Reasons.{stuck, entry_not_found}
use Rattle.base.specs.Search.{pick, found_below}
use Rattle.structs.specs.Layout.{entry_of}
use Rattle.structs.specs.declared.DiskEntry.{DiskEntry}
use Rattle.structs.specs.declared.DiskINode.{DiskINode}
use Rattle.utf8.specs.Names.{stored_name, is_named}
use Rattle.utf8.specs.declared.StoredName.{StoredName}
use Rattle.utf8.specs.declared.StoredName.TheVariants.{Ended, Broken}
use Rattle.files.specs.Read.{read_file}
use Rattle.sefs.specs.Nodes.{node_file}

-- the 264 bytes of slot k. "A type above 4 read" sticks, whoever reads it
unfoldable pub slot_bytes : List ℕ → DiskINode → ℕ → Out (List ℕ)
slot_bytes a r k = do
  l ← read_file a (node_file r) (264 * k) 264
  guard (leb (entry_of l).kind 4) stuck (done l)

-- the name is ended and is UTF-8
abbrev pub is_ended : StoredName → Bool
is_ended (Ended n) = true
is_ended Broken = false

-- slot k, where its name is looked at: "a stored name with no zero or not UTF-8" sticks
unfoldable pub slot_at : List ℕ → DiskINode → ℕ → Out DiskEntry
slot_at a r k = do
  l ← slot_bytes a r k
  guard (is_ended (stored_name (entry_of l).name)) stuck (done (entry_of l))

-- "Lookup reads slots in order; the empty name means `.`": the lowest of the first n slots with that name, or n. Slots after it are not read
unfoldable pub look_to : List ℕ → DiskINode → List ℕ → ℕ → Out ℕ
look_to a r name zero = done 0
look_to a r name (suc n) = do
  k ← look_to a r name n
  pick (ltb k n) (done k) (do
    e ← slot_at a r n
    done (pick (is_named e.name name) n (suc n)))

unfoldable pub lookup : List ℕ → DiskINode → List ℕ → Out (Option ℕ)
lookup a r name = do
  k ← look_to a r name r.blocks
  done (found_below k r.blocks)

-- a slot that was found: its place, and what it holds
pub record Slot : Type 0 where
  pub place : ℕ
  pub entry : DiskEntry

-- the place that a lookup found, or 11
abbrev pub or_not_found : Option ℕ → Out ℕ
or_not_found (Some k) = done k
or_not_found None = refused entry_not_found

-- the first slot with that name; 11 where there is none
unfoldable pub find_slot : List ℕ → DiskINode → List ℕ → Out Slot
find_slot a r name = do
  f ← lookup a r name
  k ← or_not_found f
  e ← slot_at a r k
  done (record { place = k; entry = e })
