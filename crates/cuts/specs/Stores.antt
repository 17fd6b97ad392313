-- Order 12: "Take a store to be one write of a superblock, map, record or slot, one length change, or one file made, each whole."
use Rattle.std.specs.Prelude.{List, [], ◌∷◌, ℕ, ◌*◌, take}
use Rattle.base.specs.Out.{Out, done, ◌>>=◌}
use Rattle.structs.specs.Layout.{super_bytes, record_bytes, entry_bytes}
use Rattle.structs.specs.declared.SuperBlock.{SuperBlock}
use Rattle.structs.specs.declared.DiskINode.{DiskINode}
use Rattle.structs.specs.declared.DiskEntry.{DiskEntry}
use Rattle.arena.specs.Fields.{File}
use Rattle.files.specs.Store.{put_file, cut_file, make_file}
use Rattle.sefs.specs.Meta.{meta_file, map_at}

pub data Store : Type 0 where
  -- "one write of a superblock, map, record or slot": the map of group g, the record of node id, slot k of a folder's file
  super : SuperBlock → Store
  map : (g : ℕ) → List ℕ → Store
  node : (id : ℕ) → DiskINode → Store
  slot : File → (k : ℕ) → DiskEntry → Store
  -- "one length change"
  long : File → (len : ℕ) → Store
  -- "or one file made"
  make : File → Store

-- "each whole": the arena after one store, which is one put, cut or make, however many of its blocks it touches. (A slot at a file's end raises
-- the length too: 000 has one write for both.)
unfoldable pub after_store : Store → List ℕ → Out (List ℕ)
after_store (super b) a = put_file a meta_file 0 (super_bytes b)
after_store (map g l) a = put_file a meta_file (map_at g) l
after_store (node id r) a = put_file a meta_file (128 * id) (record_bytes r)
after_store (slot f k e) a = put_file a f (264 * k) (entry_bytes e)
after_store (long f len) a = cut_file a f len
after_store (make f) a = make_file a f

-- and after several, one after another
unfoldable pub after_stores : List Store → List ℕ → Out (List ℕ)
after_stores [] a = done a
after_stores (s ∷ l) a = do
  b ← after_store s a
  after_stores l b

-- "stop it between any two stores": after the first n of them
unfoldable pub cut_after : ℕ → List Store → List ℕ → Out (List ℕ)
cut_after n l a = after_stores (take n l) a
