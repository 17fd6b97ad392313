-- What the steps do to table and arena: a row in use keeps its id, its file and its type and is dirty; a row is loaded as it is stored, stored as it
-- is, and freed when it is clean and no live hold names it; superblock and maps are stored, a node's file is removed, and the file of a row that the
-- step works on is filled. So whatever such changes keep, the steps keep.
use mathlib.Core.Path.{◌≡◌, refl, sym, ap, ◌∙◌, subst}
use mathlib.Core.Bool.{Bool, true, false, not, ◌&&◌}
use mathlib.Core.List.{List}
use mathlib.Core.Logic.{◌≢◌, ⊎_elim}
use Prim.Native.Nat.{ℕ, zero, suc, ◌+◌, ◌*◌, ◌-◌, ◌%◌, ◌≤◌, ◌<◌}
use native.Mathlib.Omega.{arith}
use lib.Dec.{eqb, ltb, leb}
use lib.ListN.{length, drop, get_or, length-take, get_or-eq_default}
use lib.Seq.{set_out}
use Rattle.base.specs.Out.{Out, done, refused, bind, guard, Ok, went, said}
use Rattle.base.proofs.Outs.{ok-bind, ok-weaken, ok-done, above_zero}
use Rattle.base.proofs.Bools.{true-false}
use Rattle.base.proofs.Numbers.{lt-or-le}
use Rattle.base.proofs.Lists.{tab-cong}
use Rattle.base.specs.Search.{pick}
use Rattle.std.specs.Prelude.{Option, Some, None}
use Rattle.structs.specs.Layout.{record_of, record_bytes, super_bytes}
use Rattle.structs.proofs.Layouts.{length-super_bytes}
use Rattle.structs.specs.Types.{is_folder, is_type, move_verdict_of}
use Rattle.structs.specs.declared.DiskEntry.{DiskEntry}
use Rattle.structs.specs.declared.Timespec.{Timespec}
use Rattle.structs.specs.declared.MoveVerdict.{MoveVerdict}
use Rattle.structs.specs.declared.MoveVerdict.TheVariants.{Allowed, NotDir, IsDir, IfEmpty}
use Rattle.arena.specs.Fields.{File, file}
use Rattle.files.specs.Read.{there, length_of, byte_at, read_file}
use Rattle.files.specs.Store.{put_file, cut_file, make_file}
use Rattle.files_laws.specs.Laws.{Kept, Put, Drop}
use Rattle.files_laws.proofs.Parts.{file-cases}
use Rattle.files_laws.proofs.Put.{put-law}
use Rattle.files_laws.proofs.Cut.{cut-law}
use Rattle.files_laws.proofs.Drop.{drop-law}
use Rattle.table.specs.declared.Table.{Table}
use Rattle.table.specs.declared.Row.{Row}
use Rattle.table.specs.Table.{off_row, row_at, row_of, free_row, with_row, with_dirty, free_row_at, row_used, next_row}
use Rattle.table_laws.proofs.Finds.{row-found}
use Rattle.table_laws.proofs.Rows.{row_here}
use Rattle.sefs.specs.State.{Fs, with_arena}
use Rattle.sefs.specs.Records.{new_record, with_blocks}
use Rattle.sefs.specs.Meta.{meta_file, map_at, store_maps, ids, first_bit, is_used, Allocated, sync_meta, add_group, take_bit, alloc_block, free_block}
use Rattle.sefs.specs.Nodes.{Opened, rec_at, id_at, set_rec, no_row, node_file, open_in, open_at, load_node, get_node, new_node, store_row, sync_row, free_node, drop_node, release}
use Rattle.sefs.specs.Slots.{Slot}
use Rattle.sefs.specs.Folders.{put_slot, dirent_init, dirent_append, dirent_remove, dirent_node_remove, nlinks_inc, nlinks_dec, unlink_folder}
use Rattle.sefs.specs.Create.{After, after, birth, name_folder, named, link_steps}
use Rattle.sefs.specs.Close.{with_next, sync_from}
use Rattle.sefs.specs.Remove.{remove_steps}
use Rattle.sefs.specs.Contents.{resize_steps, write_steps}
use Rattle.sefs.specs.Move.{Replaced, none, node, read_slots, judge, remove_replaced, move_within, move_dots, move_links, move_parent, move_between, move_steps, not_below, move_onto, replace, move_free, move_to}
use Rattle.rules.specs.Image.{stored_bytes}
use Rattle.sefs_laws.proofs.Says.{says-ensure, says-slot-bytes, says_slot, says-find, says-cut}

-- whatever the reason
abbrev pub Any : ℕ → Type 0
Any n = Unit

pub any : {A : Type 0} (o : Out A) → Ok (λ _. Unit) Any o
any (done x) = went tt
any (refused n) = said tt

pub any-guard : {A : Type 0} {Q : A → Type 0} (b : Bool) (n : ℕ) {m : Out A} → (b ≡ true → Ok Q Any m) → Ok Q Any (guard b n m)
any-guard true n h = h refl
any-guard false n h = said tt

pub any-pick : {A : Type 0} {Q : A → Type 0} (b : Bool) (m o : Out A) → (b ≡ true → Ok Q Any m) → (b ≡ false → Ok Q Any o) → Ok Q Any (pick b m o)
any-pick true m o g h = g refl
any-pick false m o g h = h refl

-- two things that are known of an outcome
pub ok-and : {A : Type 0} {P Q : A → Type 0} {R S : ℕ → Type 0} {m : Out A} → Ok P R m → Ok Q S m → Ok (λ x. P x × Q x) R m
ok-and (went p) h = went (p, ok-done h)
ok-and (said r) h = said r

-- P holds of arena and table that are left
abbrev pub Leaves : (List ℕ → Table → Type 0) → Out Fs → Type 0
Leaves P o = Ok (λ s. P s.arena s.table) Any o

abbrev LeavesOpen : (List ℕ → Table → Type 0) → Out Opened → Type 0
LeavesOpen P o = Ok (λ x. P x.state.arena x.state.table) Any o

abbrev pub LeavesAfter : (List ℕ → Table → Type 0) → Out After → Type 0
LeavesAfter P o = Ok (λ x. P x.arena x.table) Any o

-- a row keeps its id, its file, its type and its MAC, and is dirty
abbrev pub Changes : (List ℕ → Table → Type 0) → Type 0
Changes P = (a : List ℕ) (t : Table) (i : ℕ) (r : Row) → r.id ≡ (row_at t i).id → r.rec.file ≡ (row_at t i).rec.file → r.rec.kind ≡ (row_at t i).rec.kind → r.rec.mac ≡ (row_at t i).rec.mac → r.dirty ≡ true
    → P a t → P a (with_row t i r)

-- a free row is taken for a node that has none, and is as stored
abbrev pub Loads : (List ℕ → Table → Type 0) → Type 0
Loads P = (a : List ℕ) (t : Table) (i id : ℕ) → (row_at t i).id ≡ 0 → row_of t id ≡ None → P a t → P a (with_row t i (record { id = id; dirty = false; rec = record_of (stored_bytes a id) }))

-- a clean row that no live hold names is freed
abbrev pub Frees : (List ℕ → Table → Type 0) → Type 0
Frees P = (a : List ℕ) (t : Table) (i : ℕ) → row_used t i ≡ false → (row_at t i).dirty ≡ false → P a t → P a (free_row_at t i)

-- a row's record is stored
abbrev pub Stores : (List ℕ → Table → Type 0) → Type 0
Stores P = (a b : List ℕ) (t : Table) (i : ℕ) → i < length t.rows → Put a meta_file (128 * (row_at t i).id) (record_bytes (row_at t i).rec) b → P a t → P b (with_dirty t i false)

-- superblock or maps are stored: no node's file changes, and no record
abbrev pub Metas : (List ℕ → Table → Type 0) → Type 0
Metas P = (a b : List ℕ) (t : Table) → ((g : List ℕ) → Kept a b (file 1 g)) → ((m : ℕ) → m ≢ 0 → m % 1024 ≢ 1 → stored_bytes b m ≡ stored_bytes a m) → P a t → P b t

-- a node's file is removed
abbrev pub Drops : (List ℕ → Table → Type 0) → Type 0
Drops P = (a b : List ℕ) (t : Table) (g : List ℕ) → Drop a (file 1 g) b → P a t → P b t

-- all of these: P holds through every step that makes no node and fills no file
pub record Bears (P : List ℕ → Table → Type 0) : Type 0 where
  pub changes : Changes P
  pub loads : Loads P
  pub frees : Frees P
  pub stores : Stores P
  pub metas : Metas P
  pub drops : Drops P

pub bears-and : {P Q : List ℕ → Table → Type 0} → Bears P → Bears Q → Bears (λ a t. P a t × Q a t)
bears-and K L = record {
  changes = λ a t i r e q d m y h. (K.changes a t i r e q d m y h.0, L.changes a t i r e q d m y h.1);
  loads = λ a t i id free new h. (K.loads a t i id free new h.0, L.loads a t i id free new h.1);
  frees = λ a t i unused clean h. (K.frees a t i unused clean h.0, L.frees a t i unused clean h.1);
  stores = λ a b t i l p h. (K.stores a b t i l p h.0, L.stores a b t i l p h.1);
  metas = λ a b t k q h. (K.metas a b t k q h.0, L.metas a b t k q h.1);
  drops = λ a b t g d h. (K.drops a b t g d h.0, L.drops a b t g d h.1);
}

-- the file of row i changes, and no other
abbrev pub Fills : (List ℕ → Table → Type 0) → ℕ → Type 0
Fills P i = (a b : List ℕ) (t : Table) → ((g : File) → node_file (row_at t i).rec ≢ g → Kept a b g) → P a t → P b t

-- ---- what is said of the table alone

-- a row keeps its id, its file and its type
abbrev pub Alters : (Table → Type 0) → Type 0
Alters P = (t : Table) (i : ℕ) (r : Row) → r.id ≡ (row_at t i).id → r.rec.file ≡ (row_at t i).rec.file → r.rec.kind ≡ (row_at t i).rec.kind → P t → P (with_row t i r)

-- a free row is taken, for whatever node
abbrev pub Takes : (Table → Type 0) → Type 0
Takes P = (t : Table) (i : ℕ) (r : Row) → (row_at t i).id ≡ 0 → P t → P (with_row t i r)

-- a row that no live hold names is freed
abbrev pub Yields : (Table → Type 0) → Type 0
Yields P = (t : Table) (i : ℕ) → row_used t i ≡ false → P t → P (free_row_at t i)

module _ (P : Table → Type 0) where
  pub tabled-changes : Alters P → Changes (λ a t. P t)
  tabled-changes alters a t i r e q d m y h = alters t i r e q d h

  pub tabled-stores : Alters P → Stores (λ a t. P t)
  tabled-stores alters a b t i l p h = alters t i _ refl refl refl h

  pub tabled-metas : Metas (λ a t. P t)
  tabled-metas a b t k q h = h

  pub tabled-fills : (i : ℕ) → Fills (λ a t. P t) i
  tabled-fills i a b t k h = h

  pub tabled : Alters P → Takes P → Yields P → Bears (λ a t. P t)
  tabled alters takes yields = record {
    changes = tabled-changes alters;
    loads = λ a t i id free new h. takes t i _ free h;
    frees = λ a t i unused clean h. yields t i unused h;
    stores = tabled-stores alters;
    metas = tabled-metas;
    drops = λ a b t g d h. h;
  }

-- ---- what is said of a node's file, where it is there

-- the metadata file is no node's
meta-apart : (g : List ℕ) → meta_file ≢ file 1 g
meta-apart g e = let z : ◌≡◌ {A = ℕ} 0 1 = ap (λ (x : File). x.which) e in omega arith

module _ (f : List ℕ) (Q : List ℕ → Type 0) (same : (a b : List ℕ) → Kept a b (file 1 f) → Q a → Q b) where
  abbrev Filed : List ℕ → Type 0
  Filed a = there a (file 1 f) ≡ true → Q a

  pub filed-kept : (a b : List ℕ) → Kept a b (file 1 f) → (there a (file 1 f) ≡ true → Q a) → there b (file 1 f) ≡ true → Q b
  filed-kept a b k h e = same a b k (h (sym k.exists ∙ e))

  filed-drop : (a b g : List ℕ) → Drop a (file 1 g) b → Filed a → Filed b
  filed-drop a b g d h =
      ⊎_elim
      (λ (q : file 1 g ≡ file 1 f). λ e. absurd (true-false e (subst (λ (x : File). there b x ≡ false) q d.gone)))
      (λ n. filed-kept a b (d.others (file 1 f) n) h)
      (file-cases (file 1 g) (file 1 f))

  pub filed : Bears (λ a t. there a (file 1 f) ≡ true → Q a)
  filed = record {
    changes = λ a t i r e q d m y h. h;
    loads = λ a t i id free new h. h;
    frees = λ a t i unused clean h. h;
    stores = λ a b t i l p. filed-kept a b (p.others (file 1 f) (meta-apart f));
    metas = λ a b t k q. filed-kept a b (k f);
    drops = λ a b t g d. filed-drop a b g d;
  }

-- ---- stores

pub put-any : (a : List ℕ) (f : File) (pos : ℕ) (src : List ℕ) → Ok (Put a f pos src) Any (put_file a f pos src)
put-any a f pos src = ok-weaken (λ b p. p) (λ n r. tt) (put-law a f pos src)

-- a store in another block leaves a record
put-apart : (a b : List ℕ) (pos : ℕ) (src : List ℕ) → Put a meta_file pos src b → (m : ℕ) → ((i : ℕ) → i < 112 → pos ≤ 128 * m + i → pos + length src ≤ 128 * m + i) → stored_bytes b m ≡ stored_bytes a m
unfolding stored_bytes
put-apart a b pos src P m h = tab-cong (byte_at b meta_file) (byte_at a meta_file) (128 * m) (128 * m) 112 (λ i l. P.outside (128 * m + i) (h i l))

pub other-record : (a b : List ℕ) (id : ℕ) (src : List ℕ) → length src ≡ 112 → Put a meta_file (128 * id) src b → (m : ℕ) → m ≢ id → stored_bytes b m ≡ stored_bytes a m
other-record a b id src long P m d =
    put-apart a b (128 * id) src P m (λ i l g. ⊎_elim (λ h. omega (arith, long)) (λ h. absurd (d (omega arith))) (lt-or-le id m))

-- a row that is not there is free and clean
pub row_below : (t : Table) → length t.rows ≡ 34 → (j : ℕ) → (row_at t j).id ≢ 0 → j < 34
row_below t e j z = ⊎_elim (λ l. omega arith) (λ l. absurd (z (ap (λ (x : Row). x.id) (get_or-eq_default t.rows off_row l)))) (lt-or-le j (length t.rows))

dirty-below : (t : Table) (i : ℕ) → (row_at t i).dirty ≡ true → i < length t.rows
dirty-below t i e = ⊎_elim (λ l. l) (λ l. absurd (true-false e (ap (λ (x : Row). x.dirty) (get_or-eq_default t.rows off_row l)))) (lt-or-le i (length t.rows))

-- a row that was stored is clean
clean-now : (t : Table) (i : ℕ) → (row_at (with_dirty t i false) i).dirty ≡ false
clean-now t i =
    let r : Row = record { id = (row_at t i).id; dirty = false; rec = (row_at t i).rec } in
    ⊎_elim
    (λ l. ap (λ (x : Row). x.dirty) (row_here t i r l))
    (λ l. ap (λ (rows : List Row). (get_or rows i off_row).dirty) (set_out t.rows i r l) ∙ ap (λ (x : Row). x.dirty) (get_or-eq_default t.rows off_row l))
    (lt-or-le i (length t.rows))

-- ---- superblock and maps: the table stays

pub same-alloc : (s : Fs) → Ok (λ (x : Allocated). x.state.table ≡ s.table) Any (alloc_block s)
unfolding alloc_block take_bit add_group
same-alloc s =
    ok-bind (any s.meta) λ m _.
    ok-bind {P = λ (u : Fs). u.table ≡ s.table}
    (any-pick (ltb (first_bit m) (ids m)) (done s) (add_group s m) (λ _. went refl)
    (λ _. any-guard (ltb m.super.groups 4) 17 (λ _.
    any-guard (ltb (m.super.blocks + 1024) 4294967296 && ltb (m.super.unused + 1023) 4294967296) 19 (λ _. ok-bind (says-cut Any tt tt _ _ _) λ a _. went refl)))) λ u e.
    ok-bind (any u.meta) λ x _.
    any-guard (ltb 0 x.super.unused) 19 (λ _. went e)

module _ (P : List ℕ → Table → Type 0) (metas : Metas P) where
  leaves-super : (a : List ℕ) (t : Table) (src : List ℕ) → length src ≡ 16 → P a t → Ok (λ b. P b t) Any (put_file a meta_file 0 src)
  leaves-super a t src l h =
      ok-weaken (λ b p. metas a b t (λ g. p.others (file 1 g) (meta-apart g)) (λ m z d. put-apart a b 0 src p m (λ i k g. omega (arith, l, above_zero m z))) h) (λ n r. r) (put-any a meta_file 0 src)

  leaves_map : (a : List ℕ) (t : Table) (n : ℕ) (src : List ℕ) → length src ≤ 128 → P a t → Ok (λ b. P b t) Any (put_file a meta_file (map_at n) src)
  leaves_map a t n src l h =
      ok-weaken (λ b p. metas a b t (λ g. p.others (file 1 g) (meta-apart g)) (λ m z d. put-apart a b (map_at n) src p m (λ i k g. ⊎_elim
      (λ q. absurd (omega arith))
      (λ q. ⊎_elim (λ y. omega (arith, l)) (λ y. absurd (d (let e : m ≡ 1024 * n + 1 = omega arith in omega arith))) (lt-or-le (1024 * n + 1) m))
      (lt-or-le m (1024 * n + 1)))) h) (λ n r. r) (put-any a meta_file (map_at n) src)

  leaves-maps : (a : List ℕ) (t : Table) (maps : List ℕ) (n : ℕ) → P a t → Ok (λ b. P b t) Any (store_maps a maps n)
  unfolding store_maps
  leaves-maps a t maps zero h = went h
  leaves-maps a t maps (suc n) h =
      ok-bind (leaves-maps a t maps n h) λ b k. leaves_map b t n _ (let q = length-take (128 * n + 128 - 128 * n) (drop (128 * n) maps) in omega arith) k

  pub leaves-meta : (s : Fs) → P s.arena s.table → Leaves P (sync_meta s)
  unfolding sync_meta
  leaves-meta s h =
      ok-bind (any s.meta) λ m _. ok-bind (leaves-super s.arena s.table (super_bytes m.super) (length-super_bytes m.super) h) λ a k.
      ok-bind (leaves-maps a s.table _ _ k) λ d l. went l

  leaves-free-block : (s : Fs) (id : ℕ) → P s.arena s.table → Leaves P (free_block s id)
  unfolding free_block
  leaves-free-block s id h =
      ok-bind (any s.meta) λ m _. any-guard (is_used m id) 19 (λ _. any-guard (ltb (m.super.unused + 1) 4294967296) 19 (λ _. went h))

  leaves-free-node : Drops P → (s : Fs) (i : ℕ) → P s.arena s.table → Leaves P (free_node s i)
  unfolding free_node
  leaves-free-node drops s i h =
      ok-bind (leaves-free-block s _ h) λ u k.
      ok-bind (leaves-meta u k) λ v l.
      ok-bind (ok-weaken (λ b d. d) (λ n r. tt) (drop-law v.arena (node_file (rec_at v i)))) λ b d. went (drops v.arena b v.table (rec_at v i).file d l)

-- ---- reading leaves all

module _ (P : List ℕ → Table → Type 0) where
  leaves-read : (s : Fs) (i n : ℕ) → P s.arena s.table → Leaves P (read_slots s i n)
  unfolding read_slots
  leaves-read s i zero h = went h
  leaves-read s i (suc n) h = ok-bind (leaves-read s i n h) λ u k. ok-bind (says_slot Any tt _ _ _) λ e _. went k

  leaves-judge : (v : MoveVerdict) (s : Fs) (d : ℕ) → P s.arena s.table → Leaves P (judge v s d)
  leaves-judge Allowed s d h = went h
  leaves-judge NotDir s d h = said tt
  leaves-judge IsDir s d h = said tt
  leaves-judge IfEmpty s d h = any-guard (leb (rec_at s d).blocks 2) 13 (λ _. leaves-read s d _ h)

-- ---- a node is opened: a row is loaded

-- what is loaded is what is stored
read-stored : (a : List ℕ) (id : ℕ) → Ok (λ l. l ≡ stored_bytes a id) Any (read_file a meta_file (128 * id) 112)
unfolding read_file stored_bytes
read-stored a id = any-guard (there a meta_file) 19 (λ _. any-guard (leb (128 * id + 112) (length_of a meta_file)) 19 (λ _. went refl))

module _ (P : List ℕ → Table → Type 0) (loads : Loads P) where
  leaves-load : (s : Fs) (id : ℕ) → row_of s.table id ≡ None → P s.arena s.table → LeavesOpen P (open_in s id (record_of (stored_bytes s.arena id)) false (free_row s.table))
  leaves-load s id new h = go (free_row s.table) refl
    where
      go : (f : Option ℕ) → free_row s.table ≡ f → LeavesOpen P (open_in s id (record_of (stored_bytes s.arena id)) false f)
      go (Some i) e = went (loads s.arena s.table i id (row-found s.table 0 i e).1 new h)
      go None e = said tt

  leaves_at : (s : Fs) (id : ℕ) (f : Option ℕ) → row_of s.table id ≡ f → P s.arena s.table → LeavesOpen P (open_at s id f)
  unfolding load_node
  leaves_at s id (Some i) e h = went h
  leaves_at s id None e h =
      ok-bind (read-stored s.arena id) λ l q.
      any-guard (leb (record_of l).kind 4) 19 (λ _. any-guard (there s.arena (node_file (record_of l))) 19
      (λ _. subst (λ (x : List ℕ). LeavesOpen P (open_in s id (record_of x) false (free_row s.table))) (sym q) (leaves-load s id e h)))

  pub leaves-node : (s : Fs) (id : ℕ) → P s.arena s.table → LeavesOpen P (get_node s id)
  unfolding get_node
  leaves-node s id h = ok-bind (any s.meta) λ m _. any-guard (is_used m id) 19 (λ _. leaves_at s id (row_of s.table id) refl h)

-- ---- a node is made: the table has one row more

pub leaves-new : (P : Table → Type 0) → Takes P → (s : Fs) (kind mode : ℕ) (time : Timespec) (name : List ℕ) → P s.table → LeavesOpen (λ a t. P t) (new_node s kind mode time name)
unfolding new_node
leaves-new P takes s kind mode time name h =
    ok-bind (same-alloc s) λ x e.
    any-guard (not (eqb x.id 0) && no_row (row_of x.state.table x.id)) 19 (λ _.
    ok-bind (any (make_file x.state.arena (file 1 name))) λ a _.
    go (with_arena x.state a) x.id (subst P (sym e) h) (free_row x.state.table) refl)
  where
    go : (u : Fs) (id : ℕ) → P u.table → (f : Option ℕ) → free_row u.table ≡ f → LeavesOpen (λ a t. P t) (open_in u id (new_record kind mode time name) true f)
    go u id k (Some i) e = went (takes u.table i _ (row-found u.table 0 i e).1 k)
    go u id k None e = said tt

-- ---- a row's file is filled

module _ (P : List ℕ → Table → Type 0) (i : ℕ) (fills : Fills P i) where
  leaves-filled : (s : Fs) (pos : ℕ) (src : List ℕ) → P s.arena s.table → Ok (λ b. P b s.table) Any (put_file s.arena (node_file (rec_at s i)) pos src)
  leaves-filled s pos src h = ok-weaken (λ b p. fills s.arena b s.table p.others h) (λ n r. r) (put-any s.arena (node_file (rec_at s i)) pos src)

  leaves-cut : (s : Fs) (n : ℕ) → P s.arena s.table → Ok (λ b. P b s.table) Any (cut_file s.arena (node_file (rec_at s i)) n)
  leaves-cut s n h = ok-weaken (λ b p. fills s.arena b s.table p.others h) (λ m r. tt) (cut-law s.arena (node_file (rec_at s i)) n)

  leaves-slot : (s : Fs) (k : ℕ) (l : List ℕ) → P s.arena s.table → Leaves P (put_slot s i k l)
  unfolding put_slot
  leaves-slot s k l h = ok-bind (leaves-filled s _ _ h) λ a k. went k

  leaves-parent : (s : Fs) (j : ℕ) → P s.arena s.table → Leaves P (move_parent s j i)
  unfolding move_parent
  leaves-parent s j h = any-pick (is_folder (rec_at s i).kind) (put_slot s i 1 _) (done s) (λ _. leaves-slot s 1 _ h) (λ _. went h)

  module _ (change : Changes P) where
    leaves-init : (s : Fs) (parent : ℕ) → P s.arena s.table → Leaves P (dirent_init s i parent)
    unfolding dirent_init
    leaves-init s parent h =
        ok-bind (leaves-slot (set_rec s i (with_blocks (rec_at s i) 2)) 0 _ (change s.arena s.table i _ refl refl refl refl refl h)) λ u k. leaves-slot u 1 _ k

    pub leaves-append : (s : Fs) (e : DiskEntry) → P s.arena s.table → Leaves P (dirent_append s i e)
    unfolding dirent_append
    leaves-append s e h = ok-bind (leaves-slot s _ _ h) λ u k. went (change u.arena u.table i _ refl refl refl refl refl k)

    pub leaves-remove : (s : Fs) (k : ℕ) → P s.arena s.table → Leaves P (dirent_remove s i k)
    unfolding dirent_remove
    leaves-remove s k h =
        any-guard (ltb 0 (rec_at s i).blocks) 19 (λ _.
        ok-bind (says-slot-bytes Any tt _ _ _) λ l _.
        ok-bind {P = λ (u : Fs). P u.arena u.table} (any-pick (eqb k ((rec_at s i).blocks - 1)) (done s) (put_slot s i k l) (λ _. went h) (λ _. leaves-slot s k l h)) λ u g.
        ok-bind (leaves-cut u _ g) λ a m. went (change a u.table i _ refl refl refl refl refl m))

    pub leaves-resize : (s : Fs) (n : ℕ) → P s.arena s.table → Leaves P (resize_steps s i n)
    unfolding resize_steps
    leaves-resize s n h = ok-bind (leaves-cut s n h) λ a k. went (change a s.table i _ refl refl refl refl refl k)

    pub leaves-write : (s : Fs) (place : ℕ) (bytes : List ℕ) → P s.arena s.table → Leaves P (write_steps s i place bytes)
    unfolding write_steps
    leaves-write s place bytes h =
        ok-bind (leaves-filled s place bytes h) λ a k.
        any-pick (ltb (rec_at s i).size (place + length bytes)) (resize_steps (with_arena s a) i (place + length bytes)) (done (with_arena s a))
        (λ _. leaves-resize (with_arena s a) (place + length bytes) k) (λ _. went k)

    -- a folder is born with its two slots
    pub leaves-birth : (s : Fs) (up kind : ℕ) → P s.arena s.table → Leaves P (birth s up i kind)
    unfolding birth
    leaves-birth s up kind h = any-pick (is_folder kind) (dirent_init s i (id_at s up)) (done s) (λ _. leaves-init s _ h) (λ _. went h)

-- ---- rows that change

module _ (P : List ℕ → Table → Type 0) (change : Changes P) where
  pub leaves-inc : (s : Fs) (i : ℕ) → P s.arena s.table → Leaves P (nlinks_inc s i)
  unfolding nlinks_inc
  leaves-inc s i h = any-guard (ltb (rec_at s i).nlinks 65535) 15 (λ _. went (change s.arena s.table i _ refl refl refl refl refl h))

  leaves-dec : (s : Fs) (i : ℕ) → P s.arena s.table → Leaves P (nlinks_dec s i)
  unfolding nlinks_dec
  leaves-dec s i h = any-guard (ltb 0 (rec_at s i).nlinks) 19 (λ _. went (change s.arena s.table i _ refl refl refl refl refl h))

  leaves-name-folder : (s : Fs) (i c : ℕ) → P s.arena s.table → Leaves P (name_folder s i c)
  unfolding name_folder
  leaves-name-folder s i c h = ok-bind (leaves-inc s c h) λ u k. leaves-inc u i k

  pub leaves-named : (s : Fs) (i c kind : ℕ) → P s.arena s.table → Leaves P (named s i c kind)
  unfolding named
  leaves-named s i c kind h =
      ok-bind (leaves-inc s c h) λ u k. any-pick (is_folder kind) (name_folder u i c) (done u) (λ _. leaves-name-folder u i c k) (λ _. went k)

  pub leaves-dots : (s : Fs) (i j : ℕ) → P s.arena s.table → Leaves P (move_dots s i j)
  unfolding move_dots
  leaves-dots s i j h = ok-bind (leaves-dec s i h) λ u k. leaves-inc u j k

  leaves-links : (s : Fs) (i j c : ℕ) → P s.arena s.table → Leaves P (move_links s i j c)
  unfolding move_links
  leaves-links s i j c h =
      ok-bind (says-ensure (leb (rec_at s c).kind 4) 19 tt) λ _ _. any-pick (is_folder (rec_at s c).kind) (move_dots s i j) (done s) (λ _. leaves-dots s i j h) (λ _. went h)

  leaves-unlink-folder : (s : Fs) (i c : ℕ) → P s.arena s.table → Leaves P (unlink_folder s i c)
  unfolding unlink_folder
  leaves-unlink-folder s i c h = ok-bind (leaves-dec s c h) λ u k. leaves-dec u i k

-- ---- rows that are stored

module _ (P : List ℕ → Table → Type 0) (stores : Stores P) where
  leaves-store : (s : Fs) (i : ℕ) → (row_at s.table i).dirty ≡ true → P s.arena s.table → Ok (λ (d : Fs). P d.arena d.table × (d.table ≡ with_dirty s.table i false)) Any (store_row s i)
  unfolding store_row
  leaves-store s i d h = ok-bind (put-any s.arena meta_file (128 * id_at s i) (record_bytes (rec_at s i))) λ b p. went (stores s.arena b s.table i (dirty-below s.table i d) p h, refl)

  pub leaves-sync : (s : Fs) (i : ℕ) → P s.arena s.table → Leaves P (sync_row s i)
  unfolding sync_row
  leaves-sync s i h = any-pick (row_at s.table i).dirty (store_row s i) (done s) (λ e. ok-weaken (λ d k. k.0) (λ n r. r) (leaves-store s i e h)) (λ _. went h)

  pub leaves-sync-all : (s : Fs) (low n : ℕ) → P s.arena s.table → Leaves P (sync_from s low n)
  unfolding sync_from
  leaves-sync-all s low zero h = went h
  leaves-sync-all s low (suc n) h = go (next_row s.table low) (λ u m k. leaves-sync-all u m n k)
    where
      go : (f : Option ℕ) → ((u : Fs) (m : ℕ) → P u.arena u.table → Leaves P (sync_from u m n)) → Leaves P (with_next f s (λ i. bind (sync_row s i) (λ d. sync_from d (id_at s i) n)))
      go (Some i) rest = ok-bind (leaves-sync s i h) λ d k. rest d (id_at s i) k
      go None rest = went h

  pub leaves-link : Changes P → (s : Fs) (i : ℕ) → Fills P i → (name : List ℕ) (c : ℕ) → P s.arena s.table → LeavesAfter P (link_steps s i name c)
  unfolding link_steps
  leaves-link change s i fills name c h =
      ok-bind (leaves-append P i fills change s _ h) λ s h. ok-bind (leaves-inc P change s c h) λ s h. ok-bind (leaves-sync s c h) λ s h. ok-bind (leaves-sync s i h) λ s h. went h

-- ---- rows that are freed

module _ (P : List ℕ → Table → Type 0) (K : Bears P) where
  -- it is not held, and clean
  drop-spare : (s : Fs) (i : ℕ) → row_used s.table i ≡ false → P s.arena s.table
      → Leaves (λ a t. P a t × (row_used t i ≡ false) × ((row_at t i).dirty ≡ false)) (sync_row s i)
  unfolding sync_row row_used
  drop-spare s i e h =
      any-pick (row_at s.table i).dirty (store_row s i) (done s)
      (λ q. ok-weaken (λ d k. (k.0, ap (λ (t : Table). row_used t i) k.1 ∙ e, ap (λ (t : Table). (row_at t i).dirty) k.1 ∙ clean-now s.table i)) (λ n r. r) (leaves-store P K.stores s i q h))
      (λ q. went (h, e, q))

  pub leaves-drop : (s : Fs) (i : ℕ) → row_used s.table i ≡ false → P s.arena s.table → Leaves P (drop_node s i)
  unfolding drop_node
  leaves-drop s i e h =
      ok-bind (drop-spare s i e h) λ u k.
      ok-bind {P = λ (v : Fs). P v.arena v.table × (row_used v.table i ≡ false) × ((row_at v.table i).dirty ≡ false)}
      (any-pick (eqb (rec_at u i).nlinks 0) (free_node u i) (done u)
      (λ _. leaves-free-node (λ a t. P a t × (row_used t i ≡ false) × ((row_at t i).dirty ≡ false)) (λ a b t k q h. (K.metas a b t k q h.0, h.1, h.2)) (λ a b t g d h. (K.drops a b t g d h.0, h.1, h.2)) u i k)
      (λ _. went k)) λ v l.
      went (K.frees v.arena v.table i l.1 l.2 l.0)

  pub leaves-release : (s : Fs) (i : ℕ) → P s.arena s.table → Leaves P (release s i)
  unfolding release
  leaves-release s i h = any-pick (row_used s.table i) (done s) (drop_node s i) (λ _. went h) (λ e. leaves-drop s i e h)

  -- once its slot is gone: links fall, and the node is let go
  pub leaves-unlinked : (s : Fs) (i c : ℕ) → P s.arena s.table → Leaves P (bind (nlinks_dec s c) (λ s. bind (pick (is_folder (rec_at s c).kind) (unlink_folder s i c) (done s)) (λ s. release s c)))
  leaves-unlinked s i c h =
      ok-bind (leaves-dec P K.changes s c h) λ v l.
      ok-bind {P = λ (w : Fs). P w.arena w.table} (any-pick (is_folder (rec_at v c).kind) (unlink_folder v i c) (done v) (λ _. leaves-unlink-folder P K.changes v i c l) (λ _. went l)) λ w m.
      leaves-release w c m

  leaves-node-remove : (s : Fs) (i : ℕ) → Fills P i → (c k : ℕ) → P s.arena s.table → Leaves P (dirent_node_remove s i c k)
  unfolding dirent_node_remove
  leaves-node-remove s i fills c k h = ok-bind (leaves-remove P i fills K.changes s k h) λ u g. leaves-unlinked u i c g

  pub leaves-steps : (s : Fs) (i : ℕ) → Fills P i → (c k : ℕ) → P s.arena s.table → LeavesAfter P (remove_steps s i c k)
  unfolding remove_steps
  leaves-steps s i fills c k h = ok-bind (leaves-node-remove s i fills c k h) λ u g. ok-bind (leaves-sync P K.stores u i g) λ v l. went l

  pub leaves-replaced : (s : Fs) (j : ℕ) → Fills P j → (r : Replaced) → P s.arena s.table → Leaves P (remove_replaced s j r)
  leaves-replaced s j fills none h = went h
  leaves-replaced s j fills (node d k) h = leaves-node-remove s j fills d k h

  pub leaves-within : (s : Fs) (i : ℕ) → Fills P i → (old : Slot) (name : List ℕ) (r : Replaced) → P s.arena s.table → LeavesAfter P (move_within s i old name r)
  unfolding move_within
  leaves-within s i fills old name r h =
      ok-bind (leaves-slot P i fills s _ _ h) λ s h. ok-bind (leaves-replaced s i fills r h) λ s h. ok-bind (leaves-sync P K.stores s i h) λ s h. went h

  -- ---- a move, whose two folders are rows i and j. It fills the moved folder too

  -- once the slots are in place
  pub leaves-moved : (i j : ℕ) → ((s : Fs) (c : ℕ) → P s.arena s.table → Leaves P (move_parent s j c)) → (s : Fs) (id : ℕ) → P s.arena s.table
      → LeavesAfter P (bind (get_node s id) (λ o. bind (move_links o.state i j o.row) (λ s. bind (move_parent s j o.row) (λ s.
      bind (sync_row s i) (λ s. bind (sync_row s j) (λ s. bind (release s o.row) (λ s. done (after s))))))))
  leaves-moved i j parent s id h =
      ok-bind (leaves-node P K.loads s id h) λ o h.
      ok-bind (leaves-links P K.changes o.state i j o.row h) λ s h.
      ok-bind (parent s o.row h) λ s h.
      ok-bind (leaves-sync P K.stores s i h) λ s h.
      ok-bind (leaves-sync P K.stores s j h) λ s h.
      ok-bind (leaves-release s o.row h) λ s h. went h

  module _ (i j : ℕ) (fills : (c : ℕ) → Fills P c) where
    leaves-between : (s : Fs) (old : Slot) (name : List ℕ) (r : Replaced) → P s.arena s.table → LeavesAfter P (move_between s i j old name r)
    unfolding move_between
    leaves-between s old name r h =
        ok-bind (leaves-append P j (fills j) K.changes s _ h) λ s h.
        ok-bind (leaves-remove P i (fills i) K.changes s _ h) λ s h.
        ok-bind (leaves-replaced s j (fills j) r h) λ s h.
        leaves-moved i j (λ s c. leaves-parent P c (fills c) s j) s old.entry.id h

    leaves-move-steps : (s : Fs) (old name : List ℕ) (r : Replaced) → P s.arena s.table → LeavesAfter P (move_steps s i j old name r)
    unfolding move_steps
    leaves-move-steps s old name r h =
        ok-bind (says-find Any tt tt _ _ _) λ e _.
        any-pick (eqb (id_at s i) (id_at s j)) (move_within s i e name r) (move_between s i j e name r) (λ _. leaves-within s i (fills i) e name r h) (λ _. leaves-between s e name r h)

    leaves-onto : (s : Fs) (old name : List ℕ) (c d k : ℕ) → P s.arena s.table → LeavesAfter P (move_onto s i j old name c d k)
    unfolding move_onto
    leaves-onto s old name c d k h =
        ok-bind (leaves-judge P (move_verdict_of (rec_at s c).kind (rec_at s d).kind) s d h) λ s h.
        ok-bind (any (not_below s i j c)) λ _ _.
        ok-bind (leaves-release s c h) λ s h. leaves-move-steps s old name (node d k) h

    leaves-replace : (s : Fs) (old name : List ℕ) (k : ℕ) → P s.arena s.table → LeavesAfter P (replace s i j old name k)
    unfolding replace
    leaves-replace s old name k h =
        ok-bind (says_slot Any tt _ _ _) λ new _.
        ok-bind (says-find Any tt tt _ _ _) λ was _.
        ok-bind (leaves-node P K.loads s new.id h) λ d g.
        ok-bind (leaves-node P K.loads d.state was.entry.id g) λ c l.
        ok-bind (says-ensure (is_type (rec_at c.state c.row).kind) 19 tt) λ _ _.
        ok-bind (says-ensure (is_type (rec_at c.state d.row).kind) 19 tt) λ _ _.
        any-pick (eqb was.entry.id new.id) (done (after s)) (move_onto c.state i j old name c.row d.row k) (λ _. went h) (λ _. leaves-onto c.state old name c.row d.row k l)

    leaves-move-free : (s : Fs) (old name : List ℕ) → P s.arena s.table → LeavesAfter P (move_free s i j old name)
    unfolding move_free
    leaves-move-free s old name h =
        any-pick (eqb (id_at s i) (id_at s j)) (move_steps s i j old name none) _ (λ _. leaves-move-steps s old name none h) λ _.
        ok-bind (says-find Any tt tt _ _ _) λ was _.
        ok-bind (leaves-node P K.loads s was.entry.id h) λ c g.
        ok-bind (says-ensure (leb (rec_at c.state c.row).kind 4) 19 tt) λ _ _.
        ok-bind (any (not_below c.state i j c.row)) λ _ _. leaves-move-steps c.state old name none g

    pub leaves-move : (s : Fs) (old name : List ℕ) (f : Option ℕ) → P s.arena s.table → LeavesAfter P (move_to s i j old name f)
    leaves-move s old name (Some k) h = leaves-replace s old name k h
    leaves-move s old name None h = leaves-move-free s old name h
