-- Each step of create that was done did its stores; the rows of the new node and of the parent are followed exactly.
use mathlib.Core.Path.{◌≡◌, refl, sym, ap, ◌∙◌, subst}
use mathlib.Core.Bool.{Bool, true, false}
use mathlib.Core.List.{List, [], ◌∷◌}
use mathlib.Core.Logic.{◌≢◌, ⊎_elim}
use Prim.Native.Nat.{ℕ, ◌+◌, ◌*◌, ◌<◌}
use native.Mathlib.Omega.{arith}
use lib.Dec.{ltb}
use lib.ListN.{length, length-set}
use Rattle.base.specs.Out.{Out, done, bind, guard, kept}
use Rattle.base.specs.Search.{pick}
use Rattle.base.proofs.Finds.{eq-cases}
use Rattle.base.proofs.Outs.{bind-is-done}
use Rattle.structs.specs.Constants.{type_dir}
use Rattle.structs.specs.Layout.{entry_bytes, record_bytes, super_bytes}
use Rattle.structs.specs.declared.DiskEntry.{DiskEntry}
use Rattle.structs.specs.declared.DiskINode.{DiskINode}
use Rattle.arena.specs.Fields.{File}
use Rattle.table.specs.declared.Row.{Row}
use Rattle.table.specs.declared.Table.{Table}
use Rattle.table.specs.Table.{row_at, with_row}
use Rattle.table_laws.proofs.Rows.{row_here, row_apart}
use Rattle.files.specs.Store.{put_file}
use Rattle.sefs.specs.State.{Fs, Meta, with_arena, with_table}
use Rattle.sefs.specs.Records.{with_links, with_blocks}
use Rattle.sefs.specs.Meta.{meta_file, store_maps, sync_meta}
use Rattle.sefs.specs.Nodes.{node_file, rec_at, id_at, set_rec, store_row, sync_row}
use Rattle.sefs.specs.Folders.{entry, dots_entry, put_slot, dirent_init, dirent_append, nlinks_inc}
use Rattle.cuts.specs.Stores.{Store, super, slot, node, after_store, after_stores}
use Rattle.cuts.specs.Creates.{map_stores}
use Rattle.cuts.specs.Premise.{NoneDirty}
use Rattle.cuts.proofs.Stores.{all_then, maps-all}

pub done-is : {A : Type 0} {x y : A} → done x ≡ done y → x ≡ y
done-is {x = x} e = ap (kept x) e

-- a test that was passed
pub guard-is-done : {A : Type 0} (b : Bool) (n : ℕ) (m : Out A) (x : A) → guard b n m ≡ done x → (b ≡ true) × (m ≡ done x)
guard-is-done true n m x e = (refl, e)
guard-is-done false n m x e = absurd (let z : ◌≡◌ {A = ℕ} 0 1 = cc in omega arith)

-- ---- rows

-- row c, the new node's, is x; row i, the parent's, is y; no other is dirty
pub record Rows (c i : ℕ) (x y : Row) (t : Table) : Type 0 where
  pub long : length t.rows ≡ 34
  pub child : row_at t c ≡ x
  pub parent : row_at t i ≡ y
  pub rest : (j : ℕ) → j < 34 → j ≢ c → j ≢ i → (row_at t j).dirty ≡ false

-- a step that did the stores l, and left rows x and y
pub record Step (c i : ℕ) (l : List Store) (x y : Row) (s d : Fs) : Type 0 where
  pub by : after_stores l s.arena ≡ done d.arena
  pub rows : Rows c i x y d.table
  pub meta : d.meta ≡ s.meta

-- a row with a record, dirty or clean
abbrev pub marked : ℕ → DiskINode → Row
marked id r = record { id = id; dirty = true; rec = r }

abbrev pub clean : ℕ → DiskINode → Row
clean id r = record { id = id; dirty = false; rec = r }

-- a record with a link more, or a slot more
abbrev link_more : DiskINode → DiskINode
link_more r = with_links r (r.nlinks + 1)

abbrev pub slot_more : DiskINode → DiskINode
slot_more r = with_blocks r (r.blocks + 1)

-- a folder's first slot, `.`
abbrev pub dot_entry : ℕ → DiskEntry
dot_entry id = entry id (46 ∷ []) type_dir

-- a slot is written
put_step : (s d : Fs) (j k : ℕ) (e : DiskEntry) (f : File) → node_file (rec_at s j) ≡ f → put_slot s j k (entry_bytes e) ≡ done d
    → (after_stores (slot f k e ∷ []) s.arena ≡ done d.arena) × (d.table ≡ s.table) × (d.meta ≡ s.meta)
unfolding put_slot after_stores after_store
put_step s d j k e f q h =
    let x = bind-is-done (put_file s.arena (node_file (rec_at s j)) (264 * k) (entry_bytes e)) (λ a. done (with_arena s a)) d h in
    let z : with_arena s x.0 ≡ d = done-is x.2 in (
      ap (λ (g : File). bind (put_file s.arena g (264 * k) (entry_bytes e)) (λ b. done b)) (sym q)
          ∙ ap (λ (o : Out (List ℕ)). bind o (λ b. done b)) x.1 ∙ ap (λ (y : Fs). done y.arena) z,
      sym (ap (λ (y : Fs). y.table) z),
      sym (ap (λ (y : Fs). y.meta) z),
    )

module _ (c i : ℕ) (lc : c < 34) (li : i < 34) (apart : i ≡ c → ⊥) where
  pub rows_child : (x y r : Row) (t : Table) → Rows c i x y t → Rows c i r y (with_row t c r)
  rows_child x y r t R = record {
    long = length-set t.rows c r ∙ R.long;
    child = row_here t c r (omega (arith, lc, R.long));
    parent = row_apart t c r i apart ∙ R.parent;
    rest = λ j l d e. ap (λ (x : Row). x.dirty) (row_apart t c r j d) ∙ R.rest j l d e;
  }

  rows-parent : (x y r : Row) (t : Table) → Rows c i x y t → Rows c i x r (with_row t i r)
  rows-parent x y r t R = record {
    long = length-set t.rows i r ∙ R.long;
    child = row_apart t i r c (λ q. apart (sym q)) ∙ R.child;
    parent = row_here t i r (omega (arith, li, R.long));
    rest = λ j l d e. ap (λ (x : Row). x.dirty) (row_apart t i r j e) ∙ R.rest j l d e;
  }

  -- ---- a link more

  pub inc-child : (x y : Row) (s d : Fs) → Rows c i x y s.table → nlinks_inc s c ≡ done d → Step c i [] (marked x.id (link_more x.rec)) y s d
  unfolding nlinks_inc after_stores
  inc-child x y s d R h =
      let r : DiskINode = link_more (rec_at s c) in
      let g = guard-is-done (ltb (rec_at s c).nlinks 65535) 15 (done (set_rec s c r)) d h in
      subst (Step c i [] (marked x.id (link_more x.rec)) y s) (done-is g.1)
      (record {
        by = refl;
        rows = subst (λ (z : Row). Rows c i (marked z.id (link_more z.rec)) y (set_rec s c r).table) R.child
            (rows_child x y (marked (id_at s c) r) s.table R);
        meta = refl;
      })

  pub inc-parent : (x y : Row) (s d : Fs) → Rows c i x y s.table → nlinks_inc s i ≡ done d → Step c i [] x (marked y.id (link_more y.rec)) s d
  unfolding nlinks_inc after_stores
  inc-parent x y s d R h =
      let r : DiskINode = link_more (rec_at s i) in
      let g = guard-is-done (ltb (rec_at s i).nlinks 65535) 15 (done (set_rec s i r)) d h in
      subst (Step c i [] x (marked y.id (link_more y.rec)) s) (done-is g.1)
      (record {
        by = refl;
        rows = subst (λ (z : Row). Rows c i x (marked z.id (link_more z.rec)) (set_rec s i r).table) R.parent
            (rows-parent x y (marked (id_at s i) r) s.table R);
        meta = refl;
      })

  -- ---- a new folder's two slots

  -- after the first of them
  pub record Dotted (x : Row) (s d : Fs) (up : ℕ) : Type 0 where
    pub mid : Fs
    pub put : put_slot (set_rec s c (with_blocks (rec_at s c) 2)) c 0 (entry_bytes (dot_entry x.id)) ≡ done mid
    pub by : after_stores (slot (node_file x.rec) 0 (dot_entry x.id) ∷ []) s.arena ≡ done mid.arena
    pub table : mid.table ≡ (set_rec s c (with_blocks (rec_at s c) 2)).table
    pub meta : mid.meta ≡ s.meta
    pub then : put_slot mid c 1 (entry_bytes (dots_entry up)) ≡ done d

  -- the record counts both before the first is written
  counted : (x y : Row) (s : Fs) → Rows c i x y s.table → Rows c i (marked x.id (with_blocks x.rec 2)) y (set_rec s c (with_blocks (rec_at s c) 2)).table
  counted x y s R =
      let r : DiskINode = with_blocks (rec_at s c) 2 in
      subst (λ (z : Row). Rows c i (marked z.id (with_blocks z.rec 2)) y (set_rec s c r).table) R.child
      (rows_child x y (marked (id_at s c) r) s.table R)

  pub init-dot : (x y : Row) (s d : Fs) (up : ℕ) → Rows c i x y s.table → dirent_init s c up ≡ done d → Dotted x s d up
  unfolding dirent_init
  init-dot x y s d up R h =
      let s1 : Fs = set_rec s c (with_blocks (rec_at s c) 2) in
      let R1 = counted x y s R in
      let v = bind-is-done (put_slot s1 c 0 (entry_bytes (dot_entry (id_at s1 c)))) (λ s2. put_slot s2 c 1 (entry_bytes (dots_entry up))) d h in
      let e = ap (λ (r : Row). put_slot s1 c 0 (entry_bytes (dot_entry r.id))) (sym R1.child) ∙ v.1 in
      let p = put_step s1 v.0 c 0 (dot_entry x.id) (node_file x.rec) (ap (λ (r : Row). node_file r.rec) R1.child) e in
      record { mid = v.0; put = e; by = p.0; table = p.1; meta = p.2; then = v.2 }

  pub init-step : (x y : Row) (s d : Fs) (up : ℕ) → Rows c i x y s.table → dirent_init s c up ≡ done d
      → Step c i (slot (node_file x.rec) 0 (dot_entry x.id) ∷ slot (node_file x.rec) 1 (dots_entry up) ∷ []) (marked x.id (with_blocks x.rec 2)) y s d
  init-step x y s d up R h =
      let f : File = node_file x.rec in
      let D = init-dot x y s d up R h in
      let R1 = subst (λ (t : Table). Rows c i (marked x.id (with_blocks x.rec 2)) y t) (sym D.table) (counted x y s R) in
      let p = put_step D.mid d c 1 (dots_entry up) f (ap (λ (r : Row). node_file r.rec) R1.child) D.then in
      record {
        by = all_then (slot f 0 (dot_entry x.id) ∷ []) (slot f 1 (dots_entry up) ∷ []) s.arena D.mid.arena d.arena D.by p.0;
        rows = subst (λ (t : Table). Rows c i (marked x.id (with_blocks x.rec 2)) y t) (sym p.1) R1;
        meta = p.2 ∙ D.meta;
      }

  -- ---- a slot at the end of the parent

  pub append-step : (x y : Row) (s d : Fs) (e : DiskEntry) → Rows c i x y s.table → dirent_append s i e ≡ done d
      → Step c i (slot (node_file y.rec) y.rec.blocks e ∷ []) x (marked y.id (slot_more y.rec)) s d
  unfolding dirent_append
  append-step x y s d e R h =
      let v = bind-is-done (put_slot s i (rec_at s i).blocks (entry_bytes e)) (λ z. done (set_rec z i (slot_more (rec_at z i)))) d h in
      let m : Fs = v.0 in
      let r : DiskINode = slot_more (rec_at m i) in
      let p = put_step s m i (rec_at s i).blocks e (node_file y.rec) (ap (λ (r : Row). node_file r.rec) R.parent) v.1 in
      let R1 : Rows c i x y m.table = subst (λ (t : Table). Rows c i x y t) (sym p.1) R in
      subst (Step c i (slot (node_file y.rec) y.rec.blocks e ∷ []) x (marked y.id (slot_more y.rec)) s) (done-is v.2)
      (record {
        by = ap (λ (r : Row). after_stores (slot (node_file y.rec) r.rec.blocks e ∷ []) s.arena) (sym R.parent) ∙ p.0;
        rows = subst (λ (z : Row). Rows c i x (marked z.id (slot_more z.rec)) (set_rec m i r).table) R1.parent
            (rows-parent x y (marked (id_at m i) r) m.table R1);
        meta = p.2;
      })

  -- ---- superblock and maps

  pub meta-step : (x y : Row) (s d : Fs) (m : Meta) → s.meta ≡ done m → Rows c i x y s.table → sync_meta s ≡ done d
      → Step c i (super m.super ∷ map_stores m.maps m.super.groups) x y s d
  unfolding sync_meta after_stores after_store
  meta-step x y s d m q R h =
      let h1 : bind (done m) rest ≡ done d = ap (λ (o : Out Meta). bind o rest) (sym q) ∙ h in
      let v = bind-is-done (put_file s.arena meta_file 0 (super_bytes m.super)) (λ a. bind (store_maps a maps groups) (λ b. done (with_arena s b))) d h1 in
      let u = bind-is-done (store_maps v.0 maps groups) (λ b. done (with_arena s b)) d v.2 in
      subst (Step c i (super m.super ∷ map_stores maps groups) x y s) (done-is u.2)
      (record {
        by = ap (λ (o : Out (List ℕ)). bind o (after_stores (map_stores maps groups))) v.1 ∙ maps-all v.0 maps groups ∙ u.1;
        rows = R;
        meta = refl;
      })
    where
      maps : List ℕ
      maps = m.maps

      groups : ℕ
      groups = m.super.groups

      rest : Meta → Out Fs
      rest n = bind (put_file s.arena meta_file 0 (super_bytes n.super)) (λ a. bind (store_maps a n.maps n.super.groups) (λ b. done (with_arena s b)))

  -- ---- records

  store-row : (s d : Fs) (j id : ℕ) (r : DiskINode) → row_at s.table j ≡ marked id r → sync_row s j ≡ done d
      → (after_stores (node id r ∷ []) s.arena ≡ done d.arena) × (d.table ≡ with_row s.table j (clean id r)) × (d.meta ≡ s.meta)
  unfolding sync_row store_row after_stores after_store
  store-row s d j id r q h =
      let h1 : store_row s j ≡ done d = ap (λ (x : Row). pick x.dirty (store_row s j) (done s)) (sym q) ∙ h in
      let v = bind-is-done (put_file s.arena meta_file (128 * id_at s j) (record_bytes (rec_at s j))) (λ a. done (left a (row_at s.table j))) d h1 in
      let z : left v.0 (marked id r) ≡ d = ap (left v.0) (sym q) ∙ done-is v.2 in (
        ap (λ (x : Row). bind (put_file s.arena meta_file (128 * x.id) (record_bytes x.rec)) (λ b. done b)) (sym q)
            ∙ ap (λ (o : Out (List ℕ)). bind o (λ b. done b)) v.1 ∙ ap (λ (y : Fs). done y.arena) z,
        sym (ap (λ (y : Fs). y.table) z),
        sym (ap (λ (y : Fs). y.meta) z),
      )
    where
      left : List ℕ → Row → Fs
      left a x = with_table (with_arena s a) (with_row s.table j (clean x.id x.rec))

  pub sync-child : (id : ℕ) (r : DiskINode) (y : Row) (s d : Fs) → Rows c i (marked id r) y s.table → sync_row s c ≡ done d
      → Step c i (node id r ∷ []) (clean id r) y s d
  sync-child id r y s d R h =
      let v = store-row s d c id r R.child h in
      record {
        by = v.0;
        rows = subst (λ (t : Table). Rows c i (clean id r) y t) (sym v.1) (rows_child (marked id r) y (clean id r) s.table R);
        meta = v.2;
      }

  pub sync-parent : (x : Row) (up : ℕ) (r : DiskINode) (s d : Fs) → Rows c i x (marked up r) s.table → sync_row s i ≡ done d
      → Step c i (node up r ∷ []) x (clean up r) s d
  sync-parent x up r s d R h =
      let v = store-row s d i up r R.parent h in
      record {
        by = v.0;
        rows = subst (λ (t : Table). Rows c i x (clean up r) t) (sym v.1) (rows-parent x (marked up r) (clean up r) s.table R);
        meta = v.2;
      }

-- where neither of the two is dirty, none is
pub rows-clean : (c i : ℕ) (x y : Row) (t : Table) → x.dirty ≡ false → y.dirty ≡ false → Rows c i x y t → NoneDirty t
rows-clean c i x y t f h R j l =
    ⊎_elim
    (λ (e : j ≡ c). ap (λ (k : ℕ). (row_at t k).dirty) e ∙ ap (λ (r : Row). r.dirty) R.child ∙ f)
    (λ (d : j ≢ c). ⊎_elim
    (λ (e : j ≡ i). ap (λ (k : ℕ). (row_at t k).dirty) e ∙ ap (λ (r : Row). r.dirty) R.parent ∙ h)
    (λ (e : j ≢ i). R.rest j l d e)
    (eq-cases j i))
    (eq-cases j c)
