-- The list of stores is create's: each step does its part of it, and all of them leave the arena that the call leaves.
use mathlib.Core.Path.{◌≡◌, refl, sym, ap, ◌∙◌, subst}
use mathlib.Core.Bool.{Bool, true, false, not, ◌&&◌}
use mathlib.Core.List.{List, [], ◌∷◌}
use Prim.Native.Nat.{ℕ, ◌+◌, ◌*◌, ◌-◌, ◌<◌, ◌≤◌}
use native.Mathlib.Omega.{arith}
use lib.Dec.{eqb, ltb, leb}
use lib.ListN.{length, get_or}
use borrow.Author.Tests.{lt-ltb, le-ltb, ltb-false, not-true}
use Rattle.base.specs.Out.{Out, done, bind, guard, ensure}
use Rattle.base.specs.Search.{pick}
use Rattle.std.specs.Prelude.{Option, Some, None}
use Rattle.base.proofs.Bools.{true-false}
use Rattle.base.proofs.Outs.{bind-is-done}
use Rattle.structs.specs.Layout.{super_bytes, entry_bytes}
use Rattle.structs.specs.Types.{is_folder}
use Rattle.structs.specs.declared.DiskINode.{DiskINode}
use Rattle.structs.specs.declared.Timespec.{Timespec}
use Rattle.utf8.specs.Names.{name_verdict, new_reason}
use Rattle.maps.specs.Maps.{with_bit}
use Rattle.arena.specs.Fields.{file}
use Rattle.table.specs.declared.Row.{Row}
use Rattle.table.specs.declared.Table.{Table}
use Rattle.table.specs.declared.Handle.{Handle}
use Rattle.table.specs.Table.{row_at, row_of, free_row, take_row, live_row, can_hold, add_hold, off_row}
use Rattle.table_laws.proofs.Finds.{row-found}
use Rattle.table_laws.proofs.Handles.{live-means, live-used}
use Rattle.files.specs.Read.{there}
use Rattle.files.specs.Store.{put_file, cut_file, make_file}
use Rattle.sefs.specs.State.{Fs, Meta, with_arena, with_meta}
use Rattle.sefs.specs.Records.{new_record, with_links, with_blocks}
use Rattle.sefs.specs.Meta.{meta_file, ids, first_bit, super_with, grown, add_group, Allocated, take_bit, alloc_block, load_meta, sync_meta}
use Rattle.sefs.specs.Nodes.{node_file, Opened, id_at, rec_at, set_rec, open_in, no_row, new_node, sync_row}
use Rattle.sefs.specs.Folders.{entry, dots_entry, put_slot, dirent_init, dirent_append, nlinks_inc}
use Rattle.sefs.specs.Slots.{lookup}
use Rattle.sefs.specs.Ask.{admit, by_handle, an_owner, or_bad_handle, new_name, not_long, known, folder, live_folder, or_exists, start}
use Rattle.sefs.specs.Create.{Given, given, can_make, birth, name_folder, named, create_steps, call_create}
use Rattle.image.specs.Midway.{Used}
use Rattle.image.proofs.Holds.{add-rows}
use Rattle.image.proofs.Handles.{formed}
use Rattle.sequences.specs.Pairs.{Pair}
use Rattle.sequences.proofs.Passing.{allowed}
use Rattle.cuts.specs.Stores.{Store, slot, long, make, after_store, after_stores, cut_after}
use Rattle.cuts.specs.Creates.{Birth, newborn, birth_of, new_parent, group_stores, file_stores, dot_stores, slot_stores, meta_stores, node_stores, parent_stores, create_stores}
use Rattle.cuts.specs.Premise.{NoneDirty, EveryCreate, EachCut}
use Rattle.cuts.specs.Orders.{Ordered, InOrder, WholeCreate}
use Rattle.cuts.proofs.Stores.{all_then, map-by-map, cut-some}
use Rattle.cuts.proofs.Steps.{done-is, guard-is-done, Rows, Step, marked, clean, slot_more, dot_entry, rows_child, inc-child, inc-parent, init-dot, init-step, append-step, meta-step, sync-child, sync-parent, rows-clean}

-- ---- an id is allocated

-- superblock and maps with the lowest bit taken
abbrev bit_taken : Meta → Meta
bit_taken m = record {
  super = super_with m.super m.super.blocks (m.super.unused - 1) m.super.groups;
  maps = with_bit m.maps (first_bit m) false;
}

take_step : (s : Fs) (m : Meta) (n : Allocated) → take_bit s m ≡ done n
    → (n.state.arena ≡ s.arena) × (n.state.table ≡ s.table) × (n.state.meta ≡ done (bit_taken m))
unfolding take_bit
take_step s m n h =
    let x : Allocated = record { state = with_meta s (bit_taken m); id = first_bit m } in
    let g = guard-is-done (ltb 0 m.super.unused) 19 (done x) n h in
    let z : n ≡ x = sym (done-is g.1) in
    (ap (λ (y : Allocated). y.state.arena) z, ap (λ (y : Allocated). y.state.table) z, ap (λ (y : Allocated). y.state.meta) z)

-- the stores of a group that came, or none
abbrev lengths : ℕ → ℕ → List Store
lengths g k = pick (ltb g k) (long meta_file (131072 * k) ∷ []) []

-- what it did; a group comes where no bit was set
pub record Allocation (s : Fs) (m o : Meta) (n : Allocated) : Type 0 where
  pub by : after_stores (lengths m.super.groups o.super.groups) s.arena ≡ done n.state.arena
  pub table : n.state.table ≡ s.table
  pub group : m.super.groups < o.super.groups → (o.super.groups ≡ m.super.groups + 1) × (ids m ≤ first_bit m)

pub alloc_step : (s : Fs) (m o : Meta) (n : Allocated) → s.meta ≡ done m → alloc_block s ≡ done n → n.state.meta ≡ done o → Allocation s m o n
unfolding alloc_block add_group after_stores after_store
alloc_step s m o n q h r =
    let v = bind-is-done (pick (ltb (first_bit m) (ids m)) (done s) (add_group s m)) _ n (ap (λ (y : Out Meta). bind y rest) (sym q) ∙ h) in
    let u = bind-is-done v.0.meta _ n v.2 in
    let t = take_step v.0 u.0 n u.2 in
    go v.0 u.0 (ltb (first_bit m) (ids m)) refl v.1 u.1 t.0 t.1 (ap (λ (y : Meta). y.super.groups) (done-is (sym r ∙ t.2)))
  where
    rest : Meta → Out Allocated
    rest k = bind (pick (ltb (first_bit k) (ids k)) (done s) (add_group s k)) (λ (x : Fs). bind x.meta (λ j. take_bit x j))

    old : ℕ
    old = m.super.groups

    new : ℕ
    new = o.super.groups

    stores : Bool → Out (List ℕ)
    stores b = after_stores (pick b (long meta_file (131072 * new) ∷ []) []) s.arena

    go : (x : Fs) (k : Meta) (b : Bool) → ltb (first_bit m) (ids m) ≡ b → pick b (done s) (add_group s m) ≡ done x → x.meta ≡ done k
        → n.state.arena ≡ x.arena → n.state.table ≡ x.table → o.super.groups ≡ k.super.groups → Allocation s m o n
    go x k true t e f ea et eg =
        let z : s ≡ x = done-is e in
        let w : m ≡ k = done-is (sym q ∙ ap (λ (y : Fs). y.meta) z ∙ f) in
        let same : new ≡ old = eg ∙ ap (λ (y : Meta). y.super.groups) (sym w) in
        record {
          by = ap stores (le-ltb old new (omega arith)) ∙ ap (λ (y : Fs). done y.arena) z ∙ ap (λ (y : List ℕ). done y) (sym ea);
          table = et ∙ ap (λ (y : Fs). y.table) (sym z);
          group = λ l. absurd (omega arith);
        }
    go x k false t e f ea et eg =
        let g1 = guard-is-done (ltb m.super.groups 4) 17 _ x e in
        let g2 = guard-is-done (ltb (m.super.blocks + 1024) 4294967296 && ltb (m.super.unused + 1023) 4294967296) 19 _ x g1.1 in
        let v = bind-is-done (cut_file s.arena meta_file (131072 * (m.super.groups + 1))) _ x g2.1 in
        let z : with_meta (with_arena s v.0) (grown m.super m.maps) ≡ x = done-is v.2 in
        let w : grown m.super m.maps ≡ k = done-is (ap (λ (y : Fs). y.meta) z ∙ f) in
        let one : new ≡ old + 1 = eg ∙ ap (λ (y : Meta). y.super.groups) (sym w) in
        record {
          by = ap stores (lt-ltb old new (omega arith)) ∙ ap (λ (j : ℕ). bind (cut_file s.arena meta_file (131072 * j)) (λ b. done b)) one
              ∙ ap (λ (y : Out (List ℕ)). bind y (λ b. done b)) v.1 ∙ ap (λ (y : Fs). done y.arena) z ∙ ap (λ (y : List ℕ). done y) (sym ea);
          table = et ∙ ap (λ (y : Fs). y.table) (sym z);
          group = λ l. (one, ltb-false (first_bit m) (ids m) t);
        }

-- ---- a node is made

record Newly (n : Allocated) (r : DiskINode) (p : Opened) : Type 0 where
  by : after_stores (make (node_file r) ∷ []) n.state.arena ≡ done p.state.arena
  free : free_row n.state.table ≡ Some p.row
  table : p.state.table ≡ take_row n.state.table p.row n.id r true
  meta : p.state.meta ≡ n.state.meta

node-step : (s : Fs) (n : Allocated) (kind mode : ℕ) (time : Timespec) (uuid : List ℕ) (p : Opened) → alloc_block s ≡ done n
    → new_node s kind mode time uuid ≡ done p → Newly n (new_record kind mode time uuid) p
unfolding new_node after_stores after_store
node-step s n kind mode time uuid p q h =
    let g = guard-is-done (free n) 19 _ p (ap (λ (y : Out Allocated). bind y rest) (sym q) ∙ h) in
    let v = bind-is-done (make_file n.state.arena (file 1 uuid)) _ p g.1 in
    go v.0 v.1 (free_row n.state.table) refl v.2
  where
    new : DiskINode
    new = new_record kind mode time uuid

    free : Allocated → Bool
    free k = not (eqb k.id 0) && no_row (row_of k.state.table k.id)

    row : Allocated → List ℕ → Out Opened
    row k a = open_in (with_arena k.state a) k.id new true (free_row k.state.table)

    rest : Allocated → Out Opened
    rest k = guard (free k) 19 (bind (make_file k.state.arena (file 1 uuid)) (row k))

    go : (a : List ℕ) → make_file n.state.arena (file 1 uuid) ≡ done a → (f : Option ℕ) → free_row n.state.table ≡ f
        → open_in (with_arena n.state a) n.id new true f ≡ done p → Newly n new p
    go a e (Some k) f w =
        subst (Newly n new) (done-is w) (record { by = ap (λ (y : Out (List ℕ)). bind y (λ b. done b)) e; free = f; table = refl; meta = refl })
    go a e None f w = absurd (let z : ◌≡◌ {A = ℕ} 0 1 = cc in omega arith)

-- ---- the steps

-- what a create by a handle on row i is about
abbrev about : Table → ℕ → List ℕ → DiskINode → Meta → Meta → Allocated → Birth
about t i name child m o n = record { name = name; id = n.id; child = child; up = (row_at t i).id; parent = (row_at t i).rec; before = m; after = o }

no_store : (a b : List ℕ) → after_stores [] a ≡ done b → b ≡ a
unfolding after_stores
no_store a b e = sym (done-is e)

module _ (c i : ℕ) (lc : c < 34) (li : i < 34) (apart : i ≡ c → ⊥) (id : ℕ) (kind mode : ℕ) (time : Timespec) (uuid : List ℕ) where
  abbrev new : DiskINode
  new = new_record kind mode time uuid

  -- a new folder's two slots, or none
  abbrev dots : Bool → ℕ → List Store
  dots b up = pick b (slot (node_file new) 0 (dot_entry id) ∷ slot (node_file new) 1 (dots_entry up) ∷ []) []

  birth-step : (b : Bool) (y : Row) (s d : Fs) (up : ℕ) → Rows c i (marked id new) y s.table → pick b (dirent_init s c up) (done s) ≡ done d
      → Step c i (dots b up) (marked id (with_blocks new (pick b 2 0))) y s d
  unfolding after_stores
  birth-step true y s d up R h = init-step c i lc li apart (marked id new) y s d up R h
  birth-step false y s d up R h = subst (Step c i [] (marked id new) y s) (done-is h) (record { by = refl; rows = R; meta = refl })

  -- the first of them is `.`
  birth-dot : (b : Bool) → b ≡ true → (y : Row) (s d : Fs) (up : ℕ) → Rows c i (marked id new) y s.table → pick b (dirent_init s c up) (done s) ≡ done d
      → (x : Fs) × (put_slot (set_rec s c (with_blocks (rec_at s c) 2)) c 0 (entry_bytes (dot_entry id)) ≡ done x)
      × (cut_after 1 (dots b up) s.arena ≡ done x.arena)
  unfolding cut_after
  birth-dot true t y s d up R h = let D = init-dot c i lc li apart (marked id new) y s d up R h in (D.mid, D.put, D.by)
  birth-dot false t y s d up R h = absurd (true-false t refl)

  -- links: the new node's own, and for a new folder's `..` the parent's
  module _ (k up : ℕ) (q : DiskINode) (s d : Fs) (R : Rows c i (marked id (with_blocks new k)) (marked up q) s.table) where
    -- the new node with n links, the parent with m
    abbrev Linked : ℕ → ℕ → Fs → Type 0
    Linked n m = Step c i [] (marked id (with_links (with_blocks new k) n)) (marked up (with_links q m)) s

    named_step : (b : Bool) → bind (nlinks_inc s c) (λ x. pick b (bind (nlinks_inc x c) (λ z. nlinks_inc z i)) (done x)) ≡ done d
        → Linked (pick b 2 1) (q.nlinks + pick b 1 0) d
    unfolding after_stores
    named_step true h =
        let v = bind-is-done (nlinks_inc s c) (λ x. bind (nlinks_inc x c) (λ z. nlinks_inc z i)) d h in
        let u = bind-is-done (nlinks_inc v.0 c) (λ z. nlinks_inc z i) d v.2 in
        let S1 = inc-child c i lc li apart (marked id (with_blocks new k)) (marked up q) s v.0 R v.1 in
        let S2 = inc-child c i lc li apart (marked id (with_links (with_blocks new k) 1)) (marked up q) v.0 u.0 S1.rows u.1 in
        let S3 = inc-parent c i lc li apart (marked id (with_links (with_blocks new k) 2)) (marked up q) u.0 d S2.rows u.2 in
        record { by = S1.by ∙ S2.by ∙ S3.by; rows = S3.rows; meta = S3.meta ∙ S2.meta ∙ S1.meta }
    named_step false h =
        let v = bind-is-done (nlinks_inc s c) (λ x. done x) d h in
        let S1 = inc-child c i lc li apart (marked id (with_blocks new k)) (marked up q) s v.0 R v.1 in
        let e : q.nlinks ≡ q.nlinks + 0 = omega arith in
        subst (Linked 1 (q.nlinks + 0)) (done-is v.2) (subst (λ (m : ℕ). Linked 1 m v.0) e S1)

-- the superblock is put
put_first : (s d : Fs) (m : Meta) → s.meta ≡ done m → sync_meta s ≡ done d → (x : List ℕ) × (put_file s.arena meta_file 0 (super_bytes m.super) ≡ done x)
unfolding sync_meta
put_first s d m q h =
    let v = bind-is-done s.meta _ d h in
    let e : v.0 ≡ m = done-is (sym v.1 ∙ q) in
    let x = bind-is-done (put_file s.arena meta_file 0 (super_bytes v.0.super)) _ d v.2 in
    (x.0, ap (λ (k : Meta). put_file s.arena meta_file 0 (super_bytes k.super)) (sym e) ∙ x.1)

-- a hold has no say in which rows are dirty
held : (s : Fs) (w j : ℕ) (g : Given) → done (given s (add_hold s.table w j)) ≡ done g → NoneDirty s.table → (g.arena ≡ s.arena) × NoneDirty g.table
held s w j g e z =
    let q : given s (add_hold s.table w j) ≡ g = done-is e in
    let rows = ap (λ (x : Given). x.table.rows) (sym q) ∙ add-rows s.table w j in
    (sym (ap (λ (x : Given). x.arena) q), λ i l. ap (λ (r : List Row). (get_or r i off_row).dirty) rows ∙ z i l)

module _ (a : List ℕ) (t : Table) (w i : ℕ) (u : Used t i) (synced : NoneDirty t) (long34 : length t.rows ≡ 34)
    (name : List ℕ) (kind mode : ℕ) (time : Timespec) (uuid : List ℕ)
    (m o : Meta) (n : Allocated) (loads : load_meta a ≡ done m) (allocs : alloc_block (start a t) ≡ done n) (knows : n.state.meta ≡ done o)
    (g : Given) (steps : create_steps (start a t) w i name kind mode time uuid ≡ done g) where
  abbrev c0 : Birth
  c0 = about t i name (newborn kind mode time uuid) m o n

  ordered : Ordered c0 i kind mode time uuid (start a t) g
  unfolding create_steps birth named name_folder
  ordered =
      let fresh : Row = marked n.id (new_record kind mode time uuid) in
      let parent : Row = row_at t i in
      let dir : Bool = is_folder kind in
      let v0 = bind-is-done (new_node (start a t) kind mode time uuid) _ g steps in
      let p = v0.0 in
      let k : ℕ = p.row in
      let v1 = bind-is-done (birth p.state i k kind) _ g v0.2 in
      let v2 = bind-is-done (dirent_append v1.0 i (entry (id_at v1.0 k) name kind)) _ g v1.2 in
      let v3 = bind-is-done (named v2.0 i k kind) _ g v2.2 in
      let v4 = bind-is-done (sync_meta v3.0) _ g v3.2 in
      let v5 = bind-is-done (sync_row v4.0 k) _ g v4.2 in
      let v6 = bind-is-done (sync_row v5.0 i) _ g v5.2 in
      let A = alloc_step (start a t) m o n loads allocs knows in
      let N = node-step (start a t) n kind mode time uuid p allocs v0.1 in
      let fr : free_row t ≡ Some k = ap free_row (sym A.table) ∙ N.free in
      let lc : k < 34 = (row-found t 0 k fr).0 in
      let li : i < 34 = u.below in
      let apart : i ≡ k → ⊥ = λ q. u.node (ap (λ (j : ℕ). (row_at t j).id) q ∙ (row-found t 0 k fr).1) in
      let R : Rows k i (row_at t k) parent t = record { long = long34; child = refl; parent = refl; rest = λ j l d e. synced j l } in
      let R0 : Rows k i fresh parent p.state.table =
      subst (λ (x : Table). Rows k i fresh parent x)
      (ap (λ (x : Table). take_row x k n.id (new_record kind mode time uuid) true) (sym A.table) ∙ sym N.table)
      (rows_child k i lc li apart (row_at t k) parent fresh t R) in
      let up : id_at p.state i ≡ parent.id = ap (λ (x : Row). x.id) R0.parent in
      let bears : pick dir (dirent_init p.state k parent.id) (done p.state) ≡ done v1.0 =
      ap (λ (j : ℕ). pick dir (dirent_init p.state k j) (done p.state)) (sym up) ∙ v1.1 in
      let S1 = birth-step k i lc li apart n.id kind mode time uuid dir parent p.state v1.0 parent.id R0 bears in
      let own : id_at v1.0 k ≡ n.id = ap (λ (x : Row). x.id) S1.rows.child in
      let S2 = append-step k i lc li apart (marked n.id (with_blocks (new_record kind mode time uuid) (pick dir 2 0))) parent v1.0 v2.0
      (entry n.id name kind) S1.rows (ap (λ (j : ℕ). dirent_append v1.0 i (entry j name kind)) (sym own) ∙ v2.1) in
      let S3 = named_step k i lc li apart n.id kind mode time uuid (pick dir 2 0) parent.id (slot_more parent.rec) v2.0 v3.0
      S2.rows dir v3.1 in
      let M : v3.0.meta ≡ done o = S3.meta ∙ S2.meta ∙ S1.meta ∙ N.meta ∙ knows in
      let S4 = meta-step k i lc li apart (marked n.id c0.child) (marked parent.id (new_parent c0)) v3.0 v4.0 o M S3.rows v4.1 in
      let S5 = sync-child k i lc li apart n.id c0.child (marked parent.id (new_parent c0)) v4.0 v5.0 S4.rows v5.1 in
      let S6 = sync-parent k i lc li apart (clean n.id c0.child) parent.id (new_parent c0) v5.0 v6.0 S5.rows v6.1 in
      let Z : NoneDirty v6.0.table = rows-clean k i (clean n.id c0.child) (clean parent.id (new_parent c0)) v6.0.table refl refl S6.rows in
      let H = held v6.0 w k g v6.2 Z in
      let F = put_first v3.0 v4.0 o M v4.1 in
      record {
        taken = n;
        made = p;
        born = v1.0;
        appended = v2.0;
        linked = v3.0;
        mapped = v4.0;
        recorded = v5.0;
        ended = v6.0;
        makes = v0.1;
        takes = allocs;
        takes-by = A.by;
        makes-by = N.by;
        bears = v1.1;
        bears-by = S1.by;
        dot-first = λ t. birth-dot k i lc li apart n.id kind mode time uuid dir t parent p.state v1.0 parent.id R0 bears;
        appends = v2.1;
        appends-by = S2.by;
        links = v3.1;
        links-by = no_store v2.0.arena v3.0.arena S3.by;
        maps = v4.1;
        maps-by = S4.by;
        map-by-map = (F.0, F.1, map-by-map v3.0.arena F.0 o.maps o.super o.super.groups F.1);
        records = v5.1;
        records-by = S5.by;
        ends = v6.1;
        ends_by = S6.by;
        leaves = H.0;
        clean = H.1;
      }

-- ---- the call

-- what it has asked
pub record Asked (p : Pair) (w : ℕ) (h : Handle) (name : List ℕ) (kind mode : ℕ) (time : Timespec) (uuid : List ℕ) (g : Given) : Type 0 where
  pub i : ℕ
  pub live : live_row p.table w h ≡ Some i
  pub free : lookup p.arena (row_at p.table i).rec name ≡ done None
  pub absent : there p.arena (file 1 uuid) ≡ false
  pub few : (is_folder kind && eqb (row_at p.table i).rec.nlinks 65535) ≡ false
  pub dir : is_folder (row_at p.table i).rec.kind ≡ true
  pub alive : ltb 0 (row_at p.table i).rec.nlinks ≡ true
  pub good : eqb (new_reason (name_verdict name)) 0 ≡ true
  pub short : leb (length name) 255 ≡ true
  pub makes : can_make kind ≡ true
  pub steps : create_steps (start p.arena p.table) w i name kind mode time uuid ≡ done g

pub ensured : (b : Bool) (n : ℕ) (x : Unit) → ensure b n ≡ done x → b ≡ true
ensured true n x e = refl
ensured false n x e = absurd (let z : ◌≡◌ {A = ℕ} 0 1 = cc in omega arith)

module _ (p : Pair) (w : ℕ) (h : Handle) (name : List ℕ) (kind mode : ℕ) (time : Timespec) (uuid : List ℕ) (g : Given)
    (succeeds : call_create p.arena p.table w h name kind mode time uuid ≡ done g) where
  pub asked : Asked p w h name kind mode time uuid g
  unfolding call_create by_handle live_folder
  asked =
      let r : ℕ → DiskINode = λ j. (row_at p.table j).rec in
      let x0 = bind-is-done (admit p.arena p.table) _ g succeeds in
      let x1 = bind-is-done (by_handle p.table w h) _ g x0.2 in
      let x2 = bind-is-done (new_name name) _ g x1.2 in
      let x3 = bind-is-done (ensure (can_make kind) 6) _ g x2.2 in
      let x4 = bind-is-done (live_folder (r x1.0)) _ g x3.2 in
      let x5 = bind-is-done (not_long name) _ g x4.2 in
      let x6 = bind-is-done (lookup p.arena (r x1.0) name) _ g x5.2 in
      let x7 = bind-is-done (or_exists x6.0) _ g x6.2 in
      let x8 = bind-is-done (ensure (not (there p.arena (file 1 uuid))) 14) _ g x7.2 in
      let x9 = bind-is-done (ensure (not (is_folder kind && eqb (r x1.0).nlinks 65535)) 15) _ g x8.2 in
      let xa = bind-is-done (ensure (can_hold p.table w) 16) _ g x9.2 in
      let y = bind-is-done (an_owner w) (λ _. or_bad_handle (live_row p.table w h)) x1.0 x1.1 in
      let d0 = bind-is-done (known (r x1.0)) _ tt x4.1 in
      let d1 = bind-is-done (folder (r x1.0)) _ tt d0.2 in
      record {
        i = x1.0;
        live = live (live_row p.table w h) x1.0 y.2;
        free = x6.1 ∙ ap (λ (f : Option ℕ). done f) (no_slot x6.0 x7.0 x7.1);
        absent = not-true (there p.arena (file 1 uuid)) (ensured _ 14 x8.0 x8.1);
        few = not-true (is_folder kind && eqb (r x1.0).nlinks 65535) (ensured _ 15 x9.0 x9.1);
        dir = ensured (is_folder (r x1.0).kind) 7 d1.0 d1.1;
        alive = ensured (ltb 0 (r x1.0).nlinks) 8 tt d1.2;
        good = ensured (eqb (new_reason (name_verdict name)) 0) 5 x2.0 x2.1;
        short = ensured (leb (length name) 255) 10 x5.0 x5.1;
        makes = ensured (can_make kind) 6 x3.0 x3.1;
        steps = xa.2;
      }
    where
      no_slot : (f : Option ℕ) (u : Unit) → or_exists f ≡ done u → f ≡ None
      no_slot (Some k) u e = absurd (let z : ◌≡◌ {A = ℕ} 0 1 = cc in omega arith)
      no_slot None u e = refl

      live : (f : Option ℕ) (i : ℕ) → or_bad_handle f ≡ done i → f ≡ Some i
      live (Some j) i e = ap Some (done-is e)
      live None i e = absurd (let z : ◌≡◌ {A = ℕ} 0 1 = cc in omega arith)

-- superblock and maps could be read, and an id was allocated
allocated : (s : Fs) (kind mode : ℕ) (time : Timespec) (uuid : List ℕ) (o : Opened) → new_node s kind mode time uuid ≡ done o
    → (m : Meta) × (n : Allocated) × (k : Meta) × (s.meta ≡ done m) × (alloc_block s ≡ done n) × (n.state.meta ≡ done k)
unfolding new_node alloc_block
allocated s kind mode time uuid o h =
    let x = bind-is-done (alloc_block s) _ o h in
    let y = bind-is-done s.meta _ x.0 x.1 in
    let z = bind-is-done (pick (ltb (first_bit y.0) (ids y.0)) (done s) (add_group s y.0)) _ x.0 y.2 in
    let u = bind-is-done z.0.meta _ x.0 z.2 in
    (y.0, x.0, bit_taken u.0, y.1, x.1, (take_step z.0 u.0 x.0 u.2).2)

about-is : (a : List ℕ) (t : Table) (i : ℕ) (name : List ℕ) (kind mode : ℕ) (time : Timespec) (uuid : List ℕ) (m o : Meta) (n : Allocated)
    → load_meta a ≡ done m → alloc_block (start a t) ≡ done n → n.state.meta ≡ done o
    → birth_of a t i name kind mode time uuid ≡ done (about t i name (newborn kind mode time uuid) m o n)
unfolding birth_of
about-is a t i name kind mode time uuid m o n loads allocs knows =
    ap (λ (x : Out Meta). bind x (λ (m : Meta). bind (alloc_block (start a t)) (all m))) loads
    ∙ ap (λ (x : Out Allocated). bind x (all m)) allocs
    ∙ ap (λ (x : Out Meta). bind x (λ (o : Meta). done (about t i name (newborn kind mode time uuid) m o n))) knows
  where
    all : Meta → Allocated → Out Birth
    all m n = bind n.state.meta (λ (o : Meta). done (about t i name (newborn kind mode time uuid) m o n))

pub every-create : EveryCreate
unfolding EveryCreate create_steps
every-create p passed synced w h name kind mode time uuid fits g succeeds =
    let x = asked p w h name kind mode time uuid g succeeds in
    let y = bind-is-done (new_node (start p.arena p.table) kind mode time uuid) _ g x.steps in
    let z = allocated (start p.arena p.table) kind mode time uuid y.0 y.1 in (
      about p.table x.i name (newborn kind mode time uuid) z.0 z.2 z.1,
      record {
        passed = passed;
        synced = synced;
        w = w;
        h = h;
        i = x.i;
        kind = kind;
        mode = mode;
        time = time;
        uuid = uuid;
        live = x.live;
        fits = fits;
        about = about-is p.arena p.table x.i name kind mode time uuid z.0 z.2 z.1 z.3 z.4 z.5;
        succeeds = succeeds;
      },
      refl,
    )

pub at-is : (i j : ℕ) → Some i ≡ Some j → i ≡ j
at-is i j e = cc

pub in_order : InOrder
unfolding InOrder birth_of
in_order p c g B =
    let a : List ℕ = p.arena in
    let t : Table = p.table in
    let F = formed a t (allowed p B.passed) in
    let L = (live-means t B.w B.h B.i).0 B.live in
    let U : Used t B.i = record { below = L.is_row; node = live-used t B.w B.h B.i F L } in
    let x = asked p B.w B.h c.name B.kind B.mode B.time B.uuid g B.succeeds in
    let e : x.i ≡ B.i = at-is x.i B.i (sym x.live ∙ B.live) in
    let s = subst (λ (j : ℕ). create_steps (start a t) B.w j c.name B.kind B.mode B.time B.uuid ≡ done g) e x.steps in
    let v0 = bind-is-done (load_meta a) _ c B.about in
    let v1 = bind-is-done (alloc_block (start a t)) _ c v0.2 in
    let v2 = bind-is-done v1.0.state.meta _ c v1.2 in
    subst (λ (x : Birth). Ordered x B.i B.kind B.mode B.time B.uuid (start a t) g) (done-is v2.2)
    (ordered a t B.w B.i U B.synced F.rows-34 c.name B.kind B.mode B.time B.uuid
    v0.0 v2.0 v1.0 v0.1 v1.1 v2.1 g s)

pub whole-create : WholeCreate
unfolding WholeCreate InOrder create_stores
whole-create p c g B =
    let O = in_order p c g B in
    let maps = ap (after_stores (meta_stores c)) (sym O.links-by) ∙ O.maps-by in
    let ends = O.ends_by ∙ ap (λ (y : List ℕ). done y) (sym O.leaves) in
    all_then (group_stores c) _ p.arena O.taken.state.arena g.arena O.takes-by
    (all_then (file_stores c) _ O.taken.state.arena O.made.state.arena g.arena O.makes-by
    (all_then (dot_stores c) _ O.made.state.arena O.born.arena g.arena O.bears-by
    (all_then (slot_stores c) _ O.born.arena O.appended.arena g.arena O.appends-by
    (all_then (meta_stores c) _ O.appended.arena O.mapped.arena g.arena maps
    (all_then (node_stores c) (parent_stores c) O.mapped.arena O.recorded.arena g.arena O.records-by ends)))))

pub each-cut : EachCut
unfolding EachCut WholeCreate
each-cut p c g B n = cut-some n (create_stores c) p.arena g.arena (whole-create p c g B)
