-- What each call but move leaves of a folder's later slot: it stands in some later place of the folder's file, unless the call takes it.
use mathlib.Core.Path.{◌≡◌, refl, sym, ap, ◌∙◌, subst}
use mathlib.Core.Bool.{Bool, true, false, not, ◌&&◌}
use mathlib.Core.List.{List, [], ◌∷◌}
use mathlib.Core.Logic.{◌≢◌, ◌⊎◌, inl, inr, ⊎_elim}
use Prim.Native.Nat.{ℕ, ◌+◌, ◌*◌, ◌≤◌, ◌<◌}
use native.Mathlib.Omega.{arith}
use lib.Dec.{eqb, ltb, leb}
use lib.ListN.{length}
use borrow.Author.Tests.{not-true}
use Rattle.base.specs.Out.{done, bind, ensure, Ok, went}
use Rattle.base.proofs.Outs.{ok-bind, ok-weaken}
use Rattle.base.proofs.Bools.{true-false, true-T, and_parts}
use Rattle.base.proofs.Tests.{decides-leb}
use Rattle.structs.specs.Constants.{type_dir}
use Rattle.structs.specs.Layout.{entry_bytes}
use Rattle.structs.proofs.Layouts.{length-entry_bytes}
use Rattle.structs.specs.Types.{is_type, is_folder}
use Rattle.structs.specs.declared.DiskINode.{DiskINode}
use Rattle.structs.specs.declared.DiskEntry.{DiskEntry}
use Rattle.structs.specs.declared.Timespec.{Timespec}
use Rattle.utf8.specs.Names.{name_of, is_special, is_named}
use Rattle.utf8.proofs.Names.{named-decides, asked-own, not-special, length-name_bytes}
use Rattle.arena.specs.Fields.{file}
use Rattle.files.specs.Read.{there}
use Rattle.table.specs.declared.Table.{Table}
use Rattle.table.specs.declared.Row.{Row}
use Rattle.table.specs.declared.Handle.{Handle}
use Rattle.table.specs.Table.{row_at, can_hold, add_hold}
use Rattle.table_laws.specs.Rules.{Live}
use Rattle.table_laws.proofs.Finds.{row-found}
use Rattle.table_laws.proofs.Rows.{row_apart}
use Rattle.sefs.specs.State.{Fs, with_arena, with_table}
use Rattle.sefs.specs.Records.{new_record, with_blocks}
use Rattle.sefs.specs.Nodes.{Opened, rec_at, id_at, set_rec}
use Rattle.sefs.specs.Folders.{entry, dirent_init}
use Rattle.sefs.specs.Slots.{Slot, lookup}
use Rattle.sefs.specs.Ask.{admit, by_handle, good_name, new_name, not_long, known, or_exists, start}
use Rattle.sefs.specs.Create.{Given, can_make, birth, create_steps, call_create, link_steps, call_link}
use Rattle.sefs.specs.Remove.{removable, remove_steps, call_remove}
use Rattle.sefs.specs.Contents.{has_contents, not_too_big, call_write, call_resize}
use Rattle.ranges.specs.Ranges.{plain_file, fits_mode, call_fallocate}
use Rattle.ranges.specs.declared.FallocateMode.{FallocateMode}
use Rattle.ranges.proofs.Asks.{kind-one}
use Rattle.rules.specs.Image.{run, is_node, rec_of, is_folder_at, slot_in}
use Rattle.rules.specs.Rules.{Allowed, Folder}
use Rattle.rules.proofs.Folders.{folder-node}
use Rattle.sefs_laws.proofs.Says.{ensure-asks}
use Rattle.sefs_laws.proofs.Contents.{asks}
use Rattle.sefs_laws.proofs.Rows.{Any, any, any-pick, ok-and, LeavesAfter, Changes, bears-and, Fills, leaves-meta, leaves-node, leaves-resize, leaves-write, leaves-inc, leaves-named, leaves-sync}
use Rattle.image.specs.Midway.{Used, stored_meta}
use Rattle.image.proofs.Handles.{formed, row-rec, row-node, row-folder}
use Rattle.image.proofs.Lookups.{Hit}
use Rattle.image.proofs.Hits.{later-place, row-hit}
use Rattle.image.proofs.Takes.{Got, get-law}
use Rattle.image.proofs.Drops.{mid-rec}
use Rattle.image.proofs.Makes.{Makes}
use Rattle.tree.specs.Tree as tree
use Rattle.sequences.specs.Pairs.{Pair, Passed}
use Rattle.sequences.specs.Calls.{NewFits}
use Rattle.drawings.specs.Rests.{Named}
use Rattle.sequences.proofs.Passing.{allowed, spelled-any, spelled-midway}
use Rattle.sequences.proofs.Corner.{at-put}
use Rattle.sequences.proofs.Removes.{removable-law}
use Rattle.sequences.proofs.Tables.{handle-live, folder-asks}
use Rattle.sequences.proofs.RangeSteps.{leaves-mode}
use Rattle.sequences.proofs.Ranges.{one-no-folder}
use Rattle.sequences.proofs.Bytes.{Firm, FirmSince, firm-bears, nodes-start, make, made, live-row, live-firm}
use Rattle.drawings.proofs.NameSlots.{StandsIn, same-stands, Holds, holds-bears, holds-adds, holds-fill, puts, appends, Somewhere, node-takes}

-- what is left of a slot of folder d, with those bytes
abbrev pub Remains : Pair → ℕ → List ℕ → List ℕ → Table → Type 0
Remains p d l b u = Somewhere p (rec_of p.arena p.table d).file l b u

-- folder x has a later slot
pub record Filled (p : Pair) (x : ℕ) : Type 0 where
  pub folder : is_folder_at p.arena p.table x ≡ true
  pub many : 2 < (rec_of p.arena p.table x).blocks

-- a slot's 264 bytes
abbrev pub bytes_of : Pair → ℕ → ℕ → List ℕ
bytes_of p d k = run p.arena (file 1 (rec_of p.arena p.table d).file) (264 * k) 264

pub entry_length : (id : ℕ) (name : List ℕ) (kind : ℕ) → length name ≤ 255 → length (entry_bytes (entry id name kind)) ≡ 264
entry_length id name kind m = length-entry_bytes (entry id name kind) (length-name_bytes name (omega (arith, m)))

pub short-asks : (name : List ℕ) → Ok (λ _. length name ≤ 255) Any (not_long name)
short-asks name = ok-weaken (λ _ e. (decides-leb (length name) 255).right (true-T (leb (length name) 255) e)) (λ n r. r) (ensure-asks {R = Any} (leb (length name) 255) 10 tt)

-- what has contents is no folder
contents-asks : (r : DiskINode) → Ok (λ _. is_folder r.kind ≡ false) Any (has_contents r)
unfolding has_contents
contents-asks r =
    ok-bind (any (ensure (leb r.kind 4) 19)) λ _ _.
    ok-weaken (λ _ e. not-true (is_folder r.kind) (and_parts (is_type r.kind) (not (is_folder r.kind)) e).1) (λ n q. q) (ensure-asks {R = Any} (is_type r.kind && not (is_folder r.kind)) 21 tt)

module _ (p : Pair) (y : Passed p) where
  abbrev a : List ℕ
  a = p.arena

  abbrev t : Table
  t = p.table

  A : Allowed p.arena p.table
  A = allowed p y

  -- a folder that has a name in it has more than two slots
  pub not-empty : (r : DiskINode) (x : ℕ) → Filled p x → r ≡ rec_of p.arena p.table x → (is_folder r.kind ≡ true → r.blocks ≤ 2) → ⊥
  unfolding is_folder_at
  not-empty r x F q small =
      let m = small (ap (λ (r : DiskINode). is_folder r.kind) q ∙ (and_parts (is_node a x) (is_folder (rec_of a t x).kind) F.folder).1) in
      omega (arith, m, F.many, ap (λ (r : DiskINode). r.blocks) q)

  -- a slot that is found by its name
  module _ (i : ℕ) (u : Used p.table i) (is : is_folder (row_at p.table i).rec.kind ≡ true) (name : List ℕ) (plain : is_special name ≡ false) (s : Slot) (hit : Hit p.arena (row_at p.table i).rec name s) where
    G : Folder p.arena p.table (row_at p.table i).id
    G = A.rule6.folder (row_at t i).id (row-folder a t A i u is)

    rec-i : rec_of p.arena p.table (row_at p.table i).id ≡ (row_at p.table i).rec
    rec-i = row-rec a t A i u

    -- it is a later one, and its node one
    pub hit_later : 2 ≤ s.place
    hit_later = later-place a t (row_at t i).id G name plain s.place (ap (λ (r : DiskINode). is_named (slot_in a r s.place).name name) rec-i ∙ hit.named)

    pub hit-node : is_node p.arena s.entry.id ≡ true
    hit-node =
        ap (λ (x : DiskEntry). is_node a x.id) (hit.is ∙ ap (λ (r : DiskINode). slot_in a r s.place) (sym rec-i))
        ∙ (G.later s.place hit_later (subst (λ (r : DiskINode). s.place < r.blocks) (sym rec-i) hit.inside)).node

    pub hit-name : name_of (slot_in p.arena (row_at p.table i).rec s.place).name ≡ name
    hit-name = (named-decides (slot_in a (row_at t i).rec s.place).name name).right (true-T (is_named (slot_in a (row_at t i).rec s.place).name name) hit.named) ∙ asked-own name (not-special name plain).0

  -- ---- slot k of folder d, which has the name `own` for node n

  module _ {d n : ℕ} {own : List ℕ} (N : Named d own n p) where
    abbrev k : ℕ
    k = N.slot

    abbrev f : List ℕ
    f = (rec_of p.arena p.table d).file

    abbrev l : List ℕ
    l = bytes_of p d N.slot

    is-node : is_node p.arena d ≡ true
    is-node = folder-node a t d N.at.folder

    stands-start : StandsIn f k l p.arena
    stands-start e = record { inside = omega (arith, (A.rule6.folder d N.at.folder).length, N.at.inside); is = refl }

    abbrev H : List ℕ → Table → Type 0
    H b u = Holds p f k l b u

    pub holds-start : Holds p (rec_of p.arena p.table d).file N.slot (bytes_of p d N.slot) p.arena p.table
    holds-start = (nodes-start p y, stands-start)

    pub remains : (b : List ℕ) (u : Table) → Holds p (rec_of p.arena p.table d).file N.slot (bytes_of p d N.slot) b u → Remains p d (bytes_of p d N.slot) b u
    remains b u h = record { place = k; later = N.at.later; holds = h }

    -- the row with the folder's file is the folder's
    pub same_row : (i : ℕ) → Used p.table i → (row_at p.table i).rec.file ≡ (rec_of p.arena p.table d).file → (row_at p.table i).id ≡ d
    same_row i u q = A.rule5.distinct (row_at t i).id d (row-node a t A i u) is-node (ap (λ (r : DiskINode). r.file) (row-rec a t A i u) ∙ q)

    pub same-rec : (i : ℕ) → Used p.table i → (row_at p.table i).rec.file ≡ (rec_of p.arena p.table d).file → rec_of p.arena p.table d ≡ (row_at p.table i).rec
    same-rec i u q = ap (rec_of a t) (sym (same_row i u q)) ∙ row-rec a t A i u

    pub in_row : (i : ℕ) → Used p.table i → (row_at p.table i).rec.file ≡ (rec_of p.arena p.table d).file → N.slot < (row_at p.table i).rec.blocks
    in_row i u q = subst (λ (r : DiskINode). k < r.blocks) (same-rec i u q) N.at.inside

    -- ---- other files

    -- a row that is no folder's has another file
    no-folder : (i : ℕ) → Used p.table i → is_folder (row_at p.table i).rec.kind ≡ false → (row_at p.table i).rec.file ≢ f
    unfolding is_folder_at
    no-folder i u e q = true-false (ap (λ (r : DiskINode). is_folder r.kind) (sym (same-rec i u q)) ∙ (and_parts (is_node a d) (is_folder (rec_of a t d).kind) N.at.folder).1) e

    -- and a live handle's keeps it
    abbrev Firmly : List ℕ → Table → Type 0
    Firmly b u = Holds p f k l b u × FirmSince p.table u

    fills-other : (i : ℕ) → Firm p.table p.table i → (row_at p.table i).rec.file ≢ f → Fills Firmly i
    fills-other i F n b c u K h = (holds-fill p y f k l i b c u (λ q. n (sym (h.1 i F).same ∙ q)) K h.0, h.1)

    firmly-changes : Changes Firmly
    firmly-changes = (bears-and (holds-bears p y f k l) (firm-bears t)).changes

    pub slot-writes : (w : ℕ) (g : Handle) (place : ℕ) (bytes : List ℕ) → LeavesAfter (Remains p d (bytes_of p d N.slot)) (call_write p.arena p.table w g place bytes)
    unfolding call_write
    slot-writes w g place bytes =
        ok-bind (any (admit a t)) λ _ _. ok-bind (handle-live t w g) λ i m. ok-bind (contents-asks (row_at t i).rec) λ _ e. ok-bind (any (not_too_big (place + length bytes))) λ _ _.
        ok-bind (leaves-write Firmly i (fills-other i (live-firm p y w g i m) (no-folder i (live-row p y w g i m) e)) firmly-changes (start a t) place bytes (holds-start, λ i x. x)) λ s h. went (remains s.arena s.table h.0)

    pub slot-resizes : (w : ℕ) (g : Handle) (n : ℕ) → LeavesAfter (Remains p d (bytes_of p d N.slot)) (call_resize p.arena p.table w g n)
    unfolding call_resize
    slot-resizes w g n =
        ok-bind (any (admit a t)) λ _ _. ok-bind (handle-live t w g) λ i m. ok-bind (contents-asks (row_at t i).rec) λ _ e. ok-bind (any (not_too_big n)) λ _ _.
        ok-bind (leaves-resize Firmly i (fills-other i (live-firm p y w g i m) (no-folder i (live-row p y w g i m) e)) firmly-changes (start a t) n (holds-start, λ i x. x)) λ s h. went (remains s.arena s.table h.0)

    pub slot-fallocates : (w : ℕ) (g : Handle) (mode : FallocateMode) (from len : ℕ) → LeavesAfter (Remains p d (bytes_of p d N.slot)) (call_fallocate p.arena p.table w g mode from len)
    unfolding call_fallocate
    slot-fallocates w g mode from len =
        ok-bind (any (admit a t)) λ _ _. ok-bind (handle-live t w g) λ i m. ok-bind (asks (plain_file (row_at t i).rec)) λ _ e. ok-bind (any (not_too_big (from + len))) λ _ _.
        ok-bind (any (fits_mode mode (row_at t i).rec.size from len)) λ _ _.
        let k : is_folder (row_at t i).rec.kind ≡ false = one-no-folder (row_at t i).rec.kind (kind-one (row_at t i).rec e) in
        ok-bind (leaves-mode Firmly i (fills-other i (live-firm p y w g i m) (no-folder i (live-row p y w g i m) k)) firmly-changes mode (start a t) from len (holds-start, λ i x. x)) λ s h.
        went (remains s.arena s.table h.0)

    -- ---- a name more

    pub slot-links : (w : ℕ) (g : Handle) (name : List ℕ) (child : Handle) → LeavesAfter (Remains p d (bytes_of p d N.slot)) (call_link p.arena p.table w g name child)
    unfolding call_link link_steps
    slot-links w g name child =
        ok-bind (any (admit a t)) λ _ _. ok-bind (handle-live t w g) λ i m. ok-bind (any (by_handle t w child)) λ c _. ok-bind (any (new_name name)) λ _ _.
        ok-bind (folder-asks (row_at t i).rec) λ _ _. ok-bind (short-asks name) λ _ short. ok-bind (any (lookup a (row_at t i).rec name)) λ x _.
        ok-bind (any (or_exists x)) λ _ _. ok-bind (any (known (row_at t c).rec)) λ _ _. ok-bind (any (ensure (not (is_folder (row_at t c).rec.kind)) 9)) λ _ _.
        ok-bind (any (ensure (ltb (row_at t c).rec.nlinks 65535) 15)) λ _ _.
        ok-bind (appends p y f k l (start a t) i (entry (id_at (start a t) c) name (rec_at (start a t) c).kind) (entry_length (id_at (start a t) c) name (rec_at (start a t) c).kind short)
        (λ q z. let n = in_row i (live-row p y w g i m) q in omega arith) holds-start) λ s h.
        ok-bind (leaves-inc H (holds-bears p y f k l).changes s c h.0) λ s h.
        ok-bind (leaves-sync H (holds-bears p y f k l).stores s c h) λ s h. ok-bind (leaves-sync H (holds-bears p y f k l).stores s i h) λ s h. went (remains s.arena s.table h)

    -- ---- a new node

    -- a new folder's two slots: another's row stays
    begins : (s : Fs) (c i up : ℕ) → i ≢ c → (rec_at s c).file ≢ f → H s.arena s.table → Ok (λ (x : Fs). H x.arena x.table × (row_at x.table i ≡ row_at s.table i)) Any (dirent_init s c up)
    unfolding dirent_init
    begins s c i up n z h =
        let r : Row = record { id = id_at s c; dirty = true; rec = with_blocks (rec_at s c) 2 } in
        let s1 : Fs = set_rec s c (with_blocks (rec_at s c) 2) in
        let far : (rec_at s1 c).file ≢ f = at-put (λ (x : Row). x.rec.file ≢ f) s.table c r c (λ _. z) z in
        ok-bind (puts p y f k l s1 c 0 _ (entry_length (id_at s1 c) (46 ∷ []) type_dir (omega arith)) (λ q. absurd (far q)) ((holds-bears p y f k l).changes s.arena s.table c r refl refl refl refl refl h)) λ u g.
        ok-weaken (λ x o. (o.0, ap (λ (v : Fs). row_at v.table i) (o.1.1 ∙ ap (λ (v : Fs). with_arena v o.1.0) g.1.1) ∙ row_apart s.table c r i n)) (λ r q. q)
        (puts p y f k l u c 1 _ (entry_length up (46 ∷ 46 ∷ []) type_dir (omega arith)) (λ q. absurd (far (ap (λ (v : Fs). (rec_at v c).file) (sym g.1.1) ∙ q))) g.0)

    module _ (kd mode : ℕ) (time : Timespec) (uuid : List ℕ) (F : NewFits kd mode time uuid) (absent : there p.arena (file 1 uuid) ≡ false) where
      -- it has a row that was free, with a file that was not there; row i is as it was
      record Made (i : ℕ) (o : Opened) : Type 0 where
        holds : Holds p (rec_of p.arena p.table d).file k (bytes_of p d N.slot) o.state.arena o.state.table
        apart : i ≢ o.row
        far : (rec_at o.state o.row).file ≢ (rec_of p.arena p.table d).file
        same : row_at o.state.table i ≡ row_at p.table i

      other : f ≢ uuid
      other e = true-false (A.rule5.own d is-node) (ap (λ (x : List ℕ). there a (file 1 x)) e ∙ absent)

      is_made : (i : ℕ) → Used p.table i → (o : Opened) → Makes (start p.arena p.table) (stored_meta p.arena) (new_record kd mode time uuid) o → Made i o
      is_made i ui o Q =
          let w = row-found t 0 o.row Q.free in
          let M = made p y f kd mode time uuid F absent other o Q in
          let n : i ≢ o.row = λ q. ui.node (ap (λ (j : ℕ). (row_at t j).id) q ∙ w.1) in
          record {
            holds = (M.0.0.1, λ e. let S = M.0.0.0 e in same-stands f k l a o.state.arena S (stands-start (sym S.exists ∙ e)));
            apart = n;
            far = λ q. other (sym q ∙ M.1);
            same = ap (λ (s : Fs). row_at s.table i) Q.is ∙ row_apart t o.row (record { id = Q.id; dirty = true; rec = new_record kd mode time uuid }) i n;
          }

      creates : (w i : ℕ) (name : List ℕ) → Used p.table i → length name ≤ 255 → Ok (λ (x : Given). Remains p d l x.arena x.table) Any (create_steps (start p.arena p.table) w i name kd mode time uuid)
      unfolding create_steps birth
      creates w i name ui short =
          ok-bind (ok-weaken (is_made i ui) (λ r q. tt) (make p y f kd mode time uuid F absent other)) λ x M.
          ok-bind {P = λ (s : Fs). H s.arena s.table × (row_at s.table i ≡ row_at t i)}
          (any-pick (is_folder kd) (dirent_init x.state x.row (id_at x.state i)) (done x.state)
          (λ _. ok-weaken (λ s h. (h.0, h.1 ∙ M.same)) (λ r q. q) (begins x.state x.row i (id_at x.state i) M.apart M.far M.holds))
          (λ _. went (M.holds, M.same))) λ s h.
          ok-bind (appends p y f k l s i (entry (id_at s x.row) name kd) (entry_length (id_at s x.row) name kd short)
          (λ q z. let n = in_row i ui (ap (λ (r : Row). r.rec.file) (sym h.1) ∙ q) in omega (arith, z, ap (λ (r : Row). r.rec.blocks) h.1)) h.0) λ s h.
          ok-bind (leaves-named H (holds-bears p y f k l).changes s i x.row kd h.0) λ s h.
          ok-bind (leaves-meta H (holds-bears p y f k l).metas s h) λ s h.
          ok-bind (leaves-sync H (holds-bears p y f k l).stores s x.row h) λ s h.
          ok-bind (leaves-sync H (holds-bears p y f k l).stores s i h) λ s h.
          went (remains s.arena (add_hold s.table w x.row).table (holds-adds p y f k l s.arena s.table w x.row h))

    pub slot-creates : (w : ℕ) (g : Handle) (name : List ℕ) (kind mode : ℕ) (time : Timespec) (uuid : List ℕ) → NewFits kind mode time uuid
        → Ok (λ (x : Given). Remains p d (bytes_of p d N.slot) x.arena x.table) Any (call_create p.arena p.table w g name kind mode time uuid)
    unfolding call_create
    slot-creates w g name kd mode time uuid F =
        ok-bind (any (admit a t)) λ _ _. ok-bind (handle-live t w g) λ i m. ok-bind (any (new_name name)) λ _ _. ok-bind (any (ensure (can_make kd) 6)) λ _ _.
        ok-bind (folder-asks (row_at t i).rec) λ _ _. ok-bind (short-asks name) λ _ short. ok-bind (any (lookup a (row_at t i).rec name)) λ x _. ok-bind (any (or_exists x)) λ _ _.
        ok-bind (ensure-asks {R = Any} (not (there a (file 1 uuid))) 14 tt) λ _ absent.
        ok-bind (any (ensure (not (is_folder kd && eqb (row_at t i).rec.nlinks 65535)) 15)) λ _ _. ok-bind (any (ensure (can_hold t w) 16)) λ _ _.
        creates kd mode time uuid F (not-true (there a (file 1 uuid)) absent) w i name (live-row p y w g i m) short

    -- ---- a name less

    module _ (i : ℕ) (u : Used p.table i) (is : is_folder (row_at p.table i).rec.kind ≡ true) (name : List ℕ) (plain : is_special name ≡ false) (s : Slot) (hit : Hit p.arena (row_at p.table i).rec name s) where
      -- where it is this slot, it has its name and its id
      module _ (q : (row_at p.table i).rec.file ≡ (rec_of p.arena p.table d).file) (z : s.place ≡ N.slot) where
        slot_is : slot_in p.arena (rec_of p.arena p.table d) k ≡ slot_in p.arena (row_at p.table i).rec s.place
        slot_is = ap (λ (r : DiskINode). slot_in a r k) (same-rec i u q) ∙ ap (slot_in a (row_at t i).rec) (sym z)

        pub this-name : own ≡ name
        this-name = sym N.is ∙ ap (λ (x : DiskEntry). name_of x.name) slot_is ∙ hit-name i u is name plain s hit

        pub this-id : n ≡ s.entry.id
        this-id = sym N.at.names ∙ ap (λ (x : DiskEntry). x.id) (slot_is ∙ sym hit.is)

      module _ (folders : Bool) (spared : ((row_at p.table i).id ≡ d → own ≡ name → ⊥) ⊎ Filled p n)
          (o : Opened) (T : Got tree.any p.arena p.table s.entry.id o) (h : Holds p (rec_of p.arena p.table d).file k (bytes_of p d N.slot) o.state.arena o.state.table) where
        found-node : is_node p.arena s.entry.id ≡ true
        found-node = hit-node i u is name plain s hit

        rec-c : (row_at T.table T.row).rec ≡ rec_of p.arena p.table s.entry.id
        rec-c = sym (mid-rec a T.table T.mid.formed T.row T.used) ∙ ap (rec_of a T.table) T.same ∙ T.recs s.entry.id found-node

        row-i : row_at T.table i ≡ row_at p.table i
        row-i = T.rows i u

        holds : Holds p f k l p.arena T.table
        holds = subst (λ (z : Opened). H z.state.arena z.state.table) T.is h

        most : (row_at T.table T.row).rec.kind ≤ 4
        most = subst (λ (r : DiskINode). r.kind ≤ 4) (sym rec-c) (A.rule5.most s.entry.id found-node)

        two : is_folder (row_at T.table T.row).rec.kind ≡ true → 2 ≤ (row_at T.table T.row).rec.blocks
        unfolding is_folder_at
        two = subst (λ (r : DiskINode). is_folder r.kind ≡ true → 2 ≤ r.blocks) (sym rec-c) (λ e. (A.rule6.folder s.entry.id (λ x. found-node x && e x)).blocks)

        not-this : (is_folder (row_at T.table T.row).rec.kind ≡ true → (row_at T.table T.row).rec.blocks ≤ 2) → (row_at p.table i).rec.file ≡ f → s.place ≢ k
        not-this small q z =
            ⊎_elim
            (λ no. no (same_row i u q) (this-name q z))
            (λ F. not-empty (row_at T.table T.row).rec s.entry.id (subst (Filled p) (this-id q z) F) rec-c small)
            spared

        removed : LeavesAfter (Remains p d (bytes_of p d N.slot)) (bind (removable folders (rec_at o.state o.row)) (λ _. remove_steps o.state i o.row s.place))
        unfolding remove_steps
        removed =
            subst (λ (z : Opened). LeavesAfter (Remains p d l) (bind (removable folders (rec_at z.state z.row)) (λ _. remove_steps z.state i z.row s.place))) (sym T.is)
            (ok-bind (ok-weaken (λ _ e. e) (λ n r. tt) (removable-law folders (row_at T.table T.row).rec most two)) λ _ small.
            ok-bind (node-takes p y f l (with_table (start a t) T.table) i s.place k N.at.later (hit_later i u is name plain s hit)
            (λ q.
            let e : (row_at t i).rec.file ≡ f = ap (λ (r : Row). r.rec.file) (sym row-i) ∙ q in (
              not-this small e,
              subst (λ (r : Row). k < r.rec.blocks) (sym row-i) (in_row i u e),
              subst (λ (r : Row). s.place < r.rec.blocks) (sym row-i) hit.inside,
            )) holds T.row) λ x g.
            ok-bind (leaves-sync (Holds p f g.place l) (holds-bears p y f g.place l).stores x i g.holds) λ x h.
            went (record { place = g.place; later = g.later; holds = h }))

    pub slot-removes : (folders : Bool) (w : ℕ) (g : Handle) (name : List ℕ)
        → ((i : ℕ) → Live p.table w g i → (row_at p.table i).id ≡ d → own ≡ name → ⊥) ⊎ Filled p n
        → LeavesAfter (Remains p d (bytes_of p d N.slot)) (call_remove folders p.arena p.table w g name)
    unfolding call_remove
    slot-removes folders w g name spared =
        ok-bind (any (admit a t)) λ _ _. ok-bind (handle-live t w g) λ i m. ok-bind (any (good_name name)) λ _ _.
        ok-bind (folder-asks (row_at t i).rec) λ _ is. ok-bind (ensure-asks {R = Any} (not (is_special name)) 9 tt) λ _ sp. ok-bind (any (not_long name)) λ _ _.
        let u = live-row p y w g i m in
        let plain = not-true (is_special name) sp in
        ok-bind (ok-weaken (λ s h. h) (λ n r. tt) (row-hit a t A y.typed.bytes i u is name)) λ s hit.
        ok-bind (ok-and (leaves-node H (holds-bears p y f k l).loads (start a t) s.entry.id holds-start) (get-law {R = Any} a t (spelled-midway a t (spelled-any p y)) s.entry.id (hit-node i u is name plain s hit))) λ o h.
        removed i u is name plain s hit folders (⊎_elim (λ no. inl (no i m)) (λ F. inr F) spared) o h.1 h.0
