-- Each call keeps type, file and slots stored, and the blocks of every record that has a type.
use mathlib.Core.Path.{◌≡◌, refl, sym, ap, ◌∙◌, subst}
use mathlib.Core.Bool.{Bool, true, false, not}
use mathlib.Core.List.{List}
use mathlib.Core.Logic.{◌≢◌, ◌⊎◌, inr, ⊎_elim}
use Prim.Native.Nat.{ℕ, ◌+◌, ◌*◌, ◌%◌, ◌<◌}
use native.Mathlib.Omega.{arith}
use lib.Dec.{ltb}
use lib.ListN.{length}
use borrow.Author.Tests.{lt-ltb}
use Rattle.base.specs.Out.{Out, done, ensure, kept, Ok, went, said}
use Rattle.std.specs.Prelude.{Option, Some, None}
use Rattle.base.proofs.Outs.{ok-bind, ok-weaken}
use Rattle.base.proofs.Bools.{and_both}
use Rattle.base.proofs.Numbers.{lt-or-le}
use Rattle.structs.specs.Fits.{RecordFits}
use Rattle.structs.specs.Layout.{record_of, record_bytes}
use Rattle.structs.specs.Types.{is_folder}
use Rattle.structs.specs.declared.DiskINode.{DiskINode}
use Rattle.structs.specs.declared.Timespec.{Timespec}
use Rattle.structs.proofs.Layouts.{record_of-record_bytes}
use Rattle.arena.specs.Fields.{file}
use Rattle.files_laws.specs.Laws.{Cut}
use Rattle.files_laws.proofs.Bounds.{named-node}
use Rattle.files_laws.proofs.Parts.{sound-inside}
use Rattle.table.specs.declared.Handle.{Handle}
use Rattle.table.specs.declared.Table.{Table}
use Rattle.table.specs.Table.{row_at, row_of, add_hold, close_hold}
use Rattle.table_laws.proofs.Finds.{row-found}
use Rattle.sefs.specs.State.{Fs, Meta, with_table}
use Rattle.sefs.specs.Meta.{meta_file}
use Rattle.sefs.specs.Nodes.{rec_at, drop_node}
use Rattle.sefs.specs.Slots.{find_slot, lookup}
use Rattle.sefs.specs.Ask.{admit, by_handle, good_name, new_name, not_long, not_special, known, live_folder, or_exists, start}
use Rattle.sefs.specs.Create.{Given, create_steps, call_create, call_link}
use Rattle.sefs.specs.Remove.{removable, call_remove}
use Rattle.sefs.specs.Move.{call_move}
use Rattle.sefs.specs.Read.{call_set, call_metadata, call_entry, call_listing}
use Rattle.sefs.specs.Contents.{has_contents, not_too_big, call_read, call_write, call_resize}
use Rattle.sefs.specs.Close.{call_sync, close_steps, call_close}
use Rattle.paths.specs.Path.{call_path}
use Rattle.ranges.specs.Ranges.{plain_file, fits_mode, call_fallocate}
use Rattle.ranges.specs.declared.FallocateMode.{FallocateMode}
use Rattle.rules.specs.Image.{is_node, stored_super, stored_bytes, rec_by, rec_of}
use Rattle.rules.specs.Rules.{Allowed}
use Rattle.sefs_laws.proofs.Rows.{Any, any, any-pick, LeavesAfter, leaves-sync-all}
use Rattle.image.specs.Midway.{stored_meta}
use Rattle.image.proofs.Images.{fair}
use Rattle.image.proofs.Nodes.{meta-is}
use Rattle.image.proofs.Handles.{formed, row-rec}
use Rattle.image.proofs.Holds.{add-rows}
use Rattle.image.proofs.Stores.{node-apart}
use Rattle.sequences.specs.Pairs.{Pair, Passed}
use Rattle.sequences.specs.Calls.{Call, root, find, walk, create, link, remove_file, remove_folder, move, metadata, set_metadata, get_entry, listing, full_path, read, write, resize, fallocate, sync, close, check, inventory, mend, NewFits, Fits, does}
use Rattle.sequences.specs.Promises.{Keeps}
use Rattle.sequences.proofs.Passing.{allowed}
use Rattle.sequences.proofs.Closes.{close-rows}
use Rattle.sequences.proofs.Tables.{keeps-create, keeps-root, keeps-find, keeps-walk}
use Rattle.sequences.proofs.Sequences.{keeps}
use Rattle.sequences.proofs.Looks.{mend-stays}
use Rattle.mending.specs.Mendable.{rec_in}
use Rattle.mending.specs.Lasts.{Lasts, Lasting}
use Rattle.mending.proofs.Tables.{rec-stored}
use Rattle.mending.proofs.Fates.{node-zero}
use Rattle.mending.proofs.Stores.{lacking-less, lacking-none}
use Rattle.inventory.specs.Inventory.{call_inventory}
use Rattle.deaths.specs.Deaths.{Backed, Stocked, KeepsLasting, KeepsStocked, StockedBacked}
use Rattle.deaths.proofs.Upheld.{RecordsStay, stay-bytes, Since, since-same, By, lasts-is, Upheld, upheld-more, upheld-rows, upheld-loads, upheld-node, upheld-set, upheld-gone}
use Rattle.deaths.proofs.UpheldCalls.{Nobody, Clean, link-upheld, remove-upheld, upheld-stores, resize-upheld, write-upheld, mode-upheld, move-upheld, create-upheld}

module _ (p : Pair) (y : Passed p) where
  abbrev a : List ℕ
  a = p.arena

  abbrev t : Table
  t = p.table

  A : Allowed p.arena p.table
  A = allowed p y

  begins : Upheld p (By Nobody) p.arena p.table
  begins = record {
    rows = (formed a t A).rows-34;
    each = λ i l. record {
      wide = record { file = (y.typed.fits.rows i l).rec.file; mac = (y.typed.fits.rows i l).rec.mac };
      lasts = λ L z m. let n : is_node a (row_at t i).id ≡ true = A.rule4.node i l z in
          inr (subst (λ (r : DiskINode). Lasts r (record_of (stored_bytes a (row_at t i).id))) (row-rec a t A i (record { below = l; node = z }))
          (subst (Lasts (rec_of a t (row_at t i).id)) (rec-stored a (row_at t i).id z) (L (row_at t i).id n)));
    };
    one = (formed a t A).one-row;
    since = since-same a;
  }

  -- a new group: past its length the metadata file has no blocks, and reads as zeros
  grows : (b : List ℕ) → Cut p.arena meta_file (131072 * ((stored_super p.arena).groups + 1)) b → RecordsStay p.arena b
  grows b C =
      let I = sound-inside a A.rule1.sound meta_file in
      stay-bytes a b (λ q e. C.block q ∙ and_both e (lt-ltb (480 * q) _ (let u = (I.under q e).1 in omega (arith, u, A.rule3.length))))
      (λ k. ⊎_elim (λ (l : k < 131072 * ((stored_super a).groups + 1)). C.below k l) (λ l. C.beyond k l ∙ sym (I.past k (omega (arith, A.rule3.length)))) (lt-or-le k (131072 * ((stored_super a).groups + 1))))

  -- ---- the calls

  clean : {b : List ℕ} {u : Table} → Upheld p (By Nobody) b u → Upheld p Clean b u
  clean H = upheld-more (λ k x. absurd x) H

  -- holds may be added
  adds : (b : List ℕ) (u : Table) (w row : ℕ) → Upheld p Clean b u → Upheld p Clean b (add_hold u w row).table
  adds b u w row H = upheld-rows u (add_hold u w row).table (add-rows u w row) H

  creates : (w : ℕ) (g : Handle) (name : List ℕ) (kind mode : ℕ) (time : Timespec) (uuid : List ℕ) → NewFits kind mode time uuid
      → Ok (λ (x : Given). Upheld p Clean x.arena x.table) Any (call_create p.arena p.table w g name kind mode time uuid)
  creates w g name kind mode time uuid F =
      keeps-create (Upheld p Clean) a t w g name kind mode time uuid (λ i l dir none.
      subst (λ (o : Out Meta). Ok (λ (x : Given). Upheld p Clean x.arena x.table) Any (create_steps (record { arena = a; table = t; meta = o }) w i name kind mode time uuid)) (sym (meta-is a t (fair a t A)))
      (create-upheld p a t (stored_meta a) grows w i name kind mode time uuid (named-node uuid F.file F.bytes) begins))

  links : (w : ℕ) (g : Handle) (name : List ℕ) (child : Handle) → LeavesAfter (Upheld p Clean) (call_link p.arena p.table w g name child)
  unfolding call_link
  links w g name child =
      ok-bind (any (admit a t)) λ _ _. ok-bind (any (by_handle t w g)) λ i _. ok-bind (any (by_handle t w child)) λ c _. ok-bind (any (new_name name)) λ _ _.
      ok-bind (any (live_folder (row_at t i).rec)) λ _ _. ok-bind (any (not_long name)) λ _ _. ok-bind (any (lookup a (row_at t i).rec name)) λ f _. ok-bind (any (or_exists f)) λ _ _.
      ok-bind (any (known (row_at t c).rec)) λ _ _. ok-bind (any (ensure (not (is_folder (row_at t c).rec.kind)) 9)) λ _ _. ok-bind (any (ensure (ltb (row_at t c).rec.nlinks 65535) 15)) λ _ _.
      link-upheld p (start a t) i name c begins

  removes : (dir : Bool) (w : ℕ) (g : Handle) (name : List ℕ) → LeavesAfter (Upheld p Clean) (call_remove dir p.arena p.table w g name)
  unfolding call_remove
  removes dir w g name =
      ok-bind (any (admit a t)) λ _ _. ok-bind (any (by_handle t w g)) λ i _. ok-bind (any (good_name name)) λ _ _. ok-bind (any (live_folder (row_at t i).rec)) λ _ _.
      ok-bind (any (not_special name)) λ _ _. ok-bind (any (not_long name)) λ _ _. ok-bind (any (find_slot a (row_at t i).rec name)) λ s _.
      ok-bind (upheld-node (start a t) s.entry.id begins) λ o H. ok-bind (any (removable dir (rec_at o.state o.row))) λ _ _. remove-upheld p o.state i o.row s.place H

  moves : (w : ℕ) (g : Handle) (old : List ℕ) (target : Handle) (name : List ℕ) → LeavesAfter (Upheld p Clean) (call_move p.arena p.table w g old target name)
  unfolding call_move
  moves w g old target name =
      ok-bind (any (admit a t)) λ _ _. ok-bind (any (by_handle t w g)) λ i _. ok-bind (any (by_handle t w target)) λ j _. ok-bind (any (good_name old)) λ _ _. ok-bind (any (new_name name)) λ _ _.
      ok-bind (any (live_folder (row_at t i).rec)) λ _ _. ok-bind (any (not_special old)) λ _ _. ok-bind (any (not_special name)) λ _ _. ok-bind (any (not_long old)) λ _ _. ok-bind (any (not_long name)) λ _ _.
      ok-bind (any (live_folder (row_at t j).rec)) λ _ _. ok-bind (any (lookup a (row_at t j).rec name)) λ f _. move-upheld p i j (start a t) old name f begins

  sets : (w : ℕ) (g : Handle) (mode uid gid : ℕ) (at mt ct : Timespec) → Ok (λ (u : Table). Upheld p Clean p.arena u) Any (call_set p.arena p.table w g mode uid gid at mt ct)
  unfolding call_set
  sets w g mode uid gid at mt ct = ok-bind (any (admit a t)) λ _ _. ok-bind (any (by_handle t w g)) λ i _. went (clean (upheld-set i _ refl refl refl (inr refl) begins))

  writes : (w : ℕ) (g : Handle) (place : ℕ) (bytes : List ℕ) → LeavesAfter (Upheld p Clean) (call_write p.arena p.table w g place bytes)
  unfolding call_write
  writes w g place bytes =
      ok-bind (any (admit a t)) λ _ _. ok-bind (any (by_handle t w g)) λ i _. ok-bind (any (has_contents (row_at t i).rec)) λ _ _. ok-bind (any (not_too_big (place + length bytes))) λ _ _.
      ok-bind (write-upheld p Nobody (start a t) i place bytes begins) λ s H. went (clean H)

  resizes : (w : ℕ) (g : Handle) (n : ℕ) → LeavesAfter (Upheld p Clean) (call_resize p.arena p.table w g n)
  unfolding call_resize
  resizes w g n =
      ok-bind (any (admit a t)) λ _ _. ok-bind (any (by_handle t w g)) λ i _. ok-bind (any (has_contents (row_at t i).rec)) λ _ _. ok-bind (any (not_too_big n)) λ _ _.
      ok-bind (resize-upheld p Nobody (start a t) i n begins) λ s H. went (clean H)

  fallocates : (w : ℕ) (g : Handle) (mode : FallocateMode) (from len : ℕ) → LeavesAfter (Upheld p Clean) (call_fallocate p.arena p.table w g mode from len)
  unfolding call_fallocate
  fallocates w g mode from len =
      ok-bind (any (admit a t)) λ _ _. ok-bind (any (by_handle t w g)) λ i _. ok-bind (any (plain_file (row_at t i).rec)) λ _ _. ok-bind (any (not_too_big (from + len))) λ _ _.
      ok-bind (any (fits_mode mode (row_at t i).rec.size from len)) λ _ _.
      ok-bind (mode-upheld p Nobody mode (start a t) i from len begins) λ s H. went (clean H)

  syncs : LeavesAfter (Upheld p Clean) (call_sync p.arena p.table)
  unfolding call_sync
  syncs = ok-bind (any (admit a t)) λ _ _. ok-bind (leaves-sync-all (Upheld p Clean) (upheld-stores p) (start a t) 0 34 (clean begins)) λ s H. went H

  closes : (w : ℕ) (g : Handle) → LeavesAfter (Upheld p Clean) (call_close p.arena p.table w g)
  unfolding call_close close_steps
  closes w g =
      let u : Table = (close_hold t g.hold).table in
      let H : Upheld p Clean a (close_hold t g.hold).table = upheld-rows t u (close-rows t g.hold) (clean begins) in
      ok-bind (any (admit a t)) λ _ _. ok-bind (any (by_handle t w g)) λ i _.
      ok-bind {P = λ (s : Fs). Upheld p Clean s.arena s.table}
      (any-pick (close_hold t g.hold).last (drop_node (with_table (start a t) u) i) (done (with_table (start a t) u)) (λ _. upheld-gone (with_table (start a t) u) i H) (λ _. went H)) λ s K. went K

  calls : (c : Call) → Fits c → Ok (λ (q : Pair). Upheld p Clean q.arena q.table) Any (does c p)
  unfolding does
  calls (root w) F = ok-bind (keeps-root (Upheld p Clean) upheld-loads adds a t w (clean begins)) λ x H. went H
  calls (find w h name) F = ok-bind (keeps-find (Upheld p Clean) upheld-loads adds a t w h name (clean begins)) λ x H. went H
  calls (walk w h path room) F = ok-bind (keeps-walk (Upheld p Clean) upheld-loads adds a t w h path room (clean begins)) λ x H. went H
  calls (create w h name kind mode time uuid) F = ok-bind (creates w h name kind mode time uuid F.3) λ x H. went H
  calls (link w h name child) F = ok-bind (links w h name child) λ x H. went H
  calls (remove_file w h name) F = ok-bind (removes false w h name) λ x H. went H
  calls (remove_folder w h name) F = ok-bind (removes true w h name) λ x H. went H
  calls (move w h old target name) F = ok-bind (moves w h old target name) λ x H. went H
  calls (metadata w h) F = ok-bind (any (call_metadata a t w h)) λ x _. went (clean begins)
  calls (set_metadata w h mode uid gid at mt ct) F = ok-bind (sets w h mode uid gid at mt ct) λ x H. went H
  calls (get_entry w h k room) F = ok-bind (any (call_entry a t w h k room)) λ x _. went (clean begins)
  calls (listing w h m room) F = ok-bind (any (call_listing a t w h m room)) λ x _. went (clean begins)
  calls (full_path w h room) F = ok-bind (any (call_path a t w h room)) λ x _. went (clean begins)
  calls (read w h place room) F = ok-bind (any (call_read a t w h place room)) λ x _. went (clean begins)
  calls (write w h place bytes) F = ok-bind (writes w h place bytes) λ x H. went H
  calls (resize w h n) F = ok-bind (resizes w h n) λ x H. went H
  calls (fallocate w h mode from len) F = ok-bind (fallocates w h mode from len) λ x H. went H
  calls sync F = ok-bind syncs λ x H. went H
  calls (close w h) F = ok-bind (closes w h) λ x H. went H
  calls check F = went (clean begins)
  calls (inventory room) F = ok-bind (any (call_inventory a room)) λ x _. went (clean begins)
  calls mend F = ok-weaken (λ q e. subst (λ (q : Pair). Upheld p Clean q.arena q.table) (sym e) (clean begins)) (λ n r. tt) (mend-stays p y)

-- ---- what lasts. A clean row is stored: rule 4 says so of the pair that is left

clean-lasts : (r : DiskINode) (l : List ℕ) → RecordFits r → record_bytes r ≡ l → Lasts r (record_of l)
clean-lasts r l F e = lasts-is (ap record_of (sym e) ∙ record_of-record_bytes r F)

upheld-lasting : (p q : Pair) → Passed q → Upheld p Clean q.arena q.table → Lasting p.arena p.table → Lasting q.arena q.table
unfolding rec_of
upheld-lasting p q y H L id n =
    subst (Lasts (rec_of q.arena q.table id)) (sym (rec-stored q.arena id (node-zero q.arena id n))) (go (row_of q.table id) refl)
  where
    go : (f : Option ℕ) → row_of q.table id ≡ f → Lasts (rec_by q.arena q.table id f) (record_of (stored_bytes q.arena id))
    go None e = lasts-is refl
    go (Some i) e =
        let x = row-found q.table id i e in
        let z : (row_at q.table i).id ≢ 0 = λ w. node-zero q.arena id n (sym x.1 ∙ w) in
        let m : (row_at q.table i).id % 1024 ≢ 1 = λ w. node-apart q.arena id n (ap (λ (k : ℕ). k % 1024) (sym x.1) ∙ w) in
        subst (λ (k : ℕ). Lasts (row_at q.table i).rec (record_of (stored_bytes q.arena k))) x.1
        (⊎_elim (λ (c : (row_at q.table i).dirty ≡ false). clean-lasts (row_at q.table i).rec _ (y.typed.fits.rows i x.0).rec ((allowed q y).rule4.clean i x.0 z c)) (λ k. k) ((H.each i x.0).lasts L z m))

pub keeps-lasting : KeepsLasting
unfolding KeepsLasting Keeps
keeps-lasting p c y F L = by-outcome (calls p y c F) (keeps p c y F).passes
  where
    by-outcome : {o : Out Pair} → Ok (λ (q : Pair). Upheld p Clean q.arena q.table) Any o → Passed (kept p o) → Lasting (kept p o).arena (kept p o).table
    by-outcome (went H) z = upheld-lasting p _ z H L
    by-outcome (said r) z = L

-- ---- what is stocked

pub since-stocked : {o a : List ℕ} → Since o a → Stocked o → Stocked a
unfolding Stocked
since-stocked {o = o} {a = a} S K id z m k =
    ⊎_elim (λ h. lacking-none a meta_file (128 * id) 112 h)
    (λ (e : stored_bytes a id ≡ stored_bytes o id).
    let same : rec_in a id ≡ rec_in o id = rec-stored a id z ∙ ap record_of e ∙ sym (rec-stored o id z) in
    let none = K id z m (λ w. k (ap (λ (r : DiskINode). r.kind) same ∙ w)) in
    omega (arith, none, lacking-less o a meta_file (128 * id) 112 S.here))
    (S.stock id z m)

pub keeps-stocked : KeepsStocked
unfolding KeepsStocked
keeps-stocked p c y F S = by-outcome (calls p y c F)
  where
    by-outcome : {o : Out Pair} → Ok (λ (q : Pair). Upheld p Clean q.arena q.table) Any o → Stocked (kept p o).arena
    by-outcome (went H) = since-stocked H.since S
    by-outcome (said r) = S

pub stocked-backed : StockedBacked
unfolding StockedBacked Stocked Backed
stocked-backed p y L S id n = S id (node-zero p.arena id n) (node-apart p.arena id n) (λ w. omega (arith, w, (L id n).kind, (allowed p y).rule5.least id n))
