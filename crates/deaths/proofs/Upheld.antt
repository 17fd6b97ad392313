-- What a call leaves of the stored records and of the rows, from the pair p where it began: the blocks of the metadata file stay; a stored record is the
-- one that was, or has its blocks; and a row's type, file and slots are stored if they were, but in rows that X lets off. Steps that keep it keep it
-- on any state.
use mathlib.Core.Path.{◌≡◌, refl, sym, ap, ◌∙◌, subst}
use mathlib.Core.Bool.{Bool, true, false, not, ◌&&◌}
use mathlib.Core.List.{List}
use mathlib.Core.Logic.{◌≢◌, ◌⊎◌, inl, inr, ⊎_elim}
use Prim.Native.Nat.{ℕ, zero, suc, ◌+◌, ◌*◌, ◌-◌, ◌%◌, ◌≤◌, ◌<◌}
use native.Mathlib.Omega.{arith}
use lib.Dec.{eqb, ltb}
use lib.ListN.{length, drop, length-take, length-set, get_or-eq_default}
use Rattle.base.specs.Out.{done, Ok, went, said}
use Rattle.std.specs.Prelude.{Option, Some, None}
use Rattle.base.specs.Parts.{part}
use Rattle.base.proofs.Outs.{ok-bind, ok-weaken, above_zero}
use Rattle.base.proofs.Bools.{true-false, and_parts, or-second}
use Rattle.base.proofs.Finds.{eq-cases}
use Rattle.base.proofs.Lists.{tab-cong}
use Rattle.base.proofs.Numbers.{lt-or-le}
use Rattle.structs.specs.Layout.{record_of, record_bytes}
use Rattle.structs.specs.Types.{is_folder}
use Rattle.structs.specs.declared.DiskINode.{DiskINode}
use Rattle.structs.specs.declared.Timespec.{Timespec}
use Rattle.structs.proofs.Layouts.{length-record_bytes, length-super_bytes}
use Rattle.arena.specs.Fields.{file}
use Rattle.files.specs.Read.{present, byte_at}
use Rattle.files.specs.Store.{put_file, cut_file, drop_file}
use Rattle.files_laws.specs.Laws.{Named, Kept, Put, Cut, touches}
use Rattle.files_laws.proofs.Make.{make-law}
use Rattle.files_laws.proofs.Cut.{cut-law}
use Rattle.files_laws.proofs.Drop.{drop-law}
use Rattle.table.specs.declared.Row.{Row}
use Rattle.table.specs.declared.Table.{Table}
use Rattle.table.specs.Zero.{zero_row}
use Rattle.table.specs.Table.{off_row, row_at, row_of, free_row, with_row, with_dirty, free_row_at, take_row, row_used}
use Rattle.table_laws.proofs.Finds.{row-missing}
use Rattle.table_laws.proofs.Rows.{row_here, row_apart}
use Rattle.sefs.specs.State.{Fs, Meta, with_arena}
use Rattle.sefs.specs.Records.{new_record}
use Rattle.sefs.specs.Meta.{meta_file, map_at, store_maps, sync_meta, ids, first_bit, is_used, add_group, Allocated, take_bit, alloc_block, free_block}
use Rattle.sefs.specs.Nodes.{Opened, rec_at, id_at, no_row, new_node, open_in, get_node, store_row, sync_row, free_node, drop_node, release}
use Rattle.sefs_laws.proofs.Rows.{Any, any, any-guard, any-pick, Leaves, Loads, put-any, other-record, leaves-node}
use Rattle.rules.specs.Image.{stored_bytes}
use Rattle.image.proofs.Drops.{stored-kept}
use Rattle.image.proofs.Metas.{node-other}
use Rattle.image.proofs.Holds.{rows_at}
use Rattle.sequences.specs.Pairs.{Pair}
use Rattle.sequences.proofs.Tracks.{Wide, stored-wide}
use Rattle.mending.specs.Lasts.{Lasts, Lasting}
use Rattle.mending.proofs.Stores.{put-here}

-- ---- arenas: every block of the metadata file is there still, and every record is as it was

pub record RecordsStay (a b : List ℕ) : Type 0 where
  pub here : (q : ℕ) → present a meta_file q ≡ true → present b meta_file q ≡ true
  pub stored : (id : ℕ) → id ≢ 0 → id % 1024 ≢ 1 → stored_bytes b id ≡ stored_bytes a id

stay-same : (a : List ℕ) → RecordsStay a a
stay-same a = record { here = λ q e. e; stored = λ id z m. refl }

stay_then : (a b c : List ℕ) → RecordsStay a b → RecordsStay b c → RecordsStay a c
stay_then a b c x y = record { here = λ q e. y.here q (x.here q e); stored = λ id z m. y.stored id z m ∙ x.stored id z m }

-- the metadata file has the same bytes
pub stay-bytes : (a b : List ℕ) → ((q : ℕ) → present a meta_file q ≡ true → present b meta_file q ≡ true) → ((p : ℕ) → byte_at b meta_file p ≡ byte_at a meta_file p) → RecordsStay a b
unfolding stored_bytes
stay-bytes a b h e = record { here = h; stored = λ id z m. tab-cong (byte_at b meta_file) (byte_at a meta_file) (128 * id) (128 * id) 112 (λ i l. e (128 * id + i)) }

pub stay-kept : (a b : List ℕ) → Kept a b meta_file → RecordsStay a b
stay-kept a b k = record { here = λ q e. k.block q ∙ e; stored = λ id z m. stored-kept a b k id }

-- bytes put beside the records
stay-put : (a b : List ℕ) (pos : ℕ) (src : List ℕ) → Put a meta_file pos src b
    → ((id i : ℕ) → id ≢ 0 → id % 1024 ≢ 1 → i < 112 → pos ≤ 128 * id + i → pos + length src ≤ 128 * id + i) → RecordsStay a b
unfolding stored_bytes
stay-put a b pos src P h = record {
  here = put-here a meta_file pos src b P;
  stored = λ id z m. tab-cong (byte_at b meta_file) (byte_at a meta_file) (128 * id) (128 * id) 112 (λ i l. P.outside (128 * id + i) (h id i z m l));
}

-- superblock and maps
stay-maps : (a maps : List ℕ) (n : ℕ) → Ok (RecordsStay a) Any (store_maps a maps n)
unfolding store_maps
stay-maps a maps zero = went (stay-same a)
stay-maps a maps (suc n) =
    ok-bind (stay-maps a maps n) λ b C.
    ok-weaken (λ c P. stay_then a b c C (stay-put b c (map_at n) (part maps (128 * n) (128 * n + 128)) P (λ id i z m l g.
    ⊎_elim (λ w. absurd (m (let e : id ≡ 1024 * n + 1 = omega (arith, length-take (128 * n + 128 - 128 * n) (drop (128 * n) maps)) in omega arith))) (λ w. w)
    (lt-or-le (128 * id + i) (map_at n + length (part maps (128 * n) (128 * n + 128)))))))
    (λ r e. e) (put-any b meta_file (map_at n) (part maps (128 * n) (128 * n + 128)))

pub stay-meta : (s : Fs) → Ok (λ (d : Fs). (d.table ≡ s.table) × RecordsStay s.arena d.arena) Any (sync_meta s)
unfolding sync_meta
stay-meta s =
    ok-bind (any s.meta) λ m _.
    ok-bind (ok-weaken (λ b P. stay-put s.arena b 0 _ P (λ id i z n l g. omega (arith, above_zero id z, length-super_bytes m.super))) (λ r e. e) (put-any s.arena meta_file 0 _)) λ b C.
    ok-bind (stay-maps b m.maps m.super.groups) λ d D. went (refl, stay_then s.arena b d C D)

-- ---- arena a since arena o: the blocks stay, and each record is the one that was or has its blocks

pub record Since (o a : List ℕ) : Type 0 where
  pub here : (q : ℕ) → present o meta_file q ≡ true → present a meta_file q ≡ true
  pub stock : (id : ℕ) → id ≢ 0 → id % 1024 ≢ 1 → ((q : ℕ) → touches (128 * id) 112 q ≡ true → present a meta_file q ≡ true) ⊎ (stored_bytes a id ≡ stored_bytes o id)

pub since-same : (o : List ℕ) → Since o o
since-same o = record { here = λ q e. e; stock = λ id z m. inr refl }

pub since-stay : {o a b : List ℕ} → RecordsStay a b → Since o a → Since o b
since-stay C S = record {
  here = λ q e. C.here q (S.here q e);
  stock = λ id z m. ⊎_elim (λ x. inl (λ q e. C.here q (x q e))) (λ x. inr (C.stored id z m ∙ x)) (S.stock id z m);
}

-- a record is put in its place: it has its blocks, and every other is as it was
pub since-put : {o a b : List ℕ} (n : ℕ) (src : List ℕ) → Put a meta_file (128 * n) src b → length src ≡ 112 → Since o a → Since o b
since-put {a = a} {b = b} n src P long S = record {
  here = λ q e. put-here a meta_file (128 * n) src b P q (S.here q e);
  stock = λ id z m. ⊎_elim
      (λ (e : id ≡ n). inl (λ q t. P.block q ∙ or-second (present a meta_file q) (subst (λ (k : ℕ). touches (128 * n) k q ≡ true) (sym long) (subst (λ (k : ℕ). touches (128 * k) 112 q ≡ true) e t))))
      (λ d. ⊎_elim (λ x. inl (λ q e. put-here a meta_file (128 * n) src b P q (x q e))) (λ x. inr (other-record a b n src long P id d ∙ x)) (S.stock id z m))
      (eq-cases id n);
}

-- ---- rows: X lets row i off, by its mark

abbrev pub LetOff : Type 1
LetOff = ℕ → Bool → Type 0

-- rows of a call's own, whatever their marks
abbrev pub By : (ℕ → Type 0) → LetOff
By own i d = own i

-- what is stored as it is, lasts
pub lasts-is : {r s : DiskINode} → s ≡ r → Lasts r s
lasts-is e = record { kind = ap (λ (x : DiskINode). x.kind) e; file = ap (λ (x : DiskINode). x.file) e; blocks = λ f. ap (λ (x : DiskINode). x.blocks) e }

-- what holds of a row r at i
pub record RowUpheld (p : Pair) (X : LetOff) (a : List ℕ) (i : ℕ) (r : Row) : Type 0 where
  pub wide : Wide r
  pub lasts : Lasting p.arena p.table → r.id ≢ 0 → r.id % 1024 ≢ 1 → X i r.dirty ⊎ Lasts r.rec (record_of (stored_bytes a r.id))

pub record Upheld (p : Pair) (X : LetOff) (a : List ℕ) (t : Table) : Type 0 where
  pub rows : length t.rows ≡ 34
  pub each : (i : ℕ) → i < 34 → RowUpheld p X a i (row_at t i)
  pub one : (i j : ℕ) → i < 34 → j < 34 → (row_at t i).id ≢ 0 → (row_at t i).id ≡ (row_at t j).id → i ≡ j
  pub since : Since p.arena a

row_more : {p : Pair} {X Y : LetOff} {a : List ℕ} {i : ℕ} {r : Row} → (X i r.dirty → Y i r.dirty) → RowUpheld p X a i r → RowUpheld p Y a i r
row_more h F = record { wide = F.wide; lasts = λ L z m. ⊎_elim (λ x. inl (h x)) (λ x. inr x) (F.lasts L z m) }

row-stay : {p : Pair} {X : LetOff} {a b : List ℕ} {i : ℕ} {r : Row} → (r.id ≢ 0 → r.id % 1024 ≢ 1 → stored_bytes b r.id ≡ stored_bytes a r.id) → RowUpheld p X a i r → RowUpheld p X b i r
row-stay {r = r} e F = record {
  wide = F.wide;
  lasts = λ L z m. ⊎_elim (λ x. inl x) (λ x. inr (subst (λ (l : List ℕ). Lasts r.rec (record_of l)) (sym (e z m)) x)) (F.lasts L z m);
}

-- a free row
pub zero-upheld : {p : Pair} {X : LetOff} {a : List ℕ} {i : ℕ} → RowUpheld p X a i zero_row
zero-upheld = record { wide = record { file = refl; mac = refl }; lasts = λ L z. absurd (z refl) }

no-row-apart : (t : Table) (id : ℕ) → no_row (row_of t id) ≡ true → (j : ℕ) → j < 34 → (row_at t j).id ≢ id
no-row-apart t id e = go (row_of t id) refl e
  where
    go : (f : Option ℕ) → row_of t id ≡ f → no_row f ≡ true → (j : ℕ) → j < 34 → (row_at t j).id ≢ id
    go (Some i) q e = absurd (true-false e refl)
    go None q e = row-missing t id q

-- a dirty row is one of the 34
dirty-below : (t : Table) → length t.rows ≡ 34 → (i : ℕ) → (row_at t i).dirty ≡ true → i < 34
dirty-below t l i e =
    ⊎_elim (λ (b : i < 34). b) (λ (b : 34 ≤ i). absurd (true-false e (ap (λ (r : Row). r.dirty) (get_or-eq_default t.rows off_row {n = i} (omega (arith, l)))))) (lt-or-le i 34)

-- a state whose superblock and maps are known
abbrev pub knowing : List ℕ → Table → Meta → Fs
knowing a t m = record { arena = a; table = t; meta = done m }

module _ {p : Pair} where
  pub upheld-more : {X Y : LetOff} {a : List ℕ} {t : Table} → ((i : ℕ) → X i (row_at t i).dirty → Y i (row_at t i).dirty) → Upheld p X a t → Upheld p Y a t
  upheld-more h H = record { rows = H.rows; each = λ i l. row_more (h i) (H.each i l); one = H.one; since = H.since }

  upheld-stay : {X : LetOff} {a b : List ℕ} {t : Table} → RecordsStay a b → Upheld p X a t → Upheld p X b t
  upheld-stay C H = record {
    rows = H.rows;
    each = λ i l. row-stay (C.stored _) (H.each i l);
    one = H.one;
    since = since-stay C H.since;
  }

  -- another row at i
  upheld-row : {X Y : LetOff} {a : List ℕ} {t : Table} (i : ℕ) (r : Row) → ((j : ℕ) (d : Bool) → j ≢ i → X j d → Y j d) → (i < 34 → RowUpheld p Y a i r)
      → (i < 34 → (j : ℕ) → j < 34 → j ≢ i → r.id ≢ 0 → (row_at t j).id ≢ r.id) → Upheld p X a t → Upheld p Y a (with_row t i r)
  upheld-row {Y = Y} {a = a} {t = t} i r more fine apart H = record {
    rows = length-set t.rows i r ∙ H.rows;
    each = λ j l. at j l (RowUpheld p Y a j) (λ e. subst (λ (k : ℕ). RowUpheld p Y a k r) (sym e) (fine (omega arith))) (λ d. row_more (more j (row_at t j).dirty d) (H.each j l));
    one = λ j k l m. at j l (λ v. v.id ≢ 0 → v.id ≡ (row_at (with_row t i r) k).id → j ≡ k)
        (λ x. at k m (λ v. r.id ≢ 0 → r.id ≡ v.id → j ≡ k) (λ y z e. x ∙ sym y) (λ y z e. absurd (apart (omega arith) k m y z (sym e))))
        (λ x. at k m (λ v. (row_at t j).id ≢ 0 → (row_at t j).id ≡ v.id → j ≡ k) (λ y z e. absurd (apart (omega arith) j l x (λ w. z (e ∙ w)) e)) (λ y. H.one j k l m));
    since = H.since;
  }
    where
      -- the row put, or another
      at : (j : ℕ) → j < 34 → (P : Row → Type 0) → (j ≡ i → P r) → (j ≢ i → P (row_at t j)) → P (row_at (with_row t i r) j)
      at j l P f g =
          ⊎_elim (λ (e : j ≡ i). subst P (sym (ap (row_at (with_row t i r)) e ∙ row_here t i r (omega (arith, H.rows)))) (f e))
          (λ d. subst P (sym (row_apart t i r j d)) (g d)) (eq-cases j i)

  -- a row in place of one with its id
  upheld-same : {X Y : LetOff} {a : List ℕ} {t : Table} (i : ℕ) (r : Row) → r.id ≡ (row_at t i).id → ((j : ℕ) (d : Bool) → j ≢ i → X j d → Y j d) → (i < 34 → RowUpheld p Y a i r) → Upheld p X a t → Upheld p Y a (with_row t i r)
  upheld-same i r e more fine H = upheld-row i r more fine (λ k j l d z f. d (sym (H.one i j k l (λ w. z (e ∙ w)) (sym (f ∙ e))))) H

  -- a row is freed
  upheld-free : {X Y : LetOff} {a : List ℕ} {t : Table} (i : ℕ) → ((j : ℕ) (d : Bool) → j ≢ i → X j d → Y j d) → Upheld p X a t → Upheld p Y a (free_row_at t i)
  upheld-free i more H = upheld-row i zero_row more (λ k. zero-upheld) (λ k j l d z. absurd (z refl)) H

  -- a row's record is stored: now it is clean
  pub upheld-store : {X Y : LetOff} {a b : List ℕ} {t : Table} (i : ℕ) → i < 34 → ((j : ℕ) (d : Bool) → j ≢ i → X j d → Y j d) → Y i false
      → Put a meta_file (128 * (row_at t i).id) (record_bytes (row_at t i).rec) b → Upheld p X a t → Upheld p Y b (with_dirty t i false)
  upheld-store {X = X} {Y = Y} {a = a} {b = b} {t = t} i k more off P H =
      upheld-same i (record { id = (row_at t i).id; dirty = false; rec = (row_at t i).rec }) refl (λ j d n y. y n)
      (λ _. record { wide = record { file = W.file; mac = W.mac }; lasts = λ L z m. inl off }) stored
    where
      W : Wide (row_at t i)
      W = (H.each i k).wide

      long : length (record_bytes (row_at t i).rec) ≡ 112
      long = length-record_bytes (row_at t i).rec W.file W.mac

      -- in between the row is let off
      stored : Upheld p (λ j d. j ≢ i → Y j d) b t
      stored = record {
        rows = H.rows;
        each = λ j l. ⊎_elim
            (λ (e : j ≡ i). record { wide = (H.each j l).wide; lasts = λ L z m. inl (λ n. absurd (n e)) })
            (λ n. row-stay (λ z m. other-record a b (row_at t i).id (record_bytes (row_at t i).rec) long P (row_at t j).id (λ e. n (H.one j i l k z e)))
            (row_more (λ x _. more j (row_at t j).dirty n x) (H.each j l)))
            (eq-cases j i);
        one = H.one;
        since = since-put (row_at t i).id (record_bytes (row_at t i).rec) P long H.since;
      }

  -- ---- the steps

  -- a file of a node is filled, cut or removed
  pub upheld-fill : {X : LetOff} {a : List ℕ} {t : Table} (f : List ℕ) (pos : ℕ) (src : List ℕ) → Upheld p X a t → Ok (λ b. Upheld p X b t) Any (put_file a (file 1 f) pos src)
  upheld-fill {a = a} f pos src H = ok-weaken (λ b P. upheld-stay (stay-kept a b (P.others meta_file (λ e. node-other f (sym e)))) H) (λ n r. r) (put-any a (file 1 f) pos src)

  pub upheld-cut : {X : LetOff} {a : List ℕ} {t : Table} (f : List ℕ) (n : ℕ) → Upheld p X a t → Ok (λ b. Upheld p X b t) Any (cut_file a (file 1 f) n)
  upheld-cut {a = a} f n H = ok-weaken (λ b P. upheld-stay (stay-kept a b (P.others meta_file (λ e. node-other f (sym e)))) H) (λ n r. tt) (cut-law a (file 1 f) n)

  upheld-drop : {X : LetOff} {a : List ℕ} {t : Table} (f : List ℕ) → Upheld p X a t → Ok (λ b. Upheld p X b t) Any (drop_file a (file 1 f))
  upheld-drop {a = a} f H = ok-weaken (λ b P. upheld-stay (stay-kept a b (P.others meta_file (λ e. node-other f (sym e)))) H) (λ n r. tt) (drop-law a (file 1 f))

  pub upheld-meta : {X : LetOff} (s : Fs) → Upheld p X s.arena s.table → Leaves (Upheld p X) (sync_meta s)
  upheld-meta {X = X} s H = ok-weaken (λ d C. upheld-stay C.1 (subst (Upheld p X s.arena) (sym C.0) H)) (λ n r. r) (stay-meta s)

  -- a row is stored where it is dirty: then it needs to be let off no more
  pub upheld-sync : {X Y : LetOff} (s : Fs) (i : ℕ) → ((j : ℕ) (d : Bool) → j ≢ i → X j d → Y j d) → Y i false → Upheld p X s.arena s.table → Leaves (Upheld p Y) (sync_row s i)
  unfolding sync_row store_row
  upheld-sync {X = X} {Y = Y} s i more off H =
      any-pick (row_at s.table i).dirty (store_row s i) (done s)
      (λ e. ok-bind (ok-weaken (λ b P. upheld-store i (dirty-below s.table H.rows i e) more off P H) (λ n r. r) (put-any s.arena meta_file (128 * id_at s i) (record_bytes (rec_at s i)))) λ b K. went K)
      (λ e. went (upheld-more (λ j x. ⊎_elim
      (λ (q : j ≡ i). subst (λ (k : ℕ). Y k (row_at s.table k).dirty) (sym q) (subst (Y i) (sym e) off)) (λ n. more j (row_at s.table j).dirty n x) (eq-cases j i)) H))

  upheld-free-node : {X : LetOff} (s : Fs) (i : ℕ) → Upheld p X s.arena s.table → Leaves (Upheld p X) (free_node s i)
  unfolding free_node free_block
  upheld-free-node {X = X} s i H =
      ok-bind {P = λ (u : Fs). Upheld p X u.arena u.table}
      (ok-bind (any s.meta) λ m _. any-guard (is_used m (id_at s i)) 19 (λ _. any-guard (ltb (m.super.unused + 1) 4294967296) 19 (λ _. went H))) λ u K.
      ok-bind (upheld-meta u K) λ v M.
      ok-bind (upheld-drop (rec_at v i).file M) λ b N. went N

  -- a node is dropped: its row is let off till it is free
  pub upheld-gone : {X : LetOff} (s : Fs) (i : ℕ) → Upheld p X s.arena s.table → Leaves (Upheld p X) (drop_node s i)
  unfolding drop_node
  upheld-gone {X = X} s i H =
      ok-bind (upheld-sync {Y = λ j d. X j d ⊎ (j ≡ i)} s i (λ j d n x. inl x) (inr refl) H) λ u K.
      ok-bind {P = λ (v : Fs). Upheld p (λ j d. X j d ⊎ (j ≡ i)) v.arena v.table}
      (any-pick (eqb (rec_at u i).nlinks 0) (free_node u i) (done u) (λ _. upheld-free-node u i K) (λ _. went K)) λ v M.
      went (upheld-free i (λ j d n x. ⊎_elim (λ y. y) (λ e. absurd (n e)) x) M)

  pub upheld-release : {X : LetOff} (s : Fs) (i : ℕ) → Upheld p X s.arena s.table → Leaves (Upheld p X) (release s i)
  unfolding release
  upheld-release s i H = any-pick (row_used s.table i) (done s) (drop_node s i) (λ _. went H) (λ _. upheld-gone s i H)

  -- a node is opened: the row that it has, or a free one with the stored record
  pub upheld-loads : {X : LetOff} → Loads (Upheld p X)
  upheld-loads a t i id free none H =
      upheld-row i (record { id = id; dirty = false; rec = record_of (stored_bytes a id) }) (λ j d n x. x)
      (λ k. record { wide = stored-wide a id; lasts = λ L z m. inr (lasts-is refl) })
      (λ k j l d z. row-missing t id none j l) H

  pub upheld-node : {X : LetOff} (s : Fs) (id : ℕ) → Upheld p X s.arena s.table → Ok (λ (x : Opened). Upheld p X x.state.arena x.state.table) Any (get_node s id)
  upheld-node {X = X} s id H = leaves-node (Upheld p X) upheld-loads s id H

  -- ---- a record changes: its type and file don't, and its slots' number only in a row that is let off

  pub upheld-set : {own : ℕ → Type 0} {a : List ℕ} {t : Table} (i : ℕ) (r : DiskINode) → r.kind ≡ (row_at t i).rec.kind → r.file ≡ (row_at t i).rec.file → r.mac ≡ (row_at t i).rec.mac
      → own i ⊎ (r.blocks ≡ (row_at t i).rec.blocks) → Upheld p (By own) a t → Upheld p (By own) a (take_row t i (row_at t i).id r true)
  upheld-set {own = own} {a = a} {t = t} i r kind name mac blocks H =
      upheld-same i (record { id = (row_at t i).id; dirty = true; rec = r }) refl (λ j d n x. x)
      (λ k.
      let F = H.each i k in
      record {
        wide = record { file = ap length name ∙ F.wide.file; mac = ap length mac ∙ F.wide.mac };
        lasts = λ L z m. ⊎_elim (λ x. inl x)
            (λ (b : r.blocks ≡ (row_at t i).rec.blocks). ⊎_elim (λ x. inl x)
            (λ (S : Lasts (row_at t i).rec (record_of (stored_bytes a (row_at t i).id))).
            inr (record { kind = S.kind ∙ sym kind; file = S.file ∙ sym name; blocks = λ f. S.blocks (ap is_folder (sym kind) ∙ f) ∙ sym b }))
            (F.lasts L z m))
            blocks;
      }) H

  -- holds are given or closed
  pub upheld-rows : {X : LetOff} {a : List ℕ} (t u : Table) → u.rows ≡ t.rows → Upheld p X a t → Upheld p X a u
  upheld-rows {X = X} {a = a} t u e H =
      let at = rows_at t u e in
      let id : (i : ℕ) → (row_at u i).id ≡ (row_at t i).id = λ i. ap (λ (r : Row). r.id) (at i) in
      record {
        rows = ap length e ∙ H.rows;
        each = λ i l. subst (RowUpheld p X a i) (sym (at i)) (H.each i l);
        one = λ i j l m z q. H.one i j l m (λ w. z (id i ∙ w)) (sym (id i) ∙ q ∙ id j);
        since = H.since;
      }

  -- ---- a node is made: its row is let off. A new group leaves the metadata file's bytes as they are

  module _ {X : LetOff} (a : List ℕ) (t : Table) (m : Meta) (grows : (b : List ℕ) → Cut a meta_file (131072 * (m.super.groups + 1)) b → RecordsStay a b) where
    upheld-alloc : Upheld p X a t → Ok (λ (x : Allocated). Upheld p X x.state.arena x.state.table) Any (alloc_block (knowing a t m))
    unfolding alloc_block take_bit add_group
    upheld-alloc H =
        ok-bind {P = λ (u : Fs). Upheld p X u.arena u.table}
        (any-pick (ltb (first_bit m) (ids m)) (done (knowing a t m)) (add_group (knowing a t m) m) (λ _. went H)
        (λ _. any-guard (ltb m.super.groups 4) 17 (λ _.
        any-guard (ltb (m.super.blocks + 1024) 4294967296 && ltb (m.super.unused + 1023) 4294967296) 19 (λ _.
        ok-bind (ok-weaken (λ b C. upheld-stay (grows b C) H) (λ n r. tt) (cut-law a meta_file (131072 * (m.super.groups + 1)))) λ b K. went K)))) λ u K.
        ok-bind (any u.meta) λ x _. any-guard (ltb 0 x.super.unused) 19 (λ _. went K)

    pub upheld-new : (kind mode : ℕ) (time : Timespec) (name : List ℕ) → Named (file 1 name) → Upheld p X a t
        → Ok (λ (x : Opened). Upheld p (λ k d. X k d ⊎ (k ≡ x.row)) x.state.arena x.state.table) Any (new_node (knowing a t m) kind mode time name)
    unfolding new_node
    upheld-new kind mode time name N H =
        ok-bind (upheld-alloc H) λ x K.
        any-guard (not (eqb x.id 0) && no_row (row_of x.state.table x.id)) 19 (λ e.
        ok-bind (ok-weaken (λ b M. upheld-stay (stay-kept x.state.arena b (M.others meta_file (λ q. node-other name (sym q)))) K) (λ n r. tt) (make-law x.state.arena (file 1 name) N)) λ b M.
        go x b (and_parts (not (eqb x.id 0)) (no_row (row_of x.state.table x.id)) e).1 M (free_row x.state.table))
      where
        go : (x : Allocated) (b : List ℕ) → no_row (row_of x.state.table x.id) ≡ true → Upheld p X b x.state.table → (f : Option ℕ)
            → Ok (λ (o : Opened). Upheld p (λ k d. X k d ⊎ (k ≡ o.row)) o.state.arena o.state.table) Any (open_in (with_arena x.state b) x.id (new_record kind mode time name) true f)
        go x b e M (Some i) =
            went (upheld-row i (record { id = x.id; dirty = true; rec = new_record kind mode time name }) (λ j d n y. inl y)
            (λ k. record { wide = record { file = N.size; mac = refl }; lasts = λ L z m. inl (inr refl) }) (λ k j l d z. no-row-apart x.state.table x.id e j l) M)
        go x b e M None = said tt
