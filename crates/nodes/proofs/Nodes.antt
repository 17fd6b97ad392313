-- Nodes opened, made, stored and dropped: the steps of each definition, on the state of the three slices.
use mathlib.Core.Path.{◌≡◌, refl, ap, sym}
use mathlib.Core.Bool.{Bool, true, false, not, ◌&&◌}
use mathlib.Core.List.{List}
use Prim.Native.Nat.{ℕ, ◌+◌, ◌*◌, ◌<◌}
use native.Mathlib.Omega.{arith}
use lib.ListN.{length}
use lib.Dec.{eqb, leb}
use Rattle.base.specs.Out.{Out, done, refused, bind, guard, Went, well, ill}
use Rattle.base.specs.Parts.{part}
use Rattle.base.specs.Search.{pick}
use Rattle.std.specs.Prelude.{None}
use Rattle.base.proofs.Lists.{length_part}
use Rattle.base.proofs.Outs.{above_zero, went-is, went-has, went-not, went-weaken}
use Rattle.le.specs.Le.{Bytes}
use Rattle.structs.specs.Layout.{record_of}
use Rattle.structs.specs.declared.DiskINode.{DiskINode}
use Rattle.structs.specs.declared.Timespec.{Timespec}
use Rattle.table.specs.Table.{row_at, row_of, free_row, with_dirty, free_row_at, row_used}
use Rattle.arena.specs.Fields.{file}
use Rattle.overlay.specs.View.{view}
use Rattle.overlay.specs.Steps.{Did}
use Rattle.overlay.proofs.Chains.{did-well, did-ill, did_more}
use Rattle.files.specs.Read.{there, read_file}
use Rattle.files.specs.Store.{put_file, make_file, drop_file, touched}
use Rattle.files.proofs.Puts.{touched-few}
use Rattle.sefs.specs.State.{Fs, with_arena, with_table}
use Rattle.sefs.specs.Records.{new_record}
use Rattle.sefs.specs.Meta.{Allocated, meta_file, sync_meta, alloc_block, free_block}
use Rattle.sefs.specs.Nodes.{Opened, opened, node_file, rec_at, open_in, no_row, load_node, new_node, store_row, sync_row, free_node, drop_node, release}
use Rattle.mem.specs.Mem.{table_in, Whole, Tabled, memory_size}
use Rattle.mem.specs.State.{fs_of, Still, Stepped, fs_at}
use Rattle.nodes.specs.Steps.{made_node, remove_node}
use Rattle.nodes.proofs.Bytes.{row-bytes}
use Rattle.nodes.proofs.Steps.{fs-tabled, did-step, did-tabled, did-stops, still-then, step-next, mem-next}

-- ---- a node is opened

pub open_none : (m : List ℕ) (id : ℕ) (rec : DiskINode) (dirty : Bool) → row_of (table_in m) 0 ≡ None → (a : List ℕ) → open_in (fs_at a m) id rec dirty (free_row (table_in m)) ≡ refused 19
open_none m id rec dirty e a = rw e

module _ (a m : List ℕ) (id r : ℕ) (l : List ℕ) (g : Went (read_file a meta_file (128 * id) 112) l Unit r) where
  pub load-stop : (v : Opened) (P : Type 0) → (r ≡ 0 → ⊥) → Went (load_node (fs_at a m) id) v P r
  unfolding load_node
  load-stop v P z = ill (above_zero r z) (rw (went-not g z))

  pub load_is : r ≡ 0 → load_node (fs_at a m) id ≡ guard (leb (record_of l).kind 4) 19 (guard (there a (node_file (record_of l))) 19 (open_in (fs_at a m) id (record_of l) false (free_row (table_in m))))
  unfolding load_node
  load_is z = rw (went-is g z)

-- ---- a node is made

module _ (a w m : List ℕ) (id kind mode : ℕ) (time : Timespec) (name : List ℕ) where
  pub made-not : (not (eqb id 0) && no_row (row_of (table_in m) id)) ≡ false → made_node (fs_of a w m) id kind mode time name ≡ refused 19
  unfolding made_node fs_of
  made-not h = rw h

  module _ (h : (not (eqb id 0) && no_row (row_of (table_in m) id)) ≡ true) (u : List ℕ) (r : ℕ) (d : Did (make_file (view a w) (file 1 name)) a w u 1 r) where
    pub made-stop : (v : Opened) (P : Type 0) → (r ≡ 0 → ⊥) → Went (made_node (fs_of a w m) id kind mode time name) v P r
    unfolding made_node fs_of
    made-stop v P z = ill (above_zero r z) (rw (h, did-ill d z))

    pub made-next : (n : List ℕ) (i q : ℕ) → r ≡ 0 → Went (open_in (fs_of a u m) id (new_record kind mode time name) true (free_row (table_in m))) (opened (fs_of a u n) i) (Whole n × (i < 34)) q → Went (made_node (fs_of a w m) id kind mode time name) (opened (fs_of a u n) i) (Still a w u n 1 × (i < 34)) q
    unfolding made_node fs_of
    made-next n i q z g =
        let e = did-well d z in
        rw (h, e.is) (went-weaken (λ p. (record { fine = e.fine; whole = p.0; room = e.room }, p.1)) g)

module _ (s : Fs) (kind mode : ℕ) (time : Timespec) (name : List ℕ) where
  pub new-stop : {x : Allocated} {P : Type 0} (v : Opened) (Q : Type 0) (r : ℕ) → (r ≡ 0 → ⊥) → Went (alloc_block s) x P r → Went (new_node s kind mode time name) v Q r
  unfolding new_node
  new-stop v Q r z g = ill (above_zero r z) (rw (went-not g z))

  pub new-next : (a w u t n p : List ℕ) (id i r q : ℕ) → r ≡ 0 → Went (alloc_block s) (record { state = fs_of a u n; id = id }) (Still a w u n 2) r → Went (made_node (fs_of a u n) id kind mode time name) (opened (fs_of a t p) i) (Still a u t p 1 × (i < 34)) q → Went (new_node s kind mode time name) (opened (fs_of a t p) i) (Still a w t p 3 × (i < 34)) q
  unfolding new_node made_node
  new-next a w u t n p id i r q z g h =
      rw (went-is g z) (went-weaken (λ x. (still-then 3 (omega arith) (went-has g z) x.0, x.1)) h)

-- ---- a record is stored

module _ (a w u m : List ℕ) (i r : ℕ) (b : Bytes m) (size : length m ≡ memory_size) (l : i < 34) (d : Did (put_file (view a w) meta_file (128 * (row_at (table_in m) i).id) (part m (117 * i + 5) (117 * i + 5 + 112))) a w u (1 + touched (128 * (row_at (table_in m) i).id) (length (part m (117 * i + 5) (117 * i + 5 + 112)))) r) where
  store_is : store_row (fs_of a w m) i ≡ bind (put_file (view a w) meta_file (128 * (row_at (table_in m) i).id) (part m (117 * i + 5) (117 * i + 5 + 112))) (λ d. done (with_table (with_arena (fs_of a w m) d) (with_dirty (table_in m) i false)))
  unfolding store_row fs_of
  store_is = rw (row-bytes m i b size l)

  -- a record may lie in two blocks
  row-did : Did (put_file (view a w) meta_file (128 * (row_at (table_in m) i).id) (part m (117 * i + 5) (117 * i + 5 + 112))) a w u 3 r
  row-did =
      let n = length_part m (117 * i + 5) (117 * i + 5 + 112) (omega arith) (omega arith) in
      let k = touched-few (128 * (row_at (table_in m) i).id) (length (part m (117 * i + 5) (117 * i + 5 + 112))) (omega arith) in
      did_more 3 (omega arith) d

  pub store-stop : (n : List ℕ) → (r ≡ 0 → ⊥) → Stepped (store_row (fs_of a w m) i) a w u n 3 r
  store-stop n z =
      rw store_is (did-stops (λ d. done (with_table (with_arena (fs_of a w m) d) (with_dirty (table_in m) i false))) (fs_of a u n) (Still a w u n 3) z row-did)

  pub store-done : (n : List ℕ) → r ≡ 0 → Tabled m n (with_dirty (table_in m) i false) → Stepped (store_row (fs_of a w m) i) a w u n 3 0
  store-done n z c = rw store_is (did-tabled row-did z c)

pub row-dirty : (a w m : List ℕ) (i : ℕ) → (row_at (table_in m) i).dirty ≡ true → sync_row (fs_of a w m) i ≡ store_row (fs_of a w m) i
unfolding sync_row fs_of
row-dirty a w m i h = rw h

pub row-clean : (a w m : List ℕ) (i : ℕ) → (row_at (table_in m) i).dirty ≡ false → sync_row (fs_of a w m) i ≡ done (fs_of a w m)
unfolding sync_row fs_of
row-clean a w m i h = rw h

-- ---- a node is dropped

-- the file is removed
removed : ℕ → Fs → Out Fs
removed i s = bind (drop_file s.arena (node_file (rec_at s i))) (λ a. done (with_arena s a))

module _ (a w u m : List ℕ) (i r : ℕ) (d : Stepped (sync_meta (fs_of a w m)) a w u m 10 r) where
  pub remove-stop : (t n : List ℕ) → (r ≡ 0 → ⊥) → Stepped (remove_node (fs_of a w m) i) a w t n 10 r
  unfolding remove_node
  remove-stop t n z = ill (above_zero r z) (rw (went-not d z))

  pub remove-done : (t : List ℕ) (q : ℕ) → r ≡ 0 → Did (drop_file (view a u) (file 1 (row_at (table_in m) i).rec.file)) a u t 0 q → Stepped (remove_node (fs_of a w m) i) a w t m 10 q
  unfolding remove_node removed fs_of
  remove-done t q z e = step-next 10 (removed i) (omega arith) z d (did-step (went-has d z).whole e)

module _ (a w m n : List ℕ) (i r : ℕ) (d : Went (free_block (fs_of a w m) (row_at (table_in m) i).id) (fs_of a w n) (Whole n) r) where
  free-is : free_node (fs_of a w m) i ≡ bind (free_block (fs_of a w m) (row_at (table_in m) i).id) (λ s. remove_node s i)
  unfolding free_node remove_node fs_of
  free-is = refl

  pub free-stop : (t p : List ℕ) → (r ≡ 0 → ⊥) → Stepped (free_node (fs_of a w m) i) a w t p 10 r
  free-stop t p z = rw free-is (ill (above_zero r z) (rw (went-not d z)))

  pub free-done : (t : List ℕ) (q : ℕ) → r ≡ 0 → Stepped (remove_node (fs_of a w n) i) a w t n 10 q → Stepped (free_node (fs_of a w m) i) a w t n 10 q
  free-done t q z e = rw free-is (mem-next (λ s. remove_node s i) z d e)

-- a node without links
unlinked : ℕ → Fs → Out Fs
unlinked i s = pick (eqb (rec_at s i).nlinks 0) (free_node s i) (done s)

-- its row becomes free
cleared : ℕ → Fs → Out Fs
cleared i s = done (with_table s (free_row_at s.table i))

cleared-is : (a t p y : List ℕ) (i : ℕ) → Tabled p y (free_row_at (table_in p) i) → cleared i (fs_of a t p) ≡ done (fs_of a t y)
unfolding cleared fs_of
cleared-is a t p y i c = ap done (sym (fs-tabled a t c))

module _ (a w u m n : List ℕ) (i r : ℕ) (d : Stepped (sync_row (fs_of a w m) i) a w u n 3 r) where
  drop-is : drop_node (fs_of a w m) i ≡ bind (sync_row (fs_of a w m) i) (λ s. bind (unlinked i s) (cleared i))
  unfolding drop_node unlinked cleared
  drop-is = refl

  pub drop-stop : (t p : List ℕ) → (r ≡ 0 → ⊥) → Stepped (drop_node (fs_of a w m) i) a w t p 13 r
  drop-stop t p z = rw drop-is (ill (above_zero r z) (rw (went-not d z)))

  module _ (t p : List ℕ) (q : ℕ) (e : Stepped (pick (eqb (row_at (table_in n) i).rec.nlinks 0) (free_node (fs_of a u n) i) (done (fs_of a u n))) a u t p 10 q) where
    unlink-step : Stepped (unlinked i (fs_of a u n)) a u t p 10 q
    unfolding unlinked fs_of
    unlink-step = e

    pub drop_stuck : (x y : List ℕ) → r ≡ 0 → (q ≡ 0 → ⊥) → Stepped (drop_node (fs_of a w m) i) a w x y 13 q
    drop_stuck x y z k = rw (drop-is, went-is d z) (ill (above_zero q k) (rw (went-not unlink-step k)))

    pub drop-done : (y : List ℕ) → r ≡ 0 → q ≡ 0 → Tabled p y (free_row_at (table_in p) i) → Stepped (drop_node (fs_of a w m) i) a w t y 13 0
    drop-done y z k c =
        let f : Stepped (cleared i (fs_of a t p)) a t t y 0 0 = well (cleared-is a t p y i c) (record { fine = (went-has unlink-step k).fine; whole = c.whole; room = omega arith }) in
        rw drop-is (step-next 13 (λ s. bind (unlinked i s) (cleared i)) (omega arith) z d (step-next 10 (cleared i) (omega arith) k unlink-step f))

-- an opening ends

pub release-held : (a w m : List ℕ) (i : ℕ) → row_used (table_in m) i ≡ true → release (fs_of a w m) i ≡ done (fs_of a w m)
unfolding release fs_of
release-held a w m i h = rw h

pub release-free : (a w m : List ℕ) (i : ℕ) → row_used (table_in m) i ≡ false → release (fs_of a w m) i ≡ drop_node (fs_of a w m) i
unfolding release fs_of
release-free a w m i h = rw h
