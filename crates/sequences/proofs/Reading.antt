-- A read at a passed pair: it gives the bytes of the node's file, and no more than it has.
use mathlib.Core.Path.{◌≡◌, refl, sym, ap, ◌∙◌, subst}
use mathlib.Core.Bool.{Bool, true, false, not, ◌&&◌}
use mathlib.Core.List.{List}
use mathlib.Core.Logic.{⊎_elim}
use Prim.Native.Nat.{ℕ, ◌<◌}
use native.Mathlib.Omega.{arith}
use lib.Dec.{leb}
use lib.ListN.{length}
use Rattle.base.specs.Out.{Out, done, refused, bind, ensure, kept, Ok}
use Rattle.base.specs.Parts.{tab}
use Rattle.base.proofs.Outs.{bind-is-done, ok-done}
use Rattle.base.proofs.Bools.{bool_cases, true-false}
use Rattle.base.proofs.Lists.{length-tab}
use Rattle.base.proofs.Tests.{decides-leb}
use Rattle.base.proofs.Sames.{decided-yes}
use Rattle.std.specs.Prelude.{Some}
use Rattle.structs.specs.Types.{is_folder, is_type}
use Rattle.structs.specs.declared.DiskINode.{DiskINode}
use Rattle.arena.specs.Fields.{file}
use Rattle.files.specs.Read.{there, length_of, byte_at}
use Rattle.table.specs.declared.Table.{Table}
use Rattle.table.specs.declared.Handle.{Handle}
use Rattle.table.specs.Table.{row_at, live_row}
use Rattle.sefs.specs.Nodes.{node_file}
use Rattle.sefs.specs.Ask.{admit, by_handle}
use Rattle.sefs.specs.Contents.{has_contents, read_count, read_bytes, call_read}
use Rattle.sefs_laws.specs.Contents.{file_at, size_at, Exact}
use Rattle.sefs_laws.proofs.Handles.{Owns, live-owns, handle-asks, handle-done}
use Rattle.sefs_laws.proofs.Rows.{Any}
use Rattle.rules.specs.Image.{is_node, rec_of, is_folder_at}
use Rattle.rules.specs.Rules.{Allowed}
use Rattle.image.specs.Midway.{Used}
use Rattle.image.proofs.Handles.{admitted, formed, row-node, row-rec, row-most, row_type}
use Rattle.sequences.specs.Pairs.{Pair, Passed}
use Rattle.sequences.specs.Promises.{On}
use Rattle.sequences.proofs.Passing.{allowed}
use Rattle.sequences.proofs.Chains.{never}
use Rattle.sequences.proofs.Corner.{on-used}

-- what is asked of a known type
asked : (x y z : Bool) → x ≡ true → y ≡ true → bind (ensure x 19) (λ _. ensure (y && not z) 21) ≡ ensure (not z) 21
asked true true z e q = refl
asked true false z e q = absurd (true-false q refl)
asked false y z e q = absurd (true-false e refl)

contents-by : (r : DiskINode) (b : Bool) → leb r.kind 4 ≡ true → is_type r.kind ≡ true → is_folder r.kind ≡ b → has_contents r ≡ ensure (not b) 21
unfolding has_contents
contents-by r b e q d = asked (leb r.kind 4) (is_type r.kind) (is_folder r.kind) e q ∙ ap (λ (x : Bool). ensure (not x) 21) d

-- ---- through w's handle h on node n

module _ (p : Pair) (y : Passed p) {w : ℕ} {h : Handle} {n : ℕ} {f : List ℕ} (o : On p.table w h n f) where
  abbrev a : List ℕ
  a = p.arena

  abbrev t : Table
  t = p.table

  -- the type that its record has
  abbrev k : ℕ
  k = (rec_of p.arena p.table n).kind

  A : Allowed p.arena p.table
  A = allowed p y

  used : Used p.table o.row
  used = on-used a t A w h n f o

  pub node-is : is_node p.arena n ≡ true
  node-is = ap (is_node a) (sym o.node) ∙ row-node a t A o.row used

  rec-is : rec_of p.arena p.table n ≡ (row_at p.table o.row).rec
  rec-is = ap (rec_of a t) (sym o.node) ∙ row-rec a t A o.row used

  pub file-is : (rec_of p.arena p.table n).file ≡ f
  file-is = ap (λ (r : DiskINode). r.file) rec-is ∙ o.file

  -- a handle is asked for its row
  reads-row : (at room : ℕ) → call_read p.arena p.table w h at room
      ≡ bind (has_contents (row_at p.table o.row).rec) (λ _. read_bytes p.arena (node_file (row_at p.table o.row).rec) at (read_count (row_at p.table o.row).rec.size at room))
  unfolding call_read
  reads-row at room = rw (admitted a t A, handle-done t w h o.row (live-owns t w h o.row (formed a t A) o.live)) refl

  known-type : leb (row_at p.table o.row).rec.kind 4 ≡ true
  known-type = decided-yes (decides-leb (row_at t o.row).rec.kind 4) (row-most a t A o.row used)

  -- its row has that type
  row-kind : {dir : Bool} → is_folder k ≡ dir → is_folder (row_at p.table o.row).rec.kind ≡ dir
  row-kind e = ap (λ (r : DiskINode). is_folder r.kind) (sym rec-is) ∙ e

  pub read-folder : is_folder (rec_of p.arena p.table n).kind ≡ true → (at room : ℕ) → call_read p.arena p.table w h at room ≡ refused 21
  read-folder dir at room =
      reads-row at room
      ∙ ap (λ (x : Out Unit). bind x (λ _. read_bytes a (node_file (row_at t o.row).rec) at (read_count (row_at t o.row).rec.size at room)))
      (contents-by (row_at t o.row).rec true known-type (row_type a t A o.row used) (row-kind dir))

  module _ (no-dir : is_folder (rec_of p.arena p.table n).kind ≡ false) where
    has-contents : has_contents (row_at p.table o.row).rec ≡ done tt
    has-contents = contents-by (row_at t o.row).rec false known-type (row_type a t A o.row used) (row-kind no-dir)

    not-folder : is_folder_at p.arena p.table n ≡ false
    unfolding is_folder_at
    not-folder = rw (no-dir, node-is) refl

    -- "a non-folder's file length is its size"
    pub long-is : length_of p.arena (file 1 f) ≡ (row_at p.table o.row).rec.size
    long-is =
        ap (λ (x : List ℕ). length_of a (file 1 x)) (sym o.file)
        ∙ ap (λ (r : DiskINode). length_of a (node_file r)) (sym rec-is)
        ∙ A.rule6.size n node-is not-folder
        ∙ ap (λ (r : DiskINode). r.size) rec-is

    pub there-is : there p.arena (node_file (row_at p.table o.row).rec) ≡ true
    there-is = ap (λ (r : DiskINode). there a (node_file r)) (sym rec-is) ∙ A.rule5.own n node-is

    read-bytes : (at m : ℕ) → read_bytes p.arena (node_file (row_at p.table o.row).rec) at m ≡ done (tab (byte_at p.arena (file 1 f)) at m)
    unfolding read_bytes
    read-bytes at m = rw there-is (ap (λ (x : List ℕ). done (tab (byte_at a (file 1 x)) at m)) o.file)

    pub read-file : (at room : ℕ) → call_read p.arena p.table w h at room ≡ done (tab (byte_at p.arena (file 1 f)) at (read_count (length_of p.arena (file 1 f)) at room))
    read-file at room =
        reads-row at room
        ∙ ap (λ (x : Out Unit). bind x (λ _. read_bytes a (node_file (row_at t o.row).rec) at (read_count (row_at t o.row).rec.size at room))) has-contents
        ∙ read-bytes at (read_count (row_at t o.row).rec.size at room)
        ∙ ap (λ (m : ℕ). done (tab (byte_at a (file 1 f)) at (read_count m at room))) (sym long-is)

-- the row of a handle that was read through
read-row : (a : List ℕ) (t : Table) (w : ℕ) (h : Handle) (at room : ℕ) (l : List ℕ) → call_read a t w h at room ≡ done l → (i : ℕ) × (live_row t w h ≡ Some i)
unfolding call_read
read-row a t w h at room l e =
    let d = bind-is-done (admit a t) _ l e in
    let b = bind-is-done (by_handle t w h) _ l d.2 in
    (b.0, (ok-done (subst (Ok (Owns t w h) Any) b.1 (handle-asks {R = Any} tt tt t w h))).live)

-- a handle that reads bytes is on no folder
pub read-no-folder : (p : Pair) → Passed p → {w : ℕ} {h : Handle} {n : ℕ} {f : List ℕ} → On p.table w h n f → (at room : ℕ) (bytes : List ℕ) → call_read p.arena p.table w h at room ≡ done bytes
    → is_folder (rec_of p.arena p.table n).kind ≡ false
read-no-folder p y {n = n} o at room bytes e = ⊎_elim (λ dir. absurd (never (sym e ∙ read-folder p y o dir at room))) (λ no. no) (bool_cases (is_folder (rec_of p.arena p.table n).kind))

-- ---- the whole file

-- w's handle h is on a row whose file holds `old`, and no more; it is no folder's
pub record WholeFile (p : Pair) (w : ℕ) (h : Handle) (old : List ℕ) : Type 0 where
  pub row : ℕ
  pub live : live_row p.table w h ≡ Some row
  pub no-dir : is_folder (rec_of p.arena p.table (row_at p.table row).id).kind ≡ false
  pub exact : Exact p.arena p.table row
  pub size : length old ≡ size_at p.table row
  pub bytes : old ≡ tab (byte_at p.arena (file_at p.table row)) 0 (length old)

-- by a read from the start that had room to spare
pub whole-file : (p : Pair) → Passed p → (w : ℕ) (h : Handle) (old : List ℕ) (all : ℕ) → call_read p.arena p.table w h 0 all ≡ done old → length old < all → WholeFile p w h old
whole-file p y w h old all reads spare =
    let r = read-row p.arena p.table w h 0 all old reads in
    let i : ℕ = r.0 in
    let o : On p.table w h (row_at p.table r.0).id (row_at p.table r.0).rec.file = record { row = r.0; live = r.1; node = refl; file = refl } in
    let no-dir = read-no-folder p y o 0 all old reads in
    let m : ℕ = length_of p.arena (file_at p.table i) in
    let is : old ≡ tab (byte_at p.arena (file_at p.table r.0)) 0 (read_count (length_of p.arena (file_at p.table r.0)) 0 all) = ap (kept old) (sym reads ∙ read-file p y o no-dir 0 all) in
    let long : length old ≡ read_count (length_of p.arena (file_at p.table r.0)) 0 all = ap (λ (l : List ℕ). length l) is ∙ length-tab (byte_at p.arena (file_at p.table i)) 0 (read_count m 0 all) in
    let e : length old ≡ length_of p.arena (file_at p.table r.0) = omega arith in
    record {
      row = i;
      live = r.1;
      no-dir = no-dir;
      exact = long-is p y o no-dir;
      size = e ∙ long-is p y o no-dir;
      bytes = is ∙ ap (tab (byte_at p.arena (file_at p.table i)) 0) (sym long);
    }
