-- Read, write and resize: a read changes nothing; a write and a resize keep the file's length its size.
use mathlib.Core.Path.{refl, ◌≡◌, sym, ap, ◌∙◌}
use mathlib.Core.Bool.{false, not, ◌&&◌}
use mathlib.Core.List.{List}
use Prim.Native.Nat.{ℕ, ◌+◌}
use lib.ListN.{length}
use borrow.Author.Tests.{not-true}
use Rattle.base.specs.Out.{Ok, went}
use Rattle.base.proofs.Outs.{ok-bind, ok-weaken}
use Rattle.base.proofs.Bools.{and_parts}
use Rattle.base.proofs.Tests.{decides-leb}
use Rattle.base.proofs.Sames.{decided-yes}
use Rattle.le.specs.Le.{Bytes}
use Rattle.structs.specs.Types.{is_folder, is_type}
use Rattle.structs.specs.declared.DiskINode.{DiskINode}
use Rattle.files.specs.Read.{there}
use Rattle.table.specs.declared.Table.{Table}
use Rattle.table.specs.declared.Handle.{Handle}
use Rattle.table.specs.Table.{row_at}
use Rattle.sefs.specs.Nodes.{node_file}
use Rattle.sefs.specs.Ask.{start}
use Rattle.sefs.specs.Create.{After}
use Rattle.sefs.specs.Contents.{has_contents, read_bytes, call_read, call_write, call_resize}
use Rattle.rules.specs.Rules.{Allowed}
use Rattle.sefs_laws.proofs.Clear.{Clear, clear, clear-17}
use Rattle.sefs_laws.proofs.Says.{Says, says-done, says_then, says_is, says-end, ensure-yes, ensure-asks}
use Rattle.tree.specs.Tree.{Spelling}
use Rattle.image.specs.Midway.{Used}
use Rattle.image.proofs.Handles.{admitted, handle-law, row-rec, row-node, row-most}
use Rattle.image.proofs.Contents.{resize-mid, write_mid}
use Rattle.sequences.specs.Pairs.{Pair, pair}
use Rattle.sequences.specs.Calls.{read, write, resize, does}
use Rattle.sequences.proofs.Passing.{Spelled, allowed, midway-spelled, spelled-midway}

module _ (a : List ℕ) (t : Table) (A : Allowed a t) (i : ℕ) (u : Used t i) where
  -- a row in use is no folder's, or the reason is 21
  contents-law : Ok (λ _. is_folder (row_at t i).rec.kind ≡ false) Clear (has_contents (row_at t i).rec)
  unfolding has_contents
  contents-law =
      ok-bind (ensure-yes 19 (decided-yes (decides-leb (row_at t i).rec.kind 4) (row-most a t A i u))) λ _ _.
      ok-weaken (λ _ e. not-true (is_folder (row_at t i).rec.kind) (and_parts (is_type (row_at t i).rec.kind) (not (is_folder (row_at t i).rec.kind)) e).1) (λ n r. r)
      (ensure-asks (is_type (row_at t i).rec.kind && not (is_folder (row_at t i).rec.kind)) 21 (clear 21 refl))

  -- its file is there
  read-law : (place n : ℕ) → Says Clear (read_bytes a (node_file (row_at t i).rec) place n)
  unfolding read_bytes
  read-law place n = rw (ap (λ (r : DiskINode). there a (node_file r)) (sym (row-rec a t A i u)) ∙ A.rule5.own (row_at t i).id (row-node a t A i u)) says-done

module _ {style : Spelling} (p : Pair) (y : Spelled style p) (w : ℕ) (h : Handle) where
  A : Allowed p.arena p.table
  A = allowed p y.passes

  read-call : (place room : ℕ) → Says Clear (call_read p.arena p.table w h place room)
  unfolding call_read
  read-call place room =
      says_then (says_is (admitted p.arena p.table A)) λ _.
      ok-bind (handle-law p.arena p.table A w h) λ i u.
      ok-bind (contents-law p.arena p.table A i u.used) λ _ _.
      read-law p.arena p.table A i u.used place _

  write-call : (place : ℕ) (bytes : List ℕ) → Bytes bytes → Ok (λ (x : After). Spelled style (pair x.arena x.table)) Clear (call_write p.arena p.table w h place bytes)
  unfolding call_write
  write-call place bytes b =
      ok-bind (says_is (admitted p.arena p.table A)) λ _ _.
      ok-bind (handle-law p.arena p.table A w h) λ i u.
      ok-bind (contents-law p.arena p.table A i u.used) λ _ f.
      ok-bind (says-end (clear 22 refl) (place + length bytes)) λ _ l.
      ok-bind (ok-weaken (λ s m. m) clear-17 (write_mid (start p.arena p.table) (spelled-midway p.arena p.table y) i u.used f place bytes b l)) λ s m.
      went (midway-spelled s.arena s.table m)

  resize-call : (n : ℕ) → Ok (λ (x : After). Spelled style (pair x.arena x.table)) Clear (call_resize p.arena p.table w h n)
  unfolding call_resize
  resize-call n =
      ok-bind (says_is (admitted p.arena p.table A)) λ _ _.
      ok-bind (handle-law p.arena p.table A w h) λ i u.
      ok-bind (contents-law p.arena p.table A i u.used) λ _ f.
      ok-bind (says-end (clear 22 refl) n) λ _ l.
      ok-bind (ok-weaken (λ s m. m) clear-17 (resize-mid (start p.arena p.table) (spelled-midway p.arena p.table y) i u.used f n l)) λ s m.
      went (midway-spelled s.arena s.table m)

pub keeps-read : {style : Spelling} (p : Pair) (w : ℕ) (h : Handle) (place room : ℕ) → Spelled style p → Ok (Spelled style) Clear (does (read w h place room) p)
unfolding does
keeps-read p w h place room y = ok-bind (read-call p y w h place room) λ _ _. went y

pub keeps-write : {style : Spelling} (p : Pair) (w : ℕ) (h : Handle) (place : ℕ) (bytes : List ℕ) → Spelled style p → Bytes bytes → Ok (Spelled style) Clear (does (write w h place bytes) p)
unfolding does
keeps-write p w h place bytes y b = ok-bind (write-call p y w h place bytes b) λ x q. went q

pub keeps-resize : {style : Spelling} (p : Pair) (w : ℕ) (h : Handle) (n : ℕ) → Spelled style p → Ok (Spelled style) Clear (does (resize w h n) p)
unfolding does
keeps-resize p w h n y = ok-bind (resize-call p y w h n) λ x q. went q
