-- Walk: from a passed pair every node on the way is there and can be looked at, and the last one is opened with a hold.
use mathlib.Core.Path.{refl, ◌≡◌, sym, ap, ◌∙◌, subst}
use mathlib.Core.Bool.{true, not, ◌&&◌}
use mathlib.Core.List.{List}
use mathlib.Core.Logic.{◌≢◌}
use Prim.Native.Nat.{ℕ, ◌≤◌}
use lib.Dec.{eqb, leb}
use lib.ListN.{length}
use borrow.Author.Tests.{lt-ltb}
use Rattle.base.specs.Out.{Ok, went}
use Rattle.base.proofs.Bools.{and_both}
use Rattle.base.proofs.Outs.{ok-bind}
use Rattle.base.proofs.Tests.{decides-leb}
use Rattle.base.proofs.Sames.{decided-yes}
use Rattle.structs.specs.Types.{is_folder, is_type}
use Rattle.structs.specs.declared.DiskINode.{DiskINode}
use Rattle.utf8.specs.Names.{is_dots}
use Rattle.files.specs.Read.{there}
use Rattle.table.specs.declared.Table.{Table}
use Rattle.table.specs.declared.Handle.{Handle}
use Rattle.table.specs.declared.Added.{Added}
use Rattle.table.specs.Table.{can_hold}
use Rattle.sefs.specs.Nodes.{Opened, node_file, rec_at}
use Rattle.sefs.specs.Slots.{find_slot, Slot}
use Rattle.sefs.specs.Ask.{start}
use Rattle.sefs.specs.Contents.{read_bytes}
use Rattle.rules.specs.Image.{is_node, rec_of, is_folder_at}
use Rattle.rules.specs.Rules.{Allowed}
use Rattle.walk.specs.Walk.{Spot, look_at, at_root, part_in, target_of, call_walk}
use Rattle.walk.proofs.Ways.{Steady, walk_ends, walk_is}
use Rattle.sequences.specs.Pairs.{Pair, pair}
use Rattle.sequences.specs.Calls.{walk, does}
use Rattle.sefs_laws.proofs.Clear.{Clear, clear}
use Rattle.sefs_laws.proofs.Says.{Says, says-done, says_then, says_is, says-ensure, ensure-yes, ensure-asks}
use Rattle.tree.specs.Tree.{Spelling}
use Rattle.image.proofs.Handles.{admitted, handle-law, row-rec, row-node}
use Rattle.image.proofs.Images.{fair, root-node}
use Rattle.image.proofs.Takes.{get-law}
use Rattle.image.proofs.Drops.{mid-rec}
use Rattle.sequences.proofs.Passing.{Spelled, allowed, spelled-midway}
use Rattle.sequences.proofs.Opens.{hold-law}
use Rattle.sequences.proofs.Finds.{not-both, node-find}

-- where a walk stands: at a node of the image, with its record
record Stands (a : List ℕ) (t : Table) (at : Spot) : Type 0 where
  node : is_node a at.id ≡ true
  is : rec_of a t at.id ≡ at.rec

module _ {style : Spelling} (p : Pair) (y : Spelled style p) where
  abbrev a : List ℕ
  a = p.arena

  abbrev t : Table
  t = p.table

  A : Allowed p.arena p.table
  A = allowed p y.passes

  -- a node can always be looked at
  pub look-law : {R : ℕ → Type 0} (id : ℕ) → is_node p.arena id ≡ true → Ok (λ (r : DiskINode). rec_of p.arena p.table id ≡ r) R (look_at (start p.arena p.table) id)
  unfolding look_at
  look-law id n =
      ok-bind (get-law a t (spelled-midway a t y) id n) λ o G.
      went (sym (G.recs id n) ∙ ap (rec_of a G.table) (sym G.same) ∙ mid-rec a G.table G.mid.formed G.row G.used
      ∙ ap (λ (x : Opened). rec_at x.state x.row) (sym G.is))

  type-law : (at : Spot) → Stands p.arena p.table at → is_type at.rec.kind ≡ true
  type-law at s =
      subst (λ (r : DiskINode). is_type r.kind ≡ true) s.is
      (and_both (lt-ltb 0 (rec_of a t at.id).kind (A.rule5.least at.id s.node))
      (decided-yes (decides-leb (rec_of a t at.id).kind 4) (A.rule5.most at.id s.node)))

  -- what a part names is a node
  named-law : (at : Spot) → Stands p.arena p.table at → is_folder at.rec.kind ≡ true → (name : List ℕ) → not (is_dots name && eqb at.rec.nlinks 0) ≡ true
      → Ok (λ (e : Slot). is_node p.arena e.entry.id ≡ true) Clear (find_slot p.arena at.rec name)
  unfolding is_folder_at
  named-law at s f name d =
      subst (λ (r : DiskINode). (is_dots name ≡ true → r.nlinks ≢ 0) → Ok (λ (e : Slot). is_node a e.entry.id ≡ true) Clear (find_slot a r name)) s.is
      (node-find a t A y.passes.typed.bytes at.id (and_both s.node (ap (λ (r : DiskINode). is_folder r.kind) s.is ∙ f)) name)
      (not-both (is_dots name) at.rec.nlinks d)

  part-law : (at : Spot) → Stands p.arena p.table at → (name : List ℕ) → Ok (Stands p.arena p.table) Clear (part_in (start p.arena p.table) at.rec name)
  unfolding part_in
  part-law at s name =
      ok-bind (ensure-yes 19 (type-law at s)) λ _ _.
      ok-bind (ensure-asks (is_folder at.rec.kind) 7 (clear 7 refl)) λ _ f.
      ok-bind (says-ensure (leb (length name) 255) 10 (clear 10 refl)) λ _ _.
      ok-bind (ensure-asks (not (is_dots name && eqb at.rec.nlinks 0)) 8 (clear 8 refl)) λ _ d.
      ok-bind (named-law at s f name d) λ e n.
      ok-bind (look-law e.entry.id n) λ r q.
      ok-bind (ensure-yes 19 (decided-yes (decides-leb r.kind 4) (subst (λ (x : DiskINode). x.kind ≤ 4) q (A.rule5.most e.entry.id n)))) λ _ _.
      went (record { node = n; is = q })

  target-law : (at : Spot) → Stands p.arena p.table at → (room : ℕ) → Says Clear (target_of p.arena at.rec room)
  unfolding target_of read_bytes
  target-law at s room =
      says_then (says-ensure (leb at.rec.size room) 20 (clear 20 refl)) λ _.
      rw (ap (λ (r : DiskINode). there a (node_file r)) (sym s.is) ∙ A.rule5.own at.id s.node) says-done

  root-law : Ok (Stands p.arena p.table) Clear (at_root (start p.arena p.table))
  unfolding at_root
  root-law = let n = root-node a t (fair a t A) in ok-bind (look-law 2 n) λ r e. went (record { node = n; is = e })

  steady : Steady (start p.arena p.table) (Stands p.arena p.table) Clear
  steady = record { root = root-law; part = part-law; target = target-law; bad = clear 5 refl; loop = clear 23 refl }

  walk_call : (w : ℕ) (h : Handle) (path : List ℕ) (room : ℕ) → Ok (λ (x : Added). Spelled style (pair p.arena x.table)) Clear (call_walk p.arena p.table w h path room).end
  walk_call w h path room =
      subst (Ok (λ (x : Added). Spelled style (pair a x.table)) Clear) (sym (walk_is a t w h path room))
      (ok-bind (says_is (admitted a t A)) λ _ _.
      ok-bind (handle-law a t A w h) λ i u.
      ok-bind (walk_ends steady _ (record { node = row-node a t A i u.used; is = row-rec a t A i u.used }) path room) λ at s.
      ok-bind (ensure-asks (can_hold t w) 16 (clear 16 refl)) λ _ can.
      hold-law p y w u.owns.owner can at.id s.node)

pub keeps-walk : {style : Spelling} (p : Pair) → Spelled style p → (w : ℕ) (h : Handle) (path : List ℕ) (room : ℕ) → Ok (Spelled style) Clear (does (walk w h path room) p)
unfolding does
keeps-walk p y w h path room = ok-bind (walk_call p y w h path room) λ x g. went g
