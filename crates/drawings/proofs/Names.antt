-- A folder's name for a node stays, but where a call takes it: so a drawing that is left alone is found by it.
use mathlib.Core.Path.{◌≡◌, refl, sym, ap, ◌∙◌, subst}
use mathlib.Core.Bool.{true, false}
use mathlib.Core.List.{List, [], ◌∷◌}
use mathlib.Core.Logic.{◌⊎◌, inl, inr, ⊎_elim}
use Prim.Native.Nat.{ℕ, zero, suc, ◌*◌}
use native.Mathlib.Omega.{arith}
use Rattle.base.specs.Out.{Out, done, refused, answer, kept, Ok, went}
use Rattle.base.proofs.Outs.{ok-bind, ok-weaken, ok-done}
use Rattle.base.proofs.Bools.{and_both, and_parts}
use Rattle.base.proofs.Finds.{eq-cases}
use Rattle.structs.specs.Layout.{entry_of}
use Rattle.structs.specs.Types.{is_folder}
use Rattle.structs.specs.declared.DiskEntry.{DiskEntry}
use Rattle.utf8.specs.Names.{name_of}
use Rattle.arena.specs.Fields.{file}
use Rattle.files.specs.Read.{there, length_of}
use Rattle.table.specs.declared.Table.{Table}
use Rattle.table.specs.declared.Handle.{Handle}
use Rattle.table.specs.Table.{row_at, add_hold, close_hold}
use Rattle.table_laws.specs.Rules.{Live}
use Rattle.table_laws.proofs.Handles.{live-means}
use Rattle.sefs.specs.Move.{call_move}
use Rattle.sefs.specs.Read.{call_metadata, call_entry, call_listing}
use Rattle.paths.specs.Path.{call_path}
use Rattle.inventory.specs.Inventory.{call_inventory}
use Rattle.sefs.specs.Contents.{call_read}
use Rattle.rules.specs.Image.{run, is_node, rec_of, is_folder_at, slot_in}
use Rattle.rules.proofs.Folders.{folder-node}
use Rattle.sefs_laws.proofs.Rows.{Any, any, LeavesAfter, Bears}
use Rattle.tree.specs.Tree.{Tree, folder_at, parent, up, LinkedIn, RemovedIn, Lives, Tidy}
use Rattle.tree.specs.Tree as tree
use Rattle.tree.proofs.Trees.{up_first}
use Rattle.image.specs.Midway.{tree_of}
use Rattle.image.proofs.Images.{fair, root-node}
use Rattle.sequences.specs.Pairs.{Pair, Passed}
use Rattle.sequences.specs.Calls.{Call, root, find, walk, create, link, remove_file, remove_folder, move, metadata, set_metadata, get_entry, listing, full_path, read, write, resize, fallocate, sync, close, check, inventory, mend, Fits, does, next}
use Rattle.sequences.specs.Promises.{Along, ends, goes, Keeps, Apart, Safe}
use Rattle.sequences.proofs.Passing.{allowed}
use Rattle.sequences.proofs.Looks.{mend-stays}
use Rattle.sequences.proofs.Sequences.{keeps, apart}
use Rattle.sequences.proofs.Tables.{keeps-root, keeps-find, keeps-walk, keeps-set, keeps_sync, keeps-close}
use Rattle.sequences.proofs.Closes.{close-rows}
use Rattle.sequences.proofs.Tracks.{As, tracks-rec}
use Rattle.sequences.proofs.Bytes.{nodes-rows}
use Rattle.drawings.specs.Saved.{led}
use Rattle.drawings.specs.Rests.{LeavesBe, NamedAt, Named, NodeNamed, FoundAndKept}
use Rattle.drawings.specs.Names.{TakesName, removes-file, removes-folder, moves-away, moves-onto, NameStays, LeavesName, NamesStay, LeavesBoth, FoundByName}
use Rattle.drawings.proofs.Saved.{after-save}
use Rattle.drawings.proofs.Rests.{node-named}
use Rattle.drawings.proofs.Found.{found-and-kept}
use Rattle.drawings.proofs.NameSlots.{Stands, Holds, holds-bears, holds-adds}
use Rattle.drawings.proofs.NameCalls.{Remains, Filled, bytes_of, holds-start, remains, slot-writes, slot-resizes, slot-fallocates, slot-links, slot-creates, slot-removes}
use Rattle.drawings.proofs.NameMoves.{Rehomed, slot-moves, folder-moves}

-- ---- a slot that is left, in a pair that passes and has the folder

module _ (p q : Pair) (z : Passed q) (d : ℕ) (dir : is_folder_at p.arena p.table d ≡ true) (l : List ℕ) (R : Remains p d l q.arena q.table) (N : is_node q.arena d ≡ true) where
  same : As (rec_of p.arena p.table d).kind (rec_of p.arena p.table d).file (rec_of q.arena q.table d)
  same = tracks-rec d (rec_of p.arena p.table d).kind (rec_of p.arena p.table d).file q.arena q.table (R.holds.0 d (folder-node p.arena p.table d dir))

  stands : Stands (rec_of p.arena p.table d).file R.place l q.arena
  stands = R.holds.1 (ap (λ (x : List ℕ). there q.arena (file 1 x)) (sym same.file) ∙ (allowed q z).rule5.own d N)

  folder : is_folder_at q.arena q.table d ≡ true
  unfolding is_folder_at
  folder = and_both N (ap is_folder same.kind ∙ (and_parts (is_node p.arena d) (is_folder (rec_of p.arena p.table d).kind) dir).1)

  slot-left : slot_in q.arena (rec_of q.arena q.table d) R.place ≡ entry_of l
  unfolding slot_in
  slot-left = ap (λ (x : List ℕ). entry_of (run q.arena (file 1 x) (264 * R.place) 264)) same.file ∙ ap entry_of stands.is

  named-left : NamedAt d R.place (entry_of l).id q
  named-left = record {
    folder = folder;
    later = R.later;
    inside = omega (arith, stands.inside, ap (λ (x : List ℕ). length_of q.arena (file 1 x)) same.file, ((allowed q z).rule6.folder d folder).length);
    names = ap (λ (x : DiskEntry). x.id) slot-left;
  }

-- ---- what a call leaves of a slot

-- the call is a move, and its target has a name for node x
data Carried (p : Pair) (x : ℕ) : Call → List ℕ → Table → Type 0 where
  carried : {w : ℕ} {g target : Handle} {old name : List ℕ} {j : ℕ} {b : List ℕ} {u : Table} → Live p.table w target j → Rehomed p (row_at p.table j).id x b u → Carried p x (move w g old target name) b u

module _ (p : Pair) (y : Passed p) {d n : ℕ} {own : List ℕ} (N : Named d own n p) where
  abbrev a : List ℕ
  a = p.arena

  abbrev t : Table
  t = p.table

  -- a removal does not take it
  abbrev Spared : ℕ → Handle → List ℕ → Type 0
  Spared w g name = ((i : ℕ) → Live t w g i → (row_at t i).id ≡ d → own ≡ name → ⊥) ⊎ Filled p n

  abbrev H : List ℕ → Table → Type 0
  H b u = Holds p (rec_of p.arena p.table d).file N.slot (bytes_of p d N.slot) b u

  K : Bears H
  K = holds-bears p y (rec_of a t d).file N.slot (bytes_of p d N.slot)

  begin : H p.arena p.table
  begin = holds-start p y N

  adds : (b : List ℕ) (u : Table) (w row : ℕ) → H b u → H b (add_hold u w row).table
  adds = holds-adds p y (rec_of a t d).file N.slot (bytes_of p d N.slot)

  module _ (R : List ℕ → Table → Type 0) (so : (b : List ℕ) (u : Table) → Remains p d (bytes_of p d N.slot) b u → R b u) where
    holds : (b : List ℕ) (u : Table) → H b u → R b u
    holds b u h = so b u (remains p y N b u h)

    each : (c : Call) → Fits c
        → ((w : ℕ) (g : Handle) (name : List ℕ) → (c ≡ remove_file w g name) ⊎ (c ≡ remove_folder w g name) → Spared w g name)
        → ((w : ℕ) (g : Handle) (old : List ℕ) (target : Handle) (name : List ℕ) → c ≡ move w g old target name → LeavesAfter R (call_move p.arena p.table w g old target name))
        → Ok (λ (q : Pair). R q.arena q.table) Any (does c p)
    unfolding does
    each (root w) F gone moved = ok-bind (keeps-root H K.loads adds a t w begin) λ x h. went (holds a x.table h)
    each (find w g name) F gone moved = ok-bind (keeps-find H K.loads adds a t w g name begin) λ x h. went (holds a x.table h)
    each (walk w g path room) F gone moved = ok-bind (keeps-walk H K.loads adds a t w g path room begin) λ x h. went (holds a x.table h)
    each (create w g name kind mode time uuid) F gone moved = ok-bind (slot-creates p y N w g name kind mode time uuid F.3) λ x r. went (so x.arena x.table r)
    each (link w g name child) F gone moved = ok-bind (slot-links p y N w g name child) λ x r. went (so x.arena x.table r)
    each (remove_file w g name) F gone moved = ok-bind (slot-removes p y N false w g name (gone w g name (inl refl))) λ x r. went (so x.arena x.table r)
    each (remove_folder w g name) F gone moved = ok-bind (slot-removes p y N true w g name (gone w g name (inr refl))) λ x r. went (so x.arena x.table r)
    each (move w g old target name) F gone moved = ok-bind (moved w g old target name refl) λ x r. went r
    each (metadata w g) F gone moved = ok-bind (any (call_metadata a t w g)) λ x _. went (holds a t begin)
    each (set_metadata w g mode uid gid at mt ct) F gone moved = ok-bind (keeps-set H K a t w g mode uid gid at mt ct begin) λ u h. went (holds a u h)
    each (get_entry w g j room) F gone moved = ok-bind (any (call_entry a t w g j room)) λ x _. went (holds a t begin)
    each (listing w g m room) F gone moved = ok-bind (any (call_listing a t w g m room)) λ x _. went (holds a t begin)
    each (full_path w g room) F gone moved = ok-bind (any (call_path a t w g room)) λ x _. went (holds a t begin)
    each (read w g place room) F gone moved = ok-bind (any (call_read a t w g place room)) λ x _. went (holds a t begin)
    each (write w g place bytes) F gone moved = ok-bind (slot-writes p y N w g place bytes) λ x r. went (so x.arena x.table r)
    each (resize w g n) F gone moved = ok-bind (slot-resizes p y N w g n) λ x r. went (so x.arena x.table r)
    each (fallocate w g mode from len) F gone moved = ok-bind (slot-fallocates p y N w g mode from len) λ x r. went (so x.arena x.table r)
    each sync F gone moved = ok-bind (keeps_sync H K a t begin) λ x h. went (holds x.arena x.table h)
    each (close w g) F gone moved = ok-bind (keeps-close H K a t w g (λ i m. (nodes-rows p y a t (close_hold t g.hold).table (close-rows t g.hold) begin.0, begin.1))) λ x h. went (holds x.arena x.table h)
    each check F gone moved = went (holds a t begin)
    each (inventory room) F gone moved = ok-bind (any (call_inventory a room)) λ x _. went (holds a t begin)
    each mend F gone moved = ok-weaken (λ q e. subst (λ (q : Pair). R q.arena q.table) (sym e) (holds a t begin)) (λ m r. tt) (mend-stays p y)

  -- where it does not take the name
  untaken : (c : Call) → Fits c → (TakesName d own p.table c → ⊥) → Ok (λ (q : Pair). Remains p d (bytes_of p d N.slot) q.arena q.table) Any (does c p)
  untaken c F free =
      each (Remains p d (bytes_of p d N.slot)) (λ b u r. r) c F
      (λ w g name e. inl (λ i m q s. free (subst (λ (l : List ℕ). TakesName d l t c) (sym s) (⊎_elim
      (λ z. subst (TakesName d name t) (sym z) (removes-file ((live-means t w g i).1 m) q))
      (λ z. subst (TakesName d name t) (sym z) (removes-folder ((live-means t w g i).1 m) q)) e))))
      moved
    where
      moved : (w : ℕ) (g : Handle) (old : List ℕ) (target : Handle) (name : List ℕ) → c ≡ move w g old target name → LeavesAfter (Remains p d (bytes_of p d N.slot)) (call_move p.arena p.table w g old target name)
      moved w g old target name e =
          slot-moves p y N w g old target name (subst Fits e F).4
          (λ i m q s. free (subst (λ (l : List ℕ). TakesName d l t c) (sym s) (subst (TakesName d old t) (sym e) (moves-away ((live-means t w g i).1 m) q))))
          (λ j m q s. free (subst (λ (l : List ℕ). TakesName d l t c) (sym s) (subst (TakesName d name t) (sym e) (moves-onto ((live-means t w target j).1 m) q))))

  -- where it names a folder that has names
  full : (c : Call) → Fits c → Filled p n
      → Ok (λ (q : Pair). Remains p d (bytes_of p d N.slot) q.arena q.table ⊎ Carried p n c q.arena q.table) Any (does c p)
  full c F fill =
      each (λ b u. Remains p d (bytes_of p d N.slot) b u ⊎ Carried p n c b u) (λ b u r. inl r) c F (λ w g name e. inr fill)
      (λ w g old target name e. ok-weaken (λ x r. ⊎_elim (λ s. inl s) (λ (s : (j : ℕ) × Live t w target j × Rehomed p (row_at t j).id n x.arena x.table).
      inr (subst (λ (m : Call). Carried p n m x.arena x.table) (sym e) (carried s.1 s.2))) r) (λ n r. r)
      (folder-moves p y N w g old target name (subst Fits e F).4 fill))

-- ---- a folder that has names stays a node: its parent names it, and so on up to node 2

module _ (p : Pair) (y : Passed p) (c : Call) (F : Fits c) (q : Pair) (did : does c p ≡ done q) (z : Passed q) where
  abbrev v : Tree
  v = tree_of p.arena p.table

  I : Tidy tree.any (tree_of p.arena p.table)
  I = (fair p.arena p.table (allowed p y)).tidy

  lives : (x : ℕ) → Filled p x → Lives (tree_of p.arena p.table) x
  unfolding is_folder_at
  lives x E = record {
    folder = E.folder;
    links = λ e. ⊎_elim (λ (L : LinkedIn v x). let m = L.links in omega arith) (λ (L : RemovedIn v x). let m = L.slots in let n = E.many in omega arith) (I.either x E.folder);
  }

  -- the target of a move has its handle
  held : (w : ℕ) (g : Handle) (old : List ℕ) (target : Handle) (name : List ℕ) → c ≡ move w g old target name → (j : ℕ) → Live p.table w target j → is_node q.arena (row_at p.table j).id ≡ true
  unfolding Apart
  held w g old target name e j m =
      subst (λ (x : Pair). is_node x.arena (row_at p.table j).id ≡ true) (ap (kept p) did)
      (first (apart p (c ∷ []) w target (row_at p.table j).id (row_at p.table j).rec.file y (record { row = j; live = (live-means p.table w target j).1 m; node = refl; file = refl })
      (goes (record { fits = F; not-closed = λ s. not-close e s }) ends)))
    where
      first : {h : Handle} {n : ℕ} {f : List ℕ} → Along (Safe w h n f) p (c ∷ []) → is_node (next c p).arena n ≡ true
      first (goes S r) = S.node

      not-close : {x : Call} → x ≡ move w g old target name → x ≡ close w target → ⊥
      not-close e s = let z : ◌≡◌ {A = ℕ} 0 1 = cc in omega arith

  named-still : (e x : ℕ) (name : List ℕ) → Named e name x p → Filled p x → is_node q.arena e ≡ true → is_node q.arena x ≡ true
  unfolding NodeNamed slot_in
  named-still e x name N fill M =
      ⊎_elim
      (λ R. ap (is_node q.arena) (sym N.at.names) ∙ node-named q e R.place (entry_of (bytes_of p e N.slot)).id z (named-left p q z e N.at.folder (bytes_of p e N.slot) R M))
      (λ C. by c refl C)
      (ok-done (subst (Ok (λ (q : Pair). Remains p e (bytes_of p e N.slot) q.arena q.table ⊎ Carried p x c q.arena q.table) Any) did (full p y N c F fill)))
    where
      by : {x : ℕ} (m : Call) → c ≡ m → Carried p x m q.arena q.table → is_node q.arena x ≡ true
      by m s (carried {w = w} {g = g} {target = target} {old = old} {name = name} {j = j} live R) =
          ap (is_node q.arena) (sym R.id)
          ∙ node-named q (row_at p.table j).id R.home.place (entry_of R.bytes).id z (named-left p q z (row_at p.table j).id R.folder R.bytes R.home (held w g old target name s j live))

  two : is_node q.arena 2 ≡ true
  two = root-node q.arena q.table (fair q.arena q.table (allowed q z))

  climbs : (n x : ℕ) → Filled p x → up (tree_of p.arena p.table) x n ≡ 2 → is_node q.arena x ≡ true
  unfolding up is_folder_at
  climbs zero x E e = ap (is_node q.arena) e ∙ two
  climbs (suc n) x E e =
      ⊎_elim
      (λ (r : x ≡ 2). ap (is_node q.arena) r ∙ two)
      (λ r.
      let B = I.names x (lives x E) r in
      let dir : folder_at v (parent v x) ≡ true = I.parents x (lives x E) r in
      let M = climbs n (parent v x) (record { folder = dir; many = omega (arith, B.later, B.inside) }) (sym (up_first v x n) ∙ e) in
      named-still (parent v x) x _ (record { slot = B.at; at = record { folder = dir; later = B.later; inside = B.inside; names = B.is }; is = refl }) E M)
      (eq-cases x 2)

  folder-stays : (x : ℕ) → Filled p x → is_node q.arena x ≡ true
  folder-stays x E = let m = I.climbs x (lives x E) in climbs m.0 x E m.1

  done-stays : (d n : ℕ) (name : List ℕ) → Named d name n p → (TakesName d name p.table c → ⊥) → Named d name n q
  unfolding slot_in
  done-stays d n name N free =
      let R : Remains p d (bytes_of p d N.slot) q.arena q.table = ok-done (subst (Ok (λ (q : Pair). Remains p d (bytes_of p d N.slot) q.arena q.table) Any) did (untaken p y N c F free)) in
      let M = folder-stays d (record { folder = N.at.folder; many = omega (arith, N.at.later, N.at.inside) }) in
      record {
        slot = R.place;
        at = subst (λ (m : ℕ). NamedAt d R.place m q) N.at.names (named-left p q z d N.at.folder (bytes_of p d N.slot) R M);
        is = ap (λ (x : DiskEntry). name_of x.name) (slot-left p q z d N.at.folder (bytes_of p d N.slot) R M) ∙ N.is;
      }

-- ---- the theorems

pub name-stays : NameStays
unfolding NameStays Keeps
name-stays p c d n name y N L = by (does c p) refl
  where
    by : (o : Out Pair) → does c p ≡ o → Named d name n (next c p)
    by (done q) e =
        let s : next c p ≡ q = ap (kept p) e in
        subst (Named d name n) (sym s) (done-stays p y c L.fits q e (subst Passed s (keeps p c y L.fits).passes) d n name N (λ T. L.not_taken T (ap answer e)))
    by (refused m) e = subst (Named d name n) (sym (ap (kept p) e)) N

names-along : (d n : ℕ) (name : List ℕ) (p : Pair) (l : List Call) → Passed p → Named d name n p → Along (LeavesName d name) p l → Named d name n (led p l)
unfolding NameStays Keeps
names-along d n name p l y N ends = N
names-along d n name p l y N (goes {c = c} {l = m} e r) = names-along d n name (next c p) m (keeps p c y e.fits).passes (name-stays p c d n name y N e) r

pub names-stay : NamesStay
unfolding NamesStay
names-stay p l d n name y N e = names-along d n name p l y N e

-- such calls leave the name; and so the drawing, since what has a name is a node
module _ (d n : ℕ) (name : List ℕ) where
  only-name : (p : Pair) (l : List Call) → Along (LeavesBoth d name n) p l → Along (LeavesName d name) p l
  only-name p l ends = ends
  only-name p l (goes {c = c} {l = m} e r) = goes e.leaves-name (only-name (next c p) m r)

  leave-be : (p : Pair) (l : List Call) → Passed p → Named d name n p → Along (LeavesBoth d name n) p l → Along (LeavesBe n) p l
  unfolding NameStays NodeNamed Keeps
  leave-be p l y N ends = ends
  leave-be p l y N (goes {c = c} {l = m} e r) =
      let M : Named d name n (next c p) = name-stays p c d n name y N e.leaves-name in
      let z : Passed (next c p) = (keeps p c y e.leaves-name.fits).passes in
      goes (record { fits = e.leaves-name.fits; not_written = e.not_written; stays-node = node-named (next c p) d M.slot n z M.at }) (leave-be (next c p) m z M r)

pub found-by-name : FoundByName
unfolding FoundByName FoundAndKept NamesStay
found-by-name p q l w v h g n d f e name place bytes x y S N calls u fv found =
    let z : Passed q = (after-save p q w h n f place bytes y S).passes in
    found-and-kept p q l w v h g n d f e name place bytes x y S (leave-be d n name q l z N calls) u (names-stay q l d n name z N (only-name d n name q l calls)) fv found
