-- The steps of move, from what the call has asked: where the new name is not there, and where it is a node's, which goes.
use mathlib.Core.Path.{refl, ◌≡◌, sym, ap, ◌∙◌, subst}
use Rattle.sefs_laws.proofs.Clear.{Clear}
use mathlib.Core.Bool.{Bool, true, false}
use mathlib.Core.List.{List}
use mathlib.Core.Logic.{◌≢◌, ⊎_elim}
use Prim.Native.Nat.{ℕ, zero, suc, ◌≤◌, ◌<◌}
use native.Mathlib.Omega.{arith}
use lib.Dec.{eqb, ltb, leb}
use lib.ListN.{length}
use borrow.Author.Tests.{ne_eqb, eqb-true, eqb-false}
use Rattle.base.specs.Out.{Out, done, bind, Ok, went, said}
use Rattle.base.proofs.Outs.{ok-bind}
use Rattle.base.proofs.Bools.{true-T, and_parts}
use Rattle.base.specs.Search.{pick}
use Rattle.le.specs.Le.{Bytes}
use Rattle.structs.specs.Types.{is_folder}
use Rattle.structs.specs.declared.DiskINode.{DiskINode}
use Rattle.structs.specs.declared.DiskEntry.{DiskEntry}
use Rattle.utf8.specs.Names.{name_of, is_named, is_special}
use Rattle.utf8.proofs.Names.{named-decides, not-special, asked-own}
use Rattle.table.specs.declared.Table.{Table}
use Rattle.table.specs.declared.Row.{Row}
use Rattle.table.specs.Table.{row_at}
use Rattle.sefs.specs.State.{Fs}
use Rattle.sefs.specs.Nodes.{Opened, rec_at, get_node, release}
use Rattle.sefs.specs.Slots.{Slot, slot_at, find_slot}
use Rattle.sefs.specs.Ask.{start, known, type_in_range}
use Rattle.sefs.specs.Create.{After, after}
use Rattle.sefs.specs.Move.{Replaced, none, node, not_below, move_within, move_between, move_steps, move_onto, replace, move_free}
use Rattle.rules.specs.Image.{is_node, rec_of, slot_in}
use Rattle.rules.specs.Rules.{Allowed}
use Rattle.sequences.specs.Pairs.{pair}
use Rattle.tree.specs.Tree.{Spelling, parent, up}
use Rattle.tree.proofs.Trees.{folder-is, lives-linked}
use Rattle.tree.proofs.Ways.{lives-up}
use Rattle.image.specs.Midway.{Used, tree_of, plain, Midway}
use Rattle.image.proofs.TreeOf.{named-tree}
use Rattle.image.proofs.Climbs.{below-law}
use Rattle.image.proofs.Settling.{Avoids}
use Rattle.sefs_laws.proofs.Rows.{ok-and, Bears, Fills, leaves-node, leaves-release, leaves-within}
use Rattle.sequences.proofs.Tables.{Turns}
use Rattle.image.proofs.Handles.{row-rec, row-folder}
use Rattle.image.proofs.Slots.{slot_is}
use Rattle.sefs_laws.proofs.Says.{ensure-yes}
use Rattle.image.proofs.Images.{fair}
use Rattle.image.proofs.Lookups.{Hit}
use Rattle.image.proofs.Nodes.{meta-is}
use Rattle.sequences.proofs.Passing.{Spelled, spelled-midway}
use Rattle.image.proofs.Drops.{mid-rec}
use Rattle.image.proofs.NewNames.{NewGood, NewName}
use Rattle.image.proofs.Hits.{later-place, row-hit}
use Rattle.image.proofs.Movings.{named-links, live-rec, live-lives, live-later, live-named}
use Rattle.image.proofs.Takes.{Gets, Got, get-law, get-more}
use Rattle.image.proofs.Moving.{owns, LiveFolder, Replaces, Onto, Moving}
use Rattle.sequences.proofs.Betweens.{between-law}
use Rattle.sequences.proofs.Withins.{within-law}
use Rattle.image.proofs.MoveAsks.{mid-type, judge-law, Ended, ends-law}
use Rattle.table_laws.specs.Rules as rows
use Rattle.rules.specs.Image as image

-- an outcome, with what it is
pub ok-own : {A : Type 0} {Q : A → Type 0} {R : ℕ → Type 0} {m : Out A} → Ok Q R m → Ok (λ x. Q x × (m ≡ done x)) R m
ok-own (went q) = went (q, refl)
ok-own (said r) = said r

module _ {style : Spelling} (a : List ℕ) (t : Table) (A : Allowed a t) (y : Spelled style (pair a t)) (i j : ℕ) (from : LiveFolder (start a t) i) (to : LiveFolder (start a t) j)
    (old name : List ℕ) (plain-old : is_special old ≡ false) (good : NewGood name) (plain-new : is_special name ≡ false) (short : length name ≤ 255) (nb : Bytes name)
    (P : List ℕ → Table → Type 0) (K : Bears P) (fills-i : Fills P i) (fills-j : Fills P j) (turns : Turns P a t) (start-p : P a t) where
  abbrev Q : After → Type 0
  Q x = Spelled style (pair x.arena x.table) × P x.arena x.table

  -- a slot with a plain name is a later one, and names a node
  place : (k : ℕ) → LiveFolder (start a t) k → (l : List ℕ) → is_special l ≡ false → (m : ℕ) → is_named (slot_in a (row_at t k).rec m).name l ≡ true → 2 ≤ m
  place k f l sp m e = later-place a t (row_at t k).id (A.rule6.folder (row_at t k).id (row-folder a t A k f.used f.folder)) l sp m (ap (λ (r : DiskINode). is_named (slot_in a r m).name l) (row-rec a t A k f.used) ∙ e)

  node_at : (k : ℕ) → LiveFolder (start a t) k → (m : ℕ) → 2 ≤ m → m < (row_at t k).rec.blocks → is_node a (slot_in a (row_at t k).rec m).id ≡ true
  node_at k f m x l = (live-later (start a t) (spelled-midway a t y) k f m x l).node

  hit-node : (e : Slot) → Hit a (row_at t i).rec old e → is_node a e.entry.id ≡ true
  hit-node e h = ap (λ (x : DiskEntry). is_node a x.id) h.is ∙ node_at i from e.place (place i from old plain-old e.place h.named) h.inside

  hits : Ok (λ (e : Slot). Hit a (row_at t i).rec old e × (find_slot a (row_at t i).rec old ≡ done e)) Clear (find_slot a (row_at t i).rec old)
  hits = ok-own (row-hit a t A y.passes.typed.bytes i from.used from.folder old)

  -- the moved node has links, and is not node 2
  hit-named : (e : Slot) → Hit a (row_at t i).rec old e → 1 ≤ image.named a t e.entry.id
  hit-named e h =
      subst (λ (x : DiskEntry). 1 ≤ image.named a t x.id) (sym h.is) (live-named (start a t) (spelled-midway a t y) i from e.place (place i from old plain-old e.place h.named) h.inside)

  not_root : (e : Slot) → Hit a (row_at t i).rec old e → e.entry.id ≢ 2
  not_root e h q =
      let I = (spelled-midway a t y).fair.tidy in
      omega (arith, hit-named e h, ap (image.named a t) q, named-tree a t 2, (lives-linked (tree_of a t) I 2 I.two).root refl)

  -- a row that is as it was
  live-u : {u : Table} (k : ℕ) → row_at u k ≡ row_at t k → LiveFolder (start a t) k → LiveFolder (start a u) k
  live-u k q l = record {
    used = record { below = l.used.below; node = λ z. l.used.node (ap (λ (x : Row). x.id) (sym q) ∙ z) };
    folder = ap (λ (x : Row). is_folder x.rec.kind) q ∙ l.folder;
    links = λ z. l.links (ap (λ (x : Row). x.rec.nlinks) (sym q) ∙ z);
  }

  -- ---- the steps, from a table with the same two rows

  module _ {own : ℕ → Type 0} (k : ℕ) (only : (m : ℕ) → own m → m ≡ k) (r : Replaced) (u : Table) (M : Midway style (owns own r) a u) (row-i : row_at u i ≡ row_at t i) (row-j : row_at u j ≡ row_at t j)
      (recs : (k : ℕ) → is_node a k ≡ true → rec_of a u k ≡ rec_of a t k)
      (e : Slot) (mine : (m : ℕ) → own m → Used u m × ((row_at u m).id ≡ e.entry.id))
      (hit : Hit a (row_at t i).rec old e) (onto : Onto (start a u) j e name r) where
    begins : Moving style own (start a u) i j e name r
    begins = record {
      mid = M;
      mine = mine;
      meta = meta-is a t (fair a t A);
      from = live-u i row-i from;
      to = live-u j row-j to;
      later = place i from old plain-old e.place hit.named;
      inside = subst (λ (x : Row). e.place < x.rec.blocks) (sym row-i) hit.inside;
      is = hit.is ∙ ap (λ (x : Row). slot_in a x.rec e.place) (sym row-i);
      good = good.0;
      no_slash = good.1;
      plain = plain-new;
      short = short;
      bytes = nb;
      onto = onto;
    }

    between : P a u → (row_at u i).id ≢ (row_at u j).id → Avoids (start a u) j e → Ok Q Clear (move_between (start a u) i j e name r)
    between p d avoids =
        between-law P K k only (start a u) i j e name r begins d avoids fills-i fills-j
        (λ row x f q b w. turns e.entry.id row (hit-node e hit) (ap (λ (q : DiskINode). is_folder q.kind) (sym (recs e.entry.id (hit-node e hit))) ∙ f) x.arena b x.table q w)
        p

  -- one folder: no row of the call's own
  within : (r : Replaced) (u : Table) → Midway style (owns rows.none r) a u → row_at u i ≡ row_at t i → row_at u j ≡ row_at t j → ((k : ℕ) → is_node a k ≡ true → rec_of a u k ≡ rec_of a t k)
      → (e : Slot) → Hit a (row_at t i).rec old e → Onto (start a u) j e name r → P a u → (row_at u i).id ≡ (row_at u j).id → Ok Q Clear (move_within (start a u) i e name r)
  within r u M row-i row-j recs e hit onto p q =
      let B = begins 0 (λ m o. absurd o) r u M row-i row-j recs e (λ m o. absurd o) hit onto in
      let z : i ≡ j = M.formed.one-row i j from.used.below to.used.below B.from.used.node q in
      ok-and (within-law (start a u) i e name r (subst (λ (x : ℕ). Moving style rows.none (start a u) i x e name r) (sym z) B))
      (leaves-within P K (start a u) i fills-i e name r p)

  -- ---- the new name is not there

  -- the moved node is open, in a row of the call's own
  module _ (apart : (row_at t i).id ≢ (row_at t j).id) (N : NewName a (row_at t j).rec name) (e : Slot) (hit : Hit a (row_at t i).rec old e) (found : find_slot a (row_at t i).rec old ≡ done e)
      (w : Opened) (W : Got style a t e.entry.id w) where
    free-i : row_at W.table i ≡ row_at t i
    free-i = W.rows i from.used

    free-j : row_at W.table j ≡ row_at t j
    free-j = W.rows j to.used

    free-apart : (row_at W.table i).id ≢ (row_at W.table j).id
    free-apart q = apart (ap (λ (x : Row). x.id) (sym free-i) ∙ q ∙ ap (λ (x : Row). x.id) free-j)

    free-to : LiveFolder (start a W.table) j
    free-to = live-u j free-j to

    free_law : P a W.table → Ok Q Clear (bind (type_in_range (row_at W.table W.row).rec) (λ _. bind (not_below (start a W.table) i j W.row) (λ _. move_steps (start a W.table) i j old name none)))
    unfolding move_steps
    free_law p =
        ok-bind (ensure-yes 19 (and_parts (ltb 0 (row_at W.table W.row).rec.kind) (leb (row_at W.table W.row).rec.kind 4) (mid-type a W.table W.mid W.row W.used)).1) λ _ _.
        ok-bind (below-law (start a W.table) W.mid.fair (meta-is a W.table W.mid.fair) i j W.row (λ q. not_root e hit (sym W.same ∙ q)) (live-lives (start a W.table) W.mid j free-to) (live-rec (start a W.table) W.mid j free-to)) λ _ h.
        rw (ap (λ (x : Row). find_slot a x.rec old) free-i ∙ found, ne_eqb (row_at W.table i).id (row_at W.table j).id free-apart)
        (between W.row (λ m o. ⊎_elim (λ z. absurd z) (λ z. z) o) none W.table W.mid free-i free-j W.recs e
        (λ m o. ⊎_elim (λ z. absurd z) (λ z. (subst (Used W.table) (sym z) W.used, ap (λ (x : ℕ). (row_at W.table x).id) z ∙ W.same)) o)
        hit (subst (λ (x : Row). NewName a x.rec name) (sym free-j) N) p free-apart
        (λ f n q. h free-apart (ap (λ (x : DiskINode). is_folder x.kind) (sym (mid-rec a W.table W.mid.formed W.row W.used) ∙ ap (rec_of a W.table) W.same) ∙ f) n (q ∙ sym W.same)))

  pub none-law : NewName a (row_at t j).rec name → Ok (λ (x : After). Spelled style (pair x.arena x.table) × P x.arena x.table) Clear (move_free (start a t) i j old name)
  unfolding move_free move_steps
  none-law N = go (eqb (row_at t i).id (row_at t j).id) refl
    where
      go : (b : Bool) → eqb (row_at t i).id (row_at t j).id ≡ b
          → Ok Q Clear (pick b (bind (find_slot a (row_at t i).rec old) (λ e. pick (eqb (row_at t i).id (row_at t j).id) (move_within (start a t) i e name none) (move_between (start a t) i j e name none)))
          (bind (find_slot a (row_at t i).rec old) (λ was. bind (get_node (start a t) was.entry.id) (λ c. bind (type_in_range (rec_at c.state c.row)) (λ _. bind (not_below c.state i j c.row) (λ _. move_steps c.state i j old name none))))))
      go true q = ok-bind hits λ e h. rw q (within none t (spelled-midway a t y) refl refl (λ k n. refl) e h.0 N start-p (eqb-true (row_at t i).id (row_at t j).id q))
      go false q =
          ok-bind hits λ e h.
          ok-bind (ok-and (get-law a t (spelled-midway a t y) e.entry.id (hit-node e h.0)) (leaves-node P K.loads (start a t) e.entry.id start-p)) λ w g.
          subst (λ (z : Opened). P z.state.arena z.state.table → Ok Q Clear (bind (type_in_range (rec_at z.state z.row)) (λ _. bind (not_below z.state i j z.row) (λ _. move_steps z.state i j old name none)))) (sym g.0.is)
          (free_law (eqb-false (row_at t i).id (row_at t j).id q) N e h.0 h.1 w g.0) g.1

  -- ---- onto a node

  module _ (k : ℕ) (inside : k < (row_at t j).rec.blocks) (named : is_named (slot_in a (row_at t j).rec k).name name ≡ true) where
    abbrev idd : ℕ
    idd = (slot_in a (row_at t j).rec k).id

    later : 2 ≤ k
    later = place j to name plain-new k named

    node-d : is_node a idd ≡ true
    node-d = node_at j to k later inside

    has-name : name_of (slot_in a (row_at t j).rec k).name ≡ name
    has-name =
        (named-decides (slot_in a (row_at t j).rec k).name name).right (true-T (is_named (slot_in a (row_at t j).rec k).name name) named) ∙ asked-own name (not-special name plain-new).0

    -- the record of a row, by its id
    row_is : {own : ℕ → Type 0} (u : Table) → Midway style own a u → (d : ℕ) → Used u d → (id : ℕ) → (row_at u d).id ≡ id → rec_of a u id ≡ rec_of a t id → (row_at u d).rec ≡ rec_of a t id
    row_is u M d w id q e = sym (mid-rec a u M.formed d w) ∙ ap (rec_of a u) q ∙ e

    -- both nodes are open
    module _ (e : Slot) (hit : Hit a (row_at t i).rec old e) (found : find_slot a (row_at t i).rec old ≡ done e) (o : Opened) (D : Got style a t (slot_in a (row_at t j).rec k).id o)
        (w : Opened) (W : Gets (plain style) (rows.also rows.none D.row) a D.table e.entry.id w) where
      abbrev d : ℕ
      d = D.row

      abbrev c : ℕ
      c = W.row

      abbrev u : Table
      u = W.table

      row-d : row_at u d ≡ row_at D.table d
      row-d = W.rows d D.used

      used-d : Used u d
      used-d = record { below = D.used.below; node = λ z. D.used.node (ap (λ (x : Row). x.id) (sym row-d) ∙ z) }

      rec-d : (row_at u d).rec ≡ rec_of a t idd
      rec-d = row_is u W.mid d used-d idd (ap (λ (x : Row). x.id) row-d ∙ D.same) (W.recs idd node-d ∙ D.recs idd node-d)

      rec-c : (row_at u c).rec ≡ rec_of a t e.entry.id
      rec-c = row_is u W.mid c W.used e.entry.id W.same (W.recs e.entry.id (hit-node e hit) ∙ D.recs e.entry.id (hit-node e hit))

      -- the node that moves has links, so its opening ends with nothing stored
      links : (row_at u c).rec.nlinks ≢ 0
      links z = omega (arith, z, ap (λ (x : DiskINode). x.nlinks) rec-c, named-links a t (fair a t A) e.entry.id (hit-node e hit) (hit-named e hit))

      replaces : e.entry.id ≢ idd → (x : Fs) (E : Ended style a t d idd x) → is_folder (row_at u c).rec.kind ≡ is_folder (row_at u d).rec.kind
          → (is_folder (row_at u d).rec.kind ≡ true → (row_at u d).rec.blocks ≤ 2) → Replaces (start a E.table) j e name d k
      replaces apart x E kinds small =
          let row-j : row_at E.table j ≡ row_at t j = E.rows j to.used in
          let same : (row_at E.table d).rec ≡ (row_at u d).rec = row_is E.table E.mid d E.used idd E.same (E.recs idd node-d) ∙ sym rec-d in
          record {
            used = E.used;
            later = later;
            inside = subst (λ (z : Row). k < z.rec.blocks) (sym row-j) inside;
            names = ap (λ (z : Row). (slot_in a z.rec k).id) row-j ∙ sym E.same;
            named = ap (λ (z : Row). name_of (slot_in a z.rec k).name) row-j ∙ has-name;
            apart = λ z. apart (sym z ∙ E.same);
            kinds = ap (λ (z : DiskINode). is_folder z.kind) (E.recs e.entry.id (hit-node e hit) ∙ sym rec-c) ∙ kinds ∙ ap (λ (z : DiskINode). is_folder z.kind) (sym same);
            small = subst (λ (z : DiskINode). is_folder z.kind ≡ true → z.blocks ≤ 2) (sym same) small;
          }

      row-j : row_at u j ≡ row_at t j
      row-j = W.rows j (still j to.used) ∙ D.rows j to.used
        where
          still : (m : ℕ) → Used t m → Used D.table m
          still m q = record { below = q.below; node = λ z. q.node (ap (λ (x : Row). x.id) (sym (D.rows m q)) ∙ z) }

      row-i : row_at u i ≡ row_at t i
      row-i = W.rows i (record { below = from.used.below; node = λ z. from.used.node (ap (λ (x : Row). x.id) (sym (D.rows i from.used)) ∙ z) }) ∙ D.rows i from.used

      to-u : LiveFolder (start a u) j
      to-u = live-u j row-j to

      -- the way up is the same in every table with those records
      ups : (v : Table) → ((k : ℕ) → is_node a k ≡ true → rec_of a v k ≡ rec_of a t k) → (n : ℕ) → up (tree_of a v) (row_at t j).id n ≡ up (tree_of a t) (row_at t j).id n
      unfolding up
      ups v same zero = refl
      ups v same (suc n) =
          let I = (spelled-midway a t y).fair.tidy in
          let l = lives-up (tree_of a t) I (row_at t j).id (live-lives (start a t) (spelled-midway a t y) j to) n in
          ap (parent (tree_of a v)) (ups v same n) ∙ ap (λ (x : DiskINode). (slot_in a x 1).id) (same (up (tree_of a t) (row_at t j).id n) (folder-is (tree_of a t) (up (tree_of a t) (row_at t j).id n) l.folder))

      onto-law : e.entry.id ≢ idd → P a u → Ok Q Clear (move_onto (start a u) i j old name c d k)
      unfolding move_onto move_steps
      onto-law apart p =
          ok-bind (judge-law a t A y.passes.typed.bytes u d idd rec-d node-d (row_at u c).rec.kind) λ x J.
          subst (λ (z : Fs). Ok Q Clear (bind (not_below z i j c) (λ _. bind (release z c) (λ s. move_steps s i j old name (node d k))))) (sym J.is)
          (ok-bind (below-law (start a u) W.mid.fair (meta-is a u W.mid.fair) i j c (λ q. not_root e hit (sym W.same ∙ q)) (live-lives (start a u) W.mid j to-u) (live-rec (start a u) W.mid j to-u)) λ _ h.
          ok-bind (ok-and (ends-law a t idd e.entry.id o D w W apart links) (leaves-release P K (start a u) c p)) λ x g.
          let E = g.0 in
          subst (λ (z : Fs). P z.arena z.table → Ok Q Clear (move_steps z i j old name (node d k))) (sym E.is)
          (λ m. rw (ap (λ (z : Row). find_slot a z.rec old) (E.rows i from.used) ∙ found)
          (steps E.table E.mid (E.rows i from.used) (E.rows j to.used) E.recs (replaces apart x E J.kinds J.small) m h))
          g.1)
        where
          steps : (v : Table) → Midway style (rows.also rows.none D.row) a v → row_at v i ≡ row_at t i → row_at v j ≡ row_at t j → ((k : ℕ) → is_node a k ≡ true → rec_of a v k ≡ rec_of a t k)
              → Replaces (start a v) j e name D.row k → P a v
              → ((row_at W.table i).id ≢ (row_at W.table j).id → is_folder (row_at W.table W.row).rec.kind ≡ true → (n : ℕ) → up (tree_of a W.table) (row_at W.table j).id n ≢ (row_at W.table W.row).id)
              → Ok Q Clear (pick (eqb (row_at v i).id (row_at v j).id) (move_within (start a v) i e name (node D.row k)) (move_between (start a v) i j e name (node D.row k)))
          steps v M ri rj recs R m h = go (eqb (row_at v i).id (row_at v j).id) refl
            where
              go : (b : Bool) → eqb (row_at v i).id (row_at v j).id ≡ b → Ok Q Clear (pick b (move_within (start a v) i e name (node D.row k)) (move_between (start a v) i j e name (node D.row k)))
              go true q = within (node D.row k) v M ri rj recs e hit R m (eqb-true (row_at v i).id (row_at v j).id q)
              go false q =
                  let n : (row_at v i).id ≢ (row_at v j).id = eqb-false (row_at v i).id (row_at v j).id q in
                  between 0 (λ m o. absurd o) (node D.row k) v M ri rj recs e (λ m o. absurd o) hit R m n
                  (λ f x z. h (λ w. n (ap (λ (g : Row). g.id) (ri ∙ sym row-i) ∙ w ∙ ap (λ (g : Row). g.id) (row-j ∙ sym rj)))
                  (ap (λ (g : DiskINode). is_folder g.kind) (rec-c ∙ sym (recs e.entry.id (hit-node e hit))) ∙ f) x
                  (ap (λ (g : ℕ). up (tree_of a W.table) g x) (ap (λ (g : Row). g.id) row-j) ∙ ups W.table (λ k b. W.recs k b ∙ D.recs k b) x ∙ sym (ups v recs x)
                  ∙ ap (λ (g : ℕ). up (tree_of a v) g x) (ap (λ (g : Row). g.id) (sym rj)) ∙ z ∙ sym W.same))

      -- the same node: nothing changes
      both : P a u → Ok Q Clear (pick (eqb e.entry.id idd) (done (after (start a t))) (move_onto (start a u) i j old name c d k))
      both p = go (eqb e.entry.id idd) refl
        where
          go : (b : Bool) → eqb e.entry.id idd ≡ b → Ok Q Clear (pick b (done (after (start a t))) (move_onto (start a u) i j old name c d k))
          go true q = went (y, start-p)
          go false q = onto-law (eqb-false e.entry.id idd q) p

    pub node_law : Ok (λ (x : After). Spelled style (pair x.arena x.table) × P x.arena x.table) Clear (replace (start a t) i j old name k)
    unfolding replace
    node_law =
        rw is-slot
        (ok-bind hits λ e h.
        ok-bind (ok-and (get-law a t (spelled-midway a t y) idd node-d) (leaves-node P K.loads (start a t) idd start-p)) λ o f.
        let D = f.0 in
        subst (λ (z : Opened). P z.state.arena z.state.table → Ok Q Clear (bind (get_node z.state e.entry.id) (λ c. bind (known (rec_at c.state c.row)) (λ _. bind (known (rec_at c.state z.row))
        (λ _. pick (eqb e.entry.id idd) (done (after (start a t))) (move_onto c.state i j old name c.row z.row k)))))) (sym D.is)
        (λ p. ok-bind (ok-and (get-more a D.table D.mid D.row (λ m q. ⊎_elim (λ z. absurd z) (λ z. z) q) e.entry.id (hit-node e h.0)) (leaves-node P K.loads (start a D.table) e.entry.id p)) λ w g.
        let W = g.0 in
        subst (λ (z : Opened). P z.state.arena z.state.table → Ok Q Clear (bind (known (rec_at z.state z.row)) (λ _. bind (known (rec_at z.state D.row))
        (λ _. pick (eqb e.entry.id idd) (done (after (start a t))) (move_onto z.state i j old name z.row D.row k))))) (sym W.is)
        (λ p. ok-bind (ensure-yes 19 (mid-type a W.table W.mid W.row W.used)) λ _ _.
        ok-bind (ensure-yes 19 (mid-type a W.table W.mid D.row (used-d e h.0 h.1 o D w W))) λ _ _.
        both e h.0 h.1 o D w W p) g.1) f.1)
      where
        is-slot : slot_at a (row_at t j).rec k ≡ done (slot_in a (row_at t j).rec k)
        is-slot = subst (λ (r : DiskINode). k < r.blocks → slot_at a r k ≡ done (slot_in a r k)) (row-rec a t A j to.used) (slot_is a t A y.passes.typed.bytes (row_at t j).id (row-folder a t A j to.used to.folder) k) inside
