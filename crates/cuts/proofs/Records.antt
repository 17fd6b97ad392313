-- Earlier nodes in a cut: their records, files and slots are as they were, and none of their slots names the new id.
use mathlib.Core.Path.{◌≡◌, sym, ap, ◌∙◌, subst}
use mathlib.Core.Bool.{true, false}
use mathlib.Core.List.{List}
use mathlib.Core.Logic.{◌≢◌, ⊎_elim}
use Prim.Native.Nat.{ℕ, ◌+◌, ◌*◌, ◌≤◌, ◌<◌}
use native.Mathlib.Omega.{arith}
use lib.Dec.{eqb}
use borrow.Author.Tests.{ne_eqb}
use Rattle.base.specs.Count.{count_to}
use Rattle.base.specs.Out.{done}
use Rattle.base.proofs.Bools.{and_parts, true-false}
use Rattle.base.proofs.Counts.{count_to-cong, sum_to-zero}
use Rattle.base.proofs.Finds.{eq-cases}
use Rattle.base.proofs.Lists.{tab-cong}
use Rattle.base.proofs.Numbers.{lt-or-le}
use Rattle.structs.specs.Layout.{record_of, entry_of}
use Rattle.structs.specs.declared.DiskINode.{DiskINode}
use Rattle.structs.specs.declared.DiskEntry.{DiskEntry}
use Rattle.table.specs.Table.{empty_table}
use Rattle.arena.specs.Fields.{File}
use Rattle.files.specs.Read.{there, byte_at}
use Rattle.files_laws.specs.Laws.{Kept}
use Rattle.sefs.specs.Nodes.{node_file}
use Rattle.sefs.specs.Create.{Given}
use Rattle.rules.specs.Image.{is_node, rec_of, is_folder_at, slot_in, later_slot, later_slots, names_in}
use Rattle.image.proofs.Metas.{node-other}
use Rattle.sequences.specs.Pairs.{Pair}
use Rattle.sequences.proofs.Passing.{allowed}
use Rattle.mending.specs.Mendable.{rec_in}
use Rattle.mending.proofs.Tables.{rec-stored}
use Rattle.cuts.specs.Stores.{cut_after}
use Rattle.cuts.specs.Creates.{Birth, new_parent, create_stores, before_parent}
use Rattle.cuts.specs.Premise.{Creation}
use Rattle.cuts.specs.Cuts.{KeepsRecords, KeepsOthers, KeepsFolder}
use Rattle.cuts.specs.Traces.{Nameless}
use Rattle.cuts.proofs.Synced.{rec-synced, folder-synced}
use Rattle.cuts.proofs.Facts.{Known, known, node-zero, new-id}
use Rattle.cuts.proofs.Keeps.{keeps-records}
use Rattle.cuts.proofs.Names.{rec-a, rec-b, rec-parent}
use Rattle.cuts.proofs.SoFar.{keeps-folder, keeps-others}

module _ (p : Pair) (c : Birth) (g : Given) (B : Creation p c g) where
  abbrev a : List ℕ
  a = p.arena

  K : Known p.arena c
  K = known p c g B

  pub rec-same : (id : ℕ) → is_node p.arena id ≡ true → rec_of p.arena p.table id ≡ rec_in p.arena id
  rec-same id m = rec-synced p B.passed B.synced id m

  -- an earlier node's file is there
  pub own : (id : ℕ) → is_node p.arena id ≡ true → there p.arena (node_file (rec_in p.arena id)) ≡ true
  own id m = ap (λ (r : DiskINode). there a (node_file r)) (sym (rec-same id m)) ∙ (allowed p B.passed).rule5.own id m

  -- so it is not the new one
  pub not-child : (id : ℕ) → is_node p.arena id ≡ true → (rec_in p.arena id).file ≢ c.child.file
  not-child id m e = true-false (own id m) (ap (λ (f : List ℕ). there a (record { which = 1; name = f })) e ∙ K.absent)

  module _ (n : ℕ) (b : List ℕ) (h : cut_after n (create_stores c) p.arena ≡ done b) where
    pub rec-else : (id : ℕ) → is_node p.arena id ≡ true → id ≢ c.up → rec_in b id ≡ rec_in p.arena id
    unfolding KeepsRecords
    rec-else id m d =
        let z = node-zero p B.passed id m in
        rec-stored b id z ∙ ap record_of (keeps-records p c g B n b h id m d) ∙ sym (rec-stored a id z)

    -- what the parent's two records have in common is as it was, for each earlier node
    pub rec-like : {A : Type 0} (F : DiskINode → A) → F (new_parent c) ≡ F c.parent
        → (id : ℕ) → is_node p.arena id ≡ true → F (rec_in b id) ≡ F (rec_in p.arena id)
    rec-like F q id m =
        let up : F (rec_in b c.up) ≡ F c.parent =
        ⊎_elim (λ l. ap F (rec-parent p c g B n b h l) ∙ q) (λ l. ap F (rec-b p c g B n b h l)) (lt-or-le (before_parent c) n) in
        ⊎_elim
        (λ (e : id ≡ c.up). subst (λ (i : ℕ). F (rec_in b i) ≡ F (rec_in a i)) (sym e) (up ∙ ap F (sym (rec-a p c g B))))
        (λ (d : id ≢ c.up). ap F (rec-else id m d))
        (eq-cases id c.up)

    rec-kept : n ≤ before_parent c → (id : ℕ) → is_node p.arena id ≡ true → rec_in b id ≡ rec_in p.arena id
    rec-kept l id m =
        ⊎_elim
        (λ (e : id ≡ c.up). subst (λ (i : ℕ). rec_in b i ≡ rec_in a i) (sym e) (rec-b p c g B n b h l ∙ sym (rec-a p c g B)))
        (λ (d : id ≢ c.up). rec-else id m d)
        (eq-cases id c.up)

    -- the file of another node than the parent is as it was
    pub file-kept : (id : ℕ) → is_node p.arena id ≡ true → id ≢ c.up → Kept p.arena b (node_file (rec_in p.arena id))
    unfolding KeepsOthers
    file-kept id m d =
        let r : DiskINode = rec_in a id in
        let own : (rec_of a p.table id).file ≡ r.file = ap (λ (x : DiskINode). x.file) (rec-same id m) in
        let up : (rec_of a p.table c.up).file ≡ c.parent.file = ap (λ (x : DiskINode). x.file) (rec-same c.up K.up ∙ rec-a p c g B) in
        keeps-others p c g B n b h (node_file r)
        (λ w. node-other r.file (sym w))
        (λ w. not-child id m (ap (λ (x : File). x.name) w))
        (λ w. d ((allowed p B.passed).rule5.distinct id c.up m K.up (own ∙ ap (λ (x : File). x.name) w ∙ sym up)))

    -- and so are the slots of each folder
    slot_kept : (f k : ℕ) → is_node p.arena f ≡ true → k < (rec_in p.arena f).blocks
        → slot_in b (rec_in p.arena f) k ≡ slot_in p.arena (rec_in p.arena f) k
    unfolding slot_in KeepsFolder
    slot_kept f k m l =
        ap entry_of (tab-cong (byte_at b (node_file (rec_in a f))) (byte_at a (node_file (rec_in a f))) (264 * k) (264 * k) 264 (λ j q. ⊎_elim
        (λ (e : f ≡ c.up).
        let r : rec_in a f ≡ c.parent = ap (rec_in a) e ∙ rec-a p c g B in
        subst (λ (x : DiskINode). byte_at b (node_file x) (264 * k + j) ≡ byte_at a (node_file x) (264 * k + j)) (sym r)
        ((keeps-folder p c g B n b h).bytes (264 * k + j) (let z : k < c.parent.blocks = subst (λ (x : DiskINode). k < x.blocks) r l in omega arith)))
        (λ (d : f ≢ c.up). (file-kept f m d).byte (264 * k + j))
        (eq-cases f c.up)))

    -- no folder that was there names the new id
    pub nameless : n ≤ before_parent c → Nameless p.arena c.id b
    unfolding names_in is_folder_at count_to
    nameless l f d =
        let m = (and_parts (is_node a f) _ d).0 in
        let r : DiskINode = rec_in a f in
        let same : (j : ℕ) → j < later_slots r → (later_slot b r j).id ≡ (later_slot a r j).id =
        λ j q. ap (λ (x : DiskEntry). x.id) (slot_kept f (2 + j) m (omega arith)) in
        let other : (j : ℕ) → j < later_slots r → (later_slot b r j).id ≢ c.id =
        λ j q e. new-id p c g B (later_slot a r j).id (names f d j q) (sym e ∙ same j q) in
        ap (λ (x : DiskINode). names_in b x c.id) (rec-kept l f m)
        ∙ count_to-cong (λ j. eqb (later_slot b r j).id c.id) (λ j. false) (later_slots r) (λ j q. ne_eqb (later_slot b r j).id c.id (other j q))
        ∙ sum_to-zero (later_slots r)
      where
        names : (f : ℕ) → is_folder_at a empty_table f ≡ true → (j : ℕ) → j < later_slots (rec_in a f) → is_node a (later_slot a (rec_in a f) j).id ≡ true
        names f d =
            let F = (allowed p B.passed).rule6.folder f (folder-synced p B.passed B.synced f d) in
            let e = rec-same f (and_parts (is_node a f) _ d).0 in
            subst (λ (r : DiskINode). (j : ℕ) → j < later_slots r → is_node a (later_slot a r j).id ≡ true) e
            (λ j q. (F.later (2 + j) (omega arith) (omega arith)).node)
