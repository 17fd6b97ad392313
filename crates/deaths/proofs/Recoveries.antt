-- The host dies at a passed pair: the mender is done unless a record lacks a block, and every name leads where it led.
use mathlib.Core.Path.{◌≡◌, refl, sym, ap, ◌∙◌, subst}
use mathlib.Core.Bool.{Bool, true, false, not, ◌&&◌}
use mathlib.Core.List.{List}
use mathlib.Core.Logic.{◌≢◌, ⊎_elim}
use Prim.Native.Nat.{ℕ, zero, suc, ◌+◌, ◌≤◌, ◌<◌}
use native.Mathlib.Omega.{arith}
use lib.Dec.{eqb}
use borrow.Author.Tests.{eq-eqb, ne_eqb, eqb-false, not-true}
use Rattle.base.specs.Out.{Out, done, refused, Ok, went, said}
use Rattle.base.proofs.Outs.{ok-weaken}
use Rattle.base.proofs.Bools.{bool_cases, true-false, and_both, and_parts, same_bool}
use Rattle.base.proofs.Sames.{test-fails}
use Rattle.le.specs.Le.{Bytes}
use Rattle.structs.specs.Types.{is_folder}
use Rattle.structs.specs.declared.DiskINode.{DiskINode}
use Rattle.structs.specs.declared.DiskEntry.{DiskEntry}
use Rattle.files.specs.Read.{length_of}
use Rattle.arena.specs.Places.{free_count}
use Rattle.files_laws.specs.Laws.{Kept}
use Rattle.files_laws.proofs.Views.{kept_refl}
use Rattle.table.specs.declared.Table.{Table}
use Rattle.table.specs.Table.{empty_table}
use Rattle.table_bytes.proofs.Empty.{empty-fits}
use Rattle.table_laws.proofs.Keeps.{empty-formed}
use Rattle.sefs.specs.Nodes.{node_file}
use Rattle.sefs.specs.Slots.{find_slot, Slot}
use Rattle.rules.specs.Image.{is_node, rec_of, is_folder_at, slot_in, named}
use Rattle.rules.specs.Rules.{Linked, Removed, Allowed}
use Rattle.rules.proofs.Folders.{folder-node}
use Rattle.sefs_laws.proofs.Rows.{Any}
use Rattle.tree.specs.Tree.{Lives}
use Rattle.tree.proofs.Trees.{parent-lives}
use Rattle.image.specs.Midway.{tree_of}
use Rattle.image.proofs.Images.{fair, root-node}
use Rattle.image.proofs.Lookups.{Hit, find-law}
use Rattle.image.proofs.Freed.{slot_counts}
use Rattle.sequences.specs.Pairs.{pair}
use Rattle.sequences.proofs.Passing.{allowed}
use Rattle.mending.specs.Mendable.{rec_in}
use Rattle.mending.specs.Mend.{lost, call_mend}
use Rattle.mending.specs.Room.{wanted, given_back}
use Rattle.mending.specs.Lasts.{Lasting}
use Rattle.mending.specs.Promises.{way, Spared, Mended, IsMended, MendPasses, MendFull}
use Rattle.mending.proofs.Tables.{empty_holds}
use Rattle.mending.proofs.Fates.{lost-is, lost-says, stays-is, stays-node, not-lost, mended-folder, mended-other, mended-kind, mended-blocks, mended-file}
use Rattle.mending.proofs.Lasts.{file-same, kind-folder, blocks-same, subs-same, named-same, lasts-mendable}
use Rattle.mending.proofs.Lookups.{find-kept}
use Rattle.mending.proofs.Ways.{way_same}
use Rattle.mending.proofs.Stores.{want-nothing}
use Rattle.mending.proofs.Steps.{mend-full}
use Rattle.mending.proofs.Theorems.{is-mended, mend-bytes, mend-passes}
use Rattle.deaths.specs.Deaths.{Backed, AsItWas, Recovered, Dies}

module _ (a : List ℕ) (t : Table) (A : Allowed a t) (B : Bytes a) (L : Lasting a t) where
  -- ---- where names lead, by the records in memory and by the stored ones

  -- a node that names can lead to: a folder has links
  pub record Good (id : ℕ) : Type 0 where
    pub node : is_node a id ≡ true
    pub links : is_folder_at a t id ≡ true → (rec_of a t id).nlinks ≢ 0

  -- a folder that a later slot names
  named-good : (id : ℕ) → is_node a id ≡ true → 1 ≤ named a t id → Good id
  named-good id n l = record {
    node = n;
    links = λ f z. ⊎_elim (λ (K : Linked a t id). omega (arith, z, K.links)) (λ (R : Removed a t id). omega (arith, l, R.loose.unnamed)) (A.rule7.folder id f);
  }

  parent-good : (id : ℕ) → Good id → is_folder_at a t id ≡ true → Good (slot_in a (rec_of a t id) 1).id
  unfolding is_folder_at
  parent-good id G f =
      let P : Lives (tree_of a t) (slot_in a (rec_of a t id) 1).id = parent-lives (tree_of a t) (fair a t A).tidy id (record { folder = f; links = G.links f }) in
      record { node = folder-node a t (slot_in a (rec_of a t id) 1).id P.folder; links = λ _. P.links }

  slot-good : (id : ℕ) → Good id → is_folder_at a t id ≡ true → (k : ℕ) → k < (rec_of a t id).blocks → Good (slot_in a (rec_of a t id) k).id
  slot-good id G f zero l = subst Good (sym (A.rule6.folder id f).own) G
  slot-good id G f (suc zero) l = parent-good id G f
  slot-good id G f (suc (suc j)) l =
      let e = (A.rule6.folder id f).later (suc (suc j)) (omega arith) l in
      named-good (slot_in a (rec_of a t id) (suc (suc j))).id e.node (slot_counts a t id (suc (suc j)) (slot_in a (rec_of a t id) (suc (suc j))).id f (omega arith) l refl)

  folder-of : (id : ℕ) → is_node a id ≡ true → is_folder (rec_of a t id).kind ≡ true → is_folder_at a t id ≡ true
  unfolding is_folder_at
  folder-of id n f = and_both n f

  pub leads : (id : ℕ) → Good id → is_folder (rec_of a t id).kind ≡ true → (name : List ℕ) → Ok (λ (s : Slot). Good s.entry.id) Any (find_slot a (rec_of a t id) name)
  leads id G f name =
      let g = folder-of id G.node f in
      ok-weaken
      (λ s (H : Hit a (rec_of a t id) name s). subst (λ (e : DiskEntry). Good e.id) (sym H.is) (slot-good id G g s.place H.inside))
      (λ n r. tt)
      (find-law a t A B id g name)

  finds : (id : ℕ) → Good id → is_folder (rec_of a t id).kind ≡ true → (name : List ℕ) → find_slot a (rec_of a empty_table id) name ≡ find_slot a (rec_of a t id) name
  finds id G f name =
      find-kept a a (rec_of a empty_table id) (rec_of a t id) name (blocks-same a t A L id (folder-of id G.node f)) (file-same a t A L id G.node) (kept_refl a (node_file (rec_of a t id)))

  pub two_good : Good 2
  two_good = record {
    node = root-node a t (fair a t A);
    links = λ f z. ⊎_elim (λ (K : Linked a t 2). omega (arith, z, K.links)) (λ (R : Removed a t 2). R.apart refl) (A.rule7.folder 2 f);
  }

  names-stored : (l : List (List ℕ)) → way a empty_table 2 l ≡ way a t 2 l
  names-stored l = way_same a a t empty_table Good (λ id G. (L id G.node).kind) finds leads 2 two_good l

  -- ---- what has no links is lost, and nothing else

  two-folder : is_folder_at a t 2 ≡ true
  two-folder = folder-of 2 (root-node a t (fair a t A)) (eq-eqb (rec_of a t 2).kind 2 A.rule5.root)

  lost-none : (id : ℕ) → lost a id ≡ true → (rec_of a t id).nlinks ≡ 0
  lost-none id e =
      let x = lost-says a id e in
      let z : named a t id ≡ 0 = sym (named-same a t A L id) ∙ x.2 in
      ⊎_elim
      (λ (f : is_folder_at a t id ≡ true). ⊎_elim (λ (K : Linked a t id). absurd (omega (arith, z, K.once x.1))) (λ (R : Removed a t id). R.links) (A.rule7.folder id f))
      (λ (f : is_folder_at a t id ≡ false). A.rule7.other id x.0 f ∙ z)
      (bool_cases (is_folder_at a t id))

  none-lost : (id : ℕ) → is_node a id ≡ true → (rec_of a t id).nlinks ≡ 0 → lost a id ≡ true
  none-lost id n z =
      ⊎_elim
      (λ (f : is_folder_at a t id ≡ true). ⊎_elim (λ (K : Linked a t id). absurd (omega (arith, z, K.links)))
      (λ (R : Removed a t id). lost-is a id n R.apart (named-same a t A L id ∙ R.loose.unnamed)) (A.rule7.folder id f))
      (λ (f : is_folder_at a t id ≡ false). lost-is a id n (λ q. true-false two-folder (ap (is_folder_at a t) (sym q) ∙ f)) (named-same a t A L id ∙ sym (A.rule7.other id n f) ∙ z))
      (bool_cases (is_folder_at a t id))

  -- ---- after the mending

  module _ (b : List ℕ) (D : Mended a b) where
    -- a node that is left has links
    left-links : (id : ℕ) → is_node b id ≡ true → (rec_of a t id).nlinks ≢ 0
    left-links id n z = let s = D.no_more id n in true-false (none-lost id (stays-node a id s) z) (not-lost a id s)

    nodes : (id : ℕ) → is_node b id ≡ (is_node a id && not (eqb (rec_of a t id).nlinks 0))
    nodes id =
        same_bool (is_node b id) (is_node a id && not (eqb (rec_of a t id).nlinks 0))
        (λ n. and_both (stays-node a id (D.no_more id n)) (ap not (ne_eqb (rec_of a t id).nlinks 0 (left-links id n))))
        (λ e.
        let x = and_parts (is_node a id) (not (eqb (rec_of a t id).nlinks 0)) e in
        (D.spared id (stays-is a id x.0 (test-fails (lost a id) (λ q. eqb-false (rec_of a t id).nlinks 0 (not-true _ x.1) (lost-none id q))))).node)

    module _ (id : ℕ) (n : is_node b id ≡ true) where
      S : Spared a b id
      S = D.spared id (D.no_more id n)

      m : is_node a id ≡ true
      m = stays-node a id (D.no_more id n)

      -- the mended record's field, where the record is a folder's and where it isn't
      no-folder : is_folder (rec_of a t id).kind ≡ false → is_folder_at a t id ≡ false
      no-folder f = test-fails (is_folder_at a t id) (λ g. true-false (kind-folder a t A L id g) f)

      stored-kind : {c : Bool} → is_folder (rec_of a t id).kind ≡ c → is_folder (rec_in a id).kind ≡ c
      stored-kind f = ap is_folder (L id m).kind ∙ f

      folder-links : is_folder (rec_of a t id).kind ≡ true → (rec_in b id).nlinks ≡ (rec_of a t id).nlinks
      folder-links f =
          let g = folder-of id m f in
          ap (λ (r : DiskINode). r.nlinks) (S.rec ∙ mended-folder a id (stored-kind f)) ∙ ap (λ (x : ℕ). 2 + x) (subs-same a t A L id g)
          ∙ ⊎_elim (λ (K : Linked a t id). sym K.links) (λ (R : Removed a t id). absurd (left-links id n R.links)) (A.rule7.folder id g)

      other-links : is_folder (rec_of a t id).kind ≡ false → (rec_in b id).nlinks ≡ (rec_of a t id).nlinks
      other-links f = ap (λ (r : DiskINode). r.nlinks) (S.rec ∙ mended-other a id (stored-kind f)) ∙ named-same a t A L id ∙ sym (A.rule7.other id m (no-folder f))

      each : AsItWas (pair a t) b id
      each = record {
        kind = ap (λ (r : DiskINode). r.kind) S.rec ∙ mended-kind a id ∙ (L id m).kind;
        links = ⊎_elim folder-links other-links (bool_cases (is_folder (rec_of a t id).kind));
        size = λ f. ap (λ (r : DiskINode). r.size) (S.rec ∙ mended-other a id (stored-kind f)) ∙ ap (length_of a) (file-same a t A L id m) ∙ A.rule6.size id m (no-folder f);
        blocks = λ f. ap (λ (r : DiskINode). r.blocks) S.rec ∙ mended-blocks a id ∙ (L id m).blocks f;
        file = ap (λ (r : DiskINode). r.file) S.rec ∙ mended-file a id ∙ (L id m).file;
        bytes = subst (Kept a b) (file-same a t A L id m) S.file;
      }

  recovered : (b : List ℕ) → call_mend a empty_table ≡ done b → Recovered (pair a t) b
  unfolding IsMended MendPasses
  recovered b e =
      let D = is-mended a b empty_table B e in
      record {
        passes = record { typed = record { bytes = mend-bytes a b empty_table B e; fits = empty-fits }; passes = mend-passes a b empty_table B e };
        names = λ l. D.names l ∙ names-stored l;
        nodes = nodes b D;
        each = each b D;
      }

  recovers : Ok (Recovered (pair a t)) (λ n. (n ≡ 17) × (Backed a → ⊥)) (call_mend a empty_table)
  unfolding MendFull Backed
  recovers = go (call_mend a empty_table) refl (mend-full a empty_table empty-formed empty_holds (lasts-mendable a t A L))
    where
      go : (o : Out (List ℕ)) → call_mend a empty_table ≡ o → Ok (λ b. wanted a ≤ free_count a + given_back a) (λ n. (n ≡ 17) × (free_count a + given_back a < wanted a)) o
          → Ok (Recovered (pair a t)) (λ n. (n ≡ 17) × (Backed a → ⊥)) o
      go (done b) e k = went (recovered b e)
      go (refused n) e (said r) = said (r.0, λ K. let l = r.1 in omega (arith, l, want-nothing a (λ id s. K id (stays-node a id s))))

pub dies : Dies
unfolding Dies
dies p h L = record {
  mendable = lasts-mendable p.arena p.table (allowed p h) L;
  mends = recovers p.arena p.table (allowed p h) h.typed.bytes L;
}
