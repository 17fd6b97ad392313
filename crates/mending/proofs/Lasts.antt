-- Where type, file and a folder's number of slots of each node are stored, the arena of an image that is allowed can be mended: the rules say of the
-- stored records what they say of those in memory, but for links and sizes.
use mathlib.Core.Path.{◌≡◌, refl, sym, ap, ◌∙◌, subst}
use mathlib.Core.Bool.{Bool, true, false, ◌&&◌}
use mathlib.Core.List.{List}
use mathlib.Core.Logic.{◌≢◌, inl, inr, ⊎_elim}
use Prim.Native.Nat.{ℕ, zero, suc, ◌+◌, ◌*◌, ◌-◌, ◌≤◌, ◌<◌}
use native.Mathlib.Omega.{arith}
use lib.Dec.{eqb}
use Rattle.base.specs.Count.{count_to}
use Rattle.base.specs.Search.{pick}
use Rattle.base.proofs.Bools.{bool_cases, and_parts}
use Rattle.base.proofs.Counts.{sum_to-cong}
use Rattle.structs.specs.Layout.{entry_of}
use Rattle.structs.specs.Types.{is_folder}
use Rattle.structs.specs.declared.DiskINode.{DiskINode}
use Rattle.structs.specs.declared.DiskEntry.{DiskEntry}
use Rattle.utf8.specs.Names.{name_of}
use Rattle.table.specs.declared.Table.{Table}
use Rattle.table.specs.Table.{empty_table, no_holds}
use Rattle.arena.specs.Fields.{File, file}
use Rattle.files.specs.Read.{there, length_of}
use Rattle.sefs.specs.Nodes.{node_file}
use Rattle.rules.specs.Image.{run, ids_in, is_node, rec_of, is_folder_at, slot_in, names_in, named, subfolders, parent_of, climb}
use Rattle.rules.specs.Rules.{Later, Folder, Linked, Removed, Rooted, Allowed}
use Rattle.rules.proofs.Folders.{folder-node}
use Rattle.tree.specs.Tree.{Tree, any, up, Lives, Tidy}
use Rattle.tree.proofs.Trees.{pick-like, folder-is, parent-lives}
use Rattle.image.specs.Midway.{tree_of}
use Rattle.image.proofs.Images.{root-node, fair}
use Rattle.image.proofs.TreeOf.{climb-tree}
use Rattle.mending.specs.Mendable.{rec_in, Standing, Mendable}
use Rattle.mending.specs.Lasts.{Lasting}
use Rattle.mending.proofs.Tables.{recs-same, empty-id}

module _ (a : List ℕ) (t : Table) (A : Allowed a t) (L : Lasting a t) where
  -- ---- the words of the rules, said of the stored records

  pub file-same : (id : ℕ) → is_node a id ≡ true → node_file (rec_in a id) ≡ node_file (rec_of a t id)
  file-same id n = ap (λ (f : List ℕ). file 1 f) (L id n).file

  slot_same : (id : ℕ) → is_node a id ≡ true → (k : ℕ) → slot_in a (rec_in a id) k ≡ slot_in a (rec_of a t id) k
  unfolding slot_in
  slot_same id n k = ap (λ (f : File). entry_of (run a f (264 * k) 264)) (file-same id n)

  pub kind-folder : (id : ℕ) → is_folder_at a t id ≡ true → is_folder (rec_of a t id).kind ≡ true
  unfolding is_folder_at
  kind-folder id f = (and_parts (is_node a id) (is_folder (rec_of a t id).kind) f).1

  folder-same : (id : ℕ) → is_folder_at a empty_table id ≡ is_folder_at a t id
  unfolding is_folder_at
  folder-same id =
      ⊎_elim
      (λ (n : is_node a id ≡ true). ap (λ (k : ℕ). is_node a id && is_folder k) (L id n).kind)
      (λ (n : is_node a id ≡ false). ap (λ (b : Bool). b && is_folder (rec_in a id).kind) n ∙ ap (λ (b : Bool). b && is_folder (rec_of a t id).kind) (sym n))
      (bool_cases (is_node a id))

  pub blocks-same : (id : ℕ) → is_folder_at a t id ≡ true → (rec_in a id).blocks ≡ (rec_of a t id).blocks
  blocks-same id f = (L id (folder-node a t id f)).blocks (kind-folder id f)

  names_same : (id x : ℕ) → is_folder_at a t id ≡ true → names_in a (rec_in a id) x ≡ names_in a (rec_of a t id) x
  unfolding names_in
  names_same id x f =
      let n = folder-node a t id f in
      λ z. count_to (λ j. eqb (slot_same id n (2 + j) z).id x) (blocks-same id f z - 2)

  pub subs-same : (id : ℕ) → is_folder_at a t id ≡ true → subfolders a (rec_in a id) ≡ subfolders a (rec_of a t id)
  unfolding subfolders
  subs-same id f =
      let n = folder-node a t id f in
      λ z. count_to (λ j. is_folder (slot_same id n (2 + j) z).kind) (blocks-same id f z - 2)

  pub named-same : (x : ℕ) → named a empty_table x ≡ named a t x
  unfolding named
  named-same x =
      sum_to-cong (λ f. pick (is_folder_at a empty_table f) (names_in a (rec_in a f) x) 0) (λ f. pick (is_folder_at a t f) (names_in a (rec_of a t f) x) 0) (ids_in a)
      (λ f l. ap (λ (b : Bool). pick b (names_in a (rec_in a f) x) 0) (folder-same f) ∙ pick-like (is_folder_at a t f) (λ d. names_same f x d))

  parent-same : (id : ℕ) → is_node a id ≡ true → parent_of a empty_table id ≡ parent_of a t id
  unfolding parent_of
  parent-same id n = ap (λ (e : DiskEntry). e.id) (slot_same id n 1)

  -- ---- the way up

  abbrev v : Tree
  v = tree_of a t

  I : Tidy any (tree_of a t)
  I = (fair a t A).tidy

  climb-same : (id : ℕ) → Lives (tree_of a t) id → (n : ℕ) → (climb a empty_table id n ≡ up (tree_of a t) id n) × Lives (tree_of a t) (up (tree_of a t) id n)
  unfolding climb up parent_of
  climb-same id l zero = (refl, l)
  climb-same id l (suc n) =
      let q = climb-same id l n in
      (ap (parent_of a empty_table) q.0 ∙ parent-same (up v id n) (folder-is v (up v id n) q.1.folder), parent-lives v I (up v id n) q.1)

  -- ---- the rules

  later-lasts : (e : DiskEntry) → Later a t e → Later a empty_table e
  later-lasts e F = record { ended = F.ended; some = F.some; no-dot = F.no-dot; no-dots = F.no-dots; node = F.node; kind = (L e.id F.node).kind ∙ F.kind }

  folder-lasts : (id : ℕ) → is_folder_at a t id ≡ true → Folder a empty_table id
  folder-lasts id f =
      let F = A.rule6.folder id f in
      let n = folder-node a t id f in
      let b = blocks-same id f in
      let s = slot_same id n in
      record {
        blocks = omega (arith, b, F.blocks);
        length = ap (length_of a) (file-same id n) ∙ F.length ∙ ap (λ (k : ℕ). 264 * k) (sym b);
        dot = ap (λ (e : DiskEntry). name_of e.name) (s 0) ∙ F.dot;
        own = ap (λ (e : DiskEntry). e.id) (s 0) ∙ F.own;
        dot-kind = ap (λ (e : DiskEntry). e.kind) (s 0) ∙ F.dot-kind;
        dots = ap (λ (e : DiskEntry). name_of e.name) (s 1) ∙ F.dots;
        dots-kind = ap (λ (e : DiskEntry). e.kind) (s 1) ∙ F.dots-kind;
        later = λ k g l. subst (Later a empty_table) (sym (s k)) (later-lasts (slot_in a (rec_of a t id) k) (F.later k g (omega (arith, b))));
        distinct = λ j k g h l e. F.distinct j k g h (omega (arith, b))
            (ap (λ (e : DiskEntry). name_of e.name) (sym (s j)) ∙ e ∙ ap (λ (e : DiskEntry). name_of e.name) (s k));
      }

  rooted-lasts : (id : ℕ) → is_node a id ≡ true → Lives (tree_of a t) id → Rooted a t id → Rooted a empty_table id
  unfolding is_folder_at
  rooted-lasts id n l R =
      let p = parent-same id n in
      let k = R.names in
      let c = R.climbs in
      record {
        parent = folder-same (parent_of a empty_table id) ∙ ap (is_folder_at a t) p ∙ R.parent;
        names = subst (λ (q : ℕ). (k : ℕ) × (2 ≤ k) × (k < (rec_in a q).blocks) × ((slot_in a (rec_in a q) k).id ≡ id)) (sym p) (
          k.0,
          k.1,
          (let y = k.2 in omega (arith, y, blocks-same (parent_of a t id) R.parent)),
          ap (λ (e : DiskEntry). e.id) (slot_same (parent_of a t id) (folder-node a t (parent_of a t id) R.parent) k.0) ∙ k.3,
        );
        climbs = (c.0, (climb-same id l c.0).0 ∙ sym (climb-tree a t id c.0) ∙ c.1);
      }

  stands-lasts : (id : ℕ) → is_folder_at a t id ≡ true → id ≢ 2 → Linked a t id → Standing a id
  unfolding is_folder_at
  stands-lasts id f d K =
      let some : (rec_of a t id).nlinks ≢ 0 = λ z. omega (arith, z, K.links) in
      record {
        once = named-same id ∙ K.once d;
        rooted = rooted-lasts id (folder-node a t id f) (record { folder = f; links = some }) (A.rule8.folder id f some d);
      }

  pub lasts-mendable : Mendable a
  unfolding is_folder_at parent_of
  lasts-mendable =
      let two = root-node a t (fair a t A) in
      record {
        rule1 = A.rule1;
        rule3 = A.rule3;
        rule4 = record {
          zero = A.rule4.zero;
          two = A.rule4.two;
          maps = A.rule4.maps;
          node = λ i l z. absurd (z (empty-id i l));
          clean = λ i l z. absurd (z (empty-id i l));
        };
        rule5 = record {
          least = λ id n. omega (arith, (L id n).kind, A.rule5.least id n);
          most = λ id n. omega (arith, (L id n).kind, A.rule5.most id n);
          distinct = λ i j n m e. A.rule5.distinct i j n m (sym (L i n).file ∙ e ∙ (L j m).file);
          own = λ id n. ap (there a) (file-same id n) ∙ A.rule5.own id n;
          other = λ k l x y. let o = A.rule5.other k l x y in (o.0, o.1, (L o.0 o.1).file ∙ o.2);
          root = (L 2 two).kind ∙ A.rule5.root;
        };
        folder = λ id f. folder-lasts id (sym (folder-same id) ∙ f);
        unnamed = named-same 2 ∙ ⊎_elim (λ (K : Linked a t 2). K.root refl) (λ (R : Removed a t 2). absurd (R.apart refl)) (A.rule7.folder 2 I.two.folder);
        root = parent-same 2 two ∙ I.root;
        other = λ id f d.
            let g = sym (folder-same id) ∙ f in
            ⊎_elim
            (λ (K : Linked a t id). inl (stands-lasts id g d K))
            (λ (R : Removed a t id). inr (record { unnamed = named-same id ∙ R.loose.unnamed; slots = blocks-same id g ∙ R.loose.slots }))
            (A.rule7.folder id g);
      }

-- without holds every record is the stored one
pub bare-lasts : (a : List ℕ) (t : Table) → Allowed a t → no_holds t ≡ true → Lasting a t
bare-lasts a t A none id n =
    let e = sym (recs-same t A.rule2.formed none a id) in
    record { kind = ap (λ (r : DiskINode). r.kind) e; file = ap (λ (r : DiskINode). r.file) e; blocks = λ f. ap (λ (r : DiskINode). r.blocks) e }
