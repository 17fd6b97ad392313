-- An image with a node more, and a slot for it at the end of a folder: superblock and maps say so, its file and its row are there, links have
-- risen. An image that was fair stays so. Rules 6 to 8 come by two steps of the tree: the node is born, unnamed, and then it is named.
use mathlib.Core.Path.{◌≡◌, refl, sym, ap, ◌∙◌, subst}
use mathlib.Core.Bool.{Bool, true, false, not, ◌&&◌}
use mathlib.Core.List.{List}
use mathlib.Core.Logic.{◌≢◌, ⊎_elim}
use Prim.Native.Nat.{ℕ, ◌+◌, ◌*◌, ◌%◌, ◌≤◌, ◌<◌}
use native.Mathlib.Omega.{arith}
use lib.Dec.{eqb, ltb}
use Rattle.base.specs.Count.{bit}
use Rattle.base.specs.Decides.{same}
use Rattle.base.specs.Search.{upd}
use Rattle.base.proofs.Bools.{and_both, bool_cases, true-false}
use Rattle.base.proofs.Finds.{eq-cases}
use Rattle.base.proofs.Sames.{decided-yes, same_true}
use Rattle.base.proofs.Searches.{upd_same, upd_other}
use Rattle.base.proofs.Tests.{decides-same}
use Rattle.std.specs.Prelude.{Some}
use Rattle.structs.specs.Types.{is_folder}
use Rattle.structs.specs.declared.DiskEntry.{DiskEntry}
use Rattle.structs.specs.declared.DiskINode.{DiskINode}
use Rattle.structs.specs.declared.SuperBlock.{SuperBlock}
use Rattle.maps.specs.Maps.{bit_at, set_bits}
use Rattle.arena.specs.Blocks.{blk}
use Rattle.arena.specs.Fields.{file}
use Rattle.table.specs.declared.Table.{Table}
use Rattle.table.specs.Table.{row_at, free_row}
use Rattle.table_laws.specs.Rules.{none}
use Rattle.files.specs.Read.{there, length_of}
use Rattle.files_laws.specs.Laws.{Kept}
use Rattle.utf8.specs.Names.{name_of}
use Rattle.sefs.specs.State.{Meta}
use Rattle.sefs.specs.Nodes.{node_file}
use Rattle.sefs.specs.Folders.{entry}
use Rattle.rules.specs.Image.{stored_super, ids_in, is_node, rec_of, is_open, slot_in}
use Rattle.image.specs.Midway.{Used, Fair, tree_of, stored_meta, Midway}
use Rattle.image.proofs.Images.{Like, root-node, head-there, there-head}
use Rattle.tree.specs.Tree.{Spelling, Tree, Tidy}
use Rattle.tree.proofs.Trees.{folder-is}
use Rattle.tree.proofs.Naming.{Names, May, names-tidy}
use Rattle.tree.proofs.Born.{Born, born-tidy}
use Rattle.image.proofs.Nodes.{node-some}
use Rattle.image.proofs.Metas.{kept_same}
use Rattle.image.proofs.Drops.{mid-rec}
use Rattle.image.proofs.Appends.{slot_kept}
use Rattle.image.proofs.NewNames.{NewName}
use Rattle.image.proofs.Inits.{dot-name, dots-name}
use Rattle.image.proofs.Allocs.{node_in, Taken, taken_is, taken-new, taken-same}
use Rattle.image.proofs.NodeFiles.{Bred}
use Rattle.image.proofs.Newborns.{Rowed, child-rec, own-rec, open-else, open-child, ids-else, rec-else}
use Rattle.arena.specs.Fields as block

-- slots by the file's name alone
slot-file : (b : List ℕ) (r s : DiskINode) → r.file ≡ s.file → (k : ℕ) → slot_in b r k ≡ slot_in b s k
slot-file b r s q k = slot_kept b b r s q (kept_same b (node_file s)) k

-- ---- a tree with a node more

abbrev with_node : Tree → ℕ → ℕ → ℕ → ℕ → ℕ → ℕ → (ℕ → DiskEntry) → Tree
with_node v n c kind blocks size long slots = record {
  ids = n;
  node = upd v.node c true;
  kind = upd v.kind c kind;
  links = upd v.links c 0;
  blocks = upd v.blocks c blocks;
  size = upd v.size c size;
  long = upd v.long c long;
  slot = upd v.slot c slots;
  opened = upd v.opened c true;
}

module _ {style : Spelling} (a b : List ℕ) (t u : Table) (M : Midway style none a t) (i : ℕ) (ui : Used t i)
    (dir : is_folder (row_at t i).rec.kind ≡ true) (lives : (row_at t i).rec.nlinks ≢ 0)
    (c : ℕ) (free : free_row t ≡ Some c) (id : ℕ) (m : Meta) (K : Taken (stored_meta a) m id)
    (r s : DiskINode) (R : Rowed a t c i id r s u)
    (name : List ℕ) (N : NewName a (rec_of a t (row_at t i).id) name)
    (least : 1 ≤ r.kind) (most : r.kind ≤ 4) (two : is_folder r.kind ≡ true → r.blocks ≡ 2) (small : r.size ≡ 0)
    (same_kind : s.kind ≡ (row_at t i).rec.kind) (same-file : s.file ≡ (row_at t i).rec.file) (same_size : s.size ≡ (row_at t i).rec.size) (more : s.blocks ≡ (row_at t i).rec.blocks + 1)
    (child-links : r.nlinks ≡ 1 + bit (is_folder r.kind)) (own-links : s.nlinks ≡ (row_at t i).rec.nlinks + bit (is_folder r.kind))
    (absent : there a (file 1 r.file) ≡ false)
    (B : Bred a m r.file r.kind id (row_at t i).id (row_at t i).rec (entry id name r.kind) b) where
  abbrev d : ℕ
  d = (row_at t i).id

  abbrev ri : DiskINode
  ri = (row_at t i).rec

  abbrev e : DiskEntry
  e = entry id name r.kind

  A : Fair style a t
  A = M.fair

  -- ---- nodes

  node-b : (k : ℕ) → is_node b k ≡ node_in m k
  unfolding is_node
  node-b k = λ x. ltb k (1024 * (B.super x).groups) && (not (eqb k 0) && (not (eqb (k % 1024) 1) && not (bit_at (B.maps x) k)))

  node-a : (k : ℕ) → node_in (stored_meta a) k ≡ is_node a k
  unfolding is_node
  node-a k = refl

  new-node : is_node b id ≡ true
  new-node = node-b id ∙ taken_is (stored_meta a) m id K

  no_node : is_node a id ≡ false
  no_node = sym (node-a id) ∙ taken-new (stored_meta a) m id K

  same-node : (k : ℕ) → k ≢ id → is_node b k ≡ is_node a k
  same-node k n = node-b k ∙ taken-same (stored_meta a) m id K k n ∙ node-a k

  other : (k : ℕ) → is_node a k ≡ true → k ≢ id
  other k n q = true-false (ap (is_node a) (sym q) ∙ n) no_node

  node-d : is_node a d ≡ true
  node-d = A.rule4.node i ui.below ui.node

  -- ---- records

  rec-d : rec_of a t d ≡ ri
  rec-d = mid-rec a t M.formed i ui

  new-rec : Like (rec_of b u id) r
  new-rec = child-rec a t M c i id free ui K.some r s u R b

  dir-rec : Like (rec_of b u d) s
  dir-rec = own-rec a t M c i id free ui K.some r s u R b

  same-rec : (k : ℕ) → is_node a k ≡ true → k ≢ d → rec_of b u k ≡ rec_of a t k
  same-rec k n q = rec-else a t M c i id free ui K.some r s u R b k (B.stored k n) (node-some a t A k n) (other k n) q

  -- a field that the folder's record keeps too
  field-old : {X : Type 0} (q : DiskINode → X) → q (rec_of b u d) ≡ q ri → (k : ℕ) → is_node a k ≡ true → q (rec_of b u k) ≡ q (rec_of a t k)
  field-old q h k n =
      ⊎_elim
      (λ (z : k ≡ d). subst (λ (x : ℕ). q (rec_of b u x) ≡ q (rec_of a t x)) (sym z) (h ∙ ap q (sym rec-d)))
      (λ z. ap q (same-rec k n z))
      (eq-cases k d)

  old-kind : (k : ℕ) → is_node a k ≡ true → (rec_of b u k).kind ≡ (rec_of a t k).kind
  old-kind = field-old (λ x. x.kind) (dir-rec.kind ∙ same_kind)

  old-file : (k : ℕ) → is_node a k ≡ true → (rec_of b u k).file ≡ (rec_of a t k).file
  old-file = field-old (λ x. x.file) (dir-rec.file ∙ same-file)

  old-size : (k : ℕ) → is_node a k ≡ true → (rec_of b u k).size ≡ (rec_of a t k).size
  old-size = field-old (λ x. x.size) (dir-rec.size ∙ same_size)

  file-d : (rec_of b u d).file ≡ ri.file
  file-d = dir-rec.file ∙ same-file

  -- the new file's name is no old node's
  file-new : (k : ℕ) → is_node a k ≡ true → (rec_of a t k).file ≢ r.file
  file-new k n q = true-false (ap (λ (f : List ℕ). there a (file 1 f)) (sym q) ∙ A.rule5.own k n) absent

  kept : (k : ℕ) → is_node a k ≡ true → k ≢ d → Kept a b (node_file (rec_of a t k))
  kept k n z = B.others (rec_of a t k).file (file-new k n) (λ q. z (A.rule5.distinct k d n node-d (q ∙ ap (λ (x : DiskINode). x.file) (sym rec-d))))

  old-open : (k : ℕ) → is_node a k ≡ true → is_open u k ≡ is_open t k
  old-open k n = open-else a t M c i id free ui K.some r s u R k (node-some a t A k n) (other k n)

  -- ---- the tree: the node is born

  abbrev v : Tree
  v = tree_of a t

  abbrev w : Tree
  w = with_node (tree_of a t) (ids_in b) id r.kind r.blocks r.size (length_of b (file 1 r.file)) (slot_in b r)

  w-kind : {x : Bool} → is_folder (w.kind id) ≡ x → is_folder r.kind ≡ x
  w-kind f = ap is_folder (sym (upd_same v.kind id r.kind)) ∙ f

  w-slot : (k : ℕ) → w.slot id k ≡ slot_in b r k
  w-slot k = ap (λ (f : ℕ → DiskEntry). f k) (upd_same v.slot id (slot_in b r))

  groups : (stored_super b).groups ≡ m.super.groups
  groups = ap (λ (x : SuperBlock). x.groups) B.super

  born : Born v w id
  born = record {
    ids = omega (arith, groups, K.more);
    new = no_node;
    inside = omega (arith, groups, K.inside);
    apart = λ q. other 2 (root-node a t A) (sym q);
    is = upd_same v.node id true;
    node = λ k n. upd_other v.node id true k n;
    kind = λ k n. upd_other v.kind id r.kind k (other k n);
    links = λ k n. upd_other v.links id 0 k (other k n);
    blocks = λ k n. upd_other v.blocks id r.blocks k (other k n);
    size = λ k n. upd_other v.size id r.size k (other k n);
    long = λ k n. upd_other v.long id (length_of b (file 1 r.file)) k (other k n);
    slots = λ k f j l. ap (λ (g : ℕ → DiskEntry). g j) (upd_other v.slot id (slot_in b r) k (other k (folder-is v k f)));
    opened = λ k n o. upd_other v.opened id true k (other k n) ∙ o;
    none = upd_same v.links id 0;
    held = upd_same v.opened id true;
    two = λ f. upd_same v.blocks id r.blocks ∙ two (w-kind f);
    empty = λ f. upd_same v.long id (length_of b (file 1 r.file)) ∙ B.young.empty (w-kind f) ∙ sym small ∙ sym (upd_same v.size id r.size);
    filled = λ f. upd_same v.long id (length_of b (file 1 r.file)) ∙ B.young.size (w-kind f);
    dot = λ f. ap (λ (x : DiskEntry). name_of x.name) (w-slot 0 ∙ B.young.dot (w-kind f) r refl) ∙ dot-name;
    own = λ f. ap (λ (x : DiskEntry). x.id) (w-slot 0 ∙ B.young.dot (w-kind f) r refl);
    dot-kind = λ f. ap (λ (x : DiskEntry). x.kind) (w-slot 0 ∙ B.young.dot (w-kind f) r refl);
    dots = λ f. ap (λ (x : DiskEntry). name_of x.name) (w-slot 1 ∙ B.young.dots (w-kind f) r refl) ∙ dots-name;
    dots-kind = λ f. ap (λ (x : DiskEntry). x.kind) (w-slot 1 ∙ B.young.dots (w-kind f) r refl);
  }

  -- ---- and named

  -- an old node of the tree between
  old : (k : ℕ) → w.node k ≡ true → k ≢ id → is_node a k ≡ true
  old k n q = sym (upd_other v.node id true k q) ∙ n

  id-d : id ≢ d
  id-d q = other d node-d (sym q)

  d-id : d ≢ id
  d-id = other d node-d

  blocks-d : w.blocks d ≡ ri.blocks
  blocks-d = upd_other v.blocks id r.blocks d d-id ∙ ap (λ (x : DiskINode). x.blocks) rec-d

  links-d : w.links d ≡ ri.nlinks
  links-d = upd_other v.links id 0 d d-id ∙ ap (λ (x : DiskINode). x.nlinks) rec-d

  slots-d : (k : ℕ) → w.slot d k ≡ slot_in a (rec_of a t d) k
  slots-d k = ap (λ (g : ℕ → DiskEntry). g k) (upd_other v.slot id (slot_in b r) d d-id)

  kind-d : w.kind d ≡ ri.kind
  kind-d = upd_other v.kind id r.kind d d-id ∙ ap (λ (x : DiskINode). x.kind) rec-d

  kind-id : w.kind id ≡ r.kind
  kind-id = upd_same v.kind id r.kind

  slots-old : (k : ℕ) → is_node a k ≡ true → (j : ℕ) → (k ≡ d → j < ri.blocks) → slot_in b (rec_of b u k) j ≡ slot_in a (rec_of a t k) j
  slots-old k n j l =
      ⊎_elim
      (λ (z : k ≡ d). subst (λ (x : ℕ). slot_in b (rec_of b u x) j ≡ slot_in a (rec_of a t x) j) (sym z)
      (B.housed.slots (rec_of b u d) file-d j (l z) ∙ ap (λ (x : DiskINode). slot_in a x j) (sym rec-d)))
      (λ z. slot_kept a b (rec_of b u k) (rec_of a t k) (old-file k n) (kept k n z) j)
      (eq-cases k d)

  tree : Names w (tree_of b u) d id e
  tree = record {
    ids = refl;
    node = λ k. ⊎_elim
        (λ (q : k ≡ id). subst (λ (x : ℕ). is_node b x ≡ w.node x) (sym q) (new-node ∙ sym (upd_same v.node id true)))
        (λ q. same-node k q ∙ sym (upd_other v.node id true k q))
        (eq-cases k id);
    kind = λ k n. ⊎_elim
        (λ (q : k ≡ id). subst (λ (x : ℕ). (rec_of b u x).kind ≡ w.kind x) (sym q) (new-rec.kind ∙ sym kind-id))
        (λ q. old-kind k (old k n q) ∙ sym (upd_other v.kind id r.kind k q))
        (eq-cases k id);
    opened = λ k n o. ⊎_elim
        (λ (q : k ≡ id). ap (is_open u) q ∙ open-child a t M c i id free ui K.some r s u R)
        (λ q. old-open k (old k n q) ∙ sym (upd_other v.opened id true k q) ∙ o)
        (eq-cases k id);
    slots = λ k f j l. ⊎_elim
        (λ (q : k ≡ id). subst (λ (x : ℕ). slot_in b (rec_of b u x) j ≡ w.slot x j) (sym q) (slot-file b (rec_of b u id) r new-rec.file j ∙ sym (w-slot j)))
        (λ q. slots-old k (old k (folder-is w k f) q) j (λ z. omega (arith, ap w.blocks z, blocks-d)) ∙ sym (ap (λ (g : ℕ → DiskEntry). g j) (upd_other v.slot id (slot_in b r) k q)))
        (eq-cases k id);
    blocks = λ k f z. ⊎_elim
        (λ (q : k ≡ id). subst (λ (x : ℕ). (rec_of b u x).blocks ≡ w.blocks x) (sym q) (new-rec.blocks ∙ sym (upd_same v.blocks id r.blocks)))
        (λ q. ap (λ (x : DiskINode). x.blocks) (same-rec k (old k (folder-is w k f) q) z) ∙ sym (upd_other v.blocks id r.blocks k q))
        (eq-cases k id);
    size = λ k n. ⊎_elim
        (λ (q : k ≡ id). subst (λ (x : ℕ). (rec_of b u x).size ≡ w.size x) (sym q) (new-rec.size ∙ sym (upd_same v.size id r.size)))
        (λ q. old-size k (old k n q) ∙ sym (upd_other v.size id r.size k q))
        (eq-cases k id);
    long = λ k m z. ⊎_elim
        (λ (q : k ≡ id). subst (λ (x : ℕ). length_of b (node_file (rec_of b u x)) ≡ w.long x) (sym q)
        (ap (λ (g : List ℕ). length_of b (file 1 g)) new-rec.file ∙ sym (upd_same v.long id (length_of b (file 1 r.file)))))
        (λ q. let n = old k m q in
        ap (λ (g : List ℕ). length_of b (file 1 g)) (old-file k n) ∙ (kept k n z).long ∙ sym (upd_other v.long id (length_of b (file 1 r.file)) k q))
        (eq-cases k id);
    more = dir-rec.blocks ∙ more ∙ ap (λ (x : ℕ). x + 1) (sym blocks-d);
    longer = ap (λ (g : List ℕ). length_of b (file 1 g)) file-d ∙ B.housed.long ∙ ap (λ (x : ℕ). 264 * (x + 1)) (sym blocks-d);
    new = ap (slot_in b (rec_of b u d)) blocks-d ∙ B.housed.new (rec_of b u d) file-d;
    links = λ k n z q. ap (λ (x : DiskINode). x.nlinks) (same-rec k (old k n z) q) ∙ sym (upd_other v.links id 0 k z);
    child = new-rec.nlinks ∙ child-links ∙ omega (arith, upd_same v.links id 0, ap (λ (x : ℕ). bit (is_folder x)) kind-id);
    own = dir-rec.nlinks ∙ own-links ∙ omega (arith, links-d, ap (λ (x : ℕ). bit (is_folder x)) kind-id);
  }

  may : May w d id e
  may = record {
    lives = record {
      folder = and_both (upd_other v.node id true d d-id ∙ node-d) (ap is_folder kind-d ∙ dir);
      links = λ z. lives (sym links-d ∙ z);
    };
    node = upd_same v.node id true;
    apart = id-d;
    id = refl;
    kind = sym kind-id;
    ended = N.ended;
    some = N.some;
    no-dot = N.no-dot;
    no-dots = N.no-dots;
    no_slash = N.no_slash;
    fresh = λ k x y q. N.fresh k x (omega (arith, blocks-d, ap (λ (z : DiskINode). z.blocks) rec-d)) (ap (λ (z : DiskEntry). name_of z.name) (sym (slots-d k)) ∙ q);
    loose = λ y. upd_same v.links id 0;
    under = λ y. ap (λ (z : DiskEntry). z.id) (w-slot 1 ∙ B.young.dots (w-kind y) r refl);
  }

  tidy : Tidy style (tree_of b u)
  tidy = names-tidy w (tree_of b u) d id e (born-tidy v w id A.tidy born) tree may

  -- ---- the other rules

  -- a node there is the new one, or an old one
  was : (P : ℕ → Type 0) → P id → ((k : ℕ) → is_node a k ≡ true → P k) → (k : ℕ) → is_node b k ≡ true → P k
  was P new earlier k n = ⊎_elim (λ (q : k ≡ id). subst P (sym q) new) (λ q. earlier k (sym (same-node k q) ∙ n)) (eq-cases k id)

  stays : (k : ℕ) → is_node a k ≡ true → is_node b k ≡ true
  stays k n = same-node k (other k n) ∙ n

  -- a node file that is there is the new one, or was there
  file-was : (f : List ℕ) → f ≢ r.file → there b (file 1 f) ≡ true → there a (file 1 f) ≡ true
  file-was f n y =
      ⊎_elim
      (λ (q : same f ri.file ≡ true). ap (λ (g : List ℕ). there a (file 1 g)) (same_true f ri.file q ∙ ap (λ (x : DiskINode). x.file) (sym rec-d)) ∙ A.rule5.own d node-d)
      (λ (q : same f ri.file ≡ false). sym (B.others f n (λ z. true-false (decided-yes (decides-same f ri.file) z) q)).exists ∙ y)
      (bool_cases (same f ri.file))

  own-file : (k : ℕ) → is_node a k ≡ true → there b (node_file (rec_of b u k)) ≡ true
  own-file k n =
      ⊎_elim
      (λ (z : k ≡ d). subst (λ (x : ℕ). there b (node_file (rec_of b u x)) ≡ true) (sym z) (ap (λ (f : List ℕ). there b (file 1 f)) file-d ∙ B.housed.exists))
      (λ z. ap (λ (f : List ℕ). there b (file 1 f)) (old-file k n) ∙ (kept k n z).exists ∙ A.rule5.own k n)
      (eq-cases k d)

  heads : (f : List ℕ) → there b (file 1 f) ≡ true → (k : ℕ) × (is_node b k ≡ true) × ((rec_of b u k).file ≡ f)
  heads f y =
      ⊎_elim
      (λ (q : same f r.file ≡ true). (id, new-node, new-rec.file ∙ sym (same_true f r.file q)))
      (λ (q : same f r.file ≡ false).
      let H = there-head a f (file-was f (λ z. true-false (decided-yes (decides-same f r.file) z) q) y) in
      let o = A.rule5.other H.at H.inside H.tag H.which in
      (o.0, stays o.0 o.1, old-file o.0 o.1 ∙ o.2 ∙ H.named))
      (bool_cases (same f r.file))

  -- the other rows' ids were nodes
  row-node : (j : ℕ) → j < 34 → j ≢ c → (row_at u j).id ≢ 0 → is_node a (row_at u j).id ≡ true
  row-node j l q z =
      let y : (row_at u j).id ≡ (row_at t j).id = ids-else a t M c i id free ui K.some r s u R j q in
      ap (is_node a) y ∙ A.rule4.node j l (λ x. z (y ∙ x))

  pub bred-fair : Fair style b u
  bred-fair = record {
    rule1 = B.fine;
    rule3 = record {
      magic = ap (λ (x : SuperBlock). x.magic) B.super ∙ K.sane.magic;
      some = omega (arith, groups, K.sane.some);
      few = omega (arith, groups, K.sane.few);
      length = B.long ∙ ap (λ (g : ℕ). 131072 * g) (sym groups);
      blocks = ap (λ (x : SuperBlock). x.blocks) B.super ∙ K.sane.blocks ∙ ap (λ (g : ℕ). 1024 * g) (sym groups);
      unused = ap (λ (x : SuperBlock). x.unused) B.super ∙ K.sane.unused ∙ λ x. set_bits (sym B.maps x) (1024 * sym groups x);
    };
    rule4 = record {
      zero = ap (λ (l : List ℕ). bit_at l 0) B.maps ∙ K.sane.none;
      two = ap (λ (l : List ℕ). bit_at l 2) B.maps ∙ K.others 2 (other 2 (root-node a t A)) (omega (arith, A.rule3.some)) ∙ A.rule4.two;
      maps = λ g l. ap (λ (x : List ℕ). bit_at x (1024 * g + 1)) B.maps ∙ K.sane.owns g (omega (arith, groups));
      node = λ j l z. ⊎_elim (λ (q : j ≡ c). ap (λ (k : ℕ). is_node b (row_at u k).id) q ∙ ap (is_node b) R.child ∙ new-node) (λ q. stays (row_at u j).id (row-node j l q z)) (eq-cases j c);
      clean = λ j l z y. ⊎_elim
          (λ (q : j ≡ c). absurd (true-false (ap (λ (k : ℕ). (row_at u k).dirty) q ∙ R.dirty) y))
          (λ q. R.clean j l z y ∙ sym (B.stored (row_at u j).id (row-node j l q z)))
          (eq-cases j c);
    };
    rule5 = record {
      least = was (λ k. 1 ≤ (rec_of b u k).kind) (omega (arith, new-rec.kind)) (λ k n. omega (arith, old-kind k n, A.rule5.least k n));
      most = was (λ k. (rec_of b u k).kind ≤ 4) (omega (arith, new-rec.kind)) (λ k n. omega (arith, old-kind k n, A.rule5.most k n));
      distinct = λ j k x y. was (λ j. (rec_of b u j).file ≡ (rec_of b u k).file → j ≡ k)
          (was (λ k. (rec_of b u id).file ≡ (rec_of b u k).file → id ≡ k) (λ q. refl) (λ k n q. absurd (file-new k n (sym (old-file k n) ∙ sym q ∙ new-rec.file))) k y)
          (λ j n. was (λ k. (rec_of b u j).file ≡ (rec_of b u k).file → j ≡ k)
          (λ q. absurd (file-new j n (sym (old-file j n) ∙ q ∙ new-rec.file)))
          (λ k o q. A.rule5.distinct j k n o (sym (old-file j n) ∙ q ∙ old-file k o)) k y)
          j x;
      own = was (λ k. there b (node_file (rec_of b u k)) ≡ true) (ap (λ (f : List ℕ). there b (file 1 f)) new-rec.file ∙ B.young.exists) own-file;
      other = λ k l g h. heads (block.name_of (blk b k)) (head-there b k l g h);
      root = old-kind 2 (root-node a t A) ∙ A.rule5.root;
    };
    tidy = tidy;
  }
