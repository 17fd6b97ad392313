-- A node at links 0 goes: its bit is set, unused is one more, its file is gone and it has no row. Every other node is as it was. Nobody names
-- it and it names nobody (rule 7), so an image that was allowed stays so.
use mathlib.Core.Path.{refl, ◌≡◌, sym, ap, ◌∙◌, subst}
use mathlib.Core.Bool.{Bool, true, false, not, ◌&&◌}
use mathlib.Core.List.{List}
use mathlib.Core.Logic.{◌≢◌, ⊎_elim}
use Prim.Native.Nat.{ℕ, ◌+◌, ◌*◌, ◌-◌, ◌/◌, ◌%◌, ◌≤◌, ◌<◌}
use native.Mathlib.Omega.{arith}
use lib.Dec.{eqb, ltb}
use lib.ListN.{length}
use borrow.Author.Tests.{eq-eqb, ne_eqb, eqb-true, not-true}
use Rattle.base.proofs.Bools.{and_parts, and-false, true-false}
use Rattle.base.proofs.Counts.{sum_to-part}
use Rattle.base.proofs.Finds.{eq-cases, count_to-some}
use Rattle.base.proofs.Lists.{tab-cong}
use Rattle.base.specs.Count.{bit, count_to}
use Rattle.base.specs.Search.{pick}
use Rattle.structs.specs.Layout.{entry_of, record_bytes}
use Rattle.structs.specs.declared.DiskINode.{DiskINode}
use Rattle.structs.specs.declared.SuperBlock.{SuperBlock}
use Rattle.maps.specs.Maps.{bit_at, with_bit, set_bits}
use Rattle.maps.proofs.Bits.{bit_at-with_bit-same, bit_at-with_bit-other, set_bits-with_bit}
use Rattle.arena.specs.Blocks.{blk}
use Rattle.arena.specs.Fields.{file}
use Rattle.files.specs.Read.{there, length_of, byte_at}
use Rattle.files_laws.specs.Laws.{Kept}
use Rattle.sefs.specs.Meta.{meta_file, super_with}
use Rattle.sefs.specs.Nodes.{node_file}
use Rattle.table.specs.declared.Table.{Table}
use Rattle.table.specs.Table.{row_at}
use Rattle.rules.specs.Image.{stored_super, stored_maps, ids_in, is_node, stored_bytes, rec_of, is_open, is_folder_at, slot_in, later_slot, later_slots, names_in, named}
use Rattle.rules.specs.Rules.{Rule1, Rule3, Rule5}
use Rattle.rules.proofs.Files.{node-below}
use Rattle.rules.proofs.Folders.{folder-below}
use Rattle.tree.proofs.Trees.{folder-is}
use Rattle.tree.proofs.Stays.{Stays, stays-tidy}
use Rattle.image.specs.Midway.{tree_of, Look, look, Fairly}
use Rattle.image.proofs.Images.{and-true, stays-look, look-node, look-opened, root-node, head-there, there-head}
use Rattle.image.proofs.Nodes.{node-some}
use Rattle.image.proofs.Metas.{length-maps_to}
use Rattle.arena.specs.Fields as block

-- the superblock with one more unused
abbrev pub one_more : SuperBlock → SuperBlock
one_more b = super_with b b.blocks (b.unused + 1) b.groups

-- a node's bit is clear
pub node-clear : (a : List ℕ) (id : ℕ) → is_node a id ≡ true → bit_at (stored_maps a) id ≡ false
unfolding is_node
node-clear a id n =
    let x = and_parts (ltb id (ids_in a)) (not (eqb id 0) && (not (eqb (id % 1024) 1) && not (bit_at (stored_maps a) id))) n in
    let y = and_parts (not (eqb id 0)) (not (eqb (id % 1024) 1) && not (bit_at (stored_maps a) id)) x.1 in
    let z = and_parts (not (eqb (id % 1024) 1)) (not (bit_at (stored_maps a) id)) y.1 in
    not-true (bit_at (stored_maps a) id) z.1

-- a map's own id is no node
pub map-no-node : (a : List ℕ) (g : ℕ) → is_node a (1024 * g + 1) ≡ false
unfolding is_node
map-no-node a g =
    let e : (1024 * g + 1) % 1024 ≡ 1 = omega arith in
    ap (λ (c : Bool). ltb (1024 * g + 1) (ids_in a) && (not (eqb (1024 * g + 1) 0) && (not c && not (bit_at (stored_maps a) (1024 * g + 1))))) (eq-eqb ((1024 * g + 1) % 1024) 1 e)
    ∙ ap (λ (c : Bool). ltb (1024 * g + 1) (ids_in a) && c) (and-false (not (eqb (1024 * g + 1) 0)))
    ∙ and-false (ltb (1024 * g + 1) (ids_in a))

-- a folder's slot names a node that is named
pub slot_counts : (a : List ℕ) (t : Table) (d k id : ℕ) → is_folder_at a t d ≡ true → 2 ≤ k → k < (rec_of a t d).blocks → (slot_in a (rec_of a t d) k).id ≡ id → 1 ≤ named a t id
unfolding named names_in
slot_counts a t d k id f l m e =
    let p : ℕ → Bool = λ j. eqb (later_slot a (rec_of a t d) j).id id in
    let s : 2 + (k - 2) ≡ k = omega arith in
    let q : eqb (later_slot a (rec_of a t d) (k - 2)).id id ≡ true = eq-eqb (later_slot a (rec_of a t d) (k - 2)).id id (ap (λ (j : ℕ). (slot_in a (rec_of a t d) j).id) s ∙ e) in
    let c : 0 < count_to (λ j. eqb (later_slot a (rec_of a t d) j).id id) (later_slots (rec_of a t d)) = count_to-some (λ j. eqb (later_slot a (rec_of a t d) j).id id) (later_slots (rec_of a t d)) (k - 2) (omega arith) q in
    let g : pick (is_folder_at a t d) (names_in a (rec_of a t d) id) 0 ≡ names_in a (rec_of a t d) id = ap (λ (b : Bool). pick b (names_in a (rec_of a t d) id) 0) f in
    let r = sum_to-part (λ x. pick (is_folder_at a t x) (names_in a (rec_of a t x) id) 0) (ids_in a) d (folder-below a t d f) in
    omega (arith, r, g, c)

-- the id is free, and no other changes
module _ (a b : List ℕ) (id : ℕ) (n : is_node a id ≡ true) (super : stored_super b ≡ one_more (stored_super a)) (maps : stored_maps b ≡ with_bit (stored_maps a) id true) where
  inside : id / 8 < length (stored_maps a)
  unfolding stored_maps
  inside = omega (arith, length-maps_to a (stored_super a).groups, node-below a id n)

  bit-other : (k : ℕ) → k ≢ id → bit_at (stored_maps b) k ≡ bit_at (stored_maps a) k
  bit-other k d = ap (λ (m : List ℕ). bit_at m k) maps ∙ bit_at-with_bit-other (stored_maps a) id true inside k d

  pub freed-node : (k : ℕ) → k ≢ id → is_node b k ≡ is_node a k
  unfolding is_node
  freed-node k d = λ x. ltb k (1024 * (super x).groups) && (not (eqb k 0) && (not (eqb (k % 1024) 1) && not (bit-other k d x)))

module _ {k : Look} (a b : List ℕ) (t w : Table) (A : Fairly k a t) (id : ℕ) (n : is_node a id ≡ true) (none : (look k (tree_of a t)).links id ≡ 0)
    (super : stored_super b ≡ one_more (stored_super a))
    (maps : stored_maps b ≡ with_bit (stored_maps a) id true)
    (end : length_of b meta_file ≡ length_of a meta_file)
    (gone : there b (node_file (rec_of a t id)) ≡ false)
    (files : (f : List ℕ) → f ≢ (rec_of a t id).file → Kept a b (file 1 f))
    (recs : (k : ℕ) → is_node a k ≡ true → k ≢ id → rec_of b w k ≡ rec_of a t k) where
  groups : (stored_super b).groups ≡ (stored_super a).groups
  groups = ap (λ (x : SuperBlock). x.groups) super

  bit-own : bit_at (stored_maps b) id ≡ true
  bit-own = ap (λ (m : List ℕ). bit_at m id) maps ∙ bit_at-with_bit-same (stored_maps a) id true (inside a b id n super maps)

  node-same : (k : ℕ) → k ≢ id → is_node b k ≡ is_node a k
  node-same = freed-node a b id n super maps

  node-own : is_node b id ≡ false
  unfolding is_node
  node-own =
      ap (λ (c : Bool). ltb id (ids_in b) && (not (eqb id 0) && (not (eqb (id % 1024) 1) && not c))) bit-own
      ∙ ap (λ (c : Bool). ltb id (ids_in b) && (not (eqb id 0) && c)) (and-false (not (eqb (id % 1024) 1)))
      ∙ ap (λ (c : Bool). ltb id (ids_in b) && c) (and-false (not (eqb id 0)))
      ∙ and-false (ltb id (ids_in b))

  -- a node there is another than id
  not-id : (k : ℕ) → is_node b k ≡ true → k ≢ id
  not-id k m e = true-false (ap (is_node b) (sym e) ∙ m) node-own

  was : (k : ℕ) → is_node b k ≡ true → is_node a k ≡ true
  was k m = sym (node-same k (not-id k m)) ∙ m

  stays : (k : ℕ) → is_node a k ≡ true → k ≢ id → is_node b k ≡ true
  stays k m d = node-same k d ∙ m

  rec : (k : ℕ) → is_node b k ≡ true → rec_of b w k ≡ rec_of a t k
  rec k m = recs k (was k m) (not-id k m)

  -- ---- files and slots of the others

  file-other : (k : ℕ) → is_node a k ≡ true → k ≢ id → (rec_of a t k).file ≢ (rec_of a t id).file
  file-other k m d e = d (A.rule5.distinct k id m n e)

  kept : (k : ℕ) → is_node a k ≡ true → k ≢ id → Kept a b (node_file (rec_of a t k))
  kept k m d = files (rec_of a t k).file (file-other k m d)

  slots : (k : ℕ) → is_node a k ≡ true → k ≢ id → (j : ℕ) → slot_in b (rec_of b w k) j ≡ slot_in a (rec_of a t k) j
  unfolding slot_in
  slots k m d j =
      ap (λ (r : DiskINode). slot_in b r j) (recs k m d)
      ∙ ap entry_of (tab-cong (byte_at b (node_file (rec_of a t k))) (byte_at a (node_file (rec_of a t k))) (264 * j) (264 * j) 264 (λ i l. (kept k m d).byte (264 * j + i)))

  -- ---- the rules

  three : Rule3 b
  three = record {
    magic = ap (λ (x : SuperBlock). x.magic) super ∙ A.rule3.magic;
    some = omega (arith, groups, A.rule3.some);
    few = omega (arith, groups, A.rule3.few);
    length = end ∙ A.rule3.length ∙ ap (λ (g : ℕ). 131072 * g) (sym groups);
    blocks = ap (λ (x : SuperBlock). x.blocks) super ∙ A.rule3.blocks ∙ ap (λ (g : ℕ). 1024 * g) (sym groups);
    unused = ap (λ (x : SuperBlock). x.unused) super ∙ more ∙ λ i. set_bits (sym maps i) (1024 * sym groups i);
  }
    where
      more : (stored_super a).unused + 1 ≡ set_bits (with_bit (stored_maps a) id true) (ids_in a)
      more = omega (arith, A.rule3.unused, set_bits-with_bit (stored_maps a) id true (inside a b id n super maps) (ids_in a) (node-below a id n), ap bit (node-clear a id n))

  -- node 2 is another: it has links
  two-other : 2 ≢ id
  two-other q = A.tidy.two.links (ap (look k (tree_of a t)).links q ∙ none)

  five : Rule5 b w
  five = record {
    least = λ k m. subst (λ (r : DiskINode). 1 ≤ r.kind) (sym (rec k m)) (A.rule5.least k (was k m));
    most = λ k m. subst (λ (r : DiskINode). r.kind ≤ 4) (sym (rec k m)) (A.rule5.most k (was k m));
    distinct = λ i j x y e. A.rule5.distinct i j (was i x) (was j y) (ap (λ (r : DiskINode). r.file) (sym (rec i x)) ∙ e ∙ ap (λ (r : DiskINode). r.file) (rec j y));
    own = λ k m. ap (λ (r : DiskINode). there b (node_file r)) (rec k m) ∙ (kept k (was k m) (not-id k m)).exists ∙ A.rule5.own k (was k m);
    other = λ k l g h.
        let nm : List ℕ = block.name_of (blk b k) in
        let y : there b (file 1 (block.name_of (blk b k))) ≡ true = head-there b k l g h in
        let ne : block.name_of (blk b k) ≢ (rec_of a t id).file = λ e. true-false (ap (λ (f : List ℕ). there b (file 1 f)) (sym e) ∙ y) gone in
        let H = there-head a (block.name_of (blk b k)) (sym (files (block.name_of (blk b k)) ne).exists ∙ y) in
        let o = A.rule5.other H.at H.inside H.tag H.which in
        let q : (rec_of a t o.0).file ≡ block.name_of (blk b k) = o.2 ∙ H.named in
        let d : o.0 ≢ id = λ e. ne (sym q ∙ ap (λ (x : ℕ). (rec_of a t x).file) e) in
        (o.0, stays o.0 o.1 d, ap (λ (r : DiskINode). r.file) (recs o.0 o.1 d) ∙ q);
    root = ap (λ (r : DiskINode). r.kind) (recs 2 (root-node a t A) two-other) ∙ A.rule5.root;
  }

  tree-left : Stays (λ i. eqb i id) (tree_of a t) (tree_of b w)
  tree-left = record {
    ids = ap (λ (g : ℕ). 1024 * g) groups;
    node = λ i. ⊎_elim
        (λ (e : i ≡ id). subst (λ (x : ℕ). is_node b x ≡ (is_node a x && not (eqb x id))) (sym e)
        (node-own ∙ sym (ap (λ (c : Bool). is_node a id && not c) (eq-eqb id id refl) ∙ and-false (is_node a id))))
        (λ d. node-same i d ∙ and-true (is_node a i) ∙ ap (λ (c : Bool). is_node a i && not c) (sym (ne_eqb i id d)))
        (eq-cases i id);
    kind = λ i m. ap (λ (r : DiskINode). r.kind) (rec i m);
    links = λ i m. ap (λ (r : DiskINode). r.nlinks) (rec i m);
    blocks = λ i m. ap (λ (r : DiskINode). r.blocks) (rec i m);
    size = λ i m. ap (λ (r : DiskINode). r.size) (rec i m);
    long = λ i m. ap (λ (r : DiskINode). length_of b (node_file r)) (rec i m) ∙ (kept i (was i m) (not-id i m)).long;
    slot = λ i f j l. let m = folder-is (tree_of b w) i f in slots i (was i m) (not-id i m) j;
  }

  module _ (opens : (k : ℕ) → is_node a k ≡ true → k ≢ id → is_open t k ≡ true → is_open w k ≡ true) (fine : Rule1 b)
      (node : (i : ℕ) → i < 34 → (row_at w i).id ≢ 0 → (is_node a (row_at w i).id ≡ true) × ((row_at w i).id ≢ id))
      (clean : (i : ℕ) → i < 34 → (row_at w i).id ≢ 0 → (row_at w i).dirty ≡ false → record_bytes (row_at w i).rec ≡ stored_bytes b (row_at w i).id) where
    pub freed-fair : Fairly k b w
    freed-fair = record {
      rule1 = fine;
      rule3 = three;
      rule4 = record {
        zero = bit-other a b id n super maps 0 (λ e. node-some a t A id n (sym e)) ∙ A.rule4.zero;
        two = bit-other a b id n super maps 2 two-other ∙ A.rule4.two;
        maps = λ g l. bit-other a b id n super maps (1024 * g + 1) (λ e. true-false (ap (is_node a) e ∙ n) (map-no-node a g)) ∙ A.rule4.maps g (omega (arith, groups));
        node = λ i l z. stays (row_at w i).id (node i l z).0 (node i l z).1;
        clean = clean;
      };
      rule5 = five;
      tidy = stays-tidy (λ i. eqb i id) (look k (tree_of a t)) (look k (tree_of b w)) A.tidy
          (λ i e m. ap (look k (tree_of a t)).links (eqb-true i id e) ∙ none)
          (stays-look k tree-left)
          (λ i m z o.
          let y : is_node b i ≡ true = sym (look-node k (tree_of b w) i) ∙ m in
          look-opened k (tree_of b w) i ∙ opens i (was i y) (not-id i y) (sym (look-opened k (tree_of a t) i) ∙ o));
    }
