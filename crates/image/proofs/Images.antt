-- The rules in another image by the same ids: where superblock, maps and node files are as they were, each node's record keeps its type,
-- links, slots and file, and what was open is open, an image that is allowed stays so. (Ids that are no nodes may have any record: id 0 has
-- that of the lowest free row, or bytes of the superblock.)
use mathlib.Core.Path.{◌≡◌, refl, sym, ap, ◌∙◌}
use mathlib.Core.Bool.{Bool, true, false, not, ◌&&◌}
use mathlib.Core.List.{List}
use mathlib.Core.Logic.{◌≢◌}
use Prim.Native.Nat.{ℕ, ◌+◌, ◌*◌, ◌%◌, ◌<◌}
use native.Mathlib.Omega.{arith}
use lib.Dec.{eqb, ltb}
use borrow.Author.Tests.{lt-ltb, eq-eqb}
use Rattle.base.proofs.Bools.{and_both, true-false}
use Rattle.base.proofs.Finds.{test-yes, test_at}
use Rattle.base.proofs.Lists.{tab-cong}
use Rattle.base.specs.Search.{lowest}
use Rattle.structs.specs.Layout.{entry_of, record_bytes}
use Rattle.structs.specs.declared.DiskINode.{DiskINode}
use Rattle.structs.specs.declared.SuperBlock.{SuperBlock}
use Rattle.maps.specs.Maps.{bit_at, set_bits}
use Rattle.arena.specs.Blocks.{blk, blocks}
use Rattle.arena.specs.Fields.{File, file, tag_of, which_of, is_head}
use Rattle.arena.specs.Places.{head_of}
use Rattle.arena.proofs.Fields.{head-is, head-own}
use Rattle.files.specs.Read.{there, length_of, byte_at}
use Rattle.files_laws.specs.Laws.{Kept}
use Rattle.sefs.specs.Meta.{meta_file}
use Rattle.sefs.specs.Folders.{dots_entry}
use Rattle.table.specs.declared.Table.{Table}
use Rattle.table.specs.Table.{row_at}
use Rattle.table.specs.Formed.{well_formed}
use Rattle.rules.specs.Image.{run, stored_super, stored_maps, ids_in, is_node, stored_bytes, rec_of, is_open, slot_in}
use Rattle.rules.specs.Rules.{Rule1, Rule3, Rule4, Rule5, Allowed}
use Rattle.rules.proofs.Files.{node-below}
use Rattle.tree.specs.Tree.{Spelling, any, Tree}
use Rattle.tree.proofs.Trees.{folder-is}
use Rattle.tree.proofs.Stays.{Stays, stays-turned, stays-tidy}
use Rattle.image.specs.Midway.{tree_of, Spells, Look, plain, turning, look, Fairly, Fair}
use Rattle.image.proofs.TreeOf.{tidy_of, tidy-spells, tidy-six, tidy-seven, tidy-eight}
use Rattle.arena.specs.Fields as block

-- the fields that the rules speak of
pub record Like (r s : DiskINode) : Type 0 where
  pub kind : r.kind ≡ s.kind
  pub nlinks : r.nlinks ≡ s.nlinks
  pub blocks : r.blocks ≡ s.blocks
  pub size : r.size ≡ s.size
  pub file : r.file ≡ s.file

pub like-same : {r s : DiskINode} → r ≡ s → Like r s
like-same e = record { kind = ap (λ (x : DiskINode). x.kind) e; nlinks = ap (λ (x : DiskINode). x.nlinks) e; blocks = ap (λ (x : DiskINode). x.blocks) e; size = ap (λ (x : DiskINode). x.size) e; file = ap (λ (x : DiskINode). x.file) e }

-- arena b has the superblock, the maps and the node files of arena a
pub record Alike (a b : List ℕ) : Type 0 where
  pub super : stored_super b ≡ stored_super a
  pub maps : stored_maps b ≡ stored_maps a
  pub length : length_of b meta_file ≡ length_of a meta_file
  pub files : (f : List ℕ) → Kept a b (file 1 f)

pub alike_same : (a : List ℕ) → Alike a a
alike_same a = record { super = refl; maps = refl; length = refl; files = λ f. record { exists = refl; long = refl; block = λ q. refl; byte = λ p. refl } }

-- ---- heads: a node file is there where a block is its head

pub head-there : (a : List ℕ) (k : ℕ) → k < blocks a → tag_of (blk a k) ≡ 1 → which_of (blk a k) ≡ 1 → there a (file 1 (block.name_of (blk a k))) ≡ true
unfolding there head_of
head-there a k l e w =
    test-yes (λ j. is_head (file 1 (block.name_of (blk a k))) (blk a j)) (blocks a) k l
    (head-own (file 1 (block.name_of (blk a k))) (blk a k) (record { tag = e; of = ap (λ (n : ℕ). file n (block.name_of (blk a k))) w }))

pub record Head (a name : List ℕ) : Type 0 where
  pub at : ℕ
  pub inside : at < blocks a
  pub tag : tag_of (blk a at) ≡ 1
  pub which : which_of (blk a at) ≡ 1
  pub named : block.name_of (blk a at) ≡ name

pub there-head : (a name : List ℕ) → there a (file 1 name) ≡ true → Head a name
unfolding there head_of
there-head a name e =
    let o = test_at (λ j. is_head (file 1 name) (blk a j)) (blocks a) e in
    let k : ℕ = lowest (λ j. is_head (file 1 name) (blk a j)) (blocks a) in
    let H = head-is (file 1 name) (blk a k) o.1 in
    record { at = k; inside = o.0; tag = H.tag; which = ap (λ (f : File). f.which) H.of; named = ap (λ (f : File). f.name) H.of }

-- ---- two records alike have the same slots

slot-like : (a b : List ℕ) → Alike a b → (r s : DiskINode) → Like r s → (k : ℕ) → slot_in b r k ≡ slot_in a s k
unfolding slot_in
slot-like a b same r s l k =
    ap entry_of (tab-cong (byte_at b (file 1 r.file)) (byte_at a (file 1 r.file)) (264 * k) (264 * k) 264 (λ i m. (same.files r.file).byte (264 * k + i)))
    ∙ ap (λ (f : List ℕ). entry_of (run a (file 1 f) (264 * k) 264)) l.file

-- what stays of a tree stays of it as it is looked at
pub stays-look : (k : Look) {gone : ℕ → Bool} {v w : Tree} → Stays gone v w → Stays gone (look k v) (look k w)
stays-look (plain style) R = R
stays-look (turning style c f g) R = stays-turned c f g (dots_entry g) R

-- the parts of a tree that look the same
pub look-node : (k : Look) (v : Tree) (i : ℕ) → (look k v).node i ≡ v.node i
look-node (plain style) v i = refl
look-node (turning style c f g) v i = refl

pub look-opened : (k : Look) (v : Tree) (i : ℕ) → (look k v).opened i ≡ v.opened i
look-opened (plain style) v i = refl
look-opened (turning style c f g) v i = refl

-- a node's links look as they are
abbrev pub Off : Look → ℕ → Type 0
Off k x = (v : Tree) → (look k v).links x ≡ v.links x

-- ids are nodes by superblock and maps
pub nodes-by : (a b : List ℕ) → stored_super b ≡ stored_super a → stored_maps b ≡ stored_maps a → (id : ℕ) → is_node b id ≡ is_node a id
unfolding is_node
nodes-by a b super maps id = λ x. ltb id (1024 * (super x).groups) && (not (eqb id 0) && (not (eqb (id % 1024) 1) && not (bit_at (maps x) id)))

pub and-true : (b : Bool) → b ≡ (b && true)
and-true true = refl
and-true false = refl

module _ (a b : List ℕ) (t u : Table) (same : Alike a b) (like : (id : ℕ) → is_node a id ≡ true → Like (rec_of b u id) (rec_of a t id)) where
  nodes-like : (id : ℕ) → is_node b id ≡ is_node a id
  nodes-like = nodes-by a b same.super same.maps

  -- a node there is one here
  was : (id : ℕ) → is_node b id ≡ true → is_node a id ≡ true
  was id n = sym (nodes-like id) ∙ n

  three-like : Rule3 a → Rule3 b
  three-like R = record {
    magic = ap (λ (x : SuperBlock). x.magic) same.super ∙ R.magic;
    some = omega (arith, ap (λ (x : SuperBlock). x.groups) same.super, R.some);
    few = omega (arith, ap (λ (x : SuperBlock). x.groups) same.super, R.few);
    length = same.length ∙ R.length ∙ ap (λ (x : SuperBlock). 131072 * x.groups) (sym same.super);
    blocks = ap (λ (x : SuperBlock). x.blocks) same.super ∙ R.blocks ∙ ap (λ (x : SuperBlock). 1024 * x.groups) (sym same.super);
    unused = ap (λ (x : SuperBlock). x.unused) same.super ∙ R.unused ∙ λ x. set_bits (sym same.maps x) (1024 * (sym same.super x).groups);
  }

  five-like : is_node a 2 ≡ true → Rule5 a t → Rule5 b u
  five-like two R = record {
    least = λ id n. omega (arith, (like id (was id n)).kind, R.least id (was id n));
    most = λ id n. omega (arith, (like id (was id n)).kind, R.most id (was id n));
    distinct = λ i j m n e. R.distinct i j (was i m) (was j n) (sym (like i (was i m)).file ∙ e ∙ (like j (was j n)).file);
    own = λ id n. (same.files (rec_of b u id).file).exists ∙ ap (λ (f : List ℕ). there a (file 1 f)) (like id (was id n)).file ∙ R.own id (was id n);
    other = λ k l g h.
        let H = there-head a (block.name_of (blk b k)) (sym (same.files (block.name_of (blk b k))).exists ∙ head-there b k l g h) in
        let o = R.other H.at H.inside H.tag H.which in
        (o.0, nodes-like o.0 ∙ o.1, (like o.0 o.1).file ∙ o.2 ∙ H.named);
    root = (like 2 two).kind ∙ R.root;
  }

  tree-like : Stays (λ i. false) (tree_of a t) (tree_of b u)
  tree-like = record {
    ids = ap (λ (x : SuperBlock). 1024 * x.groups) same.super;
    node = λ i. nodes-like i ∙ and-true (is_node a i);
    kind = λ i n. (like i (was i n)).kind;
    links = λ i n. (like i (was i n)).nlinks;
    blocks = λ i n. (like i (was i n)).blocks;
    size = λ i n. (like i (was i n)).size;
    long = λ i n. (same.files (rec_of b u i).file).long ∙ ap (λ (f : List ℕ). length_of a (file 1 f)) (like i (was i n)).file;
    slot = λ i f k l. slot-like a b same (rec_of b u i) (rec_of a t i) (like i (was i (folder-is (tree_of b u) i f))) k;
  }

-- node 2 is one
root-two : (a : List ℕ) (t : Table) → Rule3 a → Rule4 a t → is_node a 2 ≡ true
unfolding is_node
root-two a t R S = and_both (lt-ltb 2 (ids_in a) (omega (arith, R.some))) (ap not S.two)

pub root-node : {k : Look} (a : List ℕ) (t : Table) → Fairly k a t → is_node a 2 ≡ true
root-node a t A = root-two a t A.rule3 A.rule4

pub fair-spelt : {style : Spelling} (a : List ℕ) (t : Table) → Allowed a t → Spells style a t → Fair style a t
fair-spelt a t A N = record {
  rule1 = A.rule1;
  rule3 = A.rule3;
  rule4 = A.rule4;
  rule5 = A.rule5;
  tidy = tidy_of a t (node-below a) (root-two a t A.rule3 A.rule4) (eq-eqb (rec_of a t 2).kind 2 A.rule5.root) A.rule6 A.rule7 A.rule8 N;
}

pub fair : (a : List ℕ) (t : Table) → Allowed a t → Fair any a t
fair a t A = fair-spelt a t A (λ i k f x y. tt)

pub fair-allowed : {style : Spelling} (a : List ℕ) (t : Table) → Fair style a t → well_formed t ≡ true → Allowed a t
fair-allowed a t A f = record {
  rule1 = A.rule1;
  rule2 = record { formed = f };
  rule3 = A.rule3;
  rule4 = A.rule4;
  rule5 = A.rule5;
  rule6 = tidy-six a t A.tidy;
  rule7 = tidy-seven a t A.tidy;
  rule8 = tidy-eight a t A.tidy;
}

-- another image
module _ {k : Look} (a b : List ℕ) (t u : Table) (A : Fairly k a t) (same : Alike a b)
    (fine : Rule1 b)
    (node : (i : ℕ) → i < 34 → (row_at u i).id ≢ 0 → is_node a (row_at u i).id ≡ true)
    (clean : (i : ℕ) → i < 34 → (row_at u i).id ≢ 0 → (row_at u i).dirty ≡ false → record_bytes (row_at u i).rec ≡ stored_bytes b (row_at u i).id)
    (like : (id : ℕ) → is_node a id ≡ true → Like (rec_of b u id) (rec_of a t id))
    (opens : (id : ℕ) → is_node a id ≡ true → (look k (tree_of a t)).links id ≡ 0 → is_open t id ≡ true → is_open u id ≡ true) where
  pub image-fair : Fairly k b u
  image-fair = record {
    rule1 = fine;
    rule3 = three-like a b t u same like A.rule3;
    rule4 = record {
      zero = bit 0 ∙ A.rule4.zero;
      two = bit 2 ∙ A.rule4.two;
      maps = λ g l. bit (1024 * g + 1) ∙ A.rule4.maps g (omega (arith, ap (λ (x : SuperBlock). x.groups) same.super));
      node = λ i l n. nodes-like a b t u same like (row_at u i).id ∙ node i l n;
      clean = clean;
    };
    rule5 = five-like a b t u same like (root-node a t A) A.rule5;
    tidy = stays-tidy (λ i. false) (look k (tree_of a t)) (look k (tree_of b u)) A.tidy (λ i e. absurd (true-false e refl)) (stays-look k (tree-like a b t u same like))
        (λ i n z o. look-opened k (tree_of b u) i ∙ opens i (was a b t u same like i (sym (look-node k (tree_of b u) i) ∙ n)) z (sym (look-opened k (tree_of a t) i) ∙ o));
  }
    where
      bit : (i : ℕ) → bit_at (stored_maps b) i ≡ bit_at (stored_maps a) i
      bit i = ap (λ (m : List ℕ). bit_at m i) same.maps

-- another table
module _ (a : List ℕ) (t u : Table) (A : Allowed a t)
    (formed : well_formed u ≡ true)
    (node : (i : ℕ) → i < 34 → (row_at u i).id ≢ 0 → is_node a (row_at u i).id ≡ true)
    (clean : (i : ℕ) → i < 34 → (row_at u i).id ≢ 0 → (row_at u i).dirty ≡ false → record_bytes (row_at u i).rec ≡ stored_bytes a (row_at u i).id)
    (like : (id : ℕ) → is_node a id ≡ true → Like (rec_of a u id) (rec_of a t id))
    (opens : (id : ℕ) → is_node a id ≡ true → (rec_of a t id).nlinks ≡ 0 → is_open t id ≡ true → is_open u id ≡ true) where
  pub table-allowed : (style : Spelling) → Spells style a t → Allowed a u × Spells style a u
  table-allowed style N = let F : Fair style a u = image-fair a a t u (fair-spelt {style = style} a t A N) (alike_same a) A.rule1 node clean like opens in (fair-allowed a u F formed, tidy-spells a u F.tidy)
