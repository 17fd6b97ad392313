-- What the mender leaves: each node that stays has the record that the mender sets, and its file as it was; the others are gone, with their files.
-- So all eight rules hold.
use mathlib.Core.Path.{◌≡◌, refl, sym, ap, ◌∙◌, subst}
use mathlib.Core.Bool.{Bool, true, false, not, ◌&&◌}
use mathlib.Core.List.{List}
use mathlib.Core.Logic.{⊎_elim}
use Prim.Native.Nat.{ℕ, ◌+◌, ◌*◌, ◌%◌}
use native.Mathlib.Omega.{arith}
use lib.Dec.{eqb, ltb}
use Rattle.base.specs.Count.{count_to}
use Rattle.base.specs.Out.{Ok}
use Rattle.base.proofs.Outs.{ok-done}
use Rattle.base.proofs.Bools.{bool_cases, true-false, and_both, and-false}
use Rattle.base.proofs.Counts.{count_to-le}
use Rattle.base.proofs.Lists.{length-tab, tab-cong}
use Rattle.base.proofs.Sames.{and-true, test-fails}
use Rattle.le.specs.Le.{Bytes}
use Rattle.structs.specs.Fits.{RecordFits, SuperFits}
use Rattle.structs.specs.Layout.{entry_of, record_of}
use Rattle.structs.specs.Types.{is_folder}
use Rattle.structs.specs.declared.DiskINode.{DiskINode}
use Rattle.structs.specs.declared.SuperBlock.{SuperBlock}
use Rattle.structs.proofs.Layouts.{super_of-fits, record_of-fits, record_of-record_bytes}
use Rattle.maps.specs.Maps.{bit_at, set_bits}
use Rattle.maps.proofs.Bits.{set_bits-le}
use Rattle.arena.specs.Blocks.{blk}
use Rattle.arena.specs.Fields.{File, file}
use Rattle.arena.specs.Fields as block
use Rattle.files.specs.Read.{there, length_of, byte_at}
use Rattle.files_laws.specs.Laws.{Kept}
use Rattle.files_laws.proofs.Bounds.{length-fits, legal-same}
use Rattle.sefs.specs.State.{Fs}
use Rattle.sefs.specs.Meta.{meta_file}
use Rattle.sefs.specs.Nodes.{node_file}
use Rattle.sefs.specs.Records.{with_links}
use Rattle.table.specs.Table.{empty_table}
use Rattle.table_laws.proofs.Keeps.{empty-formed}
use Rattle.rules.specs.Image.{run, stored_super, stored_maps, ids_in, is_node, stored_bytes, is_folder_at, slot_in, subfolders}
use Rattle.rules.specs.Rules.{Rule1, Rule3, Rule4, Rule5, Allowed}
use Rattle.rules.proofs.Files.{node-below}
use Rattle.rules.proofs.Few.{names-few, subs-few}
use Rattle.tree.specs.Tree.{any, Tidy}
use Rattle.tree.proofs.Stays.{Stays, stays-tidy}
use Rattle.tree.proofs.Trees.{folder-is}
use Rattle.image.specs.Midway.{tree_of}
use Rattle.image.proofs.TreeOf.{tidy-six, tidy-seven, tidy-eight}
use Rattle.image.proofs.Images.{head-there, there-head}
use Rattle.image.proofs.Metas.{MetaPut, kept_same, kept_then, sync-meta-law}
use Rattle.image.proofs.Records.{links-fit}
use Rattle.image.proofs.Slots.{run-bytes}
use Rattle.image.proofs.Stores.{node-apart}
use Rattle.image.proofs.Contents.{size_fits}
use Rattle.image.proofs.Freed.{map-no-node}
use Rattle.mending.specs.Mendable.{rec_in, times_named, Mendable}
use Rattle.mending.specs.Mend.{lost, stays, mended}
use Rattle.mending.specs.Promises.{Spared, Gone}
use Rattle.mending.proofs.Tables.{empty-id, rec-stored}
use Rattle.mending.proofs.Fates.{node-zero, lost-says, no-lost, stays-is, stays-node, not-lost, mended-folder, mended-other, mended-kind, mended-blocks, mended-file, two-stays}
use Rattle.mending.proofs.Frees.{more, Freed}
use Rattle.mending.proofs.Stores.{Stored}
use Rattle.mending.proofs.Steps.{Done}
use Rattle.mending.proofs.Wished.{wished, links-spared, links-gone, wished-tidy}

-- ---- the record that is set fits

module _ (a : List ℕ) (B : Bytes a) (M : Mendable a) (id : ℕ) (n : is_node a id ≡ true) where
  rec-fits : RecordFits (rec_in a id)
  unfolding stored_bytes
  rec-fits =
      subst RecordFits (sym (rec-stored a id (node-zero a id n)))
      (record_of-fits (run a meta_file (128 * id) 112) (run-bytes a meta_file (128 * id) 112 B) (length-tab (byte_at a meta_file) (128 * id) 112))

  mended-fits : RecordFits (mended a id)
  unfolding is_folder_at
  mended-fits =
      ⊎_elim
      (λ (f : is_folder (rec_in a id).kind ≡ true).
      subst RecordFits (sym (mended-folder a id f))
      (links-fit (rec_in a id) (2 + subfolders a (rec_in a id)) rec-fits (omega (arith, subs-few a empty_table M.rule1 M.rule5 M.folder id (and_both n f)))))
      (λ (f : is_folder (rec_in a id).kind ≡ false).
      subst RecordFits (sym (mended-other a id f))
      (size_fits (with_links (rec_in a id) (times_named a id)) (length_of a (node_file (rec_in a id)))
      (links-fit (rec_in a id) (times_named a id) rec-fits (omega (arith, names-few a empty_table M.rule1 M.rule5 M.folder id)))
      (omega (arith, length-fits a (node_file (rec_in a id)) B))))
      (bool_cases (is_folder (rec_in a id).kind))

-- ---- after all steps

module _ (a : List ℕ) (B : Bytes a) (M : Mendable a) (d : Fs) (D : Done a d) where
  abbrev b : List ℕ
  b = d.arena

  F : Freed a (ids_in a) D.s
  F = D.freed

  S : Stored a D.s.arena D.s.meta (ids_in a) D.u
  S = D.stored

  super-fits : SuperFits F.m.super
  unfolding stored_super
  super-fits =
      let Z = super_of-fits (run a meta_file 0 16) (run-bytes a meta_file 0 16 B) in
      subst SuperFits (sym F.super) (record {
        magic = Z.magic;
        blocks = Z.blocks;
        unused = omega (arith, M.rule3.unused, set_bits-le (stored_maps a) (ids_in a), M.rule3.few, count_to-le (lost a) (ids_in a));
        groups = Z.groups;
      })

  groups-m : F.m.super.groups ≡ (stored_super a).groups
  groups-m = ap (λ (x : SuperBlock). x.groups) F.super

  P : MetaPut D.u.arena F.m d.arena
  P =
      (ok-done (subst (Ok (λ (x : Fs). (x.table ≡ D.u.table) × (x.meta ≡ D.u.meta) × MetaPut D.u.arena F.m x.arena) (λ r. r ≡ 17)) D.synced
      (sync-meta-law D.u.arena F.m
      (record { size = refl; bytes = S.bytes B; sound = S.keeps B; there = S.there; long = refl; files = λ f. kept_same D.u.arena (file 1 f) })
      (record {
        fits = super-fits;
        some = omega (arith, groups-m, M.rule3.some);
        bytes = F.maps-bytes B;
        long = F.long ∙ ap (λ (n : ℕ). 128 * n) (sym groups-m);
        end = S.long ∙ M.rule3.length ∙ ap (λ (n : ℕ). 131072 * n) (sym groups-m);
      })
      D.u refl (S.meta ∙ F.meta)))).2

  pub super-left : stored_super d.arena ≡ more (stored_super a) (count_to (lost a) (ids_in a))
  super-left = P.super ∙ F.super

  groups-left : (stored_super d.arena).groups ≡ (stored_super a).groups
  groups-left = ap (λ (x : SuperBlock). x.groups) super-left

  ids-left : ids_in d.arena ≡ ids_in a
  ids-left = ap (λ (n : ℕ). 1024 * n) groups-left

  pub bytes_left : Bytes d.arena
  bytes_left = P.within.bytes

  -- ---- nodes

  bit-left : (i : ℕ) → lost a i ≡ false → bit_at (stored_maps d.arena) i ≡ bit_at (stored_maps a) i
  bit-left i e = ap (λ (m : List ℕ). bit_at m i) P.maps ∙ F.clear i (λ l. e)

  bit-gone : (i : ℕ) → lost a i ≡ true → bit_at (stored_maps d.arena) i ≡ true
  bit-gone i e = ap (λ (m : List ℕ). bit_at m i) P.maps ∙ F.set i (node-below a i (lost-says a i e).0) e

  pub node-left : (i : ℕ) → is_node d.arena i ≡ (is_node a i && not (lost a i))
  unfolding is_node
  node-left i =
      ⊎_elim
      (λ (e : lost a i ≡ true).
      ap (λ (c : Bool). ltb i (ids_in b) && (not (eqb i 0) && (not (eqb (i % 1024) 1) && not c))) (bit-gone i e)
      ∙ ap (λ (c : Bool). ltb i (ids_in b) && (not (eqb i 0) && c)) (and-false (not (eqb (i % 1024) 1)))
      ∙ ap (λ (c : Bool). ltb i (ids_in b) && c) (and-false (not (eqb i 0)))
      ∙ and-false (ltb i (ids_in b))
      ∙ sym (ap (λ (c : Bool). is_node a i && not c) e ∙ and-false (is_node a i)))
      (λ (e : lost a i ≡ false).
      (λ z. ltb i (ids-left z) && (not (eqb i 0) && (not (eqb (i % 1024) 1) && not (bit-left i e z))))
      ∙ sym (and-true (is_node a i)) ∙ ap (λ (c : Bool). is_node a i && not c) (sym e))
      (bool_cases (lost a i))

  pub no_more : (i : ℕ) → is_node d.arena i ≡ true → stays a i ≡ true
  unfolding stays
  no_more i n = sym (node-left i) ∙ n

  rec-left : (i : ℕ) → stays a i ≡ true → rec_in d.arena i ≡ mended a i
  rec-left i e =
      let n = stays-node a i e in
      rec-stored b i (node-zero a i n)
      ∙ ap record_of (P.stored i (node-zero a i n) (node-apart a i n) ∙ S.new i (node-below a i n) e)
      ∙ record_of-record_bytes (mended a i) (mended-fits a B M i n)

  pub kind-left : (i : ℕ) → stays a i ≡ true → (rec_in d.arena i).kind ≡ (rec_in a i).kind
  kind-left i e = ap (λ (r : DiskINode). r.kind) (rec-left i e) ∙ mended-kind a i

  pub blocks-left : (i : ℕ) → stays a i ≡ true → (rec_in d.arena i).blocks ≡ (rec_in a i).blocks
  blocks-left i e = ap (λ (r : DiskINode). r.blocks) (rec-left i e) ∙ mended-blocks a i

  name-left : (i : ℕ) → stays a i ≡ true → (rec_in d.arena i).file ≡ (rec_in a i).file
  name-left i e = ap (λ (r : DiskINode). r.file) (rec-left i e) ∙ mended-file a i

  pub file-left : (i : ℕ) → stays a i ≡ true → node_file (rec_in d.arena i) ≡ node_file (rec_in a i)
  file-left i e = ap (λ (f : List ℕ). file 1 f) (name-left i e)

  kept-left : (i : ℕ) → stays a i ≡ true → Kept a d.arena (node_file (rec_in a i))
  kept-left i e =
      kept_then a D.u.arena b (node_file (rec_in a i))
      (kept_then a D.s.arena D.u.arena (node_file (rec_in a i)) (F.kept i (stays-node a i e) (λ x. absurd (true-false x (not-lost a i e)))) (S.files (rec_in a i).file))
      (P.within.files (rec_in a i).file)

  slot-left : (i : ℕ) → stays a i ≡ true → (k : ℕ) → slot_in d.arena (rec_in d.arena i) k ≡ slot_in a (rec_in a i) k
  unfolding slot_in
  slot-left i e k =
      ap (λ (f : File). entry_of (run b f (264 * k) 264)) (file-left i e)
      ∙ ap entry_of (tab-cong (byte_at b (node_file (rec_in a i))) (byte_at a (node_file (rec_in a i))) (264 * k) (264 * k) 264 (λ j l. (kept-left i e).byte (264 * k + j)))

  pub is-spared : (i : ℕ) → stays a i ≡ true → Spared a d.arena i
  unfolding stays
  is-spared i e = record { node = node-left i ∙ e; rec = rec-left i e; slots = slot-left i e; file = kept-left i e }

  pub is-gone : (i : ℕ) → lost a i ≡ true → Gone a d.arena i
  is-gone i e = record {
    node = node-left i ∙ ap (λ (c : Bool). is_node a i && not c) e ∙ and-false (is_node a i);
    file = (P.within.files (rec_in a i).file).exists ∙ (S.files (rec_in a i).file).exists ∙ F.gone i (node-below a i (lost-says a i e).0) e;
  }

  -- ---- the rules

  rule-one : Rule1 d.arena
  rule-one = record { length = legal-same a b (P.within.size ∙ S.size) ∙ M.rule1.length; sound = P.within.sound }

  rule-three : Rule3 d.arena
  rule-three = record {
    magic = ap (λ (x : SuperBlock). x.magic) super-left ∙ M.rule3.magic;
    some = omega (arith, groups-left, M.rule3.some);
    few = omega (arith, groups-left, M.rule3.few);
    length = P.within.long ∙ S.long ∙ M.rule3.length ∙ ap (λ (n : ℕ). 131072 * n) (sym groups-left);
    blocks = ap (λ (x : SuperBlock). x.blocks) super-left ∙ M.rule3.blocks ∙ ap (λ (n : ℕ). 1024 * n) (sym groups-left);
    unused =
        ap (λ (x : SuperBlock). x.unused) super-left ∙ ap (λ (n : ℕ). n + count_to (lost a) (ids_in a)) M.rule3.unused ∙ sym F.count
        ∙ (λ z. set_bits (sym P.maps z) (sym ids-left z));
  }

  rule-four : Rule4 d.arena empty_table
  rule-four = record {
    zero = bit-left 0 (no-lost a 0 (test-fails (is_node a 0) (λ n. node-zero a 0 n refl))) ∙ M.rule4.zero;
    two = bit-left 2 (two-stays a) ∙ M.rule4.two;
    maps = λ g l. bit-left (1024 * g + 1) (no-lost a (1024 * g + 1) (map-no-node a g)) ∙ M.rule4.maps g (omega (arith, groups-left));
    node = λ i l z. absurd (z (empty-id i l));
    clean = λ i l z. absurd (z (empty-id i l));
  }

  two-left : stays a 2 ≡ true
  two-left = stays-is a 2 (folder-is (wished a) 2 (wished-tidy a M).two.folder) (two-stays a)

  rule-five : Rule5 d.arena empty_table
  rule-five = record {
    least = λ i n. let e = no_more i n in omega (arith, kind-left i e, M.rule5.least i (stays-node a i e));
    most = λ i n. let e = no_more i n in omega (arith, kind-left i e, M.rule5.most i (stays-node a i e));
    distinct = λ i j n m q.
        let e = no_more i n in
        let f = no_more j m in
        M.rule5.distinct i j (stays-node a i e) (stays-node a j f) (sym (name-left i e) ∙ q ∙ name-left j f);
    own = λ i n. let e = no_more i n in ap (there b) (file-left i e) ∙ (kept-left i e).exists ∙ M.rule5.own i (stays-node a i e);
    other = λ k l x y.
        let here : there b (file 1 (block.name_of (blk b k))) ≡ true = head-there b k l x y in
        let was : there a (file 1 (block.name_of (blk b k))) ≡ true =
        F.others (block.name_of (blk b k)) (sym (S.files (block.name_of (blk b k))).exists ∙ sym (P.within.files (block.name_of (blk b k))).exists ∙ here) in
        let H = there-head a (block.name_of (blk b k)) was in
        let o = M.rule5.other H.at H.inside H.tag H.which in
        let q : (rec_in a o.0).file ≡ block.name_of (blk b k) = o.2 ∙ H.named in
        let e : stays a o.0 ≡ true =
        stays-is a o.0 o.1 (test-fails (lost a o.0) (λ z. true-false here (ap (λ (f : List ℕ). there b (file 1 f)) (sym q) ∙ (is-gone o.0 z).file))) in
        (o.0, (is-spared o.0 e).node, name-left o.0 e ∙ q);
    root = kind-left 2 two-left ∙ M.rule5.root;
  }

  tree-left : Stays (lost a) (wished a) (tree_of d.arena empty_table)
  tree-left = record {
    ids = ids-left;
    node = node-left;
    kind = λ i n. kind-left i (no_more i n);
    links = λ i n. let e = no_more i n in ap (λ (r : DiskINode). r.nlinks) (rec-left i e) ∙ sym (links-spared a i (not-lost a i e));
    blocks = λ i n. blocks-left i (no_more i n);
    size = λ i n. ap (λ (r : DiskINode). r.size) (rec-left i (no_more i n));
    long = λ i n. let e = no_more i n in ap (length_of b) (file-left i e) ∙ (kept-left i e).long;
    slot = λ i f k l. slot-left i (no_more i (folder-is (tree_of b empty_table) i f)) k;
  }

  tidy-left : Tidy any (tree_of d.arena empty_table)
  tidy-left =
      stays-tidy (lost a) (wished a) (tree_of b empty_table) (wished-tidy a M) (λ i e n. links-gone a i e) tree-left
      (λ i n z o. absurd (true-false o (not-lost a i (no_more i n))))

  pub left-allowed : Allowed d.arena empty_table
  left-allowed = record {
    rule1 = rule-one;
    rule2 = record { formed = empty-formed };
    rule3 = rule-three;
    rule4 = rule-four;
    rule5 = rule-five;
    rule6 = tidy-six b empty_table tidy-left;
    rule7 = tidy-seven b empty_table tidy-left;
    rule8 = tidy-eight b empty_table tidy-left;
  }
