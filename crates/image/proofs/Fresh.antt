-- A fresh image passes: node 2 alone, a folder with its own two slots, and an empty table. And format is done or refused with 1.
use mathlib.Core.Path.{◌≡◌, refl, sym, ap, ◌∙◌, subst}
use mathlib.Core.Bool.{Bool, true, false}
use mathlib.Core.List.{List}
use mathlib.Core.Logic.{◌⊎◌, inl, ⊎_elim}
use Prim.Native.Nat.{ℕ, zero, suc, ◌+◌, ◌*◌, ◌≤◌, ◌<◌}
use native.Mathlib.Omega.{arith}
use borrow.Author.Tests.{eq-eqb}
use lib.Dec.{eqb, ltb}
use Rattle.base.specs.Count.{sum_to, count_to}
use Rattle.base.specs.Search.{pick}
use Rattle.std.specs.Prelude.{None}
use Rattle.base.proofs.Finds.{search-none}
use Rattle.base.proofs.Bools.{and_both, and_parts, true-false}
use Rattle.base.proofs.Counts.{sum_to-cong, sum_to-zero}
use Rattle.structs.specs.Fits.{TimeFits, RecordFits}
use Rattle.structs.specs.Layout.{super_of, record_of}
use Rattle.structs.proofs.Layouts.{super_of-super_bytes, record_of-record_bytes}
use Rattle.structs.specs.Types.{is_folder}
use Rattle.structs.specs.declared.DiskEntry.{DiskEntry}
use Rattle.structs.specs.declared.DiskINode.{DiskINode}
use Rattle.structs.specs.declared.SuperBlock.{SuperBlock}
use Rattle.structs.specs.declared.Timespec.{Timespec}
use Rattle.maps.specs.Maps.{bit_at, set_bits}
use Rattle.utf8.specs.Names.{name_of}
use Rattle.table.specs.declared.Table.{Table}
use Rattle.table.specs.Table.{row_at, is_row, row_of}
use Rattle.arena.specs.Blocks.{blk, blocks, legal}
use Rattle.arena.specs.Fields.{File, file, tag_of, which_of}
use Rattle.files.specs.Read.{there}
use Rattle.files_laws.specs.Laws.{Named}
use Rattle.files_laws.proofs.Bounds.{named-meta}
use Rattle.files_laws.proofs.Parts.{file-cases}
use Rattle.sefs.specs.Nodes.{node_file}
use Rattle.rules.specs.Image.{stored_super, maps_to, stored_maps, ids_in, is_node, stored_bytes, rec_by, rec_of, is_folder_at, slot_in, names_in, named, subfolders, parent_of}
use Rattle.rules.specs.Rules.{Rule3, Rule4, Rule5, Folder, Linked, Removed, Rule7, Rule8}
use Rattle.rules.proofs.Files.{node-below}
use Rattle.rules.proofs.Folders.{folder-node}
use Rattle.tree.specs.Tree.{Spelling}
use Rattle.image.specs.Midway.{Fair}
use Rattle.image.proofs.Images.{head-there}
use Rattle.image.proofs.Freed.{node-clear}
use Rattle.image.proofs.Stores.{node-apart}
use Rattle.image.proofs.TreeOf.{tidy_of}
use Rattle.image.proofs.Inits.{dot-name, dots-name}
use Rattle.image.proofs.Roots.{root_map, root_super, root-zero, root-one, root-two, root-high, root-bits}
use Rattle.image.proofs.Formats.{root_record, Made}
use Rattle.arena.specs.Fields as block

-- ---- a fresh image, with a table that has no row in use

module _ (n : ℕ) (time : Timespec) (name b : List ℕ) (fine : legal b ≡ true) (times : TimeFits time) (N : Named (file 1 name)) (M : Made n time name b)
    (t : Table) (free : (i : ℕ) → i < 34 → (row_at t i).id ≡ 0) where
  abbrev r : DiskINode
  r = root_record time name

  root-fits : RecordFits r
  root-fits = record {
    size = omega arith;
    kind = omega arith;
    mode = omega arith;
    nlinks = omega arith;
    blocks = omega arith;
    uid = omega arith;
    gid = omega arith;
    pad = omega arith;
    atime = times;
    mtime = times;
    ctime = times;
    file = N.size;
    mac = named-meta.size;
    file_bytes = N.bytes;
    mac_bytes = named-meta.bytes;
  }

  super-is : stored_super b ≡ root_super
  unfolding stored_super
  super-is = ap super_of M.super ∙ super_of-super_bytes root_super (record { magic = omega arith; blocks = omega arith; unused = omega arith; groups = omega arith })

  groups-is : (stored_super b).groups ≡ 1
  groups-is = ap (λ (x : SuperBlock). x.groups) super-is

  maps-is : stored_maps b ≡ root_map
  unfolding stored_maps maps_to
  maps-is = ap (λ (x : SuperBlock). maps_to b x.groups) super-is ∙ M.maps

  bit_is : (i : ℕ) → bit_at (stored_maps b) i ≡ bit_at root_map i
  bit_is i = ap (λ (m : List ℕ). bit_at m i) maps-is

  no-row : row_of t 2 ≡ None
  unfolding row_of
  no-row = sym (search-none (is_row t 2) 34 (λ j l. ap (λ (k : ℕ). eqb k 2) (free j l)))

  pub rec-is : rec_of b t 2 ≡ root_record time name
  unfolding rec_of stored_bytes
  rec-is = ap (rec_by b t 2) no-row ∙ ap record_of M.stored ∙ record_of-record_bytes r root-fits

  -- ---- node 2 is the only one

  root-node : is_node b 2 ≡ true
  unfolding is_node
  root-node = rw (groups-is, bit_is 2, root-two) refl

  only-root : (id : ℕ) → is_node b id ≡ true → id ≡ 2
  unfolding is_node
  only-root zero e = absurd (true-false (and_parts (ltb 0 (ids_in b)) false e).1 refl)
  only-root (suc zero) e = absurd (node-apart b 1 e refl)
  only-root (suc (suc zero)) e = refl
  only-root (suc (suc (suc k))) e =
      absurd (true-false (bit_is (suc (suc (suc k))) ∙ root-high (suc (suc (suc k))) (omega arith) (omega (arith, node-below b (suc (suc (suc k))) e, groups-is))) (node-clear b (suc (suc (suc k))) e))

  root-folder : is_folder_at b t 2 ≡ true
  unfolding is_folder_at
  root-folder = and_both root-node (ap (λ (x : DiskINode). is_folder x.kind) rec-is)

  -- what holds of node 2 holds of every node, and of every folder
  of-nodes : (P : ℕ → Type 0) → P 2 → (id : ℕ) → is_node b id ≡ true → P id
  of-nodes P p id e = subst P (sym (only-root id e)) p

  of-folders : (P : ℕ → Type 0) → P 2 → (id : ℕ) → is_folder_at b t id ≡ true → P id
  of-folders P p id f = of-nodes P p id (folder-node b t id f)

  -- ---- it names nobody

  names-none : (x : ℕ) → names_in b (rec_of b t 2) x ≡ 0
  unfolding names_in count_to sum_to
  names-none x = rw rec-is refl

  unnamed : (x : ℕ) → named b t x ≡ 0
  unfolding named
  unnamed x =
      sum_to-cong (λ f. pick (is_folder_at b t f) (names_in b (rec_of b t f) x) 0) (λ f. 0) (ids_in b)
      (λ f l. go f (is_folder_at b t f) refl)
      ∙ sum_to-zero (ids_in b)
    where
      go : (f : ℕ) (c : Bool) → is_folder_at b t f ≡ c → pick c (names_in b (rec_of b t f) x) 0 ≡ 0
      go f true e = of-folders (λ (k : ℕ). names_in b (rec_of b t k) x ≡ 0) (names-none x) f e
      go f false e = refl

  subs-none : subfolders b (rec_of b t 2) ≡ 0
  unfolding subfolders count_to sum_to
  subs-none = rw rec-is refl

  -- ---- the rules

  three : Rule3 b
  three = record {
    magic = ap (λ (x : SuperBlock). x.magic) super-is;
    some = omega (arith, groups-is);
    few = omega (arith, groups-is);
    length = M.end ∙ omega (arith, groups-is);
    blocks = ap (λ (x : SuperBlock). x.blocks) super-is ∙ omega (arith, groups-is);
    unused = ap (λ (x : SuperBlock). x.unused) super-is ∙ sym root-bits ∙ λ i. set_bits (sym maps-is i) (1024 * sym groups-is i);
  }

  four : Rule4 b t
  four = record {
    zero = bit_is 0 ∙ root-zero;
    two = bit_is 2 ∙ root-two;
    maps = λ g l. let e : 1024 * g + 1 ≡ 1 = omega (arith, groups-is) in bit_is (1024 * g + 1) ∙ ap (bit_at root_map) e ∙ root-one;
    node = λ i l d. absurd (d (free i l));
    clean = λ i l d. absurd (d (free i l));
  }

  five : Rule5 b t
  five = record {
    least = of-nodes (λ (k : ℕ). 1 ≤ (rec_of b t k).kind) (rw rec-is (omega arith));
    most = of-nodes (λ (k : ℕ). (rec_of b t k).kind ≤ 4) (rw rec-is (omega arith));
    distinct = λ i j x y e. only-root i x ∙ sym (only-root j y);
    own = of-nodes (λ (k : ℕ). there b (node_file (rec_of b t k)) ≡ true) (rw rec-is M.own);
    other = λ k l e w. (2, root-node, ap (λ (x : DiskINode). x.file) rec-is ∙ sym (head-name k l e w));
    root = ap (λ (x : DiskINode). x.kind) rec-is;
  }
    where
      head-name : (k : ℕ) → k < blocks b → tag_of (blk b k) ≡ 1 → which_of (blk b k) ≡ 1 → block.name_of (blk b k) ≡ name
      head-name k l e w =
          ⊎_elim
          (λ (q : file 1 (block.name_of (blk b k)) ≡ file 1 name). ap (λ (f : File). f.name) q)
          (λ d. absurd (true-false (head-there b k l e w) (M.others (block.name_of (blk b k)) (λ q. d (ap (file 1) q)))))
          (file-cases (file 1 (block.name_of (blk b k))) (file 1 name))

  folder : Folder b t 2
  folder = record {
    blocks = rw rec-is (omega arith);
    length = rw rec-is M.long;
    dot = rw (rec-is, M.dot) dot-name;
    own = rw (rec-is, M.dot) refl;
    dot-kind = rw (rec-is, M.dot) refl;
    dots = rw (rec-is, M.dots) dots-name;
    dots-kind = rw (rec-is, M.dots) refl;
    later = λ k l m. absurd (omega (arith, ap (λ (x : DiskINode). x.blocks) rec-is));
    distinct = λ j k l m o. absurd (omega (arith, ap (λ (x : DiskINode). x.blocks) rec-is));
  }

  seven : Rule7 b t
  seven = record {
    other = λ id e f. absurd (true-false (of-nodes (λ (k : ℕ). is_folder_at b t k ≡ true) root-folder id e) f);
    unnamed = λ id e f. absurd (true-false (of-nodes (λ (k : ℕ). is_folder_at b t k ≡ true) root-folder id e) f);
    folder = of-folders (λ (k : ℕ). Linked b t k ⊎ Removed b t k) (inl (record {
      links = ap (λ (x : DiskINode). x.nlinks) rec-is ∙ omega (arith, subs-none);
      root = λ e. unnamed 2;
      once = λ d. absurd (d refl);
    }));
  }

  up_root : parent_of b t 2 ≡ 2
  unfolding parent_of
  up_root = ap (λ (x : DiskINode). (slot_in b x 1).id) rec-is ∙ ap (λ (e : DiskEntry). e.id) M.dots

  eight : Rule8 b t
  eight = record { root = λ d. up_root; folder = λ id f l d. absurd (d (only-root id (folder-node b t id f))) }

  pub made-fair : {style : Spelling} → Fair style b t
  made-fair = record {
    rule1 = record { length = fine; sound = M.sound };
    rule3 = three;
    rule4 = four;
    rule5 = five;
    tidy = tidy_of b t (node-below b) root-node (eq-eqb (rec_of b t 2).kind 2 five.root)
        (record { folder = of-folders (Folder b t) folder; size = λ id e f. absurd (true-false (of-nodes (λ (k : ℕ). is_folder_at b t k ≡ true) root-folder id e) f) }) seven eight
        (λ i k f x y. absurd (omega (arith, of-folders (λ (j : ℕ). (rec_of b t j).blocks ≡ 2) (ap (λ (r : DiskINode). r.blocks) rec-is) i f)));
  }
