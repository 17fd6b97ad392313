-- A file's slot has moved from one folder to another: the image is fair again.
use mathlib.Core.Path.{◌≡◌, sym, ap, ◌∙◌, subst}
use mathlib.Core.Bool.{true, false}
use mathlib.Core.List.{List}
use mathlib.Core.Logic.{◌≢◌, ⊎_elim}
use Prim.Native.Nat.{ℕ, ◌+◌, ◌*◌, ◌-◌, ◌<◌}
use native.Mathlib.Omega.{arith}
use Rattle.base.specs.Count.{bit}
use Rattle.base.proofs.Bools.{true-false}
use Rattle.base.proofs.Finds.{eq-cases}
use Rattle.structs.specs.Types.{is_folder}
use Rattle.structs.specs.declared.DiskINode.{DiskINode}
use Rattle.structs.specs.declared.DiskEntry.{DiskEntry}
use Rattle.arena.specs.Fields.{file}
use Rattle.table.specs.declared.Table.{Table}
use Rattle.files.specs.Read.{length_of}
use Rattle.files_laws.specs.Laws.{Kept}
use Rattle.files_laws.proofs.Bounds.{legal-same}
use Rattle.sefs.specs.State.{Fs}
use Rattle.sefs.specs.Nodes.{node_file, rec_at, id_at}
use Rattle.sefs.specs.Slots.{Slot}
use Rattle.sefs.specs.Move.{Replaced, renamed}
use Rattle.rules.specs.Image.{is_node, rec_of, slot_in}
use Rattle.image.specs.Midway.{Fair, tree_of, plain, Midway}
use Rattle.tree.specs.Tree.{Spelling, Tree, Tidy, folder_at}
use Rattle.tree.proofs.Trees.{folder-is, at, at_here, at-else}
use Rattle.tree.proofs.Unnaming.{Unnames, MayGo, unnames-tidy}
use Rattle.image.proofs.Resets.{recs-kept, nodes-kept, ids-kept, fair-by-tree}
use Rattle.image.proofs.Appends.{slot_kept}
use Rattle.image.proofs.Moving.{Moving, owns}
use Rattle.image.proofs.Movings.{live-rec, live-node, live-lives, moves-links}
use Rattle.image.proofs.Counts.{Counts}
use Rattle.image.proofs.Carries.{Carried}
use Rattle.tree.proofs.Redirects.{onto, onto-here, onto-apart, onto-other}

module _ {style : Spelling} {own : ℕ → Type 0} (s : Fs) (i j : ℕ) (old : Slot) (name : List ℕ) (r : Replaced) (M : Moving style own s i j old name r) (apart : id_at s i ≢ id_at s j)
    (no-dir : is_folder (rec_of s.arena s.table old.entry.id).kind ≡ false)
    (k l : ℕ) (within : (x : ℕ) → x < l → x ≢ k → x < (rec_at s j).blocks)
    (b : List ℕ) (C : Carried s.arena (rec_at s i).file ((rec_at s i).blocks - 1) old.place (rec_at s j).file (rec_at s j).blocks k l (renamed old.entry name) b)
    (B L : ℕ → ℕ) (u : Table) (S : Counts (owns own r) s.arena s.table B L u)
    (b-from : B (id_at s i) ≡ (rec_at s i).blocks - 1) (b-to : B (id_at s j) ≡ l)
    (b-else : (x : ℕ) → x ≢ id_at s i → x ≢ id_at s j → B x ≡ (rec_of s.arena s.table x).blocks)
    (l-from : L (id_at s i) ≡ (rec_of s.arena s.table (id_at s i)).nlinks)
    (l-own : L old.entry.id ≡ (rec_of s.arena s.table old.entry.id).nlinks)
    (I : Tidy style (onto (tree_of s.arena s.table) (id_at s j) k l (renamed old.entry name) (at old.entry.id ((rec_of s.arena s.table old.entry.id).nlinks + 1) L))) where
  abbrev a : List ℕ
  a = s.arena

  abbrev t : Table
  t = s.table

  abbrev f : ℕ
  f = id_at s i

  abbrev g : ℕ
  g = id_at s j

  abbrev c : ℕ
  c = old.entry.id

  abbrev e : DiskEntry
  e = renamed old.entry name

  abbrev n : ℕ
  n = (rec_of s.arena s.table old.entry.id).nlinks + 1

  abbrev v : Tree
  v = onto (tree_of a t) g k l e (at c n L)

  A : Fair style a t
  A = M.mid.fair

  rec-f : rec_of a t f ≡ rec_at s i
  rec-f = live-rec s M.mid i M.from

  rec-g : rec_of a t g ≡ rec_at s j
  rec-g = live-rec s M.mid j M.to

  rec-b : (x : ℕ) → rec_of b u x ≡ rec_of a u x
  rec-b = recs-kept a b u C.meta

  kinds : (x : ℕ) → (rec_of b u x).kind ≡ (rec_of a t x).kind
  kinds x = ap (λ (y : DiskINode). y.kind) (rec-b x) ∙ S.kinds x

  files : (x : ℕ) → (rec_of b u x).file ≡ (rec_of a t x).file
  files x = ap (λ (y : DiskINode). y.file) (rec-b x) ∙ S.files x

  sizes : (x : ℕ) → (rec_of b u x).size ≡ (rec_of a t x).size
  sizes x = ap (λ (y : DiskINode). y.size) (rec-b x) ∙ S.sizes x

  blocks : (x : ℕ) → (rec_of b u x).blocks ≡ B x
  blocks x = ap (λ (y : DiskINode). y.blocks) (rec-b x) ∙ S.blocks x

  links : (x : ℕ) → (rec_of b u x).nlinks ≡ L x
  links x = ap (λ (y : DiskINode). y.nlinks) (rec-b x) ∙ S.links x

  file-f : (rec_of a t f).file ≡ (rec_at s i).file
  file-f = ap (λ (y : DiskINode). y.file) rec-f

  file-g : (rec_of a t g).file ≡ (rec_at s j).file
  file-g = ap (λ (y : DiskINode). y.file) rec-g

  blocks-f : (rec_of a t f).blocks ≡ (rec_at s i).blocks
  blocks-f = ap (λ (y : DiskINode). y.blocks) rec-f

  -- the moved node is a file, so neither folder
  not_f : f ≢ c
  not_f q = true-false (ap (λ (x : ℕ). is_folder (rec_of a t x).kind) (sym q) ∙ ap (λ (y : DiskINode). is_folder y.kind) rec-f ∙ M.from.folder) no-dir

  -- another node's file is as it was
  kept : (x : ℕ) → is_node a x ≡ true → x ≢ f → x ≢ g → Kept a b (node_file (rec_of a t x))
  kept x m d z =
      C.others (rec_of a t x).file
      (λ q. d (A.rule5.distinct x f m (live-node s M.mid i M.from) (sym q ∙ sym file-f)))
      (λ q. z (A.rule5.distinct x g m (live-node s M.mid j M.to) (sym q ∙ sym file-g)))

  slot-else : (x : ℕ) → folder_at (tree_of a t) x ≡ true → x ≢ f → (m : ℕ) → m < v.blocks x → slot_in b (rec_of b u x) m ≡ v.slot x m
  slot-else x h d m y =
      ⊎_elim
      (λ (q : x ≡ g). subst (λ (z : ℕ). m < v.blocks z → slot_in b (rec_of b u z) m ≡ v.slot z m) (sym q) in_g y)
      (λ z. slot_kept a b (rec_of b u x) (rec_of a t x) (files x) (kept x (folder-is (tree_of a t) x h) d z) m ∙ sym (onto-apart (tree_of a t) g k l e (at c n L) x m z))
      (eq-cases x g)
    where
      in_g : m < v.blocks g → slot_in b (rec_of b u g) m ≡ v.slot g m
      in_g w =
          ⊎_elim
          (λ (q : m ≡ k). ap (slot_in b (rec_of b u g)) q ∙ C.to-new (rec_of b u g) (files g ∙ file-g) ∙ sym (ap (v.slot g) q ∙ onto-here (tree_of a t) g k l e (at c n L)))
          (λ z. C.to-still (rec_of b u g) (rec_of a t g) (files g ∙ file-g) file-g m (within m (omega (arith, at_here g l (tree_of a t).blocks)) z) z ∙ sym (onto-other (tree_of a t) g k l e (at c n L) g m z))
          (eq-cases m k)

  long-else : (x : ℕ) → is_node a x ≡ true → x ≢ f → length_of b (node_file (rec_of b u x)) ≡ v.long x
  long-else x h d =
      ⊎_elim
      (λ (q : x ≡ g). subst (λ (z : ℕ). length_of b (node_file (rec_of b u z)) ≡ v.long z) (sym q)
      (ap (λ (y : List ℕ). length_of b (file 1 y)) (files g ∙ file-g) ∙ C.to-long ∙ sym (at_here g (264 * l) (tree_of a t).long)))
      (λ z. ap (λ (y : List ℕ). length_of b (file 1 y)) (files x) ∙ (kept x h d z).long ∙ sym (at-else g (264 * l) (tree_of a t).long x z))
      (eq-cases x g)

  blocks-else : (x : ℕ) → x ≢ f → (rec_of b u x).blocks ≡ v.blocks x
  blocks-else x d =
      ⊎_elim
      (λ (q : x ≡ g). subst (λ (z : ℕ). (rec_of b u z).blocks ≡ v.blocks z) (sym q) (blocks g ∙ b-to ∙ sym (at_here g l (tree_of a t).blocks)))
      (λ z. blocks x ∙ b-else x d z ∙ sym (at-else g l (tree_of a t).blocks x z))
      (eq-cases x g)

  -- the slots of the folder that loses one
  own-slot : (m : ℕ) → v.slot f m ≡ slot_in a (rec_of a t f) m
  own-slot m = onto-apart (tree_of a t) g k l e (at c n L) f m apart

  own-blocks : v.blocks f ≡ (rec_at s i).blocks
  own-blocks = at-else g l (tree_of a t).blocks f apart ∙ blocks-f

  fewer : (rec_of b u f).blocks ≡ (rec_at s i).blocks - 1
  fewer = blocks f ∙ b-from

  tree : Unnames v (tree_of b u) f c old.place
  tree = record {
    ids = ids-kept a b C.meta;
    node = nodes-kept a b C.meta;
    kind = λ x m. kinds x;
    opened = λ x m o. S.opens x ∙ o;
    slots = λ x h d m y. slot-else x h d m y;
    blocks = λ x h d. blocks-else x d;
    size = λ x h. sizes x;
    long = λ x h d. long-else x h d;
    still = λ m y d. C.from-still (rec_of b u f) (rec_of a t f) (files f ∙ file-f) file-f m (omega (arith, own-blocks)) d ∙ sym (own-slot m);
    moved = λ y. C.from-moved (rec_of b u f) (rec_of a t f) (files f ∙ file-f) file-f (omega (arith, own-blocks)) ∙ sym (own-slot (v.blocks f - 1) ∙ ap (λ (m : ℕ). slot_in a (rec_of a t f) (m - 1)) own-blocks);
    fewer = omega (arith, fewer, own-blocks, M.inside);
    shorter = ap (λ (y : List ℕ). length_of b (file 1 y)) (files f ∙ file-f) ∙ C.from-long ∙ ap (λ (m : ℕ). 264 * m) (sym fewer);
    links = λ x m d z. links x ∙ sym (at-else c n L x d);
    child = omega (arith, links c, l-own, ap bit no-dir, at_here c n L);
    own = omega (arith, links f, ap bit no-dir, at-else c n L f not_f);
    held = λ z. absurd (omega (arith, links c, l-own, moves-links s i j old name r M));
  }

  may : MayGo v f c old.place
  may = record {
    lives = record { folder = (live-lives s M.mid i M.from).folder; links = λ z. (live-lives s M.mid i M.from).links (sym l-from ∙ sym (at-else c n L f not_f) ∙ z) };
    later = M.later;
    inside = omega (arith, own-blocks, M.inside);
    names = ap (λ (x : DiskEntry). x.id) (own-slot old.place ∙ ap (λ (y : DiskINode). slot_in a y old.place) rec-f ∙ sym M.is);
    small = λ y. absurd (true-false y no-dir);
  }

  pub transferred : Midway style (owns own r) b u
  transferred = record {
    fair = fair-by-tree (plain style) a b t u A
        (record { length = legal-same a b C.size ∙ A.rule1.length; sound = C.sound })
        C.meta C.exists S.ids S.clean (λ x m. kinds x) (λ x m. files x)
        (unnames-tidy v (tree_of b u) f c old.place I tree may);
    formed = S.formed;
    bytes = C.bytes;
    fits = S.fits;
  }
