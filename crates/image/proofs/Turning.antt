-- A folder's slot has moved from one folder to another: the image is fair as it will be, once the folder's `..` and the links follow.
use mathlib.Core.Path.{◌≡◌, refl, sym, ap, ◌∙◌}
use mathlib.Core.Bool.{Bool, true, false, ◌&&◌}
use mathlib.Core.List.{List}
use mathlib.Core.Logic.{◌≢◌, ⊎_elim}
use Prim.Native.Nat.{ℕ, ◌+◌, ◌*◌, ◌-◌, ◌≤◌, ◌<◌}
use native.Mathlib.Omega.{arith}
use lib.Dec.{eqb}
use borrow.Author.Tests.{eq-eqb, ne_eqb}
use Rattle.base.specs.Search.{pick}
use Rattle.base.proofs.Bools.{and-false}
use Rattle.base.proofs.Finds.{eq-cases}
use Rattle.structs.specs.declared.DiskINode.{DiskINode}
use Rattle.structs.specs.declared.DiskEntry.{DiskEntry}
use Rattle.arena.specs.Fields.{file}
use Rattle.table.specs.declared.Table.{Table}
use Rattle.files.specs.Read.{length_of}
use Rattle.files_laws.specs.Laws.{Kept}
use Rattle.files_laws.proofs.Bounds.{legal-same}
use Rattle.sefs.specs.State.{Fs}
use Rattle.sefs.specs.Nodes.{node_file, rec_at, id_at}
use Rattle.sefs.specs.Slots.{Slot}
use Rattle.sefs.specs.Folders.{dots_entry}
use Rattle.sefs.specs.Move.{Replaced, renamed}
use Rattle.rules.specs.Image.{is_node, rec_of, slot_in}
use Rattle.utf8.specs.Names.{name_of}
use Rattle.image.specs.Midway.{tree_of, turning, Amid, Fair}
use Rattle.tree.specs.Tree.{Spelling, Tree, up}
use Rattle.tree.specs.Moves.{Spot, lost, goes, turned, Moves, MayMove, MovesTidy}
use Rattle.tree.proofs.Trees.{folder-is}
use Rattle.tree.proofs.Ways.{not_itself}
use Rattle.tree.proofs.Moves.{gone-apart, moves-tidy}
use Rattle.image.proofs.Inits.{dots-name}
use Rattle.image.proofs.Resets.{recs-kept, nodes-kept, ids-kept, fair-by-tree}
use Rattle.image.proofs.Appends.{slot_kept}
use Rattle.image.proofs.Moving.{Moving, owns}
use Rattle.image.proofs.Movings.{live-rec, live-node, live-links}
use Rattle.image.proofs.Counts.{Counts}
use Rattle.image.proofs.Carries.{Carried}

module _ {style : Spelling} {own : ℕ → Type 0} (s : Fs) (i j : ℕ) (old : Slot) (name : List ℕ) (r : Replaced) (M : Moving style own s i j old name r) (apart : id_at s i ≢ id_at s j)
    (k l : ℕ) (o : Spot) (P : MayMove (tree_of s.arena s.table) (id_at s i) old.place (id_at s j) k old.entry.id o (renamed old.entry name))
    (within : (x : ℕ) → x < l → x ≢ k → x < (rec_at s j).blocks) (more : l + lost o ≡ (rec_at s j).blocks + 1)
    (b : List ℕ) (C : Carried s.arena (rec_at s i).file ((rec_at s i).blocks - 1) old.place (rec_at s j).file (rec_at s j).blocks k l (renamed old.entry name) b)
    (B L : ℕ → ℕ) (u : Table) (S : Counts (owns own r) s.arena s.table B L u)
    (b-from : B (id_at s i) ≡ (rec_at s i).blocks - 1) (b-to : B (id_at s j) ≡ l)
    (b-else : (x : ℕ) → x ≢ id_at s i → x ≢ id_at s j → B x ≡ (rec_of s.arena s.table x).blocks)
    (l-from : L (id_at s i) ≡ (rec_of s.arena s.table (id_at s i)).nlinks)
    (l-to : L (id_at s j) + lost o ≡ (rec_of s.arena s.table (id_at s j)).nlinks)
    (l-gone : (x : ℕ) → goes o x ≡ true → L x ≡ 0)
    (l-else : (x : ℕ) → x ≢ id_at s j → goes o x ≡ false → L x ≡ (rec_of s.arena s.table x).nlinks) where
  abbrev a : List ℕ
  a = s.arena

  abbrev t : Table
  t = s.table

  abbrev f : ℕ
  f = id_at s i

  abbrev g : ℕ
  g = id_at s j

  abbrev c : ℕ
  c = old.entry.id

  abbrev e : DiskEntry
  e = renamed old.entry name

  abbrev w : Tree
  w = turned c f g (dots_entry g) (tree_of b u)

  A : Fair style a t
  A = M.mid.fair

  rec-f : rec_of a t f ≡ rec_at s i
  rec-f = live-rec s M.mid i M.from

  rec-g : rec_of a t g ≡ rec_at s j
  rec-g = live-rec s M.mid j M.to

  rec-b : (x : ℕ) → rec_of b u x ≡ rec_of a u x
  rec-b = recs-kept a b u C.meta

  kinds : (x : ℕ) → (rec_of b u x).kind ≡ (rec_of a t x).kind
  kinds x = ap (λ (y : DiskINode). y.kind) (rec-b x) ∙ S.kinds x

  files : (x : ℕ) → (rec_of b u x).file ≡ (rec_of a t x).file
  files x = ap (λ (y : DiskINode). y.file) (rec-b x) ∙ S.files x

  blocks : (x : ℕ) → (rec_of b u x).blocks ≡ B x
  blocks x = ap (λ (y : DiskINode). y.blocks) (rec-b x) ∙ S.blocks x

  links : (x : ℕ) → (rec_of b u x).nlinks ≡ L x
  links x = ap (λ (y : DiskINode). y.nlinks) (rec-b x) ∙ S.links x

  file-f : (rec_of a t f).file ≡ (rec_at s i).file
  file-f = ap (λ (y : DiskINode). y.file) rec-f

  file-g : (rec_of a t g).file ≡ (rec_at s j).file
  file-g = ap (λ (y : DiskINode). y.file) rec-g

  blocks-f : (rec_of a t f).blocks ≡ (rec_at s i).blocks
  blocks-f = ap (λ (y : DiskINode). y.blocks) rec-f

  blocks-g : (rec_of a t g).blocks ≡ (rec_at s j).blocks
  blocks-g = ap (λ (y : DiskINode). y.blocks) rec-g

  -- the moved folder is neither of the two
  not_f : f ≢ c
  not_f q = not_itself (tree_of a t) A.tidy f old.place P.source.folder P.later P.inside (P.names ∙ sym q)

  not-g : g ≢ c
  unfolding up
  not-g = P.avoids 0

  -- its `..` aside, slots look as they are
  looks : (x m : ℕ) → (x ≡ c → m ≢ 1) → w.slot x m ≡ slot_in b (rec_of b u x) m
  looks x m n =
      ⊎_elim
      (λ (q : x ≡ c). ap (λ (y : Bool). pick (eqb x c && y) (dots_entry g) (slot_in b (rec_of b u x) m)) (ne_eqb m 1 (n q)) ∙ ap (λ (y : Bool). pick y (dots_entry g) (slot_in b (rec_of b u x) m)) (and-false (eqb x c)))
      (λ q. ap (λ (y : Bool). pick (y && eqb m 1) (dots_entry g) (slot_in b (rec_of b u x) m)) (ne_eqb x c q))
      (eq-cases x c)

  looks-dots : w.slot c 1 ≡ dots_entry g
  looks-dots = ap (λ (y : Bool). pick (y && eqb 1 1) (dots_entry g) (slot_in b (rec_of b u c) 1)) (eq-eqb c c refl)

  -- another node's file is as it was
  kept : (x : ℕ) → is_node a x ≡ true → x ≢ f → x ≢ g → Kept a b (node_file (rec_of a t x))
  kept x m d z =
      C.others (rec_of a t x).file
      (λ q. d (A.rule5.distinct x f m (live-node s M.mid i M.from) (sym q ∙ sym file-f)))
      (λ q. z (A.rule5.distinct x g m (live-node s M.mid j M.to) (sym q ∙ sym file-g)))

  long-own : (x : ℕ) (n : ℕ) (h : List ℕ) → (rec_of a t x).file ≡ h → length_of b (file 1 h) ≡ n → length_of b (node_file (rec_of b u x)) ≡ n
  long-own x n h q z = ap (λ (y : List ℕ). length_of b (file 1 y)) (files x ∙ q) ∙ z

  links-f : w.links f ≡ (rec_of b u f).nlinks - 1
  links-f = ap (λ (y : Bool). pick y ((rec_of b u f).nlinks - 1) (pick (eqb f g) ((rec_of b u f).nlinks + 1) (rec_of b u f).nlinks)) (eq-eqb f f refl)

  links-not-f : (x : ℕ) → x ≢ f → w.links x ≡ pick (eqb x g) ((rec_of b u x).nlinks + 1) (rec_of b u x).nlinks
  links-not-f x n = ap (λ (y : Bool). pick y ((rec_of b u x).nlinks - 1) (pick (eqb x g) ((rec_of b u x).nlinks + 1) (rec_of b u x).nlinks)) (ne_eqb x f n)

  links-g : w.links g ≡ (rec_of b u g).nlinks + 1
  links-g = links-not-f g (λ q. apart (sym q)) ∙ ap (λ (y : Bool). pick y ((rec_of b u g).nlinks + 1) (rec_of b u g).nlinks) (eq-eqb g g refl)

  links-else : (x : ℕ) → x ≢ f → x ≢ g → w.links x ≡ (rec_of b u x).nlinks
  links-else x n m = links-not-f x n ∙ ap (λ (y : Bool). pick y ((rec_of b u x).nlinks + 1) (rec_of b u x).nlinks) (ne_eqb x g m)

  some-f : 2 ≤ (rec_of a t f).nlinks
  some-f = omega (arith, live-links s M.mid i M.from, ap (λ (y : DiskINode). y.nlinks) rec-f)

  fewer : w.blocks f ≡ (rec_at s i).blocks - 1
  fewer = blocks f ∙ b-from

  tree : Moves (tree_of a t) w f old.place g k c o e
  tree = record {
    ids = ids-kept a b C.meta;
    node = nodes-kept a b C.meta;
    kind = λ x m. kinds x;
    size = λ x m. ap (λ (y : DiskINode). y.size) (rec-b x) ∙ S.sizes x;
    opened = λ x m q. S.opens x ∙ q;
    blocks = λ x h d z. blocks x ∙ b-else x d z;
    long = λ x m d z. ap (λ (y : List ℕ). length_of b (file 1 y)) (files x) ∙ (kept x m d z).long;
    slots = λ x h d z m y n. looks x m n ∙ slot_kept a b (rec_of b u x) (rec_of a t x) (files x) (kept x (folder-is (tree_of a t) x h) d z) m;
    dots = ap (λ (y : DiskEntry). y.id) looks-dots;
    dots-name = ap (λ (y : DiskEntry). name_of y.name) looks-dots ∙ dots-name;
    dots-kind = ap (λ (y : DiskEntry). y.kind) looks-dots;
    still = λ m y d. looks f m (λ q. absurd (not_f q)) ∙ C.from-still (rec_of b u f) (rec_of a t f) (files f ∙ file-f) file-f m (omega (arith, blocks-f)) d;
    moved = λ y. looks f old.place (λ q. absurd (not_f q)) ∙ C.from-moved (rec_of b u f) (rec_of a t f) (files f ∙ file-f) file-f (omega (arith, blocks-f))
        ∙ ap (λ (m : ℕ). slot_in a (rec_of a t f) (m - 1)) (sym blocks-f);
    fewer = omega (arith, fewer, blocks-f, M.inside);
    shorter = long-own f (264 * ((rec_at s i).blocks - 1)) (rec_at s i).file file-f C.from-long ∙ ap (λ (m : ℕ). 264 * m) (sym fewer);
    new = looks g k (λ q. absurd (not-g q)) ∙ C.to-new (rec_of b u g) (files g ∙ file-g);
    same = λ m y d. looks g m (λ q. absurd (not-g q)) ∙ C.to-still (rec_of b u g) (rec_of a t g) (files g ∙ file-g) file-g m (within m (omega (arith, blocks g, b-to)) d) d;
    more = omega (arith, blocks g, b-to, blocks-g, more);
    longer = long-own g (264 * l) (rec_at s j).file file-g C.to-long ∙ ap (λ (m : ℕ). 264 * m) (sym (blocks g ∙ b-to));
    links = λ x m d z q. links-else x d z ∙ links x ∙ l-else x z q;
    from = omega (arith, links-f, links f, l-from, some-f);
    to = omega (arith, links-g, links g, l-to);
    none = λ x q. let z = gone-apart (tree_of a t) f old.place g k c o e A.tidy P x q in links-else x z.0 z.1 ∙ links x ∙ l-gone x q;
  }

  pub turning-mid : Amid (turning style old.entry.id (id_at s i) (id_at s j)) (owns own r) b u
  unfolding MovesTidy
  turning-mid = record {
    fair = fair-by-tree (turning style c f g) a b t u A
        (record { length = legal-same a b C.size ∙ A.rule1.length; sound = C.sound })
        C.meta C.exists S.ids S.clean (λ x m. kinds x) (λ x m. files x)
        (moves-tidy style (tree_of a t) w f old.place g k c o e A.tidy P tree);
    formed = S.formed;
    bytes = C.bytes;
    fits = S.fits;
  }
