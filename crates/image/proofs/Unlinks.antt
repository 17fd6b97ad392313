-- Unlink: a slot goes, links fall, the node is let go, and the folder's record is stored.
use mathlib.Core.Path.{◌≡◌, refl, sym, ap, ◌∙◌, subst}
use mathlib.Core.Bool.{Bool, true, false}
use mathlib.Core.List.{List}
use mathlib.Core.Logic.{◌≢◌, ⊎_elim}
use Prim.Native.Nat.{ℕ, ◌+◌, ◌*◌, ◌-◌, ◌≤◌, ◌<◌}
use native.Mathlib.Omega.{arith}
use lib.ListN.{length}
use borrow.Author.Tests.{lt-ltb}
use Rattle.base.specs.Count.{bit}
use Rattle.base.specs.Out.{done, bind, Ok}
use Rattle.base.proofs.Outs.{ok-bind, ok-weaken}
use Rattle.base.proofs.Finds.{eq-cases}
use Rattle.base.specs.Search.{pick}
use Rattle.le.specs.Le.{Bytes}
use Rattle.structs.specs.Fits.{RecordFits}
use Rattle.structs.specs.Types.{is_folder}
use Rattle.structs.specs.declared.DiskINode.{DiskINode}
use Rattle.arena.specs.Fields.{file}
use Rattle.table.specs.declared.Table.{Table}
use Rattle.table.specs.declared.Row.{Row}
use Rattle.table.specs.Table.{row_at, take_row}
use Rattle.table_bytes.specs.Fits.{TableFits}
use Rattle.table_laws.specs.Rules.{Formed, also, none}
use Rattle.sound.specs.Sound.{sound}
use Rattle.files.specs.Read.{there, length_of}
use Rattle.files_laws.specs.Laws.{Kept}
use Rattle.files_laws.proofs.Bounds.{legal-same}
use Rattle.sefs.specs.State.{Fs, with_arena}
use Rattle.sefs.specs.Meta.{meta_file}
use Rattle.sefs.specs.Records.{with_links, with_blocks}
use Rattle.sefs.specs.Nodes.{node_file, rec_at, set_rec, release}
use Rattle.sefs.specs.Slots.{slot_bytes}
use Rattle.sefs.specs.Folders.{nlinks_dec, unlink_folder, dirent_node_remove}
use Rattle.rules.specs.Image.{run, is_node, rec_of, is_open, slot_in}
use Rattle.image.specs.Midway.{Used, stored_meta, Fair, tree_of, plain, Midway}
use Rattle.image.proofs.Metas.{node-other, kept_then}
use Rattle.tree.specs.Tree.{Spelling, Tidy}
use Rattle.tree.proofs.Trees.{folder-is}
use Rattle.tree.proofs.Unnaming.{Unnames, MayGo}
use Rattle.image.proofs.Drops.{mid-rec, super-kept, maps-kept, stored-kept, release-law}
use Rattle.image.proofs.Resets.{Cleans, reset-here, reset-apart, reset-id, reset-open, reset-other, reset-formed, reset-fits, reset-clean, recs-kept, nodes-kept, ids-kept, fair-by-tree}
use Rattle.image.proofs.Appends.{file-apart, slot_kept}
use Rattle.image.proofs.Removes.{Gone, gone-meta, gone-there, gone-still, gone-moved, remove-law}
use Rattle.image.proofs.Records.{links-fit, blocks-fit}

-- table u is t, but that the records of rows i and c have fewer links, by p and q, and that of row i has n slots
pub record Less (own : ℕ → Type 0) (a : List ℕ) (t : Table) (i c n p q : ℕ) (u : Table) : Type 0 where
  pub formed : Formed own u
  pub fits : TableFits u
  pub ids : (j : ℕ) → (row_at u j).id ≡ (row_at t j).id
  pub clean : Cleans a u
  pub opens : (x : ℕ) → is_open u x ≡ is_open t x
  pub else : (x : ℕ) → x ≢ (row_at t i).id → x ≢ (row_at t c).id → rec_of a u x ≡ rec_of a t x
  pub i-kind : (row_at u i).rec.kind ≡ (row_at t i).rec.kind
  pub i-file : (row_at u i).rec.file ≡ (row_at t i).rec.file
  pub i-size : (row_at u i).rec.size ≡ (row_at t i).rec.size
  pub i-blocks : (row_at u i).rec.blocks ≡ n
  pub i-links : (row_at u i).rec.nlinks + p ≡ (row_at t i).rec.nlinks
  pub c-kind : (row_at u c).rec.kind ≡ (row_at t c).rec.kind
  pub c-file : (row_at u c).rec.file ≡ (row_at t c).rec.file
  pub c-size : (row_at u c).rec.size ≡ (row_at t c).rec.size
  pub c-blocks : (row_at u c).rec.blocks ≡ (row_at t c).rec.blocks
  pub c-links : (row_at u c).rec.nlinks + q ≡ (row_at t c).rec.nlinks

used-in : (t u : Table) → ((j : ℕ) → (row_at u j).id ≡ (row_at t j).id) → (j : ℕ) → Used t j → Used u j
used-in t u e j w = record { below = w.below; node = λ z. w.node (sym (e j) ∙ z) }

module _ {own : ℕ → Type 0} (a : List ℕ) (t : Table) (i c : ℕ) (ui : Used t i) (uc : Used t c) (rows : c ≡ i → ⊥) where
  pub less-first : Formed own t → TableFits t → Cleans a t → (n : ℕ) → n < 4294967296 → Less own a t i c n 0 0 (take_row t i (row_at t i).id (with_blocks (row_at t i).rec n) true)
  less-first O T C n l =
      let r : DiskINode = with_blocks (row_at t i).rec n in
      let h = reset-here t O i ui (with_blocks (row_at t i).rec n) in
      let o = reset-apart t O i ui (with_blocks (row_at t i).rec n) c rows in
      record {
        formed = reset-formed t O i ui (with_blocks (row_at t i).rec n);
        fits = reset-fits t O i ui (with_blocks (row_at t i).rec n) T (blocks-fit (row_at t i).rec n (T.rows i ui.below).rec l);
        ids = reset-id t O i ui (with_blocks (row_at t i).rec n);
        clean = reset-clean t O i ui (with_blocks (row_at t i).rec n) a C;
        opens = reset-open t O i ui (with_blocks (row_at t i).rec n);
        else = λ x d k. reset-other t O i ui (with_blocks (row_at t i).rec n) a x d;
        i-kind = ap (λ (x : Row). x.rec.kind) h;
        i-file = ap (λ (x : Row). x.rec.file) h;
        i-size = ap (λ (x : Row). x.rec.size) h;
        i-blocks = ap (λ (x : Row). x.rec.blocks) h;
        i-links = omega (arith, ap (λ (x : Row). x.rec.nlinks) h);
        c-kind = ap (λ (x : Row). x.rec.kind) o;
        c-file = ap (λ (x : Row). x.rec.file) o;
        c-size = ap (λ (x : Row). x.rec.size) o;
        c-blocks = ap (λ (x : Row). x.rec.blocks) o;
        c-links = omega (arith, ap (λ (x : Row). x.rec.nlinks) o);
      }

  module _ (n p q : ℕ) (u : Table) (S : Less own a t i c n p q u) where
    pub less-c : 0 < (row_at u c).rec.nlinks → Less own a t i c n p (q + 1) (take_row u c (row_at u c).id (with_links (row_at u c).rec ((row_at u c).rec.nlinks - 1)) true)
    less-c pos =
        let w = used-in t u S.ids c uc in
        let R : RecordFits (row_at u c).rec = (S.fits.rows c uc.below).rec in
        let h = reset-here u S.formed c w (with_links (row_at u c).rec ((row_at u c).rec.nlinks - 1)) in
        let o = reset-apart u S.formed c w (with_links (row_at u c).rec ((row_at u c).rec.nlinks - 1)) i (λ z. rows (sym z)) in
        record {
          formed = reset-formed u S.formed c w (with_links (row_at u c).rec ((row_at u c).rec.nlinks - 1));
          fits = reset-fits u S.formed c w (with_links (row_at u c).rec ((row_at u c).rec.nlinks - 1)) S.fits (links-fit (row_at u c).rec ((row_at u c).rec.nlinks - 1) R (omega (arith, R.nlinks)));
          ids = λ j. reset-id u S.formed c w (with_links (row_at u c).rec ((row_at u c).rec.nlinks - 1)) j ∙ S.ids j;
          clean = reset-clean u S.formed c w (with_links (row_at u c).rec ((row_at u c).rec.nlinks - 1)) a S.clean;
          opens = λ x. reset-open u S.formed c w (with_links (row_at u c).rec ((row_at u c).rec.nlinks - 1)) x ∙ S.opens x;
          else = λ x d k. reset-other u S.formed c w (with_links (row_at u c).rec ((row_at u c).rec.nlinks - 1)) a x (λ z. k (z ∙ S.ids c)) ∙ S.else x d k;
          i-kind = ap (λ (x : Row). x.rec.kind) o ∙ S.i-kind;
          i-file = ap (λ (x : Row). x.rec.file) o ∙ S.i-file;
          i-size = ap (λ (x : Row). x.rec.size) o ∙ S.i-size;
          i-blocks = ap (λ (x : Row). x.rec.blocks) o ∙ S.i-blocks;
          i-links = ap (λ (x : Row). x.rec.nlinks + p) o ∙ S.i-links;
          c-kind = ap (λ (x : Row). x.rec.kind) h ∙ S.c-kind;
          c-file = ap (λ (x : Row). x.rec.file) h ∙ S.c-file;
          c-size = ap (λ (x : Row). x.rec.size) h ∙ S.c-size;
          c-blocks = ap (λ (x : Row). x.rec.blocks) h ∙ S.c-blocks;
          c-links = omega (arith, ap (λ (x : Row). x.rec.nlinks) h, S.c-links);
        }

    pub less-i : 0 < (row_at u i).rec.nlinks → Less own a t i c n (p + 1) q (take_row u i (row_at u i).id (with_links (row_at u i).rec ((row_at u i).rec.nlinks - 1)) true)
    less-i pos =
        let w = used-in t u S.ids i ui in
        let R : RecordFits (row_at u i).rec = (S.fits.rows i ui.below).rec in
        let h = reset-here u S.formed i w (with_links (row_at u i).rec ((row_at u i).rec.nlinks - 1)) in
        let o = reset-apart u S.formed i w (with_links (row_at u i).rec ((row_at u i).rec.nlinks - 1)) c rows in
        record {
          formed = reset-formed u S.formed i w (with_links (row_at u i).rec ((row_at u i).rec.nlinks - 1));
          fits = reset-fits u S.formed i w (with_links (row_at u i).rec ((row_at u i).rec.nlinks - 1)) S.fits (links-fit (row_at u i).rec ((row_at u i).rec.nlinks - 1) R (omega (arith, R.nlinks)));
          ids = λ j. reset-id u S.formed i w (with_links (row_at u i).rec ((row_at u i).rec.nlinks - 1)) j ∙ S.ids j;
          clean = reset-clean u S.formed i w (with_links (row_at u i).rec ((row_at u i).rec.nlinks - 1)) a S.clean;
          opens = λ x. reset-open u S.formed i w (with_links (row_at u i).rec ((row_at u i).rec.nlinks - 1)) x ∙ S.opens x;
          else = λ x d k. reset-other u S.formed i w (with_links (row_at u i).rec ((row_at u i).rec.nlinks - 1)) a x (λ z. d (z ∙ S.ids i)) ∙ S.else x d k;
          i-kind = ap (λ (x : Row). x.rec.kind) h ∙ S.i-kind;
          i-file = ap (λ (x : Row). x.rec.file) h ∙ S.i-file;
          i-size = ap (λ (x : Row). x.rec.size) h ∙ S.i-size;
          i-blocks = ap (λ (x : Row). x.rec.blocks) h ∙ S.i-blocks;
          i-links = omega (arith, ap (λ (x : Row). x.rec.nlinks) h, S.i-links);
          c-kind = ap (λ (x : Row). x.rec.kind) o ∙ S.c-kind;
          c-file = ap (λ (x : Row). x.rec.file) o ∙ S.c-file;
          c-size = ap (λ (x : Row). x.rec.size) o ∙ S.c-size;
          c-blocks = ap (λ (x : Row). x.rec.blocks) o ∙ S.c-blocks;
          c-links = ap (λ (x : Row). x.rec.nlinks + q) o ∙ S.c-links;
        }

-- the image then
module _ {own : ℕ → Type 0} (a : List ℕ) (t : Table) (O : Formed own t) (y : Bytes a) (so : sound a ≡ true) (i c pl : ℕ) (ui : Used t i) (uc : Used t c)
    (G : MayGo (tree_of a t) (row_at t i).id (row_at t c).id pl)
    (open-c : is_open t (row_at t c).id ≡ true)
    (is-there : there a (node_file (row_at t i).rec) ≡ true)
    (distinct : (x : ℕ) → is_node a x ≡ true → (rec_of a t x).file ≡ (row_at t i).rec.file → x ≡ (row_at t i).id)
    (b : List ℕ) (B : Gone a (row_at t i).rec.file ((row_at t i).rec.blocks - 1) pl b) (u : Table)
    (S : Less own a t i c ((row_at t i).rec.blocks - 1) (bit (is_folder (row_at t c).rec.kind)) (1 + bit (is_folder (row_at t c).rec.kind)) u) where
  abbrev d : ℕ
  d = (row_at t i).id

  abbrev k : ℕ
  k = (row_at t c).id

  abbrev ri : DiskINode
  ri = (row_at t i).rec

  abbrev rc : DiskINode
  rc = (row_at t c).rec

  rec-i : rec_of a t d ≡ ri
  rec-i = mid-rec a t O i ui

  rec-c : rec_of a t k ≡ rc
  rec-c = mid-rec a t O c uc

  used-i : Used u i
  used-i = record { below = ui.below; node = λ z. ui.node (sym (S.ids i) ∙ z) }

  used-c : Used u c
  used-c = record { below = uc.below; node = λ z. uc.node (sym (S.ids c) ∙ z) }

  below : pl ≤ ri.blocks - 1
  below = omega (arith, G.inside, ap (λ (r : DiskINode). r.blocks) rec-i)

  K : Kept a b meta_file
  K = gone-meta a ri.file (ri.blocks - 1) pl below y so is-there b B

  new-i : rec_of b u d ≡ (row_at u i).rec
  new-i = recs-kept a b u K d ∙ ap (rec_of a u) (sym (S.ids i)) ∙ mid-rec a u S.formed i used-i

  new-c : rec_of b u k ≡ (row_at u c).rec
  new-c = recs-kept a b u K k ∙ ap (rec_of a u) (sym (S.ids c)) ∙ mid-rec a u S.formed c used-c

  same-rec : (x : ℕ) → x ≢ d → x ≢ k → rec_of b u x ≡ rec_of a t x
  same-rec x m n = recs-kept a b u K x ∙ S.else x m n

  field-else : {X : Type 0} (q : DiskINode → X) → q (row_at u c).rec ≡ q rc → (x : ℕ) → x ≢ d → q (rec_of b u x) ≡ q (rec_of a t x)
  field-else {X} q h x m =
      ⊎_elim
      (λ (z : x ≡ k). subst (λ (y : ℕ). q (rec_of b u y) ≡ q (rec_of a t y)) (sym z) (ap q new-c ∙ h ∙ ap q (sym rec-c)))
      (λ n. ap q (same-rec x m n))
      (eq-cases x k)

  field-all : {X : Type 0} (q : DiskINode → X) → q (row_at u i).rec ≡ q ri → q (row_at u c).rec ≡ q rc → (x : ℕ) → q (rec_of b u x) ≡ q (rec_of a t x)
  field-all {X} q g h x =
      ⊎_elim
      (λ (z : x ≡ d). subst (λ (y : ℕ). q (rec_of b u y) ≡ q (rec_of a t y)) (sym z) (ap q new-i ∙ g ∙ ap q (sym rec-i)))
      (λ n. field-else q h x n)
      (eq-cases x d)

  kinds : (x : ℕ) → (rec_of b u x).kind ≡ (rec_of a t x).kind
  kinds = field-all (λ r. r.kind) S.i-kind S.c-kind

  files : (x : ℕ) → (rec_of b u x).file ≡ (rec_of a t x).file
  files = field-all (λ r. r.file) S.i-file S.c-file

  sizes : (x : ℕ) → (rec_of b u x).size ≡ (rec_of a t x).size
  sizes = field-all (λ r. r.size) S.i-size S.c-size

  kept : (x : ℕ) → is_node a x ≡ true → x ≢ d → Kept a b (node_file (rec_of a t x))
  kept x n m = B.others (node_file (rec_of a t x)) (file-apart ri.file (rec_of a t x).file (λ q. m (distinct x n (sym q))))

  blocks-i : (rec_of a t d).blocks ≡ ri.blocks
  blocks-i = ap (λ (r : DiskINode). r.blocks) rec-i

  blocks-new : (rec_of b u d).blocks ≡ ri.blocks - 1
  blocks-new = ap (λ (r : DiskINode). r.blocks) new-i ∙ S.i-blocks

  file-new : (rec_of b u d).file ≡ ri.file
  file-new = ap (λ (r : DiskINode). r.file) new-i ∙ S.i-file

  file-old : (rec_of a t d).file ≡ ri.file
  file-old = ap (λ (r : DiskINode). r.file) rec-i

  kind-c : (rec_of a t k).kind ≡ rc.kind
  kind-c = ap (λ (r : DiskINode). r.kind) rec-c

  pub gone-tree : Unnames (tree_of a t) (tree_of b u) (row_at t i).id (row_at t c).id pl
  gone-tree = record {
    ids = ids-kept a b K;
    node = nodes-kept a b K;
    kind = λ x n. kinds x;
    opened = λ x n o. S.opens x ∙ o;
    slots = λ x f n j l. slot_kept a b (rec_of b u x) (rec_of a t x) (files x) (kept x (folder-is (tree_of a t) x f) n) j;
    blocks = λ x f n. field-else (λ r. r.blocks) S.c-blocks x n;
    size = λ x m. sizes x;
    long = λ x m n. ap (λ (g : List ℕ). length_of b (file 1 g)) (files x) ∙ (kept x m n).long;
    still = λ j l n. gone-still a ri.file (ri.blocks - 1) pl below y so is-there b B (rec_of b u d) (rec_of a t d) file-new file-old j (omega (arith, blocks-i)) n;
    moved = λ l. gone-moved a ri.file (ri.blocks - 1) pl below y so is-there b B (rec_of b u d) (rec_of a t d) file-new file-old (omega (arith, blocks-i))
        ∙ ap (slot_in a (rec_of a t d)) (let z : ri.blocks - 1 ≡ (rec_of a t d).blocks - 1 = omega (arith, blocks-i) in z);
    fewer = omega (arith, blocks-new, blocks-i, G.later, G.inside);
    shorter = ap (λ (g : List ℕ). length_of b (file 1 g)) file-new ∙ B.long ∙ ap (λ (n : ℕ). 264 * n) (sym blocks-new);
    links = λ x n m z. ap (λ (r : DiskINode). r.nlinks) (same-rec x z m);
    child = omega (arith, ap (λ (r : DiskINode). r.nlinks) new-c, S.c-links, ap (λ (r : DiskINode). r.nlinks) rec-c, ap (λ (n : ℕ). bit (is_folder n)) kind-c);
    own = omega (arith, ap (λ (r : DiskINode). r.nlinks) new-i, S.i-links, ap (λ (r : DiskINode). r.nlinks) rec-i, ap (λ (n : ℕ). bit (is_folder n)) kind-c);
    held = λ z. S.opens k ∙ open-c;
  }

  -- a0 is an arena before, with the same metadata and the same files
  module _ {style : Spelling} (a0 : List ℕ) (A : Fair style a0 t) (size : length a ≡ length a0) (K0 : Kept a0 a meta_file) (theirs : (f : List ℕ) → there a (file 1 f) ≡ there a0 (file 1 f)) (I : Tidy style (tree_of b u)) where
    same0 : (x : ℕ) → rec_of a t x ≡ rec_of a0 t x
    same0 = recs-kept a0 a t K0

    pub unnamed-mid : Midway style own b u
    unnamed-mid = record {
      fair = fair-by-tree (plain style) a0 b t u A
          (record { length = legal-same a0 b (B.size ∙ size) ∙ A.rule1.length; sound = B.sound })
          (kept_then a0 a b meta_file K0 K)
          (λ f. gone-there a ri.file (ri.blocks - 1) pl below y so is-there b B f ∙ theirs f)
          S.ids
          (λ j l n c. S.clean j l n c ∙ stored-kept a0 a K0 (row_at u j).id)
          (λ x n. kinds x ∙ ap (λ (r : DiskINode). r.kind) (same0 x))
          (λ x n. files x ∙ ap (λ (r : DiskINode). r.file) (same0 x))
          I;
      formed = S.formed;
      bytes = B.bytes;
      fits = S.fits;
    }

-- ---- the steps

pub dec-is : (s : Fs) (i : ℕ) → 0 < (rec_at s i).nlinks → nlinks_dec s i ≡ done (set_rec s i (with_links (rec_at s i) ((rec_at s i).nlinks - 1)))
unfolding nlinks_dec
dec-is s i l = rw (lt-ltb 0 (rec_at s i).nlinks l)

-- a slot goes with its node, where the image is fair again once links have fallen
module _ {style : Spelling} (s : Fs) (i c pl : ℕ) (O : Formed (also none c) s.table) (T : TableFits s.table) (C : Cleans s.arena s.table) (y : Bytes s.arena) (so : sound s.arena ≡ true)
    (ui : Used s.table i) (uc : Used s.table c)
    (rows : c ≡ i → ⊥)
    (links : 1 + bit (is_folder (row_at s.table c).rec.kind) ≤ (row_at s.table c).rec.nlinks)
    (lives : 1 ≤ (row_at s.table i).rec.nlinks)
    (inside : pl < (row_at s.table i).rec.blocks)
    (is-there : there s.arena (node_file (rec_at s i)) ≡ true)
    (last : slot_bytes s.arena (rec_at s i) ((rec_at s i).blocks - 1) ≡ done (run s.arena (node_file (rec_at s i)) (264 * ((rec_at s i).blocks - 1)) 264))
    (meta : s.meta ≡ done (stored_meta s.arena))
    (mid : (b : List ℕ) → Gone s.arena (row_at s.table i).rec.file ((row_at s.table i).rec.blocks - 1) pl b → (u : Table)
    → Less (also none c) s.arena s.table i c ((row_at s.table i).rec.blocks - 1) (bit (is_folder (row_at s.table c).rec.kind)) (1 + bit (is_folder (row_at s.table c).rec.kind)) u
    → Midway style (also none c) b u) where
  abbrev a : List ℕ
  a = s.arena

  abbrev t : Table
  t = s.table

  abbrev n : ℕ
  n = (row_at s.table i).rec.blocks - 1

  Ends : Fs → Type 0
  Ends d = Midway style none d.arena d.table × Used d.table i

  small : n < 4294967296
  small = omega (arith, (T.rows i ui.below).rec.blocks)

  module _ (b : List ℕ) (B : Gone a (row_at s.table i).rec.file ((row_at s.table i).rec.blocks - 1) pl b) where
    abbrev x1 : Fs
    x1 = set_rec (with_arena s b) i (with_blocks (rec_at s i) ((rec_at s i).blocks - 1))

    abbrev x2 : Fs
    x2 = set_rec x1 c (with_links (rec_at x1 c) ((rec_at x1 c).nlinks - 1))

    abbrev x3 : Fs
    x3 = set_rec x2 c (with_links (rec_at x2 c) ((rec_at x2 c).nlinks - 1))

    abbrev x4 : Fs
    x4 = set_rec x3 i (with_links (rec_at x3 i) ((rec_at x3 i).nlinks - 1))

    l1 : Less (also none c) a t i c n 0 0 x1.table
    l1 = less-first a t i c ui uc rows O T C n small

    pos1 : 0 < (rec_at x1 c).nlinks
    pos1 = omega (arith, l1.c-links, links)

    l2 : Less (also none c) a t i c n 0 1 x2.table
    l2 = less-c a t i c ui uc rows n 0 0 x1.table l1 pos1

    meta-kept : Kept a b meta_file
    meta-kept = B.others meta_file (λ q. node-other (row_at s.table i).rec.file (sym q))

    metas : s.meta ≡ done (stored_meta b)
    metas = meta ∙ λ x. done (record { super = sym (super-kept a b meta-kept) x; maps = sym (maps-kept a b meta-kept) x })

    -- the node is let go
    lets_go : (x : Fs) → x.arena ≡ b → x.meta ≡ s.meta → Less (also none c) a t i c n (bit (is_folder (row_at t c).rec.kind)) (1 + bit (is_folder (row_at t c).rec.kind)) x.table
        → Ok Ends (λ r. r ≡ 17) (release x c)
    unfolding Ends
    lets_go x e m S =
        ok-weaken
        (λ d D. (D.mid, record { below = ui.below; node = λ z. ui.node (sym (S.ids i) ∙ sym (D.ids i (λ q. rows (sym q))) ∙ z) }))
        (λ r q. q)
        (release-law x c (subst (λ (y : List ℕ). Midway style (also none c) y x.table) (sym e) (mid b B x.table S))
        (used-in t x.table S.ids c uc) (λ v. refl) (m ∙ metas ∙ ap (λ (y : List ℕ). done (stored_meta y)) (sym e)))

    falls : Ok Ends (λ r. r ≡ 17) (bind (nlinks_dec x1 c) (λ s. bind (pick (is_folder (rec_at s c).kind) (unlink_folder s i c) (done s)) (λ s. release s c)))
    unfolding unlink_folder
    falls = rw (dec-is x1 c pos1) (go (is_folder (rec_at x2 c).kind) refl)
      where
        go : (f : Bool) → is_folder (rec_at x2 c).kind ≡ f → Ok Ends (λ r. r ≡ 17) (bind (pick f (bind (nlinks_dec x2 c) (λ s. nlinks_dec s i)) (done x2)) (λ s. release s c))
        go false e =
            lets_go x2 refl refl
            (subst (λ (z : Bool). Less (also none c) a t i c n (bit z) (1 + bit z) x2.table) (sym (ap is_folder (sym l2.c-kind) ∙ e)) l2)
        go true e =
            let f : is_folder (row_at t c).rec.kind ≡ true = ap is_folder (sym l2.c-kind) ∙ e in
            let pos2 : 0 < (rec_at x2 c).nlinks = omega (arith, l2.c-links, links, ap bit f) in
            let l3 : Less (also none c) a t i c n 0 2 x3.table = less-c a t i c ui uc rows n 0 1 x2.table l2 pos2 in
            let pos3 : 0 < (rec_at x3 i).nlinks = omega (arith, l3.i-links, lives) in
            let l4 : Less (also none c) a t i c n 1 2 x4.table = less-i a t i c ui uc rows n 0 2 x3.table l3 pos3 in
            rw (dec-is x2 c pos2, dec-is x3 i pos3)
            (lets_go x4 refl refl (subst (λ (z : Bool). Less (also none c) a t i c n (bit z) (1 + bit z) x4.table) (sym f) l4))

  pub removes : Ok (λ (d : Fs). Midway style none d.arena d.table × Used d.table i) (λ r. r ≡ 17) (dirent_node_remove s i c pl)
  unfolding dirent_node_remove Ends
  removes =
      ok-bind (remove-law s i pl inside y so is-there last) λ x R.
      subst (λ (y : Fs). Ok Ends (λ r. r ≡ 17) (bind (nlinks_dec y c) (λ s. bind (pick (is_folder (rec_at s c).kind) (unlink_folder s i c) (done s)) (λ s. release s c)))) (sym R.is)
      (falls R.arena R.gone)
