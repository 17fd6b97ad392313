-- The steps of create up to the store of superblock and maps: a node is made, a folder gets its two slots, the folder above a slot for it, and
-- links rise. The image is not fair in between: what is carried along are plain facts of table, arena and memory.
use mathlib.Core.Path.{◌≡◌, refl, sym, ap, ◌∙◌, subst}
use mathlib.Core.Bool.{Bool, true, false}
use mathlib.Core.List.{List}
use mathlib.Core.Logic.{◌≢◌}
use Prim.Native.Nat.{ℕ, ◌+◌, ◌*◌, ◌<◌}
use native.Mathlib.Omega.{arith}
use borrow.Author.Tests.{lt-ltb}
use Rattle.base.specs.Count.{bit}
use Rattle.base.specs.Out.{done, bind, Ok, went}
use Rattle.base.specs.Search.{pick}
use Rattle.base.proofs.Outs.{ok-bind, ok-weaken}
use Rattle.base.proofs.Bools.{true-false}
use Rattle.std.specs.Prelude.{Some}
use Rattle.le.specs.Le.{Bytes}
use Rattle.structs.specs.Fits.{EntryFits}
use Rattle.structs.specs.Layout.{entry_bytes}
use Rattle.structs.specs.Types.{is_folder}
use Rattle.structs.specs.declared.DiskEntry.{DiskEntry}
use Rattle.structs.specs.declared.DiskINode.{DiskINode}
use Rattle.arena.specs.Fields.{file}
use Rattle.table.specs.declared.Table.{Table}
use Rattle.table.specs.Table.{row_at, free_row}
use Rattle.table_laws.specs.Rules.{none}
use Rattle.files.specs.Read.{there, length_of}
use Rattle.files_laws.specs.Laws.{Put, Kept}
use Rattle.sefs.specs.State.{Fs, Meta, with_arena}
use Rattle.sefs.specs.Records.{with_links, with_blocks}
use Rattle.sefs.specs.Meta.{meta_file}
use Rattle.sefs.specs.Nodes.{node_file, rec_at, id_at, set_rec}
use Rattle.sefs.specs.Folders.{entry, dirent_init, dirent_append, nlinks_inc}
use Rattle.sefs.specs.Create.{birth, name_folder, named}
use Rattle.tree.specs.Tree.{Spelling}
use Rattle.image.specs.Midway.{Used, Midway}
use Rattle.image.proofs.Images.{Like}
use Rattle.image.proofs.Metas.{kept_then, node-other}
use Rattle.image.proofs.Appends.{file-apart, slot_kept, append-law, entry-bytes, put-meta, slot-before, slot-new, put-long, put_small}
use Rattle.image.proofs.Records.{links-fit, blocks-fit}
use Rattle.image.proofs.Inits.{Laid, Begun, init-law}
use Rattle.image.proofs.Makes.{Ground, ground-kept}
use Rattle.image.proofs.Newborns.{Rowed, used-child, child-set, own-set}
use Rattle.image.proofs.NodeFiles.{Young, Housed, young-kept}

-- ---- the state in between: superblock and maps in memory are m, row c is node id's with record r, row i the folder's with record s

pub record Stage (a : List ℕ) (t : Table) (c i id : ℕ) (m : Meta) (r s : DiskINode) (F : List ℕ → Type 0) (x : Fs) : Type 0 where
  pub meta : x.meta ≡ done m
  pub rows : Rowed a t c i id r s x.table
  pub ground : Ground a (131072 * m.super.groups) x.arena
  pub files : F x.arena

-- file f is there and empty, and the others are as they were
pub record Bare (a f b : List ℕ) : Type 0 where
  pub exists : there b (file 1 f) ≡ true
  pub empty : length_of b (file 1 f) ≡ 0
  pub others : (g : List ℕ) → g ≢ f → Kept a b (file 1 g)

-- file f is the new node's, and the others are as they were
pub record Raised (a f : List ℕ) (kind id up : ℕ) (b : List ℕ) : Type 0 where
  pub young : Young f kind id up b
  pub others : (g : List ℕ) → g ≢ f → Kept a b (file 1 g)

-- and the folder's has a slot more
pub record Settled (a f : List ℕ) (kind id up : ℕ) (s : DiskINode) (e : DiskEntry) (b : List ℕ) : Type 0 where
  pub young : Young f kind id up b
  pub housed : Housed a s e b
  pub others : (g : List ℕ) → g ≢ f → g ≢ s.file → Kept a b (file 1 g)

module _ {style : Spelling} (a : List ℕ) (t : Table) (M : Midway style none a t) (i : ℕ) (ui : Used t i) (c : ℕ) (free : free_row t ≡ Some c) (id : ℕ) (m : Meta) (some : id ≢ 0) where
  abbrev d : ℕ
  d = (row_at t i).id

  abbrev ri : DiskINode
  ri = (row_at t i).rec

  -- ---- links

  child-inc : (r s : DiskINode) (F : List ℕ → Type 0) (x : Fs) → Stage a t c i id m r s F x → r.nlinks < 65535
      → Ok (Stage a t c i id m (with_links r (r.nlinks + 1)) s F) (λ n. n ≡ 17) (nlinks_inc x c)
  unfolding nlinks_inc
  child-inc r s F x S l =
      let L = S.rows.child-like in
      rw (lt-ltb (rec_at x c).nlinks 65535 (omega (arith, L.nlinks)))
      (went (record {
        meta = S.meta;
        rows = child-set a t M c i id free ui some r s x.table S.rows (with_links (rec_at x c) ((rec_at x c).nlinks + 1)) (with_links r (r.nlinks + 1))
            (links-fit (rec_at x c) ((rec_at x c).nlinks + 1) (S.rows.fits.rows c (used-child a t M c i id free ui some r s x.table S.rows).below).rec (omega (arith, L.nlinks)))
            (record { kind = L.kind; nlinks = ap (λ (n : ℕ). n + 1) L.nlinks; blocks = L.blocks; size = L.size; file = L.file });
        ground = S.ground;
        files = S.files;
      }))

  own-inc : (r s : DiskINode) (F : List ℕ → Type 0) (x : Fs) → Stage a t c i id m r s F x → s.nlinks < 65535
      → Ok (Stage a t c i id m r (with_links s (s.nlinks + 1)) F) (λ n. n ≡ 17) (nlinks_inc x i)
  unfolding nlinks_inc
  own-inc r s F x S l =
      let L = S.rows.own_like in
      rw (lt-ltb (rec_at x i).nlinks 65535 (omega (arith, L.nlinks)))
      (went (record {
        meta = S.meta;
        rows = own-set a t M c i id free ui some r s x.table S.rows (with_links (rec_at x i) ((rec_at x i).nlinks + 1)) (with_links s (s.nlinks + 1))
            (links-fit (rec_at x i) ((rec_at x i).nlinks + 1) (S.rows.fits.rows i ui.below).rec (omega (arith, L.nlinks)))
            (record { kind = L.kind; nlinks = ap (λ (n : ℕ). n + 1) L.nlinks; blocks = L.blocks; size = L.size; file = L.file });
        ground = S.ground;
        files = S.files;
      }))

  -- the node is named, a folder by its own `.` too, and then its folder by its `..`
  pub named-law : (r s : DiskINode) (F : List ℕ → Type 0) (x : Fs) (kind : ℕ) → Stage a t c i id m r s F x → r.nlinks ≡ 0 → (is_folder kind ≡ true → s.nlinks < 65535)
      → Ok (Stage a t c i id m (with_links r (1 + bit (is_folder kind))) (with_links s (s.nlinks + bit (is_folder kind))) F) (λ n. n ≡ 17) (named x i c kind)
  unfolding named name_folder
  named-law r s F x kind S nil few =
      ok-bind (child-inc r s F x S (omega arith)) λ y T. folder y T (is_folder kind) refl
    where
      folder : (y : Fs) → Stage a t c i id m (with_links r (r.nlinks + 1)) s F y → (b : Bool) → is_folder kind ≡ b
          → Ok (Stage a t c i id m (with_links r (1 + bit b)) (with_links s (s.nlinks + bit b)) F) (λ n. n ≡ 17) (pick b (bind (nlinks_inc y c) (λ z. nlinks_inc z i)) (done y))
      folder y T true e =
          ok-bind (child-inc (with_links r (r.nlinks + 1)) s F y T (omega arith)) λ z U.
          ok-weaken (λ w X. subst (λ (n : ℕ). Stage a t c i id m (with_links r n) (with_links s (s.nlinks + 1)) F w) (let q : r.nlinks + 1 + 1 ≡ 2 = omega arith in q) X) (λ n q. q)
          (own-inc (with_links r (r.nlinks + 1 + 1)) s F z U (few e))
      folder y T false e =
          went (subst (λ (n : ℕ). Stage a t c i id m (with_links r n) (with_links s (s.nlinks + 0)) F y) (let q : r.nlinks + 1 ≡ 1 = omega arith in q)
          (subst (λ (n : ℕ). Stage a t c i id m (with_links r (r.nlinks + 1)) (with_links s n) F y) (let q : s.nlinks ≡ s.nlinks + 0 = omega arith in q) T))

  -- ---- a folder's two slots

  begun-stage : (r s : DiskINode) (x : Fs) → Stage a t c i id m r s (Bare a r.file) x
      → is_folder r.kind ≡ true → (y : Fs) → Begun x c (id_at x i) y → Stage a t c i id m (with_blocks r 2) s (Raised a r.file r.kind id d) y
  begun-stage r s x S dir y B =
      let L : Laid x.arena r.file id d B.arena =
      subst (λ (f : List ℕ). Laid x.arena f id d B.arena) S.rows.child-like.file
      (subst (λ (k : ℕ). Laid x.arena (rec_at x c).file k d B.arena) S.rows.child
      (subst (λ (k : ℕ). Laid x.arena (rec_at x c).file (id_at x c) k B.arena) S.rows.own B.laid)) in
      let l = S.rows.child-like in
      subst (Stage a t c i id m (with_blocks r 2) s (Raised a r.file r.kind id d)) (sym B.is)
      (record {
        meta = S.meta;
        rows = child-set a t M c i id free ui some r s x.table S.rows (with_blocks (rec_at x c) 2) (with_blocks r 2)
            (blocks-fit (rec_at x c) 2 (S.rows.fits.rows c (used-child a t M c i id free ui some r s x.table S.rows).below).rec (omega arith))
            (record { kind = l.kind; nlinks = l.nlinks; blocks = refl; size = l.size; file = l.file });
        ground = ground-kept a (131072 * m.super.groups) x.arena B.arena S.ground L.size (L.bytes S.ground.bytes) (L.keeps S.ground.bytes S.ground.sound)
            (L.others meta_file (λ q. node-other r.file (sym q)));
        files = record {
          young = record { exists = L.exists; empty = λ z. absurd (true-false dir z); size = λ z. L.long; dot = λ z. L.dot; dots = λ z. L.dots };
          others = λ g n. kept_then a x.arena B.arena (file 1 g) (S.files.others g n) (L.others (file 1 g) (file-apart r.file g (λ q. n (sym q))));
        };
      })

  pub birth-law : (r s : DiskINode) (x : Fs) → Stage a t c i id m r s (Bare a r.file) x → r.blocks ≡ 0
      → Ok (Stage a t c i id m (with_blocks r (2 * bit (is_folder r.kind))) s (Raised a r.file r.kind id (row_at t i).id)) (λ n. n ≡ 17) (birth x i c r.kind)
  unfolding birth
  birth-law r s x S nil = go (is_folder r.kind) refl
    where
      l : Like (rec_at x c) r
      l = S.rows.child-like

      go : (b : Bool) → is_folder r.kind ≡ b
          → Ok (Stage a t c i id m (with_blocks r (2 * bit b)) s (Raised a r.file r.kind id (row_at t i).id)) (λ n. n ≡ 17) (pick b (dirent_init x c (id_at x i)) (done x))
      go true e =
          ok-weaken (begun-stage r s x S e) (λ n q. q)
          (init-law x c (id_at x i)
          (omega (arith, (used-child a t M c i id free ui some r s x.table S.rows).below, S.rows.fits.rows-34))
          (S.rows.fits.rows c (used-child a t M c i id free ui some r s x.table S.rows).below).id
          (S.rows.fits.rows i ui.below).id
          (ap (λ (f : List ℕ). there x.arena (file 1 f)) l.file ∙ S.files.exists)
          (ap (λ (f : List ℕ). length_of x.arena (file 1 f)) l.file ∙ S.files.empty))
      go false e = went (record {
        meta = S.meta;
        rows = subst (λ (n : ℕ). Rowed a t c i id (with_blocks r n) s x.table) nil S.rows;
        ground = S.ground;
        files = record {
          young = record { exists = S.files.exists; empty = λ z. S.files.empty; size = λ z. absurd (true-false z e); dot = λ z. absurd (true-false z e); dots = λ z. absurd (true-false z e) };
          others = S.files.others;
        };
      })

  -- ---- the folder above gets a slot

  module _ (r : DiskINode) (name : List ℕ) (x : Fs) (S : Stage a t c i id m r (row_at t i).rec (Raised a r.file r.kind id (row_at t i).id) x)
      (fits : EntryFits (entry id name r.kind)) (was : there a (file 1 (row_at t i).rec.file) ≡ true) (long : length_of a (file 1 (row_at t i).rec.file) ≡ 264 * (row_at t i).rec.blocks)
      (apart : (row_at t i).rec.file ≢ r.file) where
    abbrev e : DiskEntry
    e = entry id name r.kind

    l : Like (rec_at x i) ri
    l = S.rows.own_like

    kept : Kept a x.arena (node_file ri)
    kept = S.files.others ri.file apart

    exists : there x.arena (file 1 ri.file) ≡ true
    exists = kept.exists ∙ was

    module _ (b : List ℕ) (Q : Put x.arena (node_file (rec_at x i)) (264 * (rec_at x i).blocks) (entry_bytes (entry id name r.kind)) b) where
      P : Put x.arena (file 1 ri.file) (264 * ri.blocks) (entry_bytes e) b
      P = subst (λ (f : List ℕ). Put x.arena (file 1 f) (264 * ri.blocks) (entry_bytes e) b) l.file (subst (λ (n : ℕ). Put x.arena (node_file (rec_at x i)) (264 * n) (entry_bytes e) b) l.blocks Q)

      src : Bytes (entry_bytes e)
      src = entry-bytes x.arena ri.file ri.blocks e fits exists

      slot-stage : Stage a t c i id m r (with_blocks ri (ri.blocks + 1)) (Settled a r.file r.kind id d ri e) (set_rec (with_arena x b) i (with_blocks (rec_at x i) ((rec_at x i).blocks + 1)))
      slot-stage = record {
        meta = S.meta;
        rows = own-set a t M c i id free ui some r ri x.table S.rows (with_blocks (rec_at x i) ((rec_at x i).blocks + 1)) (with_blocks ri (ri.blocks + 1))
            (blocks-fit (rec_at x i) ((rec_at x i).blocks + 1) (S.rows.fits.rows i ui.below).rec (omega (arith, l.blocks, put_small x.arena ri.file ri.blocks e fits exists b P)))
            (record { kind = l.kind; nlinks = l.nlinks; blocks = ap (λ (n : ℕ). n + 1) l.blocks; size = l.size; file = l.file });
        ground = ground-kept a (131072 * m.super.groups) x.arena b S.ground P.size (P.bytes S.ground.bytes src) (P.keeps S.ground.bytes src S.ground.sound)
            (put-meta x.arena ri.file ri.blocks e fits exists b P);
        files = record {
          young = young-kept r.file r.kind id d x.arena b S.files.young (P.others (file 1 r.file) (file-apart ri.file r.file apart));
          housed = record {
            exists = P.exists;
            long = put-long x.arena ri.file ri.blocks e fits exists b P (kept.long ∙ long);
            slots = λ y q k h. slot-before x.arena ri.file ri.blocks e fits exists b P y ri q refl k h ∙ slot_kept a x.arena ri ri refl kept k;
            new = slot-new x.arena ri.file ri.blocks e fits exists b P;
          };
          others = λ g n z. kept_then a x.arena b (file 1 g) (S.files.others g n) (P.others (file 1 g) (file-apart ri.file g (λ q. z (sym q))));
        };
      }

    pub slot-law : Ok (Stage a t c i id m r (with_blocks (row_at t i).rec ((row_at t i).rec.blocks + 1)) (Settled a r.file r.kind id (row_at t i).id (row_at t i).rec (entry id name r.kind))) (λ n. n ≡ 17)
        (dirent_append x i (entry (id_at x c) name r.kind))
    slot-law =
        subst (λ (k : ℕ). Ok (Stage a t c i id m r (with_blocks ri (ri.blocks + 1)) (Settled a r.file r.kind id d ri e)) (λ n. n ≡ 17) (dirent_append x i (entry k name r.kind))) (sym S.rows.child)
        (ok-weaken (λ y Q. subst (Stage a t c i id m r (with_blocks ri (ri.blocks + 1)) (Settled a r.file r.kind id d ri e)) (sym Q.is) (slot-stage Q.arena Q.put)) (λ n q. q)
        (append-law x i e fits (ap (λ (f : List ℕ). there x.arena (file 1 f)) l.file ∙ exists)))
