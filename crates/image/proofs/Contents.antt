-- A file's own bytes: a write or a resize in a row that is no folder's. File length and size move together, so the image stays fair.
use mathlib.Core.Path.{◌≡◌, refl, sym, ap, ◌∙◌, subst}
use mathlib.Core.Bool.{Bool, true, false}
use mathlib.Core.List.{List}
use mathlib.Core.Logic.{◌≢◌, ⊎_elim}
use Prim.Native.Nat.{ℕ, ◌+◌, ◌<◌, ◌≤◌, ◌^◌, max}
use native.Mathlib.Omega.{arith}
use lib.Dec.{ltb}
use lib.ListN.{length}
use borrow.Author.Tests.{ltb-false}
use Rattle.base.specs.Out.{done, Ok, went}
use Rattle.base.specs.Search.{pick}
use Rattle.base.proofs.Outs.{ok-bind, ok-weaken}
use Rattle.base.proofs.Bools.{and_parts, true-false}
use Rattle.base.proofs.Finds.{eq-cases}
use Rattle.base.proofs.Sames.{test-fails}
use Rattle.le.specs.Le.{Bytes}
use Rattle.structs.specs.Fits.{RecordFits}
use Rattle.structs.specs.Types.{is_folder}
use Rattle.structs.specs.declared.DiskINode.{DiskINode}
use Rattle.arena.specs.Fields.{File, file}
use Rattle.sound.specs.Sound.{sound}
use Rattle.table.specs.declared.Table.{Table}
use Rattle.table.specs.Table.{row_at, take_row}
use Rattle.table_bytes.specs.Fits.{TableFits}
use Rattle.table_laws.specs.Rules.{Formed}
use Rattle.files.specs.Read.{there, length_of}
use Rattle.files.specs.Store.{longest, put_file, cut_file}
use Rattle.files_laws.specs.Laws.{Put, PutRefused, Cut, CutRefused, Kept}
use Rattle.files_laws.proofs.Bounds.{legal-same}
use Rattle.files_laws.proofs.Parts.{file-cases}
use Rattle.files_laws.proofs.Put.{put-law}
use Rattle.files_laws.proofs.Cut.{cut-law}
use Rattle.sefs.specs.Meta.{meta_file}
use Rattle.sefs.specs.State.{Fs, with_arena}
use Rattle.sefs.specs.Records.{with_size}
use Rattle.sefs.specs.Nodes.{node_file, rec_at}
use Rattle.sefs.specs.Contents.{resize_steps, write_steps}
use Rattle.rules.specs.Image.{is_node, rec_of, is_open, is_folder_at, slot_in}
use Rattle.tree.specs.Tree.{Spelling, Tidy, folder_at}
use Rattle.tree.proofs.Trees.{folder-is}
use Rattle.tree.proofs.Contents.{with_contents, contents-tidy}
use Rattle.image.specs.Midway.{Used, Fair, tree_of, plain, Midway}
use Rattle.image.proofs.Metas.{kept_then, node-other}
use Rattle.image.proofs.Appends.{slot_kept}
use Rattle.image.proofs.Drops.{mid-rec}
use Rattle.image.proofs.Resets.{Cleans, reset-id, reset-open, reset-own, reset-other, reset-formed, reset-fits, reset-clean, recs-kept, nodes-kept, ids-kept, fair-by-tree}
use Rattle.files_laws.specs.Laws as laws

-- ---- the arena: file f has length n, and every other file is as it was

pub record RewrittenFile (a : List ℕ) (f : File) (n : ℕ) (b : List ℕ) : Type 0 where
  pub size : length b ≡ length a
  pub bytes : Bytes b
  pub sound : sound b ≡ true
  pub exists : there b f ≡ true
  pub long : length_of b f ≡ n
  pub others : (g : File) → f ≢ g → Kept a b g

put-rewrites : (a : List ℕ) (f : File) (place : ℕ) (src b : List ℕ) → Bytes a → Bytes src → sound a ≡ true → Put a f place src b → RewrittenFile a f (max (length_of a f) (place + length src)) b
put-rewrites a f place src b y s fine P = record { size = P.size; bytes = P.bytes y s; sound = P.keeps y s fine; exists = P.exists; long = P.long; others = P.others }

cut-rewrites : (a : List ℕ) (f : File) (n : ℕ) (b : List ℕ) → Bytes a → sound a ≡ true → Cut a f n b → RewrittenFile a f n b
cut-rewrites a f n b y fine C = record { size = C.size; bytes = C.bytes y; sound = C.keeps y fine; exists = C.exists; long = C.long; others = C.others }

rewritten-then : (a : List ℕ) (f : File) (m n : ℕ) (b c : List ℕ) → RewrittenFile a f m b → RewrittenFile b f n c → RewrittenFile a f n c
rewritten-then a f m n b c X Y = record {
  size = Y.size ∙ X.size;
  bytes = Y.bytes;
  sound = Y.sound;
  exists = Y.exists;
  long = Y.long;
  others = λ g d. kept_then a b c g (X.others g d) (Y.others g d);
}

-- ---- the table: the record of row i has size n, and all else is as it was

pub record SizedRow (own : ℕ → Type 0) (a : List ℕ) (t : Table) (i n : ℕ) (u : Table) : Type 0 where
  pub formed : Formed own u
  pub fits : TableFits u
  pub ids : (j : ℕ) → (row_at u j).id ≡ (row_at t j).id
  pub clean : Cleans a u
  pub opens : (x : ℕ) → is_open u x ≡ is_open t x
  pub same : (x : ℕ) → with_size (rec_of a u x) 0 ≡ with_size (rec_of a t x) 0
  pub here : (rec_of a u (row_at t i).id).size ≡ n
  pub else : (x : ℕ) → x ≢ (row_at t i).id → (rec_of a u x).size ≡ (rec_of a t x).size

pub size_fits : (r : DiskINode) (n : ℕ) → RecordFits r → n < 2 ^ 64 → RecordFits (with_size r n)
size_fits r n R l = record {
  size = l;
  kind = R.kind;
  mode = R.mode;
  nlinks = R.nlinks;
  blocks = R.blocks;
  uid = R.uid;
  gid = R.gid;
  pad = R.pad;
  atime = R.atime;
  mtime = R.mtime;
  ctime = R.ctime;
  file = R.file;
  mac = R.mac;
  file_bytes = R.file_bytes;
  mac_bytes = R.mac_bytes;
}

module _ {style : Spelling} {own : ℕ → Type 0} (a : List ℕ) (t : Table) (M : Midway style own a t) (i : ℕ) (used : Used t i) where
  rec-is : rec_of a t (row_at t i).id ≡ (row_at t i).rec
  rec-is = mid-rec a t M.formed i used

  pub sized-none : SizedRow own a t i (row_at t i).rec.size t
  sized-none = record {
    formed = M.formed;
    fits = M.fits;
    ids = λ j. refl;
    clean = M.fair.rule4.clean;
    opens = λ x. refl;
    same = λ x. refl;
    here = ap (λ (r : DiskINode). r.size) rec-is;
    else = λ x d. refl;
  }

  pub sized_set : (n : ℕ) → n ≤ longest → SizedRow own a t i n (take_row t i (row_at t i).id (with_size (row_at t i).rec n) true)
  sized_set n l =
      record {
        formed = reset-formed t M.formed i used (with_size (row_at t i).rec n);
        fits = reset-fits t M.formed i used (with_size (row_at t i).rec n) M.fits (size_fits (row_at t i).rec n (M.fits.rows i used.below).rec (omega arith));
        ids = reset-id t M.formed i used (with_size (row_at t i).rec n);
        clean = reset-clean t M.formed i used (with_size (row_at t i).rec n) a M.fair.rule4.clean;
        opens = reset-open t M.formed i used (with_size (row_at t i).rec n);
        same = λ x. ⊎_elim
            (λ (e : x ≡ (row_at t i).id). subst (λ (y : ℕ). with_size (rec_of a (take_row t i (row_at t i).id (with_size (row_at t i).rec n) true) y) 0 ≡ with_size (rec_of a t y) 0) (sym e)
            (ap (λ (r : DiskINode). with_size r 0) (reset-own t M.formed i used (with_size (row_at t i).rec n) a) ∙ ap (λ (r : DiskINode). with_size r 0) (sym rec-is)))
            (λ d. ap (λ (r : DiskINode). with_size r 0) (reset-other t M.formed i used (with_size (row_at t i).rec n) a x d))
            (eq-cases x (row_at t i).id);
        here = ap (λ (r : DiskINode). r.size) (reset-own t M.formed i used (with_size (row_at t i).rec n) a);
        else = λ x d. ap (λ (r : DiskINode). r.size) (reset-other t M.formed i used (with_size (row_at t i).rec n) a x d);
      }

  -- ---- the image then

  module _ (no-dir : is_folder (row_at t i).rec.kind ≡ false) (n : ℕ) (b : List ℕ) (B : RewrittenFile a (node_file (row_at t i).rec) n b) (u : Table) (S : SizedRow own a t i n u) where
    abbrev d : ℕ
    d = (row_at t i).id

    A : Fair style a t
    A = M.fair

    node-d : is_node a d ≡ true
    node-d = A.rule4.node i used.below used.node

    file-d : (rec_of a t d).file ≡ (row_at t i).rec.file
    file-d = ap (λ (r : DiskINode). r.file) rec-is

    K : Kept a b meta_file
    K = B.others meta_file (λ q. node-other (row_at t i).rec.file (sym q))

    rec-b : (x : ℕ) → rec_of b u x ≡ rec_of a u x
    rec-b = recs-kept a b u K

    field : {X : Type 0} (q : DiskINode → X) → ((r : DiskINode) (m : ℕ) → q (with_size r m) ≡ q r) → (x : ℕ) → q (rec_of b u x) ≡ q (rec_of a t x)
    field q h x = ap q (rec-b x) ∙ sym (h (rec_of a u x) 0) ∙ ap q (S.same x) ∙ h (rec_of a t x) 0

    kinds : (x : ℕ) → (rec_of b u x).kind ≡ (rec_of a t x).kind
    kinds = field (λ r. r.kind) (λ r m. refl)

    files : (x : ℕ) → (rec_of b u x).file ≡ (rec_of a t x).file
    files = field (λ r. r.file) (λ r m. refl)

    -- another node's file is as it was
    kept : (x : ℕ) → is_node a x ≡ true → x ≢ d → Kept a b (node_file (rec_of a t x))
    kept x m z = B.others (node_file (rec_of a t x)) (λ q. z (A.rule5.distinct x d m node-d (sym (ap (λ (f : File). f.name) q) ∙ sym file-d)))

    long : (x : ℕ) → is_node a x ≡ true → x ≢ d → length_of b (node_file (rec_of b u x)) ≡ length_of a (node_file (rec_of a t x))
    long x m z = ap (λ (f : List ℕ). length_of b (file 1 f)) (files x) ∙ (kept x m z).long

    apart : (x : ℕ) → folder_at (tree_of a t) x ≡ true → x ≢ d
    apart x f q = true-false (ap (λ (y : ℕ). is_folder (rec_of a t y).kind) (sym q) ∙ (and_parts (is_node a x) (is_folder (rec_of a t x).kind) f).1) (ap (λ (r : DiskINode). is_folder r.kind) rec-is ∙ no-dir)

    tree_is : tree_of b u ≡ with_contents (tree_of a t) (tree_of b u).size (tree_of b u).long (tree_of b u).slot
    tree_is =
        λ x. record {
          ids = ids-kept a b K x;
          node = λ k. nodes-kept a b K k x;
          kind = λ k. kinds k x;
          links = λ k. field (λ r. r.nlinks) (λ r m. refl) k x;
          blocks = λ k. field (λ r. r.blocks) (λ r m. refl) k x;
          size = λ k. (rec_of b u k).size;
          long = λ k. length_of b (node_file (rec_of b u k));
          slot = λ k j. slot_in b (rec_of b u k) j;
          opened = λ k. S.opens k x;
        }

    tidy : Tidy style (tree_of b u)
    tidy =
        subst (Tidy style) (sym tree_is)
        (contents-tidy (tree_of a t) (tree_of b u).size (tree_of b u).long (tree_of b u).slot I
        (λ x f. long x (folder-is (tree_of a t) x f) (apart x f))
        (λ x f k. slot_kept a b (rec_of b u x) (rec_of a t x) (files x) (kept x (folder-is (tree_of a t) x f) (apart x f)) k)
        (λ x m f. ⊎_elim
        (λ (q : x ≡ d). subst (λ (y : ℕ). length_of b (node_file (rec_of b u y)) ≡ (rec_of b u y).size) (sym q)
        (ap (λ (g : List ℕ). length_of b (file 1 g)) (files d ∙ file-d) ∙ B.long ∙ sym (ap (λ (r : DiskINode). r.size) (rec-b d) ∙ S.here)))
        (λ z. long x m z ∙ I.sized x m f ∙ sym (ap (λ (r : DiskINode). r.size) (rec-b x) ∙ S.else x z))
        (eq-cases x d)))
      where
        I : Tidy style (tree_of a t)
        I = M.fair.tidy

    theirs : (f : List ℕ) → there b (file 1 f) ≡ there a (file 1 f)
    theirs f =
        ⊎_elim
        (λ (q : node_file (row_at t i).rec ≡ file 1 f). subst (λ (g : File). there b g ≡ there a g) q (B.exists ∙ sym (ap (λ (r : DiskINode). there a (node_file r)) (sym rec-is) ∙ A.rule5.own d node-d)))
        (λ z. (B.others (file 1 f) z).exists)
        (file-cases (node_file (row_at t i).rec) (file 1 f))

    pub rewritten-mid : Midway style own b u
    rewritten-mid = record {
      fair = fair-by-tree (plain style) a b t u A
          (record { length = legal-same a b B.size ∙ A.rule1.length; sound = B.sound })
          K theirs S.ids S.clean (λ x m. kinds x) (λ x m. files x) tidy;
      formed = S.formed;
      bytes = B.bytes;
      fits = S.fits;
    }

-- ---- the steps

module _ {style : Spelling} {own : ℕ → Type 0} (s : Fs) (M : Midway style own s.arena s.table) (i : ℕ) (used : Used s.table i) (no-dir : is_folder (rec_at s i).kind ≡ false) where
  abbrev a : List ℕ
  a = s.arena

  abbrev f : File
  f = node_file (rec_at s i)

  pub is-there : there a f ≡ true
  is-there = ap (λ (r : DiskINode). there a (node_file r)) (sym (rec-is a s.table M i used)) ∙ M.fair.rule5.own (row_at s.table i).id (M.fair.rule4.node i used.below used.node)

  -- its length is its size
  pub long-is : length_of a f ≡ (rec_at s i).size
  unfolding is_folder_at
  long-is =
      let e = rec-is a s.table M i used in
      ap (λ (r : DiskINode). length_of a (node_file r)) (sym e)
      ∙ M.fair.tidy.sized (row_at s.table i).id (M.fair.rule4.node i used.below used.node)
      (test-fails _ (λ x. true-false (and_parts (is_node a (row_at s.table i).id) _ x).1 (ap (λ (r : DiskINode). is_folder r.kind) e ∙ no-dir)))
      ∙ ap (λ (r : DiskINode). r.size) e

  cut-near : (b : List ℕ) (n : ℕ) → there b (node_file (rec_at s i)) ≡ true → n ≤ longest → Ok (Cut b (node_file (rec_at s i)) n) (λ r. r ≡ 17) (cut_file b (node_file (rec_at s i)) n)
  cut-near b n e l = ok-weaken (λ c C. C) (λ r q. why q) (cut-law b f n)
    where
      why : {r : ℕ} → CutRefused b (node_file (rec_at s i)) n r → r ≡ 17
      why (laws.missing q) = absurd (true-false e q)
      why (laws.far _ g) = absurd (omega arith)

  pub resize-mid : (n : ℕ) → n ≤ longest → Ok (λ (d : Fs). Midway style own d.arena d.table) (λ r. r ≡ 17) (resize_steps s i n)
  unfolding resize_steps
  resize-mid n l =
      ok-bind (cut-near a n is-there l) λ b C.
      went (rewritten-mid a s.table M i used no-dir n b (cut-rewrites a f n b M.bytes M.fair.rule1.sound C)
      (take_row s.table i (row_at s.table i).id (with_size (rec_at s i) n) true) (sized_set a s.table M i used n l))

  module _ (place : ℕ) (src : List ℕ) (y : Bytes src) (l : place + length src ≤ longest) where
    abbrev end : ℕ
    end = place + length src

    put-near : Ok (Put a f place src) (λ r. r ≡ 17) (put_file a f place src)
    put-near = ok-weaken (λ b P. P) (λ r q. why q) (put-law a f place src)
      where
        why : {r : ℕ} → PutRefused a f place (length src) r → r ≡ 17
        why (laws.missing q) = absurd (true-false is-there q)
        why (laws.far _ _) = refl
        why (laws.full _ _ _) = refl

    put_in : (b : List ℕ) → Put a f place src b → RewrittenFile a f (max (length_of a f) end) b
    put_in b P = put-rewrites a f place src b M.bytes y M.fair.rule1.sound P

    -- past the size the length becomes the end, and so does the size; else both stay
    rest : (b : List ℕ) → Put a f place src b → (g : Bool) → ltb (rec_at s i).size (place + length src) ≡ g
        → Ok (λ (d : Fs). Midway style own d.arena d.table) (λ r. r ≡ 17) (pick g (resize_steps (with_arena s b) i (place + length src)) (done (with_arena s b)))
    unfolding resize_steps
    rest b P true e =
        let X = put_in b P in
        ok-bind (cut-near b end P.exists l) λ c C.
        went (rewritten-mid a s.table M i used no-dir end c (rewritten-then a f (max (length_of a f) end) end b c X (cut-rewrites b f end c X.bytes X.sound C))
        (take_row s.table i (row_at s.table i).id (with_size (rec_at s i) end) true) (sized_set a s.table M i used end l))
    rest b P false e =
        let z : max (length_of a f) end ≡ (rec_at s i).size = omega (arith, long-is, ltb-false (rec_at s i).size end e) in
        went (rewritten-mid a s.table M i used no-dir (rec_at s i).size b (subst (λ (n : ℕ). RewrittenFile a f n b) z (put_in b P)) s.table (sized-none a s.table M i used))

    pub write_mid : Ok (λ (d : Fs). Midway style own d.arena d.table) (λ r. r ≡ 17) (write_steps s i place src)
    unfolding write_steps
    write_mid = ok-bind put-near λ b P. rest b P (ltb (rec_at s i).size end) refl
