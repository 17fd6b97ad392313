-- The end of a folder's move: the links of its two folders follow, and its `..`. Then the image is fair as it is.
use mathlib.Core.Path.{◌≡◌, refl, sym, ap, ◌∙◌, subst}
use mathlib.Core.Bool.{Bool, true, false, ◌&&◌}
use mathlib.Core.List.{List}
use mathlib.Core.Logic.{◌≢◌, ⊎_elim}
use Prim.Native.Nat.{ℕ, ◌+◌, ◌*◌, ◌-◌, ◌≤◌, ◌<◌}
use native.Mathlib.Omega.{arith}
use lib.Dec.{eqb, ltb}
use borrow.Author.Tests.{ltb-true, eq-eqb, ne_eqb}
use Rattle.base.specs.Out.{done, Ok, went}
use Rattle.base.proofs.Outs.{ok-weaken, ok-guard}
use Rattle.base.specs.Search.{pick}
use Rattle.base.proofs.Bools.{and_both, and-false, true-false}
use Rattle.base.proofs.Finds.{eq-cases}
use Rattle.structs.specs.Fits.{EntryFits}
use Rattle.structs.specs.Layout.{entry_bytes}
use Rattle.structs.specs.Types.{is_folder}
use Rattle.structs.specs.declared.DiskINode.{DiskINode}
use Rattle.arena.specs.Fields.{File, file}
use Rattle.table.specs.declared.Table.{Table}
use Rattle.table.specs.Table.{row_at}
use Rattle.table_laws.specs.Rules.{also, none}
use Rattle.files.specs.Read.{there, length_of}
use Rattle.files_laws.specs.Laws.{Put, Kept}
use Rattle.files_laws.proofs.Bounds.{legal-same}
use Rattle.sefs_laws.proofs.Clear.{Clear, clear, clear-17}
use Rattle.sefs.specs.State.{Fs, with_table}
use Rattle.sefs.specs.Meta.{meta_file}
use Rattle.sefs.specs.Records.{with_links}
use Rattle.sefs.specs.Nodes.{node_file, rec_at, id_at, set_rec}
use Rattle.sefs.specs.Folders.{dots_entry, put_slot, nlinks_inc}
use Rattle.sefs.specs.Move.{move_dots, move_parent}
use Rattle.rules.specs.Image.{is_node, rec_of, slot_in}
use Rattle.rules.proofs.Files.{node-below}
use Rattle.image.specs.Midway.{Used, stored_meta, tree_of, Look, plain, turning, Fairly, Amid}
use Rattle.tree.specs.Tree.{Spelling, FolderIn}
use Rattle.tree.specs.Moves.{turned}
use Rattle.tree.proofs.Trees.{folder-is, at, at_here, at-else}
use Rattle.tree.proofs.Stays.{Stays, stays-tidy}
use Rattle.image.proofs.Images.{and-true}
use Rattle.image.proofs.Inits.{dots-fits}
use Rattle.image.proofs.Metas.{kept_same}
use Rattle.image.proofs.Drops.{mid-rec, super-kept, maps-kept}
use Rattle.image.proofs.Resets.{recs-kept, nodes-kept, ids-kept, fair-by-tree}
use Rattle.image.proofs.Appends.{slot_kept, entry-bytes, put-meta, put-there, slot-new}
use Rattle.image.proofs.Renames.{long_same, slot-else, Overwritten, overwrite-law}
use Rattle.image.proofs.Unlinks.{dec-is}
use Rattle.image.proofs.Counts.{Counts, counts-none, counts-used, counts-rec, counts-row, counts-links}

-- the moved node c, of type kd, is open in a row of the call's own; f and g are the two folders
pub record Ready (way : Look) (c f g kd i j row : ℕ) (x : Fs) : Type 0 where
  pub mid : Amid way (also none row) x.arena x.table
  pub meta : x.meta ≡ done (stored_meta x.arena)
  pub from : (row_at x.table i).id ≡ f
  pub to : (row_at x.table j).id ≡ g
  pub used : Used x.table row
  pub same : (row_at x.table row).id ≡ c
  pub kind : (row_at x.table row).rec.kind ≡ kd

-- the links have changed, and nothing else
pub record Relinked (f g row : ℕ) (x y : Fs) : Type 0 where
  pub table : Table
  pub L : ℕ → ℕ
  pub is : y ≡ with_table x table
  pub rows : Counts (also none row) x.arena x.table (λ n. (rec_of x.arena x.table n).blocks) L table
  pub links : (n : ℕ) → L n ≡ pick (eqb n f) ((rec_of x.arena x.table n).nlinks - 1) (pick (eqb n g) ((rec_of x.arena x.table n).nlinks + 1) (rec_of x.arena x.table n).nlinks)

module _ {style : Spelling} (c f g kd i j row : ℕ) (below-i : i < 34) (below-j : j < 34) (some-f : f ≢ 0) (some-g : g ≢ 0) (apart : f ≢ g)
    (x : Fs) (R : Ready (turning style c f g) c f g kd i j row x) where
  abbrev a : List ℕ
  a = x.arena

  abbrev t : Table
  t = x.table

  abbrev links-of : ℕ → ℕ
  links-of n = (rec_of x.arena x.table n).nlinks

  abbrev slots-of : ℕ → ℕ
  slots-of n = (rec_of x.arena x.table n).blocks

  A : Fairly (turning style c f g) a t
  A = R.mid.fair

  used-i : Used t i
  used-i = record { below = below-i; node = λ z. some-f (sym R.from ∙ z) }

  used-j : Used t j
  used-j = record { below = below-j; node = λ z. some-g (sym R.to ∙ z) }

  -- ---- the links

  module _ (links : 2 ≤ (rec_of x.arena x.table f).nlinks) where
    rec-i : rec_at x i ≡ rec_of a t f
    rec-i = sym (mid-rec a t R.mid.formed i used-i) ∙ ap (rec_of a t) R.from

    abbrev x1 : Fs
    x1 = set_rec x i (with_links (rec_at x i) ((rec_at x i).nlinks - 1))

    abbrev x2 : Fs
    x2 = set_rec x1 j (with_links (rec_at x1 j) ((rec_at x1 j).nlinks + 1))

    abbrev L1 : ℕ → ℕ
    L1 = at (row_at t i).id ((rec_at x i).nlinks - 1) links-of

    abbrev L2 : ℕ → ℕ
    L2 = at (row_at t j).id ((rec_at x1 j).nlinks + 1) L1

    S1 : Counts (also none row) a t slots-of L1 x1.table
    S1 = counts-links a t slots-of links-of t (counts-none a t R.mid) i used-i ((rec_at x i).nlinks - 1) (omega (arith, (R.mid.fits.rows i below-i).rec.nlinks))

    at_1 : (rec_at x1 j).nlinks ≡ links-of g
    at_1 =
        (counts-row a t slots-of L1 x1.table S1 j used-j).1 ∙ at-else (row_at t i).id ((rec_at x i).nlinks - 1) links-of (row_at t j).id (λ q. apart (sym R.from ∙ sym q ∙ R.to))
        ∙ ap links-of R.to

    is_f : L2 f ≡ links-of f - 1
    is_f =
        at-else (row_at t j).id ((rec_at x1 j).nlinks + 1) L1 f (λ q. apart (q ∙ R.to)) ∙ ap L1 (sym R.from) ∙ at_here (row_at t i).id ((rec_at x i).nlinks - 1) links-of
        ∙ ap (λ (y : DiskINode). y.nlinks - 1) rec-i

    is-g : L2 g ≡ links-of g + 1
    is-g = ap L2 (sym R.to) ∙ at_here (row_at t j).id ((rec_at x1 j).nlinks + 1) L1 ∙ ap (λ (n : ℕ). n + 1) at_1

    is-else : (n : ℕ) → n ≢ f → n ≢ g → L2 n ≡ links-of n
    is-else n d e = at-else (row_at t j).id ((rec_at x1 j).nlinks + 1) L1 n (λ q. e (q ∙ R.to)) ∙ at-else (row_at t i).id ((rec_at x i).nlinks - 1) links-of n (λ q. d (q ∙ R.from))

    abbrev asked : ℕ → ℕ
    asked n = pick (eqb n f) (links-of n - 1) (pick (eqb n g) (links-of n + 1) (links-of n))

    all : (n : ℕ) → L2 n ≡ asked n
    all n =
        ⊎_elim
        (λ (q : n ≡ f). subst (λ (m : ℕ). L2 m ≡ asked m) (sym q)
        (is_f ∙ sym (ap (λ (b : Bool). pick b (links-of f - 1) (pick (eqb f g) (links-of f + 1) (links-of f))) (eq-eqb f f refl))))
        (λ d. ⊎_elim
        (λ (q : n ≡ g). subst (λ (m : ℕ). L2 m ≡ asked m) (sym q)
        (is-g ∙ sym (ap (λ (b : Bool). pick b (links-of g - 1) (pick (eqb g g) (links-of g + 1) (links-of g))) (ne_eqb g f (λ z. apart (sym z)))
        ∙ ap (λ (b : Bool). pick b (links-of g + 1) (links-of g)) (eq-eqb g g refl))))
        (λ e. is-else n d e ∙ sym (ap (λ (b : Bool). pick b (links-of n - 1) (pick (eqb n g) (links-of n + 1) (links-of n))) (ne_eqb n f d)
        ∙ ap (λ (b : Bool). pick b (links-of n + 1) (links-of n)) (ne_eqb n g e)))
        (eq-cases n g))
        (eq-cases n f)

    pub dots-law : Ok (Relinked f g row x) Clear (move_dots x i j)
    unfolding move_dots nlinks_inc
    dots-law =
        rw (dec-is x i (omega (arith, links, ap (λ (y : DiskINode). y.nlinks) rec-i)))
        (ok-guard (ltb (rec_at x1 j).nlinks 65535) 15 (clear 15 refl) λ q.
        let few : (rec_at x1 j).nlinks < 65535 = ltb-true (rec_at x1 j).nlinks 65535 q in
        went (record {
          table = x2.table;
          L = L2;
          is = refl;
          rows = counts-links a t slots-of L1 x1.table S1 j used-j ((rec_at x1 j).nlinks + 1) (omega arith);
          links = all;
        }))

  -- ---- the moved folder's `..`

  module _ (dir : is_folder kd ≡ true) (y : Fs) (K : Relinked f g row x y) where
    abbrev u : Table
    u = K.table

    S : Counts (also none row) a t slots-of K.L u
    S = K.rows

    rec-c : rec_of a t c ≡ (row_at t row).rec
    rec-c = ap (rec_of a t) (sym R.same) ∙ mid-rec a t R.mid.formed row R.used

    row-c : rec_of a u c ≡ (row_at u row).rec
    row-c = ap (rec_of a u) (sym R.same) ∙ counts-rec a t slots-of K.L u S row R.used

    kind-c : (row_at u row).rec.kind ≡ kd
    kind-c = ap (λ (z : DiskINode). z.kind) (sym row-c) ∙ S.kinds c ∙ ap (λ (z : DiskINode). z.kind) rec-c ∙ R.kind

    node-c : is_node a c ≡ true
    node-c = ap (is_node a) (sym R.same) ∙ A.rule4.node row R.used.below R.used.node

    node-g : is_node a g ≡ true
    node-g = ap (is_node a) (sym R.to) ∙ A.rule4.node j below-j used-j.node

    abbrev own : List ℕ
    own = (rec_of x.arena x.table c).file

    file-c : (row_at u row).rec.file ≡ own
    file-c = ap (λ (z : DiskINode). z.file) (sym row-c) ∙ S.files c

    is-there : there a (file 1 own) ≡ true
    is-there = A.rule5.own c node-c

    C : FolderIn style (turned c f g (dots_entry g) (tree_of a t)) c
    C = A.tidy.folder c (and_both node-c (ap (λ (z : DiskINode). is_folder z.kind) rec-c ∙ ap is_folder R.kind ∙ dir))

    room : 264 * 1 + 264 ≤ length_of a (file 1 own)
    room = omega (arith, C.length, C.blocks)

    fits : EntryFits (dots_entry g)
    fits = dots-fits g (omega (arith, node-below a g node-g, A.rule3.few))

    module _ (b : List ℕ) (P : Put a (file 1 own) (264 * 1) (entry_bytes (dots_entry g)) b) where
      M : Kept a b meta_file
      M = put-meta a own 1 (dots_entry g) fits is-there b P

      recs : (n : ℕ) → rec_of b u n ≡ rec_of a u n
      recs = recs-kept a b u M

      files : (n : ℕ) → (rec_of b u n).file ≡ (rec_of a t n).file
      files n = ap (λ (z : DiskINode). z.file) (recs n) ∙ S.files n

      slots : (n m : ℕ) → is_node a n ≡ true → slot_in b (rec_of b u n) m ≡ (turned c f g (dots_entry g) (tree_of a t)).slot n m
      slots n m z =
          ⊎_elim
          (λ (q : n ≡ c). ⊎_elim
          (λ (h : m ≡ 1).
          (λ w. slot_in b (rec_of b u (q w)) (h w)) ∙ slot-new a own 1 (dots_entry g) fits is-there b P (rec_of b u c) (files c)
          ∙ sym (ap (λ (e : Bool). pick (e && eqb m 1) (dots_entry g) (slot_in a (rec_of a t n) m)) (eq-eqb n c q) ∙ ap (λ (e : Bool). pick e (dots_entry g) (slot_in a (rec_of a t n) m)) (eq-eqb m 1 h)))
          (λ h. kept (λ w. h) ∙ sym (ap (λ (e : Bool). pick (eqb n c && e) (dots_entry g) (slot_in a (rec_of a t n) m)) (ne_eqb m 1 h) ∙ ap (λ (e : Bool). pick e (dots_entry g) (slot_in a (rec_of a t n) m)) (and-false (eqb n c))))
          (eq-cases m 1))
          (λ q. kept (λ w. absurd (q (A.rule5.distinct n c z node-c (sym (files n) ∙ w)))) ∙ sym (ap (λ (e : Bool). pick (e && eqb m 1) (dots_entry g) (slot_in a (rec_of a t n) m)) (ne_eqb n c q)))
          (eq-cases n c)
        where
          kept : ((rec_of b u n).file ≡ own → m ≢ 1) → slot_in b (rec_of b u n) m ≡ slot_in a (rec_of a t n) m
          kept h = slot-else a own 1 (dots_entry g) fits is-there room b P (rec_of b u n) m h ∙ slot_kept a a (rec_of b u n) (rec_of a t n) (files n) (kept_same a (node_file (rec_of a t n))) m

      was : (n : ℕ) → is_node b n ≡ true → is_node a n ≡ true
      was n z = sym (nodes-kept a b M n) ∙ z

      tree : Stays (λ n. false) (turned c f g (dots_entry g) (tree_of a t)) (tree_of b u)
      tree = record {
        ids = ids-kept a b M;
        node = λ n. nodes-kept a b M n ∙ and-true (is_node a n);
        kind = λ n z. ap (λ (r : DiskINode). r.kind) (recs n) ∙ S.kinds n;
        links = λ n z. ap (λ (r : DiskINode). r.nlinks) (recs n) ∙ S.links n ∙ K.links n;
        blocks = λ n z. ap (λ (r : DiskINode). r.blocks) (recs n) ∙ S.blocks n;
        size = λ n z. ap (λ (r : DiskINode). r.size) (recs n) ∙ S.sizes n;
        long = λ n z. long_same a own 1 (dots_entry g) fits is-there room b P (rec_of b u n).file ∙ ap (λ (h : List ℕ). length_of a (file 1 h)) (files n);
        slot = λ n z m l. slots n m (was n (folder-is (tree_of b u) n z));
      }

      turned_mid : Amid (plain style) (also none row) b u
      turned_mid = record {
        fair = fair-by-tree (plain style) a b t u A
            (record { length = legal-same a b P.size ∙ A.rule1.length; sound = P.keeps R.mid.bytes (entry-bytes a own 1 (dots_entry g) fits is-there) A.rule1.sound })
            M (put-there a own 1 (dots_entry g) fits is-there b P) S.ids S.clean
            (λ n z. ap (λ (r : DiskINode). r.kind) (recs n) ∙ S.kinds n) (λ n z. files n)
            (stays-tidy (λ n. false) (turned c f g (dots_entry g) (tree_of a t)) (tree_of b u) A.tidy (λ n e. absurd (true-false e refl)) tree (λ n z e o. S.opens n ∙ o));
        formed = S.formed;
        bytes = P.bytes R.mid.bytes (entry-bytes a own 1 (dots_entry g) fits is-there);
        fits = S.fits;
      }

      ready : Ready (plain style) c f g kd i j row (record { arena = b; table = u; meta = x.meta })
      ready = record {
        mid = turned_mid;
        meta = R.meta ∙ λ z. done (record { super = sym (super-kept a b M) z; maps = sym (maps-kept a b M) z });
        from = S.ids i ∙ R.from;
        to = S.ids j ∙ R.to;
        used = counts-used a t slots-of K.L u S row R.used;
        same = S.ids row ∙ R.same;
        kind = kind-c;
      }

    -- what is stored, and where
    pub record Rewritten (d : Fs) : Type 0 where
      pub ready : Ready (plain style) c f g kd i j row d
      pub table : d.table ≡ y.table
      pub others : (h : File) → node_file (row_at y.table row).rec ≢ h → Kept y.arena d.arena h

    pub parent-law : Ok Rewritten Clear (move_parent y j row)
    unfolding move_parent
    parent-law = subst (λ (z : Fs). Ok Rewritten Clear (pick (is_folder (rec_at z row).kind) (put_slot z row 1 (entry_bytes (dots_entry (id_at z j)))) (done z))) (sym K.is)
        (rw (ap is_folder kind-c ∙ dir, S.ids j ∙ R.to)
        (ok-weaken (λ d O. ends d O) clear-17 (overwrite-law (with_table x u) row 1 (dots_entry g) fits (ap (λ (h : List ℕ). there a (file 1 h)) file-c ∙ is-there))))
      where
        ends : (d : Fs) → Overwritten (with_table x K.table) row 1 (dots_entry g) d → Rewritten d
        ends d O = record {
          ready = subst (Ready (plain style) c f g kd i j row) (sym O.is) (ready O.arena (subst (λ (h : List ℕ). Put a (file 1 h) (264 * 1) (entry_bytes (dots_entry g)) O.arena) file-c O.put));
          table = ap (λ (z : Fs). z.table) O.is ∙ ap (λ (z : Fs). z.table) (sym K.is);
          others = subst (λ (z : Fs). (h : File) → node_file (row_at z.table row).rec ≢ h → Kept z.arena d.arena h) (sym K.is)
              (λ h n. subst (λ (z : Fs). Kept a z.arena h) (sym O.is) (O.put.others h n));
        }
