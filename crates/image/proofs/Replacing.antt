-- The replaced node of a move between folders: its slot goes, over which the moved one is copied, its links fall, and it is let go.
use mathlib.Core.Path.{◌≡◌, refl, sym, ap, ◌∙◌, subst}
use mathlib.Core.Bool.{Bool, true, false, ◌&&◌}
use mathlib.Core.List.{List}
use mathlib.Core.Logic.{◌≢◌, ⊎_elim}
use Prim.Native.Nat.{ℕ, ◌+◌, ◌*◌, ◌-◌, ◌≤◌, ◌<◌}
use native.Mathlib.Omega.{arith}
use lib.Dec.{eqb}
use borrow.Author.Tests.{eqb-true, eqb-false}
use Rattle.base.specs.Count.{bit}
use Rattle.base.specs.Out.{done, bind, Ok}
use Rattle.base.proofs.Outs.{ok-bind}
use Rattle.base.specs.Search.{pick}
use Rattle.structs.specs.Types.{is_folder}
use Rattle.structs.specs.declared.DiskINode.{DiskINode}
use Rattle.structs.specs.declared.DiskEntry.{DiskEntry}
use Rattle.utf8.specs.Names.{name_of, name_bytes}
use Rattle.arena.specs.Fields.{file}
use Rattle.table.specs.declared.Table.{Table}
use Rattle.files.specs.Read.{there, length_of}
use Rattle.sefs.specs.State.{Fs, with_arena}
use Rattle.sefs.specs.Records.{with_links, with_blocks}
use Rattle.sefs.specs.Nodes.{node_file, rec_at, id_at, set_rec, release}
use Rattle.sefs.specs.Slots.{Slot, slot_bytes}
use Rattle.sefs.specs.Folders.{nlinks_dec, unlink_folder, dirent_node_remove}
use Rattle.sefs.specs.Move.{node, renamed}
use Rattle.rules.specs.Image.{run, rec_of, slot_in, named}
use Rattle.tree.specs.Tree.{Spelling, Tidy, folder_at, LinkedIn, RemovedIn}
use Rattle.tree.specs.Moves.{over, Over}
use Rattle.tree.proofs.Naming.{none-subs}
use Rattle.image.specs.Midway.{tree_of, Amid}
use Rattle.image.proofs.Resets.{row_open}
use Rattle.image.proofs.Removes.{Gone, remove-law}
use Rattle.image.proofs.Unlinks.{dec-is}
use Rattle.image.proofs.Moving.{Moving, owns}
use Rattle.image.proofs.Movings.{slot_read, named-links, live-rec, live-lives, live-links, live-there, live-named, moves-node, moves-kind, moves-most, moves-ended, moves-name, moves-files}
use Rattle.tree.proofs.Trees.{at, at_here, at-else, names-differ}
use Rattle.image.proofs.Counts.{Counts, counts-rec, counts-row, counts-blocks, counts-links}
use Rattle.image.proofs.Carries.{Carried, carried-over}
use Rattle.tree.proofs.Redirects.{onto, Turns, turned-tidy}
use Rattle.image.proofs.Transfers.{transferred}
use Rattle.image.proofs.Turning.{turning-mid}
use Rattle.image.proofs.BetweenSlots.{slots_of, links_of, Carrying}
use Rattle.image.proofs.Settling.{moved_kind, Avoids, way_by, way_of, Settled, may-move, rec-d, d-not-i, d-not-j, node-d, settle-node}

module _ {style : Spelling} {own : ℕ → Type 0} (s : Fs) (i j : ℕ) (old : Slot) (name : List ℕ) (d k : ℕ) (M : Moving style own s i j old name (node d k)) (apart : id_at s i ≢ id_at s j) (avoids : Avoids s j old)
    (x : Fs) (X : Carrying own s i j old name (node d k) x) where
  abbrev a : List ℕ
  a = s.arena

  abbrev t : Table
  t = s.table

  abbrev c : ℕ
  c = old.entry.id

  abbrev e : DiskEntry
  e = renamed old.entry name

  abbrev to_slots : ℕ → ℕ
  to_slots = at (id_at s j) ((rec_at s j).blocks + 1) (slots_of s)

  abbrev slots : ℕ → ℕ
  slots = at (id_at s i) ((rec_at s i).blocks - 1) (at (id_at s j) ((rec_at s j).blocks + 1) (slots_of s))

  rec-j : rec_of a t (id_at s j) ≡ rec_at s j
  rec-j = live-rec s M.mid j M.to

  blocks-x : (rec_at x j).blocks ≡ (rec_at s j).blocks + 1
  blocks-x =
      (counts-row a t slots (links_of s) x.table X.rows j M.to.used).0 ∙ at-else (id_at s i) ((rec_at s i).blocks - 1) to_slots (id_at s j) (λ q. apart (sym q))
      ∙ at_here (id_at s j) ((rec_at s j).blocks + 1) (slots_of s)

  file-x : (rec_at x j).file ≡ (rec_at s j).file
  file-x = ap (λ (y : DiskINode). y.file) (sym (counts-rec a t slots (links_of s) x.table X.rows j M.to.used)) ∙ X.rows.files (id_at s j) ∙ ap (λ (y : DiskINode). y.file) rec-j

  links-d : 1 + bit (is_folder (rec_at s d).kind) ≤ links_of s (id_at s d)
  links-d =
      let h = named-links a t M.mid.fair (id_at s d) (node-d s i j old name d k M)
      (subst (λ (y : ℕ). 1 ≤ named a t y) M.onto.names (live-named s M.mid j M.to k M.onto.later M.onto.inside)) in
      subst (λ (y : DiskINode). 1 + bit (is_folder y.kind) ≤ links_of s (id_at s d)) (rec-d s i j old name d k M) h

  links-j : 2 ≤ links_of s (id_at s j)
  links-j = omega (arith, live-links s M.mid j M.to, ap (λ (y : DiskINode). y.nlinks) rec-j)

  links-i : 2 ≤ links_of s (id_at s i)
  links-i = omega (arith, live-links s M.mid i M.from, ap (λ (y : DiskINode). y.nlinks) (live-rec s M.mid i M.from))

  d-not-c : c ≢ id_at s d
  d-not-c q = M.onto.apart (sym q)

  module _ (b : List ℕ) (G : Gone x.arena (rec_at x j).file ((rec_at x j).blocks - 1) k b) where
    C : Carried a (rec_at s i).file ((rec_at s i).blocks - 1) old.place (rec_at s j).file (rec_at s j).blocks k (rec_at s j).blocks e b
    C =
        carried-over a (rec_at s i).file ((rec_at s i).blocks - 1) old.place (rec_at s j).file (rec_at s j).blocks e (moves-files s i j old name (node d k) M apart) M.mid.bytes M.mid.fair.rule1.sound
        (live-there s M.mid i M.from) (live-there s M.mid j M.to) x.arena X.files k M.onto.inside b
        (subst (λ (n : ℕ). Gone x.arena (rec_at s j).file n k b) (let z : (rec_at x j).blocks - 1 ≡ (rec_at s j).blocks = omega (arith, blocks-x) in z)
        (subst (λ (f : List ℕ). Gone x.arena f ((rec_at x j).blocks - 1) k b) file-x G))

    -- the slot went; links fall, twice where it is a folder, and then the folder's that named it
    abbrev y1 : Fs
    y1 = set_rec (with_arena x b) j (with_blocks (rec_at x j) ((rec_at x j).blocks - 1))

    abbrev y2 : Fs
    y2 = set_rec y1 d (with_links (rec_at y1 d) ((rec_at y1 d).nlinks - 1))

    abbrev y3 : Fs
    y3 = set_rec y2 d (with_links (rec_at y2 d) ((rec_at y2 d).nlinks - 1))

    abbrev y4 : Fs
    y4 = set_rec y3 j (with_links (rec_at y3 j) ((rec_at y3 j).nlinks - 1))

    abbrev B : ℕ → ℕ
    B = at (id_at s j) ((rec_at x j).blocks - 1) (at (id_at s i) ((rec_at s i).blocks - 1) (at (id_at s j) ((rec_at s j).blocks + 1) (slots_of s)))

    abbrev L2 : ℕ → ℕ
    L2 = at (id_at s d) ((rec_at y1 d).nlinks - 1) (links_of s)

    abbrev L3 : ℕ → ℕ
    L3 = at (id_at s d) ((rec_at y2 d).nlinks - 1) L2

    abbrev L4 : ℕ → ℕ
    L4 = at (id_at s j) ((rec_at y3 j).nlinks - 1) L3

    S1 : Counts (owns own (node d k)) a t B (links_of s) y1.table
    S1 = counts-blocks a t slots (links_of s) x.table X.rows j M.to.used ((rec_at x j).blocks - 1) (omega (arith, (X.rows.fits.rows j M.to.used.below).rec.blocks))

    S2 : Counts (owns own (node d k)) a t B L2 y2.table
    S2 = counts-links a t B (links_of s) y1.table S1 d M.onto.used ((rec_at y1 d).nlinks - 1) (omega (arith, (S1.fits.rows d M.onto.used.below).rec.nlinks))

    S3 : Counts (owns own (node d k)) a t B L3 y3.table
    S3 = counts-links a t B L2 y2.table S2 d M.onto.used ((rec_at y2 d).nlinks - 1) (omega (arith, (S2.fits.rows d M.onto.used.below).rec.nlinks))

    S4 : Counts (owns own (node d k)) a t B L4 y4.table
    S4 = counts-links a t B L3 y3.table S3 j M.to.used ((rec_at y3 j).nlinks - 1) (omega (arith, (S3.fits.rows j M.to.used.below).rec.nlinks))

    at_1 : (rec_at y1 d).nlinks ≡ links_of s (id_at s d)
    at_1 = (counts-row a t B (links_of s) y1.table S1 d M.onto.used).1

    at-2 : (rec_at y2 d).nlinks ≡ (rec_at y1 d).nlinks - 1
    at-2 = (counts-row a t B L2 y2.table S2 d M.onto.used).1 ∙ at_here (id_at s d) ((rec_at y1 d).nlinks - 1) (links_of s)

    -- another's links are as they were
    else-2 : (y : ℕ) → y ≢ id_at s d → L2 y ≡ links_of s y
    else-2 = at-else (id_at s d) ((rec_at y1 d).nlinks - 1) (links_of s)

    else-3 : (y : ℕ) → y ≢ id_at s d → L3 y ≡ links_of s y
    else-3 y n = at-else (id_at s d) ((rec_at y2 d).nlinks - 1) L2 y n ∙ else-2 y n

    at-3 : (rec_at y3 j).nlinks ≡ links_of s (id_at s j)
    at-3 = (counts-row a t B L3 y3.table S3 j M.to.used).1 ∙ else-3 (id_at s j) (λ q. d-not-j s i j old name d k M (sym q))

    else-4 : (y : ℕ) → y ≢ id_at s d → y ≢ id_at s j → L4 y ≡ links_of s y
    else-4 y n m = at-else (id_at s j) ((rec_at y3 j).nlinks - 1) L3 y m ∙ else-3 y n

    here-4 : L4 (id_at s j) + 1 ≡ links_of s (id_at s j)
    here-4 = omega (arith, at_here (id_at s j) ((rec_at y3 j).nlinks - 1) L3, at-3, links-j)

    kind_2 : (rec_at y2 d).kind ≡ (rec_at s d).kind
    kind_2 = ap (λ (y : DiskINode). y.kind) (sym (counts-rec a t B L2 y2.table S2 d M.onto.used)) ∙ S2.kinds (id_at s d) ∙ ap (λ (y : DiskINode). y.kind) (rec-d s i j old name d k M)

    -- a file in the place of a file
    turns : is_folder (moved_kind s old) ≡ false → Turns (tree_of a t) (id_at s j) k (id_at s d) c e
    turns no-dir = record {
      folder = (live-lives s M.mid j M.to).folder;
      later = M.onto.later;
      inside = subst (λ (y : DiskINode). k < y.blocks) (sym rec-j) M.onto.inside;
      names = ap (λ (y : DiskINode). (slot_in a y k).id) rec-j ∙ M.onto.names;
      old = ap (λ (y : DiskINode). is_folder y.kind) (rec-d s i j old name d k M) ∙ sym M.onto.kinds ∙ no-dir;
      held = row_open t M.mid.formed d M.onto.used;
      node = moves-node s i j old name (node d k) M;
      new = no-dir;
      apart = d-not-c;
      id = refl;
      kind = sym (moves-kind s i j old name (node d k) M);
      ended = moves-ended s i j old name (node d k) M;
      name = moves-name s i j old name (node d k) M ∙ sym M.onto.named ∙ ap (λ (y : DiskINode). name_of (slot_in a y k).name) (sym rec-j);
    }

    tidy : is_folder (moved_kind s old) ≡ false → Tidy style (onto (tree_of a t) (id_at s j) k (rec_at s j).blocks e (at c (links_of s c + 1) L2))
    tidy no-dir =
        subst (λ (n : ℕ). Tidy style (onto (tree_of a t) (id_at s j) k n e (at c (links_of s c + 1) L2))) (ap (λ (y : DiskINode). y.blocks) rec-j)
        (turned-tidy (tree_of a t) (id_at s j) k (id_at s d) c e M.mid.fair.tidy (turns no-dir) (at c (links_of s c + 1) L2)
        (at_here c (links_of s c + 1) L2)
        (omega (arith, at-else c (links_of s c + 1) L2 (id_at s d) (λ q. d-not-c (sym q)), at_here (id_at s d) ((rec_at y1 d).nlinks - 1) (links_of s), at_1, links-d))
        (λ y n m. at-else c (links_of s c + 1) L2 y n ∙ else-2 y m))

    b-from : B (id_at s i) ≡ (rec_at s i).blocks - 1
    b-from = at-else (id_at s j) ((rec_at x j).blocks - 1) slots (id_at s i) apart ∙ at_here (id_at s i) ((rec_at s i).blocks - 1) to_slots

    b-to : B (id_at s j) ≡ (rec_at s j).blocks
    b-to = at_here (id_at s j) ((rec_at x j).blocks - 1) slots ∙ omega (arith, blocks-x)

    b-else : (y : ℕ) → y ≢ id_at s i → y ≢ id_at s j → B y ≡ slots_of s y
    b-else y n m = at-else (id_at s j) ((rec_at x j).blocks - 1) slots y m ∙ at-else (id_at s i) ((rec_at s i).blocks - 1) to_slots y n ∙ at-else (id_at s j) ((rec_at s j).blocks + 1) (slots_of s) y m

    file-mid : is_folder (moved_kind s old) ≡ false → Amid (way_of style s i j old) (owns own (node d k)) b y2.table
    file-mid no-dir =
        subst (λ (q : Bool). Amid (way_by style q s i j old) (owns own (node d k)) b y2.table) (sym no-dir)
        (transferred s i j old name (node d k) M apart no-dir k (rec_at s j).blocks (λ y l n. l) b C B L2 y2.table S2 b-from b-to b-else
        (else-2 (id_at s i) (λ q. d-not-i s i j old name d k M (sym q)))
        (else-2 c d-not-c)
        (tidy no-dir))

    -- a folder in the place of an empty folder, which has the two links of its own
    module _ (dir : is_folder (moved_kind s old) ≡ true) where
      dir-d : is_folder (rec_at s d).kind ≡ true
      dir-d = sym M.onto.kinds ∙ dir

      over-d : Over (tree_of a t) (id_at s j) k c (id_at s d)
      over-d = record {
        later = M.onto.later;
        inside = subst (λ (y : DiskINode). k < y.blocks) (sym rec-j) M.onto.inside;
        names = ap (λ (y : DiskINode). (slot_in a y k).id) rec-j ∙ M.onto.names;
        folder = ap (λ (y : DiskINode). is_folder y.kind) (rec-d s i j old name d k M) ∙ dir-d;
        small = subst (λ (y : DiskINode). y.blocks ≤ 2) (sym (rec-d s i j old name d k M)) (M.onto.small dir-d);
        opened = row_open t M.mid.formed d M.onto.used;
        apart = M.onto.apart;
      }

      fresh : (m : ℕ) → 2 ≤ m → m < (rec_of a t (id_at s j)).blocks → m ≢ k → name_of (slot_in a (rec_of a t (id_at s j)) m).name ≢ name_of (name_bytes name)
      fresh m y z n q =
          names-differ (tree_of a t) (id_at s j) (M.mid.fair.tidy.folder (id_at s j) (live-lives s M.mid j M.to).folder) m k n y M.onto.later z over-d.inside
          (q ∙ moves-name s i j old name (node d k) M ∙ sym M.onto.named ∙ ap (λ (y : DiskINode). name_of (slot_in a y k).name) (sym rec-j))

      two-links : links_of s (id_at s d) ≡ 2
      two-links =
          let v = tree_of a t in
          let f : folder_at (tree_of a t) (id_at s d) ≡ true = λ y. node-d s i j old name d k M y && over-d.folder y in
          let F = M.mid.fair.tidy.folder (id_at s d) f in
          ⊎_elim
          (λ (N : LinkedIn (tree_of a t) (id_at s d)). omega (arith, N.links, none-subs (tree_of a t) (id_at s d) (omega (arith, F.blocks, over-d.small))))
          (λ (N : RemovedIn (tree_of a t) (id_at s d)). absurd (omega (arith, N.links, links-d)))
          (M.mid.fair.tidy.either (id_at s d) f)

      gone-4 : (y : ℕ) → eqb (id_at s d) y ≡ true → L4 y ≡ 0
      gone-4 y q =
          ap L4 (sym (eqb-true (id_at s d) y q)) ∙ at-else (id_at s j) ((rec_at y3 j).nlinks - 1) L3 (id_at s d) (d-not-j s i j old name d k M)
          ∙ at_here (id_at s d) ((rec_at y2 d).nlinks - 1) L2 ∙ omega (arith, at-2, at_1, two-links)

      folder-mid : Amid (way_of style s i j old) (owns own (node d k)) b y4.table
      folder-mid =
          subst (λ (q : Bool). Amid (way_by style q s i j old) (owns own (node d k)) b y4.table) (sym dir)
          (turning-mid s i j old name (node d k) M apart k (rec_at s j).blocks (over (id_at s d))
          (may-move s i j old name (node d k) M apart avoids dir k (over (id_at s d)) fresh over-d)
          (λ y l n. l) (omega arith) b C B L4 y4.table S4 b-from b-to b-else
          (else-4 (id_at s i) (λ q. d-not-i s i j old name d k M (sym q)) apart)
          here-4 gone-4 (λ y n q. else-4 y (λ z. eqb-false (id_at s d) y q (sym z)) n))

    falls : Ok (Settled style own s i j old) (λ n. n ≡ 17) (bind (nlinks_dec y1 d) (λ s. bind (pick (is_folder (rec_at s d).kind) (unlink_folder s j d) (done s)) (λ s. release s d)))
    unfolding unlink_folder
    falls = rw (dec-is y1 d (omega (arith, at_1, links-d))) (go (is_folder (rec_at y2 d).kind) refl)
      where
        i-not-d : id_at s i ≢ id_at s d
        i-not-d q = d-not-i s i j old name d k M (sym q)

        go : (f : Bool) → is_folder (rec_at y2 d).kind ≡ f → Ok (Settled style own s i j old) (λ n. n ≡ 17) (bind (pick f (bind (nlinks_dec y2 d) (λ s. nlinks_dec s j)) (done y2)) (λ s. release s d))
        go false q =
            settle-node s i j old name d k M y2 (rec_at s j).blocks C B L2 S2 X.meta
            (omega (arith, else-2 (id_at s i) i-not-d, links-i))
            (file-mid (M.onto.kinds ∙ ap is_folder (sym kind_2) ∙ q))
        go true q =
            let f : is_folder (rec_at s d).kind ≡ true = ap is_folder (sym kind_2) ∙ q in
            rw (dec-is y2 d (omega (arith, at_1, at-2, links-d, ap bit f)), dec-is y3 j (omega (arith, at-3, links-j)))
            (settle-node s i j old name d k M y4 (rec_at s j).blocks C B L4 S4 X.meta
            (omega (arith, else-4 (id_at s i) i-not-d apart, links-i))
            (folder-mid (M.onto.kinds ∙ f)))

  last : slot_bytes x.arena (rec_at x j) ((rec_at x j).blocks - 1) ≡ done (run x.arena (node_file (rec_at x j)) (264 * ((rec_at x j).blocks - 1)) 264)
  last =
      let n : (rec_at x j).blocks - 1 ≡ (rec_at s j).blocks = omega (arith, blocks-x) in
      slot_read x.arena (rec_at x j) ((rec_at x j).blocks - 1) is-there
      (omega (arith, ap (λ (f : List ℕ). length_of x.arena (file 1 f)) file-x, X.files.to-long, blocks-x))
      (subst (λ (y : DiskEntry). y.kind ≤ 4) (sym (ap (slot_in x.arena (rec_at x j)) n ∙ X.files.to-new (rec_at x j) file-x)) (moves-most s i j old name (node d k) M))
    where
      is-there : there x.arena (node_file (rec_at x j)) ≡ true
      is-there = ap (λ (f : List ℕ). there x.arena (file 1 f)) file-x ∙ X.files.exists (rec_at s j).file ∙ live-there s M.mid j M.to

  pub replace-law : Ok (Settled style own s i j old) (λ n. n ≡ 17) (dirent_node_remove x j d k)
  unfolding dirent_node_remove
  replace-law =
      ok-bind (remove-law x j k (omega (arith, blocks-x, M.onto.inside)) X.files.bytes X.files.sound
      (ap (λ (f : List ℕ). there x.arena (file 1 f)) file-x ∙ X.files.exists (rec_at s j).file ∙ live-there s M.mid j M.to) last) λ y R.
      subst (λ (z : Fs). Ok (Settled style own s i j old) (λ n. n ≡ 17) (bind (nlinks_dec z d) (λ s. bind (pick (is_folder (rec_at s d).kind) (unlink_folder s j d) (done s)) (λ s. release s d)))) (sym R.is)
      (falls R.arena R.gone)
