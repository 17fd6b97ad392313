-- A move inside one folder: a slot gets another name; where a node is replaced, its slot goes as in a removal; then the folder's record is stored.
use mathlib.Core.Path.{refl, ◌≡◌, sym, ap, ◌∙◌, subst}
use Rattle.sefs_laws.proofs.Clear.{Clear, clear-17}
use mathlib.Core.Bool.{true}
use mathlib.Core.List.{List}
use mathlib.Core.Logic.{◌≢◌, ⊎_elim}
use Prim.Native.Nat.{ℕ, ◌+◌, ◌*◌, ◌-◌, ◌≤◌, ◌<◌}
use native.Mathlib.Omega.{arith}
use lib.ListN.{length}
use Rattle.base.specs.Count.{bit}
use Rattle.base.specs.Out.{done, bind, Ok, went}
use Rattle.base.specs.Search.{upd}
use Rattle.base.proofs.Outs.{ok-bind, ok-weaken, above_zero}
use Rattle.base.proofs.Finds.{eq-cases}
use Rattle.base.proofs.Searches.{upd_same, upd_other}
use Rattle.le.specs.Le.{Bytes}
use Rattle.structs.specs.Fits.{EntryFits}
use Rattle.structs.specs.Layout.{entry_bytes}
use Rattle.structs.specs.Types.{is_folder}
use Rattle.structs.specs.declared.DiskINode.{DiskINode}
use Rattle.structs.specs.declared.DiskEntry.{DiskEntry}
use Rattle.utf8.specs.Names.{has_slash, name_of, name_bytes}
use Rattle.utf8.proofs.Names.{not-special}
use Rattle.arena.specs.Fields.{file}
use Rattle.table.specs.declared.Table.{Table}
use Rattle.table.specs.Table.{row_at}
use Rattle.sound.specs.Sound.{sound}
use Rattle.files.specs.Read.{there, length_of}
use Rattle.files_laws.specs.Laws.{Put, Kept}
use Rattle.files_laws.proofs.Bounds.{legal-same}
use Rattle.sefs.specs.State.{Fs, with_arena}
use Rattle.sefs.specs.Meta.{meta_file}
use Rattle.sefs.specs.Nodes.{node_file, rec_at, id_at, sync_row}
use Rattle.sefs.specs.Slots.{Slot, slot_bytes}
use Rattle.sefs.specs.Folders.{dirent_node_remove}
use Rattle.sefs.specs.Create.{After, after}
use Rattle.sefs.specs.Move.{Replaced, none, node, renamed, remove_replaced, move_within}
use Rattle.rules.specs.Image.{run, is_node, rec_of, is_open, slot_in, named}
use Rattle.sequences.specs.Pairs.{pair}
use Rattle.image.specs.Midway.{Used, stored_meta, Fair, tree_of, plain, Midway}
use Rattle.tree.specs.Tree.{Spelling, Tree, Tidy, folder_at}
use Rattle.tree.proofs.Trees.{spelt-new, folder-is, names-differ}
use Rattle.tree.proofs.Unnaming.{Unnames, MayGo, unnames-tidy}
use Rattle.sequences.proofs.Passing.{Spelled, midway-spelled}
use Rattle.image.proofs.Stores.{sync-mid}
use Rattle.image.proofs.Drops.{mid-rec, super-kept, maps-kept, stored-kept}
use Rattle.image.proofs.Resets.{recs-kept, nodes-kept, fair-by-tree, row_open}
use Rattle.image.proofs.Appends.{entry-bytes, put-meta, put-there, slot-new}
use Rattle.image.proofs.Removes.{Gone}
use Rattle.image.proofs.Unlinks.{Less, gone-tree, unnamed-mid, removes}
use Rattle.tree.proofs.Renaming.{with_slots, Title, Retitles, retitled-tidy, unnames-slots}
use Rattle.image.proofs.Renames.{long_same, slot-else, slot-field, tree-slots, overwrite-law}
use Rattle.image.proofs.Moving.{owns, Replaces, Moving}
use Rattle.image.proofs.Movings.{slot_read, named-links, live-rec, live-node, live-lives, live-there, live-long, live-kind, live-named, moves-fits, moves-ended, moves-name}
use Rattle.table_laws.specs.Rules as rows

-- ---- the slot has its new name

module _ {style : Spelling} (s : Fs) (i : ℕ) (old : Slot) (name : List ℕ) (r : Replaced) (H : Moving style rows.none s i i old name r) where
  abbrev a : List ℕ
  a = s.arena

  abbrev t : Table
  t = s.table

  abbrev d : ℕ
  d = id_at s i

  abbrev ri : DiskINode
  ri = rec_at s i

  abbrev pl : ℕ
  pl = old.place

  abbrev e : DiskEntry
  e = renamed old.entry name

  A : Fair style a t
  A = H.mid.fair

  rec-d : rec_of a t d ≡ ri
  rec-d = live-rec s H.mid i H.from

  blocks-d : (rec_of a t d).blocks ≡ ri.blocks
  blocks-d = ap (λ (x : DiskINode). x.blocks) rec-d

  node-d : is_node a d ≡ true
  node-d = live-node s H.mid i H.from

  tree-d : folder_at (tree_of a t) d ≡ true
  tree-d = (live-lives s H.mid i H.from).folder

  is-there : there a (file 1 ri.file) ≡ true
  is-there = live-there s H.mid i H.from

  long-d : length_of a (file 1 ri.file) ≡ 264 * ri.blocks
  long-d = live-long s H.mid i H.from

  fits : EntryFits e
  fits = moves-fits s i i old name r H

  room : 264 * pl + 264 ≤ length_of a (file 1 ri.file)
  room = omega (arith, long-d, H.inside)

  title : Title style (name_bytes name)
  title =
      let q : name_of (name_bytes name) ≡ name = moves-name s i i old name r H in
      let n = not-special name H.plain in
      record {
        ended = moves-ended s i i old name r H;
        some = λ z. n.0 (ap length (sym q ∙ z));
        no-dot = λ z. n.1.0 (sym q ∙ z);
        no-dots = λ z. n.1.1 (sym q ∙ z);
        spelt = spelt-new style (name_of (name_bytes name)) (ap has_slash q ∙ H.no_slash);
      }

  module _ (b : List ℕ) (P : Put s.arena (node_file (rec_at s i)) (264 * old.place) (entry_bytes (renamed old.entry name)) b) where
    abbrev here : ℕ → ℕ → DiskEntry
    here x j = slot_in b (rec_of b t x) j

    K : Kept a b meta_file
    K = put-meta a ri.file pl e fits is-there b P

    recs : (x : ℕ) → rec_of b t x ≡ rec_of a t x
    recs = recs-kept a b t K

    -- every slot keeps its id and its type
    same-field : {X : Type 0} (q : DiskEntry → X) → q e ≡ q old.entry → (x j : ℕ) → q (here x j) ≡ q (slot_in a (rec_of a t x) j)
    same-field q h x j =
        slot-field a ri.file pl e fits is-there room b P q ri refl (h ∙ ap q H.is) (rec_of b t x) j ∙ ap (λ (z : DiskINode). q (slot_in a z j)) (recs x)

    -- every other slot is as it was
    slot-other : (x j : ℕ) → ((rec_of a t x).file ≡ ri.file → j ≢ pl) → here x j ≡ slot_in a (rec_of a t x) j
    slot-other x j n =
        slot-else a ri.file pl e fits is-there room b P (rec_of b t x) j (λ z. n (ap (λ (y : DiskINode). y.file) (sym (recs x)) ∙ z)) ∙ ap (λ (z : DiskINode). slot_in a z j) (recs x)

    slot-own : here d pl ≡ e
    slot-own = slot-new a ri.file pl e fits is-there b P (rec_of b t d) (ap (λ (z : DiskINode). z.file) (recs d ∙ rec-d))

    not-file : (x : ℕ) → folder_at (tree_of a t) x ≡ true → x ≢ d → (rec_of a t x).file ≢ ri.file
    not-file x f n q = n (A.rule5.distinct x d (folder-is (tree_of a t) x f) node-d (q ∙ ap (λ (z : DiskINode). z.file) (sym rec-d)))

    -- slots that are those of the image, but that one may have another name
    module _ (slots : ℕ → ℕ → DiskEntry) (other : ℕ) (is_later : 2 ≤ other) (apart : other ≢ pl)
        (same : (x j : ℕ) → (x ≡ d → j ≢ other) → slots x j ≡ here x j)
        (id : (slots d other).id ≡ (here d other).id) (kind : (slots d other).kind ≡ (here d other).kind)
        (given : other < (rec_of a t d).blocks → (slots d other).name ≡ (slot_in a (rec_of a t d) pl).name)
        (fresh : (j : ℕ) → 2 ≤ j → j < ri.blocks → j ≢ other → name_of (slot_in a ri j).name ≢ name_of (name_bytes name)) where
      all : {X : Type 0} (q : DiskEntry → X) → q (slots d other) ≡ q (here d other) → q e ≡ q old.entry → (x j : ℕ) → q (slots x j) ≡ q (slot_in a (rec_of a t x) j)
      all {X} q g h x j =
          ⊎_elim
          (λ (y : x ≡ d). ⊎_elim
          (λ (z : j ≡ other). subst (λ (m : ℕ). q (slots m j) ≡ q (slot_in a (rec_of a t m) j)) (sym y) (subst (λ (m : ℕ). q (slots d m) ≡ q (slot_in a (rec_of a t d) m)) (sym z) (g ∙ same-field q h d other)))
          (λ z. ap q (same x j (λ w. z)) ∙ same-field q h x j)
          (eq-cases j other))
          (λ y. ap q (same x j (λ w. absurd (y w))) ∙ same-field q h x j)
          (eq-cases x d)

      own : slots d pl ≡ e
      own = same d pl (λ w z. apart (sym z)) ∙ slot-own

      pub retitles : Retitles style (tree_of a t) slots d pl other
      retitles = record {
        ids = all (λ z. z.id) id refl;
        kinds = all (λ z. z.kind) kind refl;
        else = λ x f n j. same x j (λ w. absurd (n w)) ∙ slot-other x j (λ q. absurd (not-file x f n q));
        still = λ j n m. same d j (λ w. m) ∙ slot-other d j (λ q. n);
        given = given;
        title = subst (λ (z : DiskEntry). Title style z.name) (sym own) title;
        fresh = λ j x y n z. fresh j x (omega (arith, blocks-d)) n (ap (λ (m : DiskINode). name_of (slot_in a m j).name) (sym rec-d) ∙ z ∙ ap (λ (m : DiskEntry). name_of m.name) own);
        later = H.later;
        inside = omega (arith, H.inside, blocks-d);
        other-later = is_later;
        apart = apart;
      }

    bytes : Bytes b
    bytes = P.bytes H.mid.bytes (entry-bytes a ri.file pl e fits is-there)

    sounds : sound b ≡ true
    sounds = P.keeps H.mid.bytes (entry-bytes a ri.file pl e fits is-there) A.rule1.sound

    there-same : (g : List ℕ) → there b (file 1 g) ≡ there a (file 1 g)
    there-same = put-there a ri.file pl e fits is-there b P

    -- where no other has the name, that is all
    pub renamed-mid : ((j : ℕ) → 2 ≤ j → j < (rec_at s i).blocks → name_of (slot_in s.arena (rec_at s i) j).name ≢ name_of (name_bytes name)) → Midway style (owns rows.none r) b s.table
    renamed-mid fresh = record {
      fair = fair-by-tree (plain style) a b t t A
          (record { length = legal-same a b P.size ∙ A.rule1.length; sound = sounds })
          K there-same (λ j. refl) A.rule4.clean (λ x n. ap (λ (z : DiskINode). z.kind) (recs x)) (λ x n. ap (λ (z : DiskINode). z.file) (recs x))
          (subst (Tidy style) (sym (tree-slots a ri.file pl e fits is-there room b P t))
          (retitled-tidy (tree_of a t) here d pl ri.blocks A.tidy tree-d
          (retitles here ri.blocks (omega (arith, H.inside, H.later)) (λ z. omega (arith, H.inside)) (λ x j n. refl) refl refl (λ l. absurd (omega (arith, blocks-d))) (λ j x y n. fresh j x y))));
      formed = H.mid.formed;
      bytes = bytes;
      fits = H.mid.fits;
    }

    metas : s.meta ≡ done (stored_meta b)
    metas = H.meta ∙ λ x. done (record { super = sym (super-kept a b K) x; maps = sym (maps-kept a b K) x })

    last : slot_bytes b ri (ri.blocks - 1) ≡ done (run b (node_file ri) (264 * (ri.blocks - 1)) 264)
    last =
        slot_read b ri (ri.blocks - 1) (there-same ri.file ∙ is-there) (omega (arith, long_same a ri.file pl e fits is-there room b P ri.file, long-d, H.inside))
        (omega (
          arith,
          slot-field a ri.file pl e fits is-there room b P (λ z. z.kind) ri refl (ap (λ (z : DiskEntry). z.kind) H.is) ri (ri.blocks - 1),
          live-kind s H.mid i H.from (ri.blocks - 1) (omega (arith, H.inside, H.later)) (omega (arith, H.inside)),
        ))

-- ---- with a node that is replaced

module _ {style : Spelling} (s : Fs) (i : ℕ) (old : Slot) (name : List ℕ) (c k : ℕ) (H : Moving style rows.none s i i old name (node c k)) where
  R : Replaces s i old name c k
  R = H.onto

  rec-c : rec_of s.arena s.table (id_at s c) ≡ rec_at s c
  rec-c = mid-rec s.arena s.table H.mid.formed c R.used

  slots-d : (j : ℕ) → slot_in s.arena (rec_of s.arena s.table (id_at s i)) j ≡ slot_in s.arena (rec_at s i) j
  slots-d j = ap (λ (z : DiskINode). slot_in s.arena z j) (rec-d s i old name (node c k) H)

  inside : k < (rec_of s.arena s.table (id_at s i)).blocks
  inside = omega (arith, R.inside, blocks-d s i old name (node c k) H)

  rows_apart : c ≡ i → ⊥
  rows_apart q =
      omega (arith, R.later, R.inside, ap (λ (x : ℕ). (rec_at s x).blocks) q, R.small (ap (λ (x : ℕ). is_folder (rec_at s x).kind) q ∙ H.from.folder))

  links : 1 + bit (is_folder (rec_at s c).kind) ≤ (rec_at s c).nlinks
  links =
      subst (λ (x : DiskINode). 1 + bit (is_folder x.kind) ≤ x.nlinks) rec-c
      (named-links s.arena s.table H.mid.fair (id_at s c) (H.mid.fair.rule4.node c R.used.below R.used.node)
      (subst (λ (x : ℕ). 1 ≤ named s.arena s.table x) R.names (live-named s H.mid i H.from k R.later R.inside)))

  places : k ≢ old.place
  places q = R.apart (sym R.names ∙ ap (λ (x : ℕ). (slot_in s.arena (rec_at s i) x).id) q ∙ ap (λ (z : DiskEntry). z.id) (sym H.is))

  -- with any slots, it may go where it names the node
  may : (slots : ℕ → ℕ → DiskEntry) → (slots (id_at s i) k).id ≡ id_at s c → MayGo (with_slots (tree_of s.arena s.table) slots) (id_at s i) (id_at s c) k
  may slots e = record {
    lives = let l = live-lives s H.mid i H.from in record { folder = l.folder; links = l.links };
    later = R.later;
    inside = inside;
    names = e;
    small = subst (λ (x : DiskINode). is_folder x.kind ≡ true → x.blocks ≤ 2) (sym rec-c) R.small;
  }

  distinct : (j : ℕ) → 2 ≤ j → j < (rec_at s i).blocks → j ≢ k → name_of (slot_in s.arena (rec_at s i) j).name ≢ name_of (name_bytes name)
  distinct j x y n z =
      names-differ (tree_of s.arena s.table) (id_at s i) (H.mid.fair.tidy.folder (id_at s i) (tree-d s i old name (node c k) H)) j k n x R.later
      (omega (arith, blocks-d s i old name (node c k) H)) inside
      (ap (λ (e : DiskEntry). name_of e.name) (slots-d j) ∙ z ∙ moves-name s i i old name (node c k) H ∙ sym R.named ∙ ap (λ (e : DiskEntry). name_of e.name) (sym (slots-d k)))

  module _ (b : List ℕ) (P : Put s.arena (node_file (rec_at s i)) (264 * old.place) (entry_bytes (renamed old.entry name)) b) where
    -- Two slots have the name now, so the image's tree is not tidy. With the old name for the slot that goes it would be, and what is left then is
    -- the same.
    abbrev m : Tree
    m = tree_of b s.table

    abbrev swapped : DiskEntry
    swapped = record { id = (m.slot (id_at s i) k).id; name = (slot_in s.arena (rec_of s.arena s.table (id_at s i)) old.place).name; kind = (m.slot (id_at s i) k).kind }

    slots : ℕ → ℕ → DiskEntry
    slots = upd m.slot (id_at s i) (upd (m.slot (id_at s i)) k swapped)

    slot-k : slots (id_at s i) k ≡ swapped
    unfolding slots
    slot-k = ap (λ (f : ℕ → DiskEntry). f k) (upd_same m.slot (id_at s i) (upd (m.slot (id_at s i)) k swapped)) ∙ upd_same (m.slot (id_at s i)) k swapped

    like : (x j : ℕ) → (x ≡ id_at s i → j ≢ k) → slots x j ≡ m.slot x j
    unfolding slots
    like x j n =
        ⊎_elim
        (λ (e : x ≡ id_at s i). subst (λ (y : ℕ). slots y j ≡ m.slot y j) (sym e)
        (ap (λ (f : ℕ → DiskEntry). f j) (upd_same m.slot (id_at s i) (upd (m.slot (id_at s i)) k swapped)) ∙ upd_other (m.slot (id_at s i)) k swapped j (n e)))
        (λ e. ap (λ (f : ℕ → DiskEntry). f j) (upd_other m.slot (id_at s i) (upd (m.slot (id_at s i)) k swapped) x e))
        (eq-cases x (id_at s i))

    tidy : Tidy style (with_slots (tree_of s.arena s.table) slots)
    tidy = retitled-tidy (tree_of s.arena s.table) slots (id_at s i) old.place k H.mid.fair.tidy (tree-d s i old name (node c k) H)
        (retitles s i old name (node c k) H b P slots k R.later places like
        (ap (λ (z : DiskEntry). z.id) slot-k) (ap (λ (z : DiskEntry). z.kind) slot-k) (λ l. ap (λ (z : DiskEntry). z.name) slot-k) distinct)

    trees : m ≡ with_slots (tree_of s.arena s.table) m.slot
    trees =
        tree-slots s.arena (rec_at s i).file old.place (renamed old.entry name) (fits s i old name (node c k) H) (is-there s i old name (node c k) H) (room s i old name (node c k) H) b P s.table

    goes-m : MayGo m (id_at s i) (id_at s c) k
    goes-m =
        subst (λ (z : Tree). MayGo z (id_at s i) (id_at s c) k) (sym trees)
        (may m.slot (same-field s i old name (node c k) H b P (λ z. z.id) refl (id_at s i) k ∙ ap (λ (z : DiskEntry). z.id) (slots-d k) ∙ R.names))

    here-there : there b (node_file (rec_at s i)) ≡ true
    here-there = there-same s i old name (node c k) H b P (rec_at s i).file ∙ is-there s i old name (node c k) H

    one-file : (x : ℕ) → is_node b x ≡ true → (rec_of b s.table x).file ≡ (rec_at s i).file → x ≡ id_at s i
    one-file x n q =
        H.mid.fair.rule5.distinct x (id_at s i) (sym (nodes-kept s.arena b (K s i old name (node c k) H b P) x) ∙ n) (node-d s i old name (node c k) H)
        (ap (λ (z : DiskINode). z.file) (sym (recs s i old name (node c k) H b P x)) ∙ q ∙ ap (λ (z : DiskINode). z.file) (sym (rec-d s i old name (node c k) H)))

    is_open_lem : is_open s.table (id_at s c) ≡ true
    is_open_lem = row_open s.table H.mid.formed c R.used

    -- the slot goes, and the node's links
    goes : (x : List ℕ) → Gone b (rec_at s i).file ((rec_at s i).blocks - 1) k x → (u : Table)
        → Less (rows.also rows.none c) b s.table i c ((rec_at s i).blocks - 1) (bit (is_folder (rec_at s c).kind)) (1 + bit (is_folder (rec_at s c).kind)) u
        → Midway style (rows.also rows.none c) x u
    goes x B u S =
        unnamed-mid b s.table H.mid.formed (bytes s i old name (node c k) H b P) (sounds s i old name (node c k) H b P) i c k H.from.used R.used goes-m is_open_lem here-there one-file x B u S
        s.arena H.mid.fair P.size (K s i old name (node c k) H b P) (there-same s i old name (node c k) H b P)
        (unnames-tidy (with_slots (tree_of s.arena s.table) slots) (tree_of x u) (id_at s i) (id_at s c) k tidy
        (unnames-slots (tree_of s.arena s.table) (tree_of x u) slots m.slot (id_at s i) (id_at s c) k like
        (subst (λ (z : Tree). Unnames z (tree_of x u) (id_at s i) (id_at s c) k) trees
        (gone-tree b s.table H.mid.formed (bytes s i old name (node c k) H b P) (sounds s i old name (node c k) H b P) i c k H.from.used R.used goes-m is_open_lem here-there one-file x B u S)))
        (may slots (ap (λ (z : DiskEntry). z.id) slot-k ∙ goes-m.names)))

    gone : Ok (λ (x : Fs). Midway style rows.none x.arena x.table × Used x.table i) (λ n. n ≡ 17) (dirent_node_remove (with_arena s b) i c k)
    gone =
        removes (with_arena s b) i c k H.mid.formed H.mid.fits
        (λ j l n q. H.mid.fair.rule4.clean j l n q ∙ sym (stored-kept s.arena b (K s i old name (node c k) H b P) (row_at s.table j).id))
        (bytes s i old name (node c k) H b P) (sounds s i old name (node c k) H b P) H.from.used R.used rows_apart links
        (above_zero (rec_at s i).nlinks H.from.links) R.inside here-there
        (last s i old name (node c k) H b P) (metas s i old name (node c k) H b P) goes

-- ---- the steps

-- the folder's record is stored
stored : {style : Spelling} (s : Fs) (i : ℕ) → Midway style rows.none s.arena s.table → Used s.table i → Ok (λ (x : After). Spelled style (pair x.arena x.table)) Clear (bind (sync_row s i) (λ s. done (after s)))
stored s i M u = ok-bind (ok-weaken (λ x Z. Z) clear-17 (sync-mid s M i u)) λ x Z. went (midway-spelled x.arena x.table Z.mid)

pub within-law : {style : Spelling} (s : Fs) (i : ℕ) (old : Slot) (name : List ℕ) (r : Replaced) → Moving style rows.none s i i old name r → Ok (λ (x : After). Spelled style (pair x.arena x.table)) Clear (move_within s i old name r)
unfolding move_within
within-law {style = style} s i old name r H =
    ok-bind (ok-weaken (λ x Q. Q) clear-17 (overwrite-law s i old.place (renamed old.entry name) (fits s i old name r H) (is-there s i old name r H))) λ x Q.
    subst (λ (y : Fs). Ok (λ (x : After). Spelled style (pair x.arena x.table)) Clear (bind (remove_replaced y i r) (λ s. bind (sync_row s i) (λ s. done (after s))))) (sym Q.is)
    (rest r H Q.arena Q.put)
  where
    rest : (r : Replaced) → Moving style rows.none s i i old name r → (b : List ℕ) → Put s.arena (node_file (rec_at s i)) (264 * old.place) (entry_bytes (renamed old.entry name)) b
        → Ok (λ (x : After). Spelled style (pair x.arena x.table)) Clear (bind (remove_replaced (with_arena s b) i r) (λ s. bind (sync_row s i) (λ s. done (after s))))
    rest none H b P = stored (with_arena s b) i (renamed-mid s i old name none H b P H.onto.fresh) H.from.used
    rest (node c k) H b P = ok-bind (ok-weaken (λ x E. E) clear-17 (gone s i old name c k H b P)) λ x E. stored x i E.0 E.1
