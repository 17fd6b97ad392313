-- What each call leaves of a node that is no folder, open or not: its type and its file, and the file's bytes where it is still there, unless the call
-- writes, resizes or fallocates through a handle on it. A call stores into the metadata file, into the files of folders that it has handles on or moves,
-- into a new node's, and into the file of the node that it writes, resizes or fallocates; and it removes files.
use mathlib.Core.Path.{◌≡◌, refl, sym, ap, ◌∙◌, subst}
use mathlib.Core.Bool.{true, false}
use mathlib.Core.List.{List}
use mathlib.Core.Logic.{◌≢◌, ◌⊎◌, inl, inr, ⊎_elim}
use Prim.Native.Nat.{ℕ, ◌+◌, ◌*◌, ◌<◌, ◌^◌}
use native.Mathlib.Omega.{arith}
use Rattle.base.specs.Out.{Out, kept, Ok, went, said}
use Rattle.base.proofs.Outs.{ok-bind, ok-weaken}
use Rattle.base.proofs.Bools.{bool_cases, true-false}
use Rattle.base.proofs.Lists.{tab-cong}
use Rattle.std.specs.Prelude.{Option, Some, None}
use Rattle.structs.specs.Layout.{record_of}
use Rattle.structs.proofs.Layouts.{record_of-record_bytes}
use Rattle.structs.specs.Types.{is_folder}
use Rattle.structs.specs.declared.DiskINode.{DiskINode}
use Rattle.structs.specs.declared.Timespec.{Timespec}
use Rattle.arena.specs.Fields.{File, file}
use Rattle.files.specs.Read.{there, byte_at}
use Rattle.files_laws.specs.Laws.{Kept}
use Rattle.files_laws.proofs.Bounds.{named-node}
use Rattle.table.specs.declared.Table.{Table}
use Rattle.table.specs.declared.Row.{Row}
use Rattle.table.specs.declared.Handle.{Handle}
use Rattle.table.specs.Table.{row_at, row_of, with_row, add_hold, row_used, close_hold}
use Rattle.table_laws.specs.Rules.{Live}
use Rattle.table_laws.proofs.Rules.{of-holder}
use Rattle.table_laws.proofs.Rows.{row_here}
use Rattle.table_laws.proofs.Handles.{live-means, live-used}
use Rattle.table_laws.proofs.Finds.{row-found}
use Rattle.table_laws.proofs.Spare.{first-spare}
use Rattle.sefs.specs.State.{Fs}
use Rattle.sefs.specs.Records.{new_record}
use Rattle.sefs.specs.Meta.{meta_file}
use Rattle.sefs.specs.Nodes.{Opened, id_at, node_file, new_node}
use Rattle.sefs.specs.Folders.{entry}
use Rattle.sefs.specs.Ask.{start}
use Rattle.sefs.specs.Create.{Given, create_steps}
use Rattle.sefs.specs.Read.{call_metadata, call_entry, call_listing}
use Rattle.paths.specs.Path.{call_path}
use Rattle.inventory.specs.Inventory.{call_inventory}
use Rattle.sefs.specs.Contents.{call_read}
use Rattle.rules.specs.Image.{is_node, stored_bytes, rec_by, rec_of}
use Rattle.rules.specs.Rules.{Allowed}
use Rattle.rules.proofs.Files.{node-below}
use Rattle.sefs_laws.proofs.Rows.{Any, any, Changes, Stores, Metas, Bears, bears-and, Fills, tabled, filed-kept, filed, leaves-meta, leaves-sync, leaves-append, leaves-birth, leaves-named, row_below}
use Rattle.image.specs.Midway.{Used, stored_meta}
use Rattle.image.proofs.Handles.{formed, row-rec, row-node}
use Rattle.image.proofs.Images.{fair}
use Rattle.image.proofs.Holds.{add-rows}
use Rattle.image.proofs.Nodes.{there-meta, meta-is, node-some}
use Rattle.image.proofs.Stores.{node-apart}
use Rattle.image.proofs.Metas.{kept_same, kept_then}
use Rattle.image.proofs.Appends.{file-apart}
use Rattle.image.proofs.Allocs.{taken-new}
use Rattle.image.proofs.Makes.{Makes, new-node-law}
use Rattle.sequences.specs.Pairs.{Pair, Passed}
use Rattle.sequences.specs.Calls.{Call, root, find, walk, create, link, remove_file, remove_folder, move, metadata, set_metadata, get_entry, listing, full_path, read, write, resize, fallocate, sync, close, check, inventory, mend, NewFits, Fits, does, next}
use Rattle.sequences.specs.Promises.{Through, writes, resizes, fallocates}
use Rattle.sequences.proofs.Passing.{allowed, spelled-any}
use Rattle.sequences.proofs.Looks.{mend-stays}
use Rattle.sequences.proofs.Tables.{FillsFolders, Turns, keeps-create, keeps-root, keeps-find, keeps-walk, keeps-set, keeps-link, keeps-remove, keeps-write, keeps-resize, keeps-fallocate, keeps_sync, keeps-close}
use Rattle.sequences.proofs.Closes.{close-rows}
use Rattle.sequences.proofs.Creates.{fair-sane}
use Rattle.sequences.proofs.Moves.{move-call}
use Rattle.sequences.proofs.Corner.{at-put}
use Rattle.sequences.proofs.Tracks.{As, Wide, Dirty, Tracks, tracks-rows, tracks-bears, tracks-fills, tracks-new}

-- where file f is there, it is as it was in arena o
abbrev pub KeptIfThere : List ℕ → List ℕ → List ℕ → Type 0
KeptIfThere o f a = there a (file 1 f) ≡ true → Kept o a (file 1 f)

-- every node has the type and the file that it had in pair p
abbrev pub Nodes : Pair → List ℕ → Table → Type 0
Nodes p a t = (m : ℕ) → is_node p.arena m ≡ true → Tracks m (rec_of p.arena p.table m).kind (rec_of p.arena p.table m).file a t

-- and file f is as it was
abbrev pub Intact : Pair → List ℕ → List ℕ → Table → Type 0
Intact p f a t = KeptIfThere p.arena f a × Nodes p a t

-- row i of table t is in use, a live hold names it, and its file is that of row i in table v
pub record Firm (v t : Table) (i : ℕ) : Type 0 where
  pub used : row_used t i ≡ true
  pub some : (row_at t i).id ≢ 0
  pub same : (row_at t i).rec.file ≡ (row_at v i).rec.file

-- rows with handles are firm since table v
abbrev pub FirmSince : Table → Table → Type 0
FirmSince v t = (i : ℕ) → Firm v v i → Firm v t i

module _ (v : Table) where
  firm-put : (u : Table) (i : ℕ) (r : Row) → ((j : ℕ) → Firm v u j → j ≡ i → (r.id ≢ 0) × (r.rec.file ≡ (row_at u j).rec.file)) → FirmSince v u → FirmSince v (with_row u i r)
  unfolding row_used
  firm-put u i r g firm j h = let x = firm j h in record {
    used = x.used;
    some = at-put (λ (z : Row). z.id ≢ 0) u i r j (λ e. (g j x e).0) x.some;
    same = at-put (λ (z : Row). z.rec.file ≡ (row_at v j).rec.file) u i r j (λ e. (g j x e).1 ∙ x.same) x.same;
  }

  -- a firm row is not free, and not unheld
  pub firm-bears : Bears (λ a t. FirmSince v t)
  firm-bears = tabled (FirmSince v)
      (λ t i r e q d. firm-put t i r (λ j x z. (λ w. x.some (ap (λ (k : ℕ). (row_at t k).id) z ∙ sym e ∙ w), q ∙ ap (λ (k : ℕ). (row_at t k).rec.file) (sym z))))
      (λ t i r e. firm-put t i r (λ j x z. absurd (x.some (ap (λ (k : ℕ). (row_at t k).id) z ∙ e))))
      (λ t i e. firm-put t i _ (λ j x z. absurd (true-false (ap (row_used t) (sym z) ∙ x.used) e)))

module _ (o f : List ℕ) where
  then-kept : (a b : List ℕ) → Kept a b (file 1 f) → Kept o a (file 1 f) → Kept o b (file 1 f)
  then-kept a b k s = kept_then o a b (file 1 f) s k

  stays-kept : (a b : List ℕ) → Kept a b (file 1 f) → KeptIfThere o f a → KeptIfThere o f b
  stays-kept = filed-kept f (λ a. Kept o a (file 1 f)) then-kept

  stays-bears : Bears (λ a t. KeptIfThere o f a)
  stays-bears = filed f (λ a. Kept o a (file 1 f)) then-kept

-- ---- as a call begins, and goes on

module _ (p : Pair) (y : Passed p) where
  abbrev a : List ℕ
  a = p.arena

  abbrev t : Table
  t = p.table

  abbrev K : ℕ → ℕ
  K m = (rec_of p.arena p.table m).kind

  abbrev F : ℕ → List ℕ
  F m = (rec_of p.arena p.table m).file

  A : Allowed p.arena p.table
  A = allowed p y

  used-row : (j : ℕ) → (row_at p.table j).id ≢ 0 → Used p.table j
  used-row j z = record { below = row_below t y.typed.fits.rows-34 j z; node = z }

  some_of : (m : ℕ) → is_node p.arena m ≡ true → m ≢ 0
  some_of m N = node-some a t (fair a t A) m N

  pub nodes-start : Nodes p p.arena p.table
  unfolding rec_of
  nodes-start m N = record {
    rows = λ j e. of j (used-row j (λ z. some_of m N (sym e ∙ z))) e;
    stored = by (row_of t m) refl;
    wide = λ j l. let F = (y.typed.fits.rows j (omega (arith, y.typed.fits.rows-34))).rec in record { file = F.file; mac = F.mac };
  }
    where
      of : (j : ℕ) → Used p.table j → (row_at p.table j).id ≡ m → As (K m) (F m) (row_at p.table j).rec
      of j u e =
          let q : (row_at t j).rec ≡ rec_of a t m = sym (row-rec a t A j u) ∙ ap (rec_of a t) e in
          record { kind = ap (λ (r : DiskINode). r.kind) q; file = ap (λ (r : DiskINode). r.file) q }

      by : (x : Option ℕ) → row_of p.table m ≡ x → As (K m) (F m) (record_of (stored_bytes p.arena m)) ⊎ Dirty m p.table
      by (Some j) e =
          let w = row-found t m j e in
          let u = used-row j (λ z. some_of m N (sym w.1 ∙ z)) in
          ⊎_elim
          (λ d. inr (record { at = j; below = w.0; id = w.1; dirty = d }))
          (λ d. inl (subst (As (K m) (F m))
          (sym (record_of-record_bytes (row_at t j).rec (y.typed.fits.rows j w.0).rec) ∙ ap record_of (A.rule4.clean j w.0 u.node d) ∙ ap (λ (x : ℕ). record_of (stored_bytes a x)) w.1)
          (of j u w.1)))
          (bool_cases (row_at t j).dirty)
      by None e =
          let q : rec_of a t m ≡ record_of (stored_bytes a m) = ap (rec_by a t m) e in
          inl (record { kind = ap (λ (r : DiskINode). r.kind) (sym q); file = ap (λ (r : DiskINode). r.file) (sym q) })

  most-of : (m : ℕ) → is_node p.arena m ≡ true → K m < 2 ^ 32
  most-of m N = omega (arith, A.rule5.most m N)

  pub nodes-bears : Bears (Nodes p)
  nodes-bears = record {
    changes = λ b u i r e q d m w c x N. (track x N).changes b u i r e q d m w (c x N);
    loads = λ b u i id free new c x N. (track x N).loads b u i id free new (c x N);
    frees = λ b u i unused clean c x N. (track x N).frees b u i unused clean (c x N);
    stores = λ b d u i l P c x N. (track x N).stores b d u i l P (c x N);
    metas = λ b d u files same c x N. (track x N).metas b d u files same (c x N);
    drops = λ b d u g D c x N. (track x N).drops b d u g D (c x N);
  }
    where
      track : (m : ℕ) → is_node p.arena m ≡ true → Bears (Tracks m (K m) (F m))
      track m N = tracks-bears m (K m) (F m) (some_of m N) (node-apart a m N) (most-of m N)

  -- the rows alone count
  pub nodes-rows : (b : List ℕ) (u v : Table) → v.rows ≡ u.rows → Nodes p b u → Nodes p b v
  nodes-rows b u v e c x N = tracks-rows x (K x) (F x) b u v e (c x N)

  pub nodes-adds : (b : List ℕ) (u : Table) (w row : ℕ) → Nodes p b u → Nodes p b (add_hold u w row).table
  nodes-adds b u w row = nodes-rows b u (add_hold u w row).table (add-rows u w row)

  pub nodes-fills : (i : ℕ) → Fills (Nodes p) i
  nodes-fills i b d u k c x N = tracks-fills x (K x) (F x) (some_of x N) (node-apart a x N) (most-of x N) i b d u k (c x N)

  module _ (f : List ℕ) where
    intact-start : Intact p f p.arena p.table
    intact-start = (λ e. kept_same a (file 1 f), nodes-start)

    intact-bears : Bears (Intact p f)
    intact-bears = bears-and (stays-bears a f) nodes-bears

    intact-adds : (b : List ℕ) (u : Table) (w row : ℕ) → Intact p f b u → Intact p f b (add_hold u w row).table
    intact-adds b u w row c = (c.0, nodes-adds b u w row c.1)

    -- a file that is not f is filled
    intact-fill : (i : ℕ) (b d : List ℕ) (u : Table) → (row_at u i).rec.file ≢ f → ((g : File) → node_file (row_at u i).rec ≢ g → Kept b d g) → Intact p f b u → Intact p f d u
    intact-fill i b d u n k c = (stays-kept a f b d (k (file 1 f) (file-apart (row_at u i).rec.file f n)) c.0, nodes-fills i b d u k c.1)

    -- and the rows that have handles
    abbrev pub Calm : List ℕ → Table → Type 0
    Calm b u = Intact p f b u × FirmSince p.table u

    calm-start : Calm p.arena p.table
    calm-start = (intact-start, λ i x. x)

    calm-bears : Bears Calm
    calm-bears = bears-and intact-bears (firm-bears t)

    calm-fills : (i : ℕ) → Firm p.table p.table i → (row_at p.table i).rec.file ≢ f → Fills Calm i
    calm-fills i h n b d u k c = (intact-fill i b d u (λ q. n (sym (c.1 i h).same ∙ q)) k c.0, c.1)

    -- a row for a new node, at the start
    calm-new : (b : List ℕ) (i : ℕ) (r : Row) → (row_at p.table i).id ≡ 0 → is_node p.arena r.id ≡ false → Wide r → Kept p.arena b (file 1 f)
        → ((m : ℕ) → is_node p.arena m ≡ true → stored_bytes b m ≡ stored_bytes p.arena m) → Calm b (with_row p.table i r)
    calm-new b i r free new wide kept same = (
      (
        λ e. kept,
        λ x N. tracks-new x (K x) (F x) (some_of x N) (node-apart a x N) (most-of x N) a b t i r free (λ q. true-false (ap (is_node a) q ∙ N) new) wide (same x N) (nodes-start x N),
      ),
      firm-put t t i r (λ j x z. absurd (x.some (ap (λ (k : ℕ). (row_at t k).id) z ∙ free))) (λ j h. h),
    )

    -- ---- a new node, whose file is not f

    module _ (kind mode : ℕ) (time : Timespec) (uuid : List ℕ) (fits : NewFits kind mode time uuid) (absent : there p.arena (file 1 uuid) ≡ false) (other : f ≢ uuid) where
      pub make : Ok (Makes (start p.arena p.table) (stored_meta p.arena) (new_record kind mode time uuid)) (λ r. r ≡ 17) (new_node (start p.arena p.table) kind mode time uuid)
      unfolding is_node
      make =
          let s = first-spare t (formed a t A) in
          let B = fair a t A in
          new-node-law (start a t) (stored_meta a) (meta-is a t B) (fair-sane a t B y.typed.bytes) (there-meta a t B) A.rule3.length y.typed.bytes A.rule1.sound A.rule4.node
          s.0 s.1 uuid (named-node uuid fits.file fits.bytes) absent kind mode time

      module _ (c : ℕ) where
        -- row c has the new file
        abbrev pub New : List ℕ → Table → Type 0
        New b u = Calm b u × ((row_at u c).rec.file ≡ uuid)

        new-changes : Changes New
        new-changes b u i r e q d m w h =
            (calm-bears.changes b u i r e q d m w h.0, at-put (λ (x : Row). x.rec.file ≡ uuid) u i r c (λ z. q ∙ ap (λ (j : ℕ). (row_at u j).rec.file) (sym z) ∙ h.1) h.1)

        new-stores : Stores New
        new-stores b d u i l P h = (calm-bears.stores b d u i l P h.0, at-put (λ (x : Row). x.rec.file ≡ uuid) u i _ c (λ z. ap (λ (j : ℕ). (row_at u j).rec.file) (sym z) ∙ h.1) h.1)

        new-metas : Metas New
        new-metas b d u files same h = (calm-bears.metas b d u files same h.0, h.1)

        new-own : Fills New c
        new-own b d u q h = ((intact-fill c b d u (λ e. other (sym e ∙ h.1)) q h.0.0, h.0.1), h.1)

      pub made : (o : Opened) → Makes (start p.arena p.table) (stored_meta p.arena) (new_record kind mode time uuid) o → New o.row o.state.arena o.state.table
      unfolding is_node stored_bytes
      made o Q =
          let w = row-found t 0 o.row Q.free in
          let r : Row = record { id = Q.id; dirty = true; rec = new_record kind mode time uuid } in
          subst (λ (s : Fs). New o.row s.arena s.table) (sym Q.is) (
            calm-new Q.arena o.row r w.1 (taken-new (stored_meta a) Q.meta Q.id Q.taken) (record { file = fits.file; mac = refl }) (Q.others f other)
                (λ m M. tab-cong (byte_at Q.arena meta_file) (byte_at a meta_file) (128 * m) (128 * m) 112 (λ i l. Q.ground.below (128 * m + i) (omega (arith, A.rule3.length, node-below a m M)))),
            ap (λ (x : Row). x.rec.file) (row_here t o.row r (omega (arith, w.0, y.typed.fits.rows-34))),
          )

      create-steps : (w i : ℕ) (name : List ℕ) → Fills Calm i → Ok (λ (x : Given). Intact p f x.arena x.table) Any (create_steps (start p.arena p.table) w i name kind mode time uuid)
      unfolding create_steps
      create-steps w i name fills =
          ok-bind (ok-weaken made (λ r q. tt) make) λ x h.
          let M : List ℕ → Table → Type 0 = New x.row in
          let own : Fills M i = λ b d u q h. (fills b d u q h.0, h.1) in
          ok-bind (leaves-birth M x.row (new-own x.row) (new-changes x.row) x.state i kind h) λ s h.
          ok-bind (leaves-append M i own (new-changes x.row) s (entry (id_at s x.row) name kind) h) λ s h.
          ok-bind (leaves-named M (new-changes x.row) s i x.row kind h) λ s h.
          ok-bind (leaves-meta M (new-metas x.row) s h) λ s h.
          ok-bind (leaves-sync M (new-stores x.row) s x.row h) λ s h.
          ok-bind (leaves-sync M (new-stores x.row) s i h) λ s h.
          went (intact-adds s.arena s.table w x.row h.0.0)

  -- ---- the rows of live handles

  pub live-row : (w : ℕ) (g : Handle) (i : ℕ) → Live p.table w g i → Used p.table i
  live-row w g i l = record { below = l.is_row; node = live-used t w g i (formed a t A) l }

  pub live-firm : (w : ℕ) (g : Handle) (i : ℕ) → Live p.table w g i → Firm p.table p.table i
  live-firm w g i l = record {
    used = of-holder t i (record { hold = g.hold; is-hold = l.is-hold; live = λ z. l.given (sym l.stamp ∙ z); names = l.names });
    some = (live-row w g i l).node;
    same = refl;
  }

  -- ---- the calls

  module _ (n : ℕ) (N : is_node p.arena n ≡ true) (no-dir : is_folder (rec_of p.arena p.table n).kind ≡ false) where
    abbrev f : List ℕ
    f = (rec_of p.arena p.table n).file

    abbrev I : List ℕ → Table → Type 0
    I = Intact p f

    abbrev C : List ℕ → Table → Type 0
    C = Calm f

    -- another node has another file
    apart-file : (m : ℕ) → is_node p.arena m ≡ true → m ≢ n → F m ≢ f
    apart-file m M d q = d (A.rule5.distinct m n M N q)

    -- a folder is another node
    folder-file : (m : ℕ) → is_node p.arena m ≡ true → is_folder (K m) ≡ true → F m ≢ f
    folder-file m M dir = apart-file m M (λ q. true-false (ap (λ (k : ℕ). is_folder (K k)) (sym q) ∙ dir) no-dir)

    row_apart : (w : ℕ) (g : Handle) (i : ℕ) → Live p.table w g i → (row_at p.table i).id ≢ n → (row_at p.table i).rec.file ≢ f
    row_apart w g i l d q =
        let u = live-row w g i l in
        apart-file (row_at t i).id (row-node a t A i u) d (ap (λ (r : DiskINode). r.file) (row-rec a t A i u) ∙ q)

    folders : FillsFolders C p.table
    folders w g i l dir =
        let u = live-row w g i l in
        let q = row-rec a t A i u in
        calm-fills f i (live-firm w g i l) (λ e. folder-file (row_at t i).id (row-node a t A i u) (ap (λ (r : DiskINode). is_folder r.kind) q ∙ dir) (ap (λ (r : DiskINode). r.file) q ∙ e))

    -- a folder that moves
    turns : Turns C p.arena p.table
    turns c row M dir b d u e k h = (intact-fill f row b d u (λ q. folder-file c M dir (sym ((h.0.1 c M).rows row e).file ∙ q)) k h.0, h.1)

    -- ---- all of them

    pub leaves : (c : Call) → Fits c → (Through n p.table c → ⊥) → Ok (λ (q : Pair). Intact p (rec_of p.arena p.table n).file q.arena q.table) Any (does c p)
    unfolding does
    leaves (root w) x z = ok-bind (keeps-root I (intact-bears f).loads (intact-adds f) a t w (intact-start f)) λ x l. went l
    leaves (find w g name) x z = ok-bind (keeps-find I (intact-bears f).loads (intact-adds f) a t w g name (intact-start f)) λ x l. went l
    leaves (walk w g path room) x z = ok-bind (keeps-walk I (intact-bears f).loads (intact-adds f) a t w g path room (intact-start f)) λ x l. went l
    leaves (create w g name kind mode time uuid) x z =
        ok-bind (keeps-create I a t w g name kind mode time uuid (λ i l dir none. create-steps f kind mode time uuid x.3 none (λ e. true-false (A.rule5.own n N) (ap (λ (x : List ℕ). there a (file 1 x)) e ∙ none)) w i name (folders w g i l dir))) λ x l. went l
    leaves (link w g name child) x z = ok-bind (keeps-link C (calm-bears f) a t folders w g name child (calm-start f)) λ x l. went l.0
    leaves (remove_file w g name) x z = ok-bind (keeps-remove C (calm-bears f) false a t folders w g name (calm-start f)) λ x l. went l.0
    leaves (remove_folder w g name) x z = ok-bind (keeps-remove C (calm-bears f) true a t folders w g name (calm-start f)) λ x l. went l.0
    leaves (move w g old target name) x z =
        ok-bind (ok-weaken (λ x l. l) (λ m r. tt) (move-call C (calm-bears f) p (spelled-any p y) folders turns (calm-start f) w g old target name x.4)) λ x l. went l.1.0
    leaves (metadata w g) x z = ok-bind (any (call_metadata a t w g)) λ x _. went (intact-start f)
    leaves (set_metadata w g mode uid gid at mt ct) x z = ok-bind (keeps-set I (intact-bears f) a t w g mode uid gid at mt ct (intact-start f)) λ x l. went l
    leaves (get_entry w g j room) x z = ok-bind (any (call_entry a t w g j room)) λ x _. went (intact-start f)
    leaves (listing w g m room) x z = ok-bind (any (call_listing a t w g m room)) λ x _. went (intact-start f)
    leaves (full_path w g room) x z = ok-bind (any (call_path a t w g room)) λ x _. went (intact-start f)
    leaves (read w g place room) x z = ok-bind (any (call_read a t w g place room)) λ x _. went (intact-start f)
    leaves (write w g place bytes) x z =
        ok-bind (keeps-write C (calm-bears f) a t w g place bytes (λ i l. calm-fills f i (live-firm w g i l) (row_apart w g i l (λ q. z (writes ((live-means t w g i).1 l) q)))) (calm-start f)) λ x l. went l.0
    leaves (resize w g m) x z =
        ok-bind (keeps-resize C (calm-bears f) a t w g m (λ i l. calm-fills f i (live-firm w g i l) (row_apart w g i l (λ q. z (resizes ((live-means t w g i).1 l) q)))) (calm-start f)) λ x l. went l.0
    leaves (fallocate w g mode from len) x z =
        ok-bind (keeps-fallocate C (calm-bears f) a t w g mode from len (λ i l. calm-fills f i (live-firm w g i l) (row_apart w g i l (λ q. z (fallocates ((live-means t w g i).1 l) q)))) (calm-start f)) λ x l. went l.0
    leaves sync x z = ok-bind (keeps_sync C (calm-bears f) a t (calm-start f)) λ x l. went l.0
    -- the closed hold's row is firm no more
    leaves (close w g) x z =
        ok-bind (keeps-close I (intact-bears f) a t w g (λ i l. ((intact-start f).0, nodes-rows a t (close_hold t g.hold).table (close-rows t g.hold) nodes-start))) λ x l. went l
    leaves check x z = went (intact-start f)
    leaves (inventory room) x z = ok-bind (any (call_inventory a room)) λ x _. went (intact-start f)
    leaves mend x z = ok-weaken (λ q e. subst (λ (q : Pair). I q.arena q.table) (sym e) (intact-start f)) (λ m r. tt) (mend-stays p y)

    -- afterwards
    pub left : (c : Call) → Fits c → (Through n p.table c → ⊥) → Intact p (rec_of p.arena p.table n).file (next c p).arena (next c p).table
    left c x z = by-outcome (leaves c x z)
      where
        by-outcome : {o : Out Pair} → Ok (λ (q : Pair). Intact p (rec_of p.arena p.table n).file q.arena q.table) Any o → Intact p (rec_of p.arena p.table n).file (kept p o).arena (kept p o).table
        by-outcome (went l) = l
        by-outcome (said r) = intact-start f
