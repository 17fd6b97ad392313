-- A dirty record is stored: the image by ids is the same, and the row is clean.
use mathlib.Core.Path.{refl, ◌≡◌, sym, ap, ◌∙◌, subst}
use mathlib.Core.Bool.{Bool, true, false, not, ◌&&◌}
use mathlib.Core.List.{List, ◌++◌}
use mathlib.Core.Logic.{◌≢◌, ⊎_elim}
use Prim.Native.Nat.{ℕ, zero, suc, ◌+◌, ◌*◌, ◌-◌, ◌%◌, ◌≤◌, ◌<◌}
use native.Mathlib.Omega.{arith}
use lib.Dec.{eqb, ltb}
use lib.ListN.{length, get_or}
use borrow.Author.Tests.{not-true, eqb-false}
use Rattle.base.specs.Out.{done, Ok, went}
use Rattle.base.proofs.Outs.{ok-bind, ok-weaken, above_zero}
use Rattle.base.specs.Parts.{tab}
use Rattle.base.proofs.Bools.{and_parts, true-false}
use Rattle.base.proofs.Lists.{tab-cong, tab-get_or}
use Rattle.base.proofs.Numbers.{lt-or-le}
use Rattle.base.proofs.Finds.{eq-cases}
use Rattle.base.specs.Search.{pick}
use Rattle.std.specs.Prelude.{Option, Some, None}
use Rattle.le.specs.Le.{Bytes}
use Rattle.structs.specs.Fits.{RecordFits}
use Rattle.structs.specs.Layout.{super_of, record_of, record_bytes}
use Rattle.structs.proofs.Layouts.{length-record_bytes, record_bytes-bytes}
use Rattle.structs.specs.declared.SuperBlock.{SuperBlock}
use Rattle.maps.specs.Maps.{bit_at}
use Rattle.arena.specs.Fields.{File, file}
use Rattle.table.specs.declared.Table.{Table}
use Rattle.table.specs.declared.Row.{Row}
use Rattle.table.specs.Table.{row_at, row_of, with_dirty}
use Rattle.table_bytes.specs.Fits.{TableFits}
use Rattle.table_laws.proofs.Finds.{row-missing, row_same}
use Rattle.table_laws.proofs.Rows.{row_here, row_apart, dirty-kept}
use Rattle.table_laws.specs.Rules.{Formed}
use Rattle.files.specs.Read.{byte_at}
use Rattle.files.specs.Store.{put_file}
use Rattle.files_laws.specs.Laws.{Put, PutRefused}
use Rattle.files_laws.proofs.Put.{put-law}
use Rattle.files_laws.proofs.Bounds.{legal-same}
use Rattle.sefs.specs.State.{Fs}
use Rattle.sefs.specs.Meta.{meta_file, map_at}
use Rattle.sefs.specs.Nodes.{no_row, store_row, sync_row}
use Rattle.rules.specs.Image.{run, stored_super, maps_to, stored_maps, ids_in, is_node, stored_bytes, rec_by, rec_of, is_open}
use Rattle.rules.specs.Rules.{Rule1}
use Rattle.rules.proofs.Files.{node-below}
use Rattle.image.specs.Midway.{Used, Look, Fairly, Amid}
use Rattle.image.proofs.Images.{like-same, Alike, image-fair}
use Rattle.image.proofs.Records.{fits-row}
use Rattle.image.proofs.Nodes.{there-meta, node-some}
use Rattle.files_laws.specs.Laws as laws

-- a node's id is no map's
pub node-apart : (a : List ℕ) (id : ℕ) → is_node a id ≡ true → id % 1024 ≢ 1
unfolding is_node
node-apart a id n =
    let x = and_parts (ltb id (ids_in a)) (not (eqb id 0) && (not (eqb (id % 1024) 1) && not (bit_at (stored_maps a) id))) n in
    let y = and_parts (not (eqb id 0)) (not (eqb (id % 1024) 1) && not (bit_at (stored_maps a) id)) x.1 in
    let z = and_parts (not (eqb (id % 1024) 1)) (not (bit_at (stored_maps a) id)) y.1 in
    eqb-false (id % 1024) 1 (not-true (eqb (id % 1024) 1) z.0)

-- ---- 112 bytes are put at a record's place in the metadata file: superblock, maps and every other record are as they were

module _ (a : List ℕ) (id : ℕ) (some : id ≢ 0) (off : id % 1024 ≢ 1) (src : List ℕ) (long : length src ≡ 112) (b : List ℕ) (P : Put a meta_file (128 * id) src b) where
  -- bytes elsewhere in the metadata file
  elsewhere : (pos m : ℕ) → ((i : ℕ) → i < m → 128 * id ≤ pos + i → 128 * id + 112 ≤ pos + i) → run b meta_file pos m ≡ run a meta_file pos m
  elsewhere pos m h =
      tab-cong (byte_at b meta_file) (byte_at a meta_file) pos pos m (λ i l. P.outside (pos + i) (λ g. omega (arith, long, h i l g)))

  put-super : stored_super b ≡ stored_super a
  unfolding stored_super
  put-super = ap super_of (elsewhere 0 16 (λ i l g. absurd (omega (arith, above_zero id some))))

  same-maps : (k : ℕ) → maps_to b k ≡ maps_to a k
  unfolding maps_to
  same-maps zero = refl
  same-maps (suc k) =
      λ x. same-maps k x ++ elsewhere (map_at k) 128 (λ i l g.
      ⊎_elim (λ m. absurd (off (let e : id ≡ 1024 * k + 1 = omega arith in omega arith))) (λ m. m) (lt-or-le (map_at k + i) (128 * id + 112))) x

  put-maps : stored_maps b ≡ stored_maps a
  unfolding stored_maps
  put-maps = ap (λ (x : SuperBlock). maps_to b x.groups) put-super ∙ same-maps (stored_super a).groups

  put-records : (j : ℕ) → j ≢ id → stored_bytes b j ≡ stored_bytes a j
  unfolding stored_bytes
  put-records j d =
      elsewhere (128 * j) 112 (λ i l g. ⊎_elim (λ m. omega arith) (λ m. absurd (d (omega arith))) (lt-or-le id j))

-- ---- the same at a node's place

module _ {way : Look} (a : List ℕ) (t : Table) (A : Fairly way a t) (id : ℕ) (n : is_node a id ≡ true) (src : List ℕ) (long : length src ≡ 112) where
  -- it can be refused for want of room alone
  pub record-put : Ok (Put a meta_file (128 * id) src) (λ r. r ≡ 17) (put_file a meta_file (128 * id) src)
  record-put = ok-weaken (λ b P. P) (λ r e. why e) (put-law a meta_file (128 * id) src)
    where
      why : {r : ℕ} → PutRefused a meta_file (128 * id) (length src) r → r ≡ 17
      why (laws.missing e) = absurd (true-false (there-meta a t A) e)
      why (laws.far _ _) = refl
      why (laws.full _ _ _) = refl

  module _ (b : List ℕ) (P : Put a meta_file (128 * id) src b) where
    pub put-alike : Alike a b
    put-alike = record {
      super = put-super a id (node-some a t A id n) (node-apart a id n) src long b P;
      maps = put-maps a id (node-some a t A id n) (node-apart a id n) src long b P;
      length = P.long ∙ (let l = node-below a id n in omega (arith, A.rule3.length, long));
      files = λ f. P.others (file 1 f) (λ e. let z : ◌≡◌ {A = ℕ} 0 1 = ap (λ (g : File). g.which) e in omega arith);
    }

    pub put-stored : stored_bytes b id ≡ src
    unfolding stored_bytes
    put-stored =
        tab-cong (byte_at b meta_file) (λ i. get_or src i 0) (128 * id) 0 112
        (λ i l. P.inside (128 * id + i) (omega arith) (omega (arith, long)) ∙ ap (λ (j : ℕ). get_or src j 0) (let e : 128 * id + i - 128 * id ≡ 0 + i = omega arith in e))
        ∙ ap (tab (λ i. get_or src i 0) 0) (sym long) ∙ tab-get_or src

    pub put-others : (j : ℕ) → j ≢ id → stored_bytes b j ≡ stored_bytes a j
    put-others = put-records a id (node-some a t A id n) (node-apart a id n) src long b P

    pub put-fine : Bytes a → Bytes src → Rule1 b
    put-fine x y = record { length = legal-same a b P.size ∙ A.rule1.length; sound = P.keeps x y A.rule1.sound }

-- ---- a dirty row is stored

module _ {way : Look} {own : ℕ → Type 0} (a : List ℕ) (t : Table) (A : Fairly way a t) (O : Formed own t) (y : Bytes a) (T : TableFits t) (i : ℕ) (used : Used t i) where
  abbrev id : ℕ
  id = (row_at t i).id

  abbrev src : List ℕ
  src = record_bytes (row_at t i).rec

  F : RecordFits (row_at t i).rec
  F = (T.rows i used.below).rec

  long : length src ≡ 112
  long = length-record_bytes (row_at t i).rec F.file F.mac

  src-bytes : Bytes src
  src-bytes = record_bytes-bytes (row_at t i).rec F.file_bytes F.mac_bytes

  n : is_node a id ≡ true
  n = A.rule4.node i used.below used.node

  abbrev row : Row
  row = record { id = (row_at t i).id; dirty = false; rec = (row_at t i).rec }

  abbrev u : Table
  u = with_dirty t i false

  split : (Q : Row → Type 0) (j : ℕ) → (j ≡ i → Q row) → ((j ≡ i → ⊥) → Q (row_at t j)) → Q (row_at u j)
  split Q j f g =
      ⊎_elim
      (λ (e : j ≡ i). subst Q (sym (ap (row_at u) e ∙ row_here t i row (omega (arith, used.below, T.rows-34)))) (f e))
      (λ d. subst Q (sym (row_apart t i row j d)) (g d))
      (eq-cases j i)

  same_id : (j : ℕ) → (row_at u j).id ≡ (row_at t j).id
  same_id j = split (λ (x : Row). x.id ≡ (row_at t j).id) j (λ e. ap (λ (k : ℕ). (row_at t k).id) (sym e)) (λ d. refl)

  same-rec : (j : ℕ) → (row_at u j).rec ≡ (row_at t j).rec
  same-rec j = split (λ (x : Row). x.rec ≡ (row_at t j).rec) j (λ e. ap (λ (k : ℕ). (row_at t k).rec) (sym e)) (λ d. refl)

  same_row : (k : ℕ) → row_of u k ≡ row_of t k
  same_row k = row_same u t k (λ j l. same_id j)

  module _ (b : List ℕ) (P : Put a meta_file (128 * id) src b) where
    same-all : (k : ℕ) → rec_of b u k ≡ rec_of a t k
    unfolding rec_of
    same-all k = ap (rec_by b u k) (same_row k) ∙ go (row_of t k) refl
      where
        go : (f : Option ℕ) → row_of t k ≡ f → rec_by b u k f ≡ rec_by a t k f
        go (Some j) e = same-rec j
        go None e = ap record_of (put-others a t A id n src long b P k (λ q. row-missing t k e i used.below (sym q)))

    open-all : (k : ℕ) → is_open t k ≡ true → is_open u k ≡ true
    unfolding is_open
    open-all k o = ap (λ (f : Option ℕ). not (no_row f)) (same_row k) ∙ o

    pub stored-fair : Fairly way b (with_dirty t i false)
    stored-fair =
        image-fair a b t u A (put-alike a t A id n src long b P) (put-fine a t A id n src long b P y src-bytes)
        (λ j l d. subst (λ (k : ℕ). is_node a k ≡ true) (sym (same_id j)) (A.rule4.node j l (λ z. d (same_id j ∙ z))))
        (λ j l. split (λ (x : Row). x.id ≢ 0 → x.dirty ≡ false → record_bytes x.rec ≡ stored_bytes b x.id) j
        (λ e z c. sym (put-stored a t A id n src long b P))
        (λ d z c. A.rule4.clean j l z c ∙ sym (put-others a t A id n src long b P (row_at t j).id (λ q. d (O.one-row j i l used.below z q)))))
        (λ k m. like-same (same-all k))
        (λ k m z. open-all k)

    pub stored-mid : Amid way own b (with_dirty t i false)
    stored-mid = record {
      fair = stored-fair;
      formed = dirty-kept t O i used.below false used.node;
      bytes = P.bytes y src-bytes;
      fits = fits-row t T i row (record { id = (T.rows i used.below).id; rec = F });
    }

    pub stored-clean : (row_at (with_dirty t i false) i).dirty ≡ false
    stored-clean = ap (λ (x : Row). x.dirty) (row_here t i row (omega (arith, used.below, T.rows-34)))

-- what sync_row leaves of a state
pub record Synced (way : Look) (own : ℕ → Type 0) (s : Fs) (i : ℕ) (d : Fs) : Type 0 where
  pub mid : Amid way own d.arena d.table
  pub meta : d.meta ≡ s.meta
  pub super : stored_super d.arena ≡ stored_super s.arena
  pub maps : stored_maps d.arena ≡ stored_maps s.arena
  pub clean : (row_at d.table i).dirty ≡ false
  pub ids : (j : ℕ) → (row_at d.table j).id ≡ (row_at s.table j).id
  pub recs : (j : ℕ) → (row_at d.table j).rec ≡ (row_at s.table j).rec
  pub holds : d.table.holds ≡ s.table.holds
  pub all : (k : ℕ) → rec_of d.arena d.table k ≡ rec_of s.arena s.table k

-- a row is stored, if it is dirty; 17 is the one reason
pub sync-mid : {way : Look} {own : ℕ → Type 0} (s : Fs) → Amid way own s.arena s.table → (i : ℕ) → Used s.table i → Ok (Synced way own s i) (λ r. r ≡ 17) (sync_row s i)
unfolding sync_row store_row
sync-mid {way = way} {own = own} s p i u = go (row_at s.table i).dirty refl
  where
    a : List ℕ
    a = s.arena

    t : Table
    t = s.table

    A : Fairly way s.arena s.table
    A = p.fair

    F : RecordFits (row_at s.table i).rec
    F = (p.fits.rows i u.below).rec

    n : is_node s.arena (row_at s.table i).id ≡ true
    n = p.fair.rule4.node i u.below u.node

    long : length (record_bytes (row_at s.table i).rec) ≡ 112
    long = length-record_bytes (row_at s.table i).rec F.file F.mac

    go : (d : Bool) → (row_at s.table i).dirty ≡ d → Ok (Synced way own s i) (λ r. r ≡ 17) (pick d (store_row s i) (done s))
    go true e =
        ok-bind (record-put s.arena s.table A (row_at s.table i).id n (record_bytes (row_at s.table i).rec) long) λ b P.
        let S = put-alike s.arena s.table A (row_at s.table i).id n (record_bytes (row_at s.table i).rec) long b P in
        went (record {
          mid = stored-mid s.arena s.table A p.formed p.bytes p.fits i u b P;
          meta = refl;
          super = S.super;
          maps = S.maps;
          clean = stored-clean s.arena s.table A p.formed p.bytes p.fits i u b P;
          ids = same_id s.arena s.table A p.formed p.bytes p.fits i u;
          recs = same-rec s.arena s.table A p.formed p.bytes p.fits i u;
          holds = refl;
          all = same-all s.arena s.table A p.formed p.bytes p.fits i u b P;
        })
    go false e = went (record { mid = p; meta = refl; super = refl; maps = refl; clean = e; ids = λ j. refl; recs = λ j. refl; holds = refl; all = λ k. refl })
