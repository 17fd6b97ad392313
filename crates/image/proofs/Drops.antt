-- A node's row goes: its record is stored, and at links 0 the node goes too. Close and every release of a call's own opening are this.
use mathlib.Core.Path.{◌≡◌, refl, sym, ap, ◌∙◌, subst}
use mathlib.Core.Bool.{Bool, true, false, not}
use mathlib.Core.List.{List, ◌++◌}
use mathlib.Core.Logic.{◌≢◌, ⊎_elim}
use Prim.Native.Nat.{ℕ, zero, suc, ◌+◌, ◌*◌, ◌/◌, ◌≤◌, ◌<◌}
use native.Mathlib.Omega.{arith}
use lib.Dec.{eqb}
use lib.ListN.{length, get_or}
use borrow.Author.Tests.{lt-ltb, ne_eqb, eqb-true, eqb-false}
use Rattle.base.specs.Out.{done, bind, Ok, went}
use Rattle.base.proofs.Outs.{ok-bind, ok-weaken}
use Rattle.base.proofs.Bools.{true-false}
use Rattle.base.proofs.Finds.{eq-cases, search-cong, search-none}
use Rattle.base.proofs.Lists.{tab-cong}
use Rattle.base.specs.Search.{pick}
use Rattle.std.specs.Prelude.{Option, Some, None}
use Rattle.le.specs.Le.{Bytes}
use Rattle.structs.specs.Layout.{super_of, record_of, record_bytes}
use Rattle.structs.proofs.Layouts.{super_of-fits, record_of-record_bytes}
use Rattle.structs.specs.declared.DiskINode.{DiskINode}
use Rattle.structs.specs.declared.SuperBlock.{SuperBlock}
use Rattle.maps.specs.Maps.{with_bit}
use Rattle.maps.proofs.Bits.{length-with_bit, with_bit-bytes, set_bits-le}
use Rattle.arena.specs.Fields.{File, file}
use Rattle.table.specs.declared.Table.{Table}
use Rattle.table.specs.declared.Row.{Row}
use Rattle.table.specs.declared.Hold.{Hold}
use Rattle.table.specs.Zero.{zero_row, zero_hold}
use Rattle.table.specs.Table.{row_at, hold_at, is_row, row_of, free_row_at, row_used}
use Rattle.table_bytes.specs.Fits.{TableFits}
use Rattle.table_bytes.proofs.Empty.{zero-fits}
use Rattle.table_laws.specs.Rules.{Formed, also}
use Rattle.table_laws.proofs.Rules.{row_is, holder-of, of-holder}
use Rattle.table_laws.proofs.Finds.{row-found}
use Rattle.table_laws.proofs.Rows.{row_here, row_apart, free-kept, formed-held}
use Rattle.files.specs.Read.{there, length_of, byte_at}
use Rattle.files.specs.Store.{drop_file}
use Rattle.files_laws.specs.Laws.{Kept, Drop, DropRefused}
use Rattle.files_laws.proofs.Bounds.{legal-same}
use Rattle.sefs.specs.State.{Fs, Meta, with_arena, with_meta}
use Rattle.sefs.specs.Meta.{meta_file, map_at, free_block}
use Rattle.sefs.specs.Nodes.{node_file, rec_at, id_at, no_row, free_node, drop_node, release}
use Rattle.rules.specs.Image.{run, stored_super, maps_to, stored_maps, ids_in, is_node, stored_bytes, rec_by, rec_of, is_open}
use Rattle.rules.proofs.Files.{node-below}
use Rattle.image.specs.Midway.{Used, stored_meta, tree_of, Look, look, Amid}
use Rattle.image.proofs.Slots.{run-bytes}
use Rattle.image.proofs.Images.{like-same, alike_same, Off, nodes-by, image-fair}
use Rattle.image.proofs.Records.{fits-row}
use Rattle.image.proofs.Nodes.{there-meta, used-is, node-some}
use Rattle.image.proofs.Metas.{length-maps_to, bytes-maps_to, kept_same, kept_then, Within, MetaPut, MetaFits, node-other, sync-meta-law}
use Rattle.image.proofs.Freed.{one_more, freed-node, freed-fair}
use Rattle.image.proofs.Stores.{node-apart, Synced, sync-mid}
use Rattle.files_laws.specs.Laws as laws
use Rattle.files_laws.proofs.Drop as drops

-- ---- what a kept metadata file keeps

module _ (a b : List ℕ) (K : Kept a b meta_file) where
  run-kept : (pos n : ℕ) → run b meta_file pos n ≡ run a meta_file pos n
  run-kept pos n = tab-cong (byte_at b meta_file) (byte_at a meta_file) pos pos n (λ i l. K.byte (pos + i))

  pub super-kept : stored_super b ≡ stored_super a
  unfolding stored_super
  super-kept = ap super_of (run-kept 0 16)

  maps_to-kept : (n : ℕ) → maps_to b n ≡ maps_to a n
  unfolding maps_to
  maps_to-kept zero = refl
  maps_to-kept (suc n) = λ x. maps_to-kept n x ++ run-kept (map_at n) 128 x

  pub maps-kept : stored_maps b ≡ stored_maps a
  unfolding stored_maps
  maps-kept = ap (λ (x : SuperBlock). maps_to b x.groups) super-kept ∙ maps_to-kept (stored_super a).groups

  pub stored-kept : (id : ℕ) → stored_bytes b id ≡ stored_bytes a id
  unfolding stored_bytes
  stored-kept id = run-kept (128 * id) 112

-- the record of a row in use is its id's
pub mid-rec : {own : ℕ → Type 0} (a : List ℕ) (t : Table) → Formed own t → (i : ℕ) → Used t i → rec_of a t (row_at t i).id ≡ (row_at t i).rec
unfolding rec_of
mid-rec a t O i u = ap (rec_by a t (row_at t i).id) (row_is t O i u.below u.node)

-- superblock and maps can be stored when an id is freed
module _ (a : List ℕ) (y : Bytes a) (some : 1 ≤ (stored_super a).groups) (end : length_of a meta_file ≡ 131072 * (stored_super a).groups)
    (spare : (stored_super a).unused + 1 < 4294967296) (id : ℕ) (below : id < ids_in a) where
  freed-inside : id / 8 < length (stored_maps a)
  unfolding stored_maps
  freed-inside = omega (arith, length-maps_to a (stored_super a).groups)

  freed-fits : MetaFits a (record { super = one_more (stored_super a); maps = with_bit (stored_maps a) id true })
  unfolding stored_super stored_maps
  freed-fits =
      let F = super_of-fits (run a meta_file 0 16) (run-bytes a meta_file 0 16 y) in
      record {
        fits = record { magic = F.magic; blocks = F.blocks; unused = spare; groups = F.groups };
        some = some;
        bytes = with_bit-bytes (stored_maps a) id true freed-inside (bytes-maps_to a y (stored_super a).groups);
        long = length-with_bit (stored_maps a) id true freed-inside ∙ length-maps_to a (stored_super a).groups;
        end = end;
      }

-- no live hold names row i
abbrev pub Unheld : Table → ℕ → Type 0
Unheld t i = (n : ℕ) → n < 32 → ((hold_at t n).stamp ≡ 0 → ⊥) → (hold_at t n).row ≡ i → ⊥

-- ---- a row in use, clean and not held, becomes free

module _ {way : Look} {own : ℕ → Type 0} (a : List ℕ) (t : Table) (i : ℕ) (M : Amid way (also own i) a t) (used : Used t i) (clean : (row_at t i).dirty ≡ false) (unheld : Unheld t i) where
  abbrev id : ℕ
  id = (row_at t i).id

  abbrev w : Table
  w = free_row_at t i

  here : (j : ℕ) → j ≡ i → row_at w j ≡ zero_row
  here j q = ap (row_at w) q ∙ row_here t i zero_row (omega (arith, used.below, M.fits.rows-34))

  else : (j : ℕ) → (j ≡ i → ⊥) → row_at w j ≡ row_at t j
  else j d = row_apart t i zero_row j d

  split : (Q : Row → Type 0) (j : ℕ) → (j ≡ i → Q zero_row) → ((j ≡ i → ⊥) → Q (row_at t j)) → Q (row_at w j)
  split Q j f g = ⊎_elim (λ e. subst Q (sym (here j e)) (f e)) (λ d. subst Q (sym (else j d)) (g d)) (eq-cases j i)

  -- two rows in use have two ids
  ids-apart : (j : ℕ) → j < 34 → (j ≡ i → ⊥) → (row_at t j).id ≢ id
  ids-apart j l d q = d (sym (M.formed.one-row i j used.below l used.node (sym q)))

  own_row : row_of w id ≡ None
  unfolding row_of
  own_row =
      sym (search-none (is_row w id) 34 (λ j l. split (λ (x : Row). eqb x.id id ≡ false) j (λ e. ne_eqb 0 id (λ z. used.node (sym z))) (λ d. ne_eqb (row_at t j).id id (ids-apart j l d))))

  other_row : (k : ℕ) → k ≢ 0 → k ≢ id → row_of w k ≡ row_of t k
  unfolding row_of
  other_row k z d =
      search-cong (is_row w k) (is_row t k) 34
      (λ j l. split (λ (x : Row). eqb x.id k ≡ eqb (row_at t j).id k) j
      (λ e. ne_eqb 0 k (λ q. z (sym q)) ∙ sym (ne_eqb (row_at t j).id k (λ q. d (sym q ∙ ap (λ (m : ℕ). (row_at t m).id) e))))
      (λ m. refl))

  n : is_node a id ≡ true
  n = M.fair.rule4.node i used.below used.node

  rec-is : rec_of a t id ≡ (row_at t i).rec
  rec-is = mid-rec a t M.formed i used

  -- another node has the record that it had, in an arena with the same stored bytes for it
  other-rec : (b : List ℕ) → ((k : ℕ) → is_node a k ≡ true → stored_bytes b k ≡ stored_bytes a k) → (k : ℕ) → is_node a k ≡ true → k ≢ id → rec_of b w k ≡ rec_of a t k
  unfolding rec_of
  other-rec b same k m d = ap (rec_by b w k) (other_row k (node-some a t M.fair k m) d) ∙ go (row_of t k) refl
    where
      go : (f : Option ℕ) → row_of t k ≡ f → rec_by b w k f ≡ rec_by a t k f
      go (Some j) e = ap (λ (x : Row). x.rec) (else j (λ q. d (sym (row-found t k j e).1 ∙ ap (λ (m : ℕ). (row_at t m).id) q)))
      go None e = ap record_of (same k m)

  own-rec : rec_of a w id ≡ rec_of a t id
  unfolding rec_of
  own-rec =
      ap (rec_by a w id) own_row ∙ ap record_of (sym (M.fair.rule4.clean i used.below used.node clean))
      ∙ record_of-record_bytes (row_at t i).rec (M.fits.rows i used.below).rec ∙ sym rec-is

  other-open : (k : ℕ) → is_node a k ≡ true → k ≢ id → is_open t k ≡ true → is_open w k ≡ true
  unfolding is_open
  other-open k m d o = ap (λ (f : Option ℕ). not (no_row f)) (other_row k (node-some a t M.fair k m) d) ∙ o

  w-formed : Formed own w
  w-formed = free-kept t i M.formed used.below unheld

  w_fits : TableFits w
  w_fits = fits-row t M.fits i zero_row (record { id = omega arith; rec = zero-fits })

  -- every node has the record that it had
  pub row-recs : (k : ℕ) → is_node a k ≡ true → rec_of a (free_row_at t i) k ≡ rec_of a t k
  row-recs k m =
      ⊎_elim
      (λ (e : k ≡ id). subst (λ (j : ℕ). rec_of a w j ≡ rec_of a t j) (sym e) own-rec)
      (λ d. other-rec a (λ x y. refl) k m d)
      (eq-cases k id)

  -- with links, that is all
  pub row-dropped : Off way (row_at t i).id → (row_at t i).rec.nlinks ≢ 0 → Amid way own a (free_row_at t i)
  row-dropped off links = record {
    fair = image-fair a a t w M.fair (alike_same a) M.fair.rule1
        (λ j l. split (λ (x : Row). x.id ≢ 0 → is_node a x.id ≡ true) j (λ e z. absurd (z refl)) (λ d. M.fair.rule4.node j l))
        (λ j l. split (λ (x : Row). x.id ≢ 0 → x.dirty ≡ false → record_bytes x.rec ≡ stored_bytes a x.id) j (λ e z. absurd (z refl)) (λ d. M.fair.rule4.clean j l))
        (λ k m. like-same (row-recs k m))
        (λ k m z o. ⊎_elim
        (λ (e : k ≡ id). absurd (links (ap (λ (r : DiskINode). r.nlinks) (sym rec-is) ∙ sym (off (tree_of a t)) ∙ ap (look way (tree_of a t)).links (sym e) ∙ z)))
        (λ d. other-open k m d o)
        (eq-cases k id));
    formed = w-formed;
    bytes = M.bytes;
    fits = w_fits;
  }

  -- ---- at links 0 the node is freed

  abbrev left : Meta
  left = record { super = one_more (stored_super a); maps = with_bit (stored_maps a) id true }

  module _ (off : Off way (row_at t i).id) (nil : (row_at t i).rec.nlinks ≡ 0) where
    none-links : (look way (tree_of a t)).links id ≡ 0
    none-links = off (tree_of a t) ∙ ap (λ (r : DiskINode). r.nlinks) rec-is ∙ nil

    few-unused : (stored_super a).unused + 1 < 4294967296
    few-unused = omega (arith, M.fair.rule3.unused, set_bits-le (stored_maps a) (ids_in a), M.fair.rule3.few)

    left-fits : MetaFits a left
    left-fits = freed-fits a M.bytes M.fair.rule3.some M.fair.rule3.length few-unused id (node-below a id n)

    within-own : Within a a
    within-own = record { size = refl; bytes = M.bytes; sound = M.fair.rule1.sound; there = there-meta a t M.fair; long = refl; files = λ f. kept_same a (file 1 f) }

    -- b has the superblock and the maps, c has the file no more
    module _ (b : List ℕ) (P : MetaPut a left b) (c : List ℕ) (D : Drop b (node_file (row_at t i).rec) c) where
      meta-kept : Kept b c meta_file
      meta-kept = D.others meta_file (λ e. node-other (row_at t i).rec.file (sym e))

      stored_same : (k : ℕ) → is_node a k ≡ true → stored_bytes c k ≡ stored_bytes a k
      stored_same k m = stored-kept b c meta-kept k ∙ P.stored k (node-some a t M.fair k m) (node-apart a k m)

      file-is : (row_at t i).rec.file ≡ (rec_of a t id).file
      file-is = ap (λ (r : DiskINode). r.file) (sym rec-is)

      meta-left : stored_meta c ≡ left
      meta-left = λ x. record { super = (super-kept b c meta-kept ∙ P.super) x; maps = (maps-kept b c meta-kept ∙ P.maps) x }

      others-left : (k : ℕ) → is_node a k ≡ true → k ≢ (row_at t i).id → (is_node c k ≡ true) × (rec_of c (free_row_at t i) k ≡ rec_of a t k)
      others-left k m d = (freed-node a c id n (super-kept b c meta-kept ∙ P.super) (maps-kept b c meta-kept ∙ P.maps) k d ∙ m, other-rec c stored_same k m d)

      pub node-dropped : Amid way own c (free_row_at t i)
      node-dropped = record {
        fair = freed-fair a c t w M.fair id n none-links
            (super-kept b c meta-kept ∙ P.super) (maps-kept b c meta-kept ∙ P.maps) (meta-kept.long ∙ P.within.long)
            (ap (λ (r : DiskINode). there c (node_file r)) rec-is ∙ D.gone)
            (λ f d. kept_then a b c (file 1 f) (P.within.files f) (D.others (file 1 f) (λ e. d (ap (λ (g : File). g.name) (sym e) ∙ file-is))))
            (other-rec c stored_same)
            other-open
            (record { length = legal-same b c D.size ∙ legal-same a b P.within.size ∙ M.fair.rule1.length; sound = D.keeps P.within.sound })
            (λ j l. split (λ (x : Row). x.id ≢ 0 → (is_node a x.id ≡ true) × (x.id ≢ id)) j (λ e z. absurd (z refl)) (λ d z. (M.fair.rule4.node j l z, ids-apart j l d)))
            (λ j l. split (λ (x : Row). x.id ≢ 0 → x.dirty ≡ false → record_bytes x.rec ≡ stored_bytes c x.id) j (λ e z. absurd (z refl))
            (λ d z q. M.fair.rule4.clean j l z q ∙ sym (stored_same (row_at t j).id (M.fair.rule4.node j l z))));
        formed = w-formed;
        bytes = D.bytes P.within.bytes;
        fits = w_fits;
      }

-- ---- the steps

-- the id is freed in memory
free-block-is : {way : Look} {own : ℕ → Type 0} (s : Fs) (i : ℕ) (M : Amid way (also own i) s.arena s.table) → Used s.table i → s.meta ≡ done (stored_meta s.arena)
    → free_block s (id_at s i) ≡ done (with_meta s (record { super = one_more (stored_super s.arena); maps = with_bit (stored_maps s.arena) (row_at s.table i).id true }))
unfolding free_block
free-block-is s i M u e =
    rw (
      e,
      used-is s.arena s.table M.fair (row_at s.table i).id (M.fair.rule4.node i u.below u.node),
      lt-ltb ((stored_super s.arena).unused + 1) 4294967296 (omega (arith, M.fair.rule3.unused, set_bits-le (stored_maps s.arena) (ids_in s.arena), M.fair.rule3.few)),
    )

drop-file : (b : List ℕ) (f : File) → there b f ≡ true → Ok (Drop b f) (λ r. r ≡ 17) (drop_file b f)
drop-file b f e = ok-weaken (λ c D. D) (λ r q. why q) (drops.drop-law b f)
  where
    why : {r : ℕ} → DropRefused b f r → r ≡ 17
    why (laws.missing q) = absurd (true-false e q)

-- a node is one still, with its record
pub record Remains (s d : Fs) (k : ℕ) : Type 0 where
  pub node : is_node d.arena k ≡ true
  pub rec : rec_of d.arena d.table k ≡ rec_of s.arena s.table k

-- a state whose row i is to be free
record Frees (way : Look) (own : ℕ → Type 0) (s : Fs) (i : ℕ) (d : Fs) : Type 0 where
  mid : Amid way own d.arena (free_row_at d.table i)
  table : d.table ≡ s.table
  meta : d.meta ≡ done (stored_meta d.arena)
  others : (k : ℕ) → is_node s.arena k ≡ true → k ≢ id_at s i → (is_node d.arena k ≡ true) × (rec_of d.arena (free_row_at d.table i) k ≡ rec_of s.arena s.table k)

free_law : {way : Look} {own : ℕ → Type 0} (s : Fs) (i : ℕ) → Amid way (also own i) s.arena s.table → Used s.table i → (row_at s.table i).dirty ≡ false → Unheld s.table i
    → Off way (id_at s i) → (row_at s.table i).rec.nlinks ≡ 0 → s.meta ≡ done (stored_meta s.arena)
    → Ok (Frees way own s i) (λ r. r ≡ 17) (free_node s i)
unfolding free_node
free_law {way = way} {own = own} s i M u clean unheld off nil e =
    rw (free-block-is s i M u e)
    (ok-bind (sync-meta-law s.arena m (within-own s.arena s.table i M u clean unheld off nil) (left-fits s.arena s.table i M u clean unheld off nil) x refl refl) λ d h.
    ends d h.0 h.1 h.2)
  where
    m : Meta
    m = record { super = one_more (stored_super s.arena); maps = with_bit (stored_maps s.arena) (row_at s.table i).id true }

    x : Fs
    x = with_meta s (record { super = one_more (stored_super s.arena); maps = with_bit (stored_maps s.arena) (row_at s.table i).id true })

    n : is_node s.arena (row_at s.table i).id ≡ true
    n = M.fair.rule4.node i u.below u.node

    is-there : there s.arena (node_file (row_at s.table i).rec) ≡ true
    is-there = ap (λ (r : DiskINode). there s.arena (node_file r)) (sym (mid-rec s.arena s.table M.formed i u)) ∙ M.fair.rule5.own (row_at s.table i).id n

    ends : (d : Fs) → d.table ≡ s.table → d.meta ≡ done (record { super = one_more (stored_super s.arena); maps = with_bit (stored_maps s.arena) (row_at s.table i).id true }) → MetaPut s.arena (record { super = one_more (stored_super s.arena); maps = with_bit (stored_maps s.arena) (row_at s.table i).id true }) d.arena
        → Ok (Frees way own s i) (λ r. r ≡ 17) (bind (drop_file d.arena (node_file (rec_at d i))) (λ c. done (with_arena d c)))
    ends d q m P =
        let r : (row_at d.table i).rec ≡ (row_at s.table i).rec = ap (λ (y : Table). (row_at y i).rec) q in
        ok-bind (drop-file d.arena (node_file (rec_at d i)) (ap (λ (y : DiskINode). there d.arena (node_file y)) r ∙ (P.within.files (row_at s.table i).rec.file).exists ∙ is-there)) λ c D.
        let D = subst (λ (y : DiskINode). Drop d.arena (node_file y) c) r D in
        went (record {
          mid = subst (λ (y : Table). Amid way own c (free_row_at y i)) (sym q) (node-dropped s.arena s.table i M u clean unheld off nil d.arena P c D);
          table = q;
          meta = m ∙ ap done (sym (meta-left s.arena s.table i M u clean unheld off nil d.arena P c D));
          others = subst (λ (y : Table). (k : ℕ) → is_node s.arena k ≡ true → k ≢ (row_at s.table i).id → (is_node c k ≡ true) × (rec_of c (free_row_at y i) k ≡ rec_of s.arena s.table k)) (sym q)
              (others-left s.arena s.table i M u clean unheld off nil d.arena P c D);
        })

-- what is left then: the other rows have the ids that they had, and the other nodes their records
pub record Dropped (way : Look) (own : ℕ → Type 0) (s : Fs) (i : ℕ) (d : Fs) : Type 0 where
  pub mid : Amid way own d.arena d.table
  pub ids : (j : ℕ) → (j ≡ i → ⊥) → (row_at d.table j).id ≡ (row_at s.table j).id
  pub meta : d.meta ≡ done (stored_meta d.arena)
  pub others : (k : ℕ) → is_node s.arena k ≡ true → k ≢ id_at s i → Remains s d k

-- 000's Drop of a node that nobody holds
pub drop-law : {way : Look} {own : ℕ → Type 0} (s : Fs) (i : ℕ) → Amid way (also own i) s.arena s.table → Used s.table i → Unheld s.table i → Off way (id_at s i) → s.meta ≡ done (stored_meta s.arena)
    → Ok (Dropped way own s i) (λ r. r ≡ 17) (drop_node s i)
unfolding drop_node
drop-law {way = way} {own = own} s i M u unheld off e =
    ok-bind (sync-mid s M i u) λ d S.
    ok-bind (links d S (eqb (rec_at d i).nlinks 0) refl) λ z h.
    went (record {
      mid = h.mid;
      ids = λ j n. ap (λ (x : Row). x.id) (row_apart z.table i zero_row j n) ∙ ap (λ (x : Table). (row_at x j).id) h.table ∙ S.ids j;
      meta = h.meta;
      others = λ k m n.
          let o = h.others k (nodes-by s.arena d.arena S.super S.maps k ∙ m) (λ q. n (q ∙ S.ids i)) in
          record { node = o.0; rec = o.1 ∙ S.all k };
    })
  where
    used : (d : Fs) → Synced way (also own i) s i d → Used d.table i
    used d S = record { below = u.below; node = λ z. u.node (sym (S.ids i) ∙ z) }

    still : (d : Fs) → Synced way (also own i) s i d → Unheld d.table i
    still d S = subst (λ (h : List Hold). (n : ℕ) → n < 32 → ((get_or h n zero_hold).stamp ≡ 0 → ⊥) → (get_or h n zero_hold).row ≡ i → ⊥) (sym S.holds) unheld

    meta : (d : Fs) → Synced way (also own i) s i d → d.meta ≡ done (stored_meta d.arena)
    meta d S = S.meta ∙ e ∙ λ x. done (record { super = sym S.super x; maps = sym S.maps x })

    same : (d : Fs) → Synced way (also own i) s i d → Off way (id_at d i)
    same d S = subst (Off way) (sym (S.ids i)) off

    links : (d : Fs) → Synced way (also own i) s i d → (b : Bool) → eqb (rec_at d i).nlinks 0 ≡ b
        → Ok (Frees way own d i) (λ r. r ≡ 17) (pick b (free_node d i) (done d))
    links d S true q = free_law d i S.mid (used d S) S.clean (still d S) (same d S) (eqb-true (rec_at d i).nlinks 0 q) (meta d S)
    links d S false q = went (record {
      mid = row-dropped d.arena d.table i S.mid (used d S) S.clean (still d S) (same d S) (eqb-false (rec_at d i).nlinks 0 q);
      table = refl;
      meta = meta d S;
      others = λ k m n. (m, row-recs d.arena d.table i S.mid (used d S) S.clean (still d S) k m);
    })

-- a call's own opening ends
pub release-law : {way : Look} {own : ℕ → Type 0} (s : Fs) (i : ℕ) → Amid way (also own i) s.arena s.table → Used s.table i → Off way (id_at s i) → s.meta ≡ done (stored_meta s.arena)
    → Ok (Dropped way own s i) (λ r. r ≡ 17) (release s i)
unfolding release
release-law {way = way} {own = own} s i M u off e = go (row_used s.table i) refl
  where
    go : (b : Bool) → row_used s.table i ≡ b → Ok (Dropped way own s i) (λ r. r ≡ 17) (pick b (done s) (drop_node s i))
    go true q = went (record { mid = record { fair = M.fair; formed = formed-held s.table i (holder-of s.table i q) M.formed; bytes = M.bytes; fits = M.fits }; ids = λ j n. refl; meta = e; others = λ k m n. record { node = m; rec = refl } })
    go false q = drop-law s i M u (λ n l v z. true-false (of-holder s.table i (record { hold = n; is-hold = l; live = v; names = z })) q) off e
