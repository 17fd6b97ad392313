-- Create: the node's steps, then superblock and maps, the two records, and a hold on the new row.
use mathlib.Core.Path.{refl, ◌≡◌, sym, ap, ◌∙◌, subst}
use Rattle.sefs_laws.proofs.Clear.{Clear, clear, clear-17}
use mathlib.Core.Bool.{Bool, true, false, not, ◌&&◌}
use mathlib.Core.List.{List}
use mathlib.Core.Logic.{◌≢◌, ⊎_elim}
use Prim.Native.Nat.{ℕ, ◌+◌, ◌*◌, ◌^◌, ◌≤◌, ◌<◌}
use native.Mathlib.Omega.{arith}
use lib.Dec.{eqb, ltb, leb}
use lib.ListN.{length}
use borrow.Author.Tests.{ltb-true, not-true, eqb-false}
use Rattle.base.specs.Count.{bit}
use Rattle.base.specs.Out.{Out, done, bind, Ok, went, said}
use Rattle.base.proofs.Outs.{ok-bind, ok-weaken}
use Rattle.base.proofs.Bools.{and_both, and_parts, true-false, true-T}
use Rattle.base.proofs.Lists.{tab-cong}
use Rattle.base.proofs.Numbers.{lt-or-le}
use Rattle.base.proofs.Tests.{decides-leb}
use Rattle.le.specs.Le.{Bytes}
use Rattle.structs.specs.Fits.{SuperFits, RecordFits, EntryFits}
use Rattle.structs.specs.Types.{is_folder}
use Rattle.structs.specs.declared.DiskEntry.{DiskEntry}
use Rattle.structs.specs.declared.DiskINode.{DiskINode}
use Rattle.structs.specs.declared.Timespec.{Timespec}
use Rattle.utf8.specs.Names.{name_verdict, new_reason}
use Rattle.maps.proofs.Bits.{set_bits-le}
use Rattle.arena.specs.Fields.{file}
use Rattle.table.specs.declared.Table.{Table}
use Rattle.table.specs.declared.Handle.{Handle}
use Rattle.table.specs.Table.{row_at, can_hold, add_hold}
use Rattle.table_laws.specs.Rules.{Owner, also, none}
use Rattle.table_laws.proofs.Holds.{can-row}
use Rattle.table_laws.proofs.Spare.{first-spare}
use Rattle.files.specs.Read.{there, length_of, byte_at}
use Rattle.files_laws.proofs.Bounds.{named-meta, named-node, legal-same}
use Rattle.sefs.specs.State.{Fs, Meta}
use Rattle.sefs.specs.Meta.{meta_file}
use Rattle.sefs.specs.Records.{new_record, with_links, with_blocks}
use Rattle.sefs.specs.Nodes.{node_file, Opened, sync_row, new_node}
use Rattle.sefs.specs.Folders.{entry}
use Rattle.sefs.specs.Ask.{start}
use Rattle.sefs.specs.Create.{Given, given, can_make, create_steps, call_create}
use Rattle.rules.specs.Image.{stored_super, stored_maps, is_node, stored_bytes, rec_of, is_folder_at}
use Rattle.rules.specs.Rules.{Allowed}
use Rattle.rules.proofs.Files.{node-below}
use Rattle.sequences.specs.Pairs.{Pair, pair}
use Rattle.sequences.specs.Calls.{NewFits, create, does}
use Rattle.sequences.proofs.Passing.{Spelled, allowed, midway-spelled, spelled-midway}
use Rattle.sefs_laws.proofs.Says.{says_is, ensure-asks}
use Rattle.tree.specs.Tree.{Spelling}
use Rattle.image.specs.Midway.{Used, Fair, stored_meta, Midway}
use Rattle.image.proofs.Handles.{admitted, handle-law}
use Rattle.sefs_laws.proofs.Rows.{tabled-stores, leaves-sync}
use Rattle.image.proofs.Holds.{hold-mid}
use Rattle.image.proofs.Nodes.{there-meta, meta-is, node-some}
use Rattle.image.proofs.Metas.{length-maps_to, bytes-maps_to, kept_same, kept_then, Within, MetaPut, MetaFits, sync-meta-law}
use Rattle.image.proofs.TreeOf.{tidy-six}
use Rattle.image.proofs.Stores.{node-apart, sync-mid}
use Rattle.image.proofs.Drops.{mid-rec}
use Rattle.sequences.proofs.Asks.{live-folder, new-law}
use Rattle.image.proofs.NewNames.{good-name, NewName, entry-fits, exists-law}
use Rattle.image.proofs.Allocs.{Sane}
use Rattle.image.proofs.Makes.{Makes, new-node-law}
use Rattle.image.proofs.Newborns.{rows_taken, used-child, used-own}
use Rattle.image.proofs.NodeFiles.{young-kept, housed-kept, Bred}
use Rattle.image.proofs.Births.{bred-fair}
use Rattle.image.proofs.Breeds.{Stage, Bare, Settled, named-law, birth-law, slot-law}

-- superblock and maps of a fair image
pub fair-sane : {style : Spelling} (a : List ℕ) (t : Table) → Fair style a t → Bytes a → Sane (stored_meta a)
unfolding stored_maps
fair-sane a t A b = record {
  magic = A.rule3.magic;
  some = A.rule3.some;
  few = A.rule3.few;
  blocks = A.rule3.blocks;
  unused = A.rule3.unused;
  long = length-maps_to a (stored_super a).groups;
  bytes = bytes-maps_to a b (stored_super a).groups;
  none = A.rule4.zero;
  owns = A.rule4.maps;
}

-- those that are sane can be stored
pub sane-fits : (m : Meta) → Sane m → SuperFits m.super
sane-fits m S = record {
  magic = omega (arith, S.magic);
  blocks = omega (arith, S.blocks, S.few);
  unused = omega (arith, S.unused, S.few, set_bits-le m.maps (1024 * m.super.groups));
  groups = omega (arith, S.few);
}

-- two things known of one outcome
both : {A : Type 0} {P Q : A → Type 0} {R S : ℕ → Type 0} {o : Out A} → Ok P R o → Ok Q S o → Ok (λ x. P x × Q x) R o
both (went p) (went q) = went (p, q)
both (said r) (said q) = said r

pub new-fits : (kind mode : ℕ) (time : Timespec) (f : List ℕ) → NewFits kind mode time f → RecordFits (new_record kind mode time f)
new-fits kind mode time f F = record {
  size = omega arith;
  kind = F.kind;
  mode = F.mode;
  nlinks = omega arith;
  blocks = omega arith;
  uid = omega arith;
  gid = omega arith;
  pad = omega arith;
  atime = F.time;
  mtime = F.time;
  ctime = F.time;
  file = F.file;
  mac = named-meta.size;
  file_bytes = F.bytes;
  mac_bytes = named-meta.bytes;
}

module _ {style : Spelling} (a : List ℕ) (t : Table) (M : Midway style none a t) (i : ℕ) (ui : Used t i)
    (dir : is_folder (row_at t i).rec.kind ≡ true) (lives : (row_at t i).rec.nlinks ≢ 0)
    (name : List ℕ) (N : NewName a (rec_of a t (row_at t i).id) name) (short : length name ≤ 255) (nb : Bytes name)
    (kind mode : ℕ) (time : Timespec) (uuid : List ℕ) (F : NewFits kind mode time uuid) (least : 1 ≤ kind) (most : kind ≤ 4)
    (absent : there a (file 1 uuid) ≡ false) (few : is_folder kind ≡ true → (row_at t i).rec.nlinks < 65535) (w : ℕ) (who : Owner w) (can : can_hold t w ≡ true) where
  abbrev d : ℕ
  d = (row_at t i).id

  abbrev ri : DiskINode
  ri = (row_at t i).rec

  abbrev new : DiskINode
  new = new_record kind mode time uuid

  -- the two records in the end
  abbrev rc : DiskINode
  rc = with_links (with_blocks new (2 * bit (is_folder kind))) (1 + bit (is_folder kind))

  abbrev rd : DiskINode
  rd = with_links (with_blocks ri (ri.blocks + 1)) (ri.nlinks + bit (is_folder kind))

  A : Fair style a t
  A = M.fair

  rec-d : rec_of a t d ≡ ri
  rec-d = mid-rec a t M.formed i ui

  node-d : is_node a d ≡ true
  node-d = A.rule4.node i ui.below ui.node

  was : there a (file 1 ri.file) ≡ true
  was = ap (λ (r : DiskINode). there a (node_file r)) (sym rec-d) ∙ A.rule5.own d node-d

  long : length_of a (file 1 ri.file) ≡ 264 * ri.blocks
  unfolding is_folder_at
  long = subst (λ (r : DiskINode). length_of a (node_file r) ≡ 264 * r.blocks) rec-d ((tidy-six a t A.tidy).folder d (and_both node-d (ap (λ (r : DiskINode). is_folder r.kind) rec-d ∙ dir))).length

  apart : ri.file ≢ uuid
  apart q = true-false (ap (λ (f : List ℕ). there a (file 1 f)) (sym q) ∙ was) absent

  make : Ok (Makes (start a t) (stored_meta a) new) (λ r. r ≡ 17) (new_node (start a t) kind mode time uuid)
  unfolding is_node
  make =
      let s = first-spare t M.formed in
      new-node-law (start a t) (stored_meta a) (meta-is a t A) (fair-sane a t A M.bytes) (there-meta a t A) A.rule3.length M.bytes A.rule1.sound A.rule4.node
      s.0 s.1 uuid (named-node uuid F.file F.bytes) absent kind mode time

  module _ (o : Opened) (Q : Makes (start a t) (stored_meta a) (new_record kind mode time uuid) o) where
    abbrev c : ℕ
    c = o.row

    abbrev id : ℕ
    id = Q.id

    abbrev m : Meta
    m = Q.meta

    abbrev e : DiskEntry
    e = entry id name kind

    some : id ≢ 0
    some = Q.taken.some

    small : id < 4294967296
    small = omega (arith, Q.taken.inside, Q.taken.sane.few)

    fits : EntryFits e
    fits = entry-fits id name kind small most short nb

    first : Stage a t c i id m new ri (Bare a uuid) o.state
    first =
        subst (Stage a t c i id m new ri (Bare a uuid)) (sym Q.is)
        (record {
          meta = refl;
          rows = rows_taken a t M c i id Q.free ui some Q.none new (new-fits kind mode time uuid F) small;
          ground = Q.ground;
          files = record { exists = Q.exists; empty = Q.empty; others = Q.others };
        })

    -- superblock and maps are stored: the image is fair
    module _ (x : Fs) (S : Stage a t c i id m rc rd (Settled a uuid kind id d ri e) x) where
      within : Within x.arena x.arena
      within = record { size = refl; bytes = S.ground.bytes; sound = S.ground.sound; there = S.ground.exists; long = refl; files = λ f. kept_same x.arena (file 1 f) }

      stores : MetaFits x.arena m
      stores = record {
        fits = sane-fits m Q.taken.sane;
        some = Q.taken.sane.some;
        bytes = Q.taken.sane.bytes;
        long = Q.taken.sane.long;
        end = S.ground.long;
      }

      stored_same : (k : ℕ) → is_node a k ≡ true → stored_bytes x.arena k ≡ stored_bytes a k
      unfolding stored_bytes
      stored_same k n = tab-cong (byte_at x.arena meta_file) (byte_at a meta_file) (128 * k) (128 * k) 112 (λ j l. S.ground.below (128 * k + j) (omega (arith, node-below a k n, A.rule3.length)))

      bred : (b : List ℕ) → MetaPut x.arena m b → Bred a m uuid kind id d ri e b
      bred b P = record {
        fine = record { length = legal-same a b (P.within.size ∙ S.ground.size) ∙ A.rule1.length; sound = P.within.sound };
        super = P.super;
        maps = P.maps;
        long = P.within.long ∙ S.ground.long;
        stored = λ k n. P.stored k (node-some a t A k n) (node-apart a k n) ∙ stored_same k n;
        young = young-kept uuid kind id d x.arena b S.files.young (P.within.files uuid);
        housed = housed-kept a ri e x.arena b S.files.housed (P.within.files ri.file);
        others = λ g n z. kept_then a x.arena b (file 1 g) (S.files.others g n z) (P.within.files g);
      }

      bred-mid : (b : List ℕ) → MetaPut x.arena m b → Midway style (also none c) b x.table
      bred-mid b P = record {
        fair = bred-fair a b t x.table M i ui dir lives c Q.free id m Q.taken rc rd S.rows name N least most (λ f. omega (arith, ap bit f)) refl refl refl refl refl refl refl absent (bred b P);
        formed = S.rows.formed;
        bytes = P.within.bytes;
        fits = S.rows.fits;
      }

      keeps-can : (y : Fs) (j : ℕ) → can_hold y.table w ≡ true → Ok (λ (z : Fs). can_hold z.table w ≡ true) (λ n. Unit) (sync_row y j)
      keeps-can y j h = leaves-sync (λ a u. can_hold u w ≡ true) (tabled-stores (λ u. can_hold u w ≡ true) (λ u k r p q d g. can-row u k r w ∙ g)) y j h

      last : (y : Fs) → y.table ≡ x.table → MetaPut x.arena m y.arena
          → Ok (λ (g : Given). Spelled style (pair g.arena g.table)) (λ r. r ≡ 17) (bind (sync_row y c) (λ z. bind (sync_row z i) (λ v. done (given v (add_hold v.table w c)))))
      last y q P =
          ok-bind (both (sync-mid y (subst (Midway style (also none c) y.arena) (sym q) (bred-mid y.arena P)) c uc) (keeps-can y c (ap (λ (u : Table). can_hold u w) q ∙ S.rows.can w ∙ can))) λ z Z.
          ok-bind (both (sync-mid z Z.0.mid i (record { below = ui.below; node = λ n. ud.node (sym (Z.0.ids i) ∙ n) })) (keeps-can z i Z.1)) λ v W.
          went (midway-spelled v.arena (add_hold v.table w c).table
          (hold-mid v.arena v.table w c W.0.mid who W.1 (record { below = uc.below; node = λ n. uc.node (sym (W.0.ids c ∙ Z.0.ids c) ∙ n) })))
        where
          uc : Used y.table c
          uc = subst (λ (u : Table). Used u c) (sym q) (used-child a t M c i id Q.free ui some rc rd x.table S.rows)

          ud : Used y.table i
          ud = subst (λ (u : Table). Used u i) (sym q) (used-own a t M c i id Q.free ui some rc rd x.table S.rows)

  pub create-law : Ok (λ (g : Given). Spelled style (pair g.arena g.table)) (λ r. r ≡ 17) (create_steps (start a t) w i name kind mode time uuid)
  unfolding create_steps
  create-law =
      ok-bind make λ o Q.
      ok-bind (birth-law a t M i ui o.row Q.free Q.id Q.meta Q.taken.some new ri o.state (first o Q) refl) λ x S.
      ok-bind (slot-law a t M i ui o.row Q.free Q.id Q.meta Q.taken.some (with_blocks new (2 * bit (is_folder kind))) name x S (fits o Q) was long apart) λ x S.
      ok-bind (named-law a t M i ui o.row Q.free Q.id Q.meta Q.taken.some (with_blocks new (2 * bit (is_folder kind))) (with_blocks ri (ri.blocks + 1)) (Settled a uuid kind Q.id d ri (entry Q.id name kind)) x kind S refl few) λ x S.
      ok-bind (sync-meta-law x.arena Q.meta (within o Q x S) (stores o Q x S) x refl S.meta) λ y P.
      last o Q x S y P.0 P.2

-- ---- the call

create-call : {style : Spelling} (p : Pair) → Spelled style p → (w : ℕ) (h : Handle) (name : List ℕ) (kind mode : ℕ) (time : Timespec) (uuid : List ℕ) → Bytes name → NewFits kind mode time uuid
    → Ok (λ (g : Given). Spelled style (pair g.arena g.table)) Clear (call_create p.arena p.table w h name kind mode time uuid)
unfolding call_create
create-call p y w h name kind mode time uuid nb F =
    ok-bind (says_is (admitted a t A)) λ _ _.
    ok-bind (handle-law a t A w h) λ i u.
    ok-bind (ensure-asks (eqb (new_reason (name_verdict name)) 0) 5 (clear 5 refl)) λ _ good.
    ok-bind (ensure-asks (can_make kind) 6 (clear 6 refl)) λ _ type.
    ok-bind (live-folder a t A i u.used) λ _ l.
    ok-bind (ensure-asks (leb (length name) 255) 10 (clear 10 refl)) λ _ short.
    ok-bind (new-law a t A y.passes.typed.bytes i u.used l.0 name (good-name name good) (is-most (length name) 255 short)) λ f new.
    ok-bind (exists-law f) λ _ none.
    ok-bind (ensure-asks (not (there a (file 1 uuid))) 14 (clear 14 refl)) λ _ absent.
    ok-bind (ensure-asks (not (is_folder kind && eqb (row_at t i).rec.nlinks 65535)) 15 (clear 15 refl)) λ _ few.
    ok-bind (ensure-asks (can_hold t w) 16 (clear 16 refl)) λ _ can.
    ok-weaken (λ x q. q) clear-17
    (create-law a t (spelled-midway a t y) i u.used l.0 l.1 name (new none) (is-most (length name) 255 short) nb kind mode time uuid F
    (ltb-true 0 kind (and_parts (ltb 0 kind) (leb kind 3) type).0) (omega (arith, is-most kind 3 (and_parts (ltb 0 kind) (leb kind 3) type).1))
    (not-true (there a (file 1 uuid)) absent) (below i u.used few) w u.owns.owner can)
  where
    a : List ℕ
    a = p.arena

    t : Table
    t = p.table

    A : Allowed p.arena p.table
    A = allowed p y.passes

    is-most : (n k : ℕ) → leb n k ≡ true → n ≤ k
    is-most n k e = (decides-leb n k).right (true-T (leb n k) e)

    below : (i : ℕ) → Used p.table i → not (is_folder kind && eqb (row_at p.table i).rec.nlinks 65535) ≡ true → is_folder kind ≡ true → (row_at p.table i).rec.nlinks < 65535
    below i u e f =
        let z : eqb (row_at p.table i).rec.nlinks 65535 ≡ false = ap (λ (b : Bool). b && eqb (row_at p.table i).rec.nlinks 65535) (sym f) ∙ not-true (is_folder kind && eqb (row_at p.table i).rec.nlinks 65535) e in
        let n : (row_at p.table i).rec.nlinks ≢ 65535 = eqb-false (row_at p.table i).rec.nlinks 65535 z in
        let l : (row_at p.table i).rec.nlinks < 2 ^ 16 = (y.passes.typed.fits.rows i u.below).rec.nlinks in
        ⊎_elim (λ q. q) (λ q. absurd (n (omega arith))) (lt-or-le (row_at p.table i).rec.nlinks 65535)

pub keeps-create : {style : Spelling} (p : Pair) (w : ℕ) (h : Handle) (name : List ℕ) (kind mode : ℕ) (time : Timespec) (file : List ℕ)
    → Spelled style p → Bytes name → NewFits kind mode time file → Ok (Spelled style) Clear (does (create w h name kind mode time file) p)
unfolding does
keeps-create p w h name kind mode time file y nb F = ok-bind (create-call p y w h name kind mode time file nb F) λ x q. went q
