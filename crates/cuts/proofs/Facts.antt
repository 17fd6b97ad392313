-- What is known of a create that succeeds, from a passed pair: its id was no node's, and its names and records have their lengths.
use mathlib.Core.Path.{◌≡◌, sym, ap, ◌∙◌, subst}
use mathlib.Core.Bool.{Bool, true, false, ◌&&◌}
use mathlib.Core.List.{List}
use mathlib.Core.Logic.{◌≢◌, ⊎_elim}
use Prim.Native.Nat.{ℕ, ◌+◌, ◌*◌, ◌<◌, ◌≤◌, ◌^◌}
use native.Mathlib.Omega.{arith}
use lib.Dec.{eqb, ltb, leb}
use lib.ListN.{length}
use borrow.Author.Tests.{eqb-false, ltb-true, le-ltb}
use Rattle.base.specs.Out.{done, Ok}
use Rattle.base.specs.Search.{pick, lowest}
use Rattle.maps.specs.Maps.{bit_at}
use Rattle.std.specs.Prelude.{None}
use Rattle.base.proofs.Bools.{and_parts, true-T, true-false}
use Rattle.base.proofs.Finds.{test-no}
use Rattle.base.proofs.Lists.{length_part}
use Rattle.base.proofs.Numbers.{lt-or-le}
use Rattle.base.proofs.Outs.{ok-done, bind-is-done}
use Rattle.base.proofs.Tests.{decides-leb}
use Rattle.le.specs.Le.{Bytes}
use Rattle.structs.specs.Fits.{RecordFits}
use Rattle.structs.specs.Layout.{record_bytes}
use Rattle.structs.specs.declared.DiskINode.{DiskINode}
use Rattle.structs.specs.Types.{is_folder}
use Rattle.structs.proofs.Layouts.{length-record_bytes}
use Rattle.table.specs.declared.Table.{Table}
use Rattle.table.specs.Table.{row_at}
use Rattle.table_laws.proofs.Handles.{live-means, live-used}
use Rattle.files.specs.Read.{there, length_of}
use Rattle.files_laws.specs.Laws.{Named}
use Rattle.files_laws.proofs.Bounds.{named-node, named-meta}
use Rattle.sefs.specs.State.{Fs, Meta}
use Rattle.sefs.specs.Records.{new_record, with_blocks}
use Rattle.sefs.specs.Meta.{ids, first_bit, load_meta, alloc_block}
use Rattle.sefs.specs.Nodes.{node_file}
use Rattle.sefs.specs.Slots.{lookup}
use Rattle.sefs.specs.Ask.{start}
use Rattle.sefs.specs.Create.{Given}
use Rattle.rules.specs.Image.{stored_super, stored_maps, is_node, stored_bytes, rec_of}
use Rattle.image.specs.Midway.{Used, stored_meta}
use Rattle.image.proofs.Handles.{formed, row-rec, row-folder}
use Rattle.image.proofs.Metas.{length-maps_to, bytes-maps_to}
use Rattle.image.proofs.NewNames.{NewGood, good-name}
use Rattle.image.proofs.Records.{links-fit, blocks-fit}
use Rattle.image.proofs.Nodes.{node-some, there-meta, meta-is}
use Rattle.image.proofs.Allocs.{Sane, Taken, taken-new, Allocates, alloc_law}
use Rattle.sequences.specs.Pairs.{Pair, Passed}
use Rattle.sequences.proofs.Creates.{new-fits}
use Rattle.sequences.proofs.Passing.{allowed, spelled-any, spelled-midway}
use Rattle.cuts.specs.Creates.{Birth, newborn, birth_of, new_parent}
use Rattle.cuts.specs.Premise.{Creation}
use Rattle.cuts.proofs.Stores.{group_map}
use Rattle.cuts.proofs.Steps.{done-is}
use Rattle.cuts.proofs.Orders.{asked, alloc_step, at-is}

pub record Known (a : List ℕ) (c : Birth) : Type 0 where
  pub old : c.before.super.groups ≡ (stored_super a).groups
  pub taken : Taken (stored_meta a) c.after c.id
  pub grown : c.before.super.groups < c.after.super.groups
      → (c.after.super.groups ≡ c.before.super.groups + 1) × (ids c.before ≤ c.id)
  pub up : is_node a c.up ≡ true
  pub up-some : c.up ≢ 0
  pub child-named : Named (node_file c.child)
  pub child-long : length (record_bytes c.child) ≡ 112
  pub parent-long : length (record_bytes (new_parent c)) ≡ 112
  pub child_fits : RecordFits c.child
  pub child-kind : (1 ≤ c.child.kind) × (c.child.kind ≤ 3)
  pub child-links : 0 < c.child.nlinks
  pub good : NewGood c.name
  pub short : length c.name ≤ 255
  pub name-bytes : Bytes c.name
  pub absent : there a (node_file c.child) ≡ false
  pub free : lookup a c.parent c.name ≡ done None
  pub fits : RecordFits c.parent
  pub dir : is_folder c.parent.kind ≡ true
  pub alive : 0 < c.parent.nlinks
  pub least : 2 ≤ c.parent.blocks
  pub few : is_folder c.child.kind ≡ true → c.parent.nlinks < 65535
  pub clean : record_bytes c.parent ≡ stored_bytes a c.up
  pub was : there a (node_file c.parent) ≡ true
  pub long : length_of a (node_file c.parent) ≡ 264 * c.parent.blocks

-- superblock and maps of a passed pair
pub sane : (p : Pair) → Passed p → Sane (stored_meta p.arena)
unfolding stored_maps
sane p y =
    let A = allowed p y in
    record {
      magic = A.rule3.magic;
      some = A.rule3.some;
      few = A.rule3.few;
      blocks = A.rule3.blocks;
      unused = A.rule3.unused;
      long = length-maps_to p.arena (stored_super p.arena).groups;
      bytes = bytes-maps_to p.arena y.typed.bytes (stored_super p.arena).groups;
      none = A.rule4.zero;
      owns = A.rule4.maps;
    }

-- no node has id 0
pub node-zero : (p : Pair) → Passed p → (id : ℕ) → is_node p.arena id ≡ true → id ≢ 0
node-zero p y id n = node-some p.arena p.table (spelled-midway p.arena p.table (spelled-any p y)).fair id n

-- where no bit was set, the id is in the new group
late : (m n : Meta) (id : ℕ) → Taken m n id → ids m ≤ first_bit m → ids m ≤ id
unfolding first_bit
late m n id T full =
    ⊎_elim
    (λ (l : id < ids m).
    let none = le-ltb (lowest (bit_at m.maps) (ids m)) (ids m) full in
    absurd (true-false (T.free l) (test-no (bit_at m.maps) (ids m) none id l)))
    (λ l. l)
    (lt-or-le id (ids m))

pub known : (p : Pair) (c : Birth) (g : Given) → Creation p c g → Known p.arena c
unfolding birth_of
known p c g B =
    let a : List ℕ = p.arena in
    let t : Table = p.table in
    let s : Fs = start a t in
    let old : Meta = stored_meta a in
    let up : ℕ = (row_at t B.i).id in
    let parent : DiskINode = (row_at t B.i).rec in
    let new : DiskINode = new_record B.kind B.mode B.time B.uuid in
    let folder : Bool = is_folder B.kind in
    let A = allowed p B.passed in
    let M = spelled-midway a t (spelled-any p B.passed) in
    let F = formed a t A in
    let L = (live-means t B.w B.h B.i).0 B.live in
    let R = (B.passed.typed.fits.rows B.i L.is_row).rec in
    let N = B.fits.3 in
    let used : up ≢ 0 = live-used t B.w B.h B.i F L in
    let U : Used t B.i = record { below = L.is_row; node = used } in
    let is-node : is_node a up ≡ true = A.rule4.node B.i L.is_row used in
    let X = asked p B.w B.h c.name B.kind B.mode B.time B.uuid g B.succeeds in
    let e : X.i ≡ B.i = at-is X.i B.i (sym X.live ∙ B.live) in
    let rec : rec_of a t up ≡ parent = row-rec a t A B.i U in
    let dir : is_folder parent.kind ≡ true = subst (λ (j : ℕ). is_folder (row_at t j).rec.kind ≡ true) e X.dir in
    let D = A.rule6.folder up (row-folder a t A B.i U dir) in
    let S = sane p B.passed in
    let v0 = bind-is-done (load_meta a) _ c B.about in
    let v1 = bind-is-done (alloc_block s) _ c v0.2 in
    let v2 = bind-is-done v1.0.state.meta _ c v1.2 in
    let is = meta-is a t M.fair in
    let Q : Allocates s old v1.0 =
    ok-done (subst (Ok (Allocates s old) (λ r. r ≡ 17)) v1.1 (alloc_law s old is S (there-meta a t M.fair) A.rule3.length)) in
    let m : Q.meta ≡ v2.0 = done-is (ap (λ x. x.meta) (sym Q.is) ∙ v2.1) in
    let was : v0.0 ≡ old = done-is (sym v0.1 ∙ is) in
    let T : Taken old v2.0 v1.0.id = subst (λ (x : Meta). Taken old x v1.0.id) m Q.taken in
    let makes = and_parts (ltb 0 B.kind) (leb B.kind 3) X.makes in
    subst (Known a) (done-is v2.2)
    (record {
      old = ap (λ (x : Meta). x.super.groups) was;
      taken = T;
      grown = λ l.
          let z = (alloc_step s v0.0 v2.0 v1.0 v0.1 v1.1 v2.1).group l in
          let full = subst (λ (x : Meta). ids x ≤ first_bit x) was z.1 in
          (z.0, subst (λ (x : Meta). ids x ≤ v1.0.id) (sym was) (late old v2.0 v1.0.id T full));
      up = is-node;
      up-some = used;
      child-named = named-node B.uuid N.file N.bytes;
      child-long = length-record_bytes (newborn B.kind B.mode B.time B.uuid) N.file named-meta.size;
      parent-long = length-record_bytes _ R.file R.mac;
      child_fits = links-fit (with_blocks new (pick folder 2 0)) _
          (blocks-fit new _ (new-fits B.kind B.mode B.time B.uuid N) (most folder 2 0 (omega arith) (omega arith)))
          (most folder 2 1 (omega arith) (omega arith));
      child-kind = (ltb-true 0 B.kind makes.0, (decides-leb B.kind 3).right (true-T (leb B.kind 3) makes.1));
      child-links = least folder;
      good = good-name c.name X.good;
      short = (decides-leb (length c.name) 255).right (true-T (leb (length c.name) 255) X.short);
      name-bytes = B.fits.2;
      absent = X.absent;
      free = subst (λ (j : ℕ). lookup a (row_at t j).rec c.name ≡ done None) e X.free;
      fits = R;
      dir = dir;
      alive = ltb-true 0 parent.nlinks (subst (λ (j : ℕ). ltb 0 (row_at t j).rec.nlinks ≡ true) e X.alive);
      least = subst (λ (r : DiskINode). 2 ≤ r.blocks) rec D.blocks;
      few = below B.kind parent.nlinks R.nlinks (subst (λ (j : ℕ). (folder && eqb (row_at t j).rec.nlinks 65535) ≡ false) e X.few);
      clean = A.rule4.clean B.i L.is_row used (B.synced B.i L.is_row);
      was = subst (λ (r : DiskINode). there a (node_file r) ≡ true) rec (A.rule5.own up is-node);
      long = subst (λ (r : DiskINode). length_of a (node_file r) ≡ 264 * r.blocks) rec D.length;
    })
  where
    least : (b : Bool) → 0 < pick b 2 1
    least true = omega arith
    least false = omega arith

    most : (b : Bool) (x y : ℕ) {z : ℕ} → x < z → y < z → pick b x y < z
    most true x y l m = l
    most false x y l m = m

    below : (kind n : ℕ) → n < 2 ^ 16 → (is_folder kind && eqb n 65535) ≡ false → is_folder kind ≡ true → n < 65535
    below kind n l z f =
        let y : n ≢ 65535 = eqb-false n 65535 (ap (λ (b : Bool). b && eqb n 65535) (sym f) ∙ z) in
        ⊎_elim (λ q. q) (λ q. absurd (y (omega arith))) (lt-or-le n 65535)

module _ (p : Pair) (c : Birth) (g : Given) (B : Creation p c g) where
  -- the new id was no node's
  pub new-id : (id : ℕ) → is_node p.arena id ≡ true → c.id ≢ id
  unfolding is_node
  new-id id n e =
      true-false n (ap (is_node p.arena) (sym e) ∙ taken-new (stored_meta p.arena) c.after c.id (known p c g B).taken)

  pub map-long : (i : ℕ) → i < c.after.super.groups → length (group_map c.after.maps i) ≡ 128
  map-long i l = length_part c.after.maps (128 * i) (128 * i + 128) (omega arith) (omega (arith, (known p c g B).taken.sane.long)) ∙ omega arith
