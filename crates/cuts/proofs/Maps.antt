-- Superblock and maps of a cut, bit by bit: so which ids are nodes, and that every cut can be opened.
use mathlib.Core.Path.{◌≡◌, refl, sym, ap, ◌∙◌}
use mathlib.Core.Bool.{Bool, true, false, not, ◌&&◌}
use mathlib.Core.List.{List, ◌++◌}
use mathlib.Core.Logic.{◌≢◌, ⊎_elim}
use Prim.Native.Nat.{ℕ, zero, suc, ◌+◌, ◌*◌, ◌/◌, ◌%◌, ◌≤◌, ◌<◌, ◌^◌}
use native.Mathlib.Nat.{zero-div}
use native.Mathlib.Omega.{arith}
use lib.Dec.{eqb, ltb}
use lib.ListN.{length, get_or, replicate, get_or-append}
use lib.Seq.{get_or-append-add}
use borrow.Author.Tests.{lt-ltb, le-ltb, eq-eqb, ne_eqb, not-true}
use Rattle.base.specs.Count.{count_to}
use Rattle.base.specs.Out.{Out, done, bind}
use Rattle.base.specs.Search.{pick}
use Rattle.base.proofs.Bools.{and_parts, bool_cases}
use Rattle.base.proofs.Counts.{count_to-cong}
use Rattle.base.proofs.Lists.{get_d_part, tab-cong, tab-zeros}
use Rattle.base.proofs.Numbers.{lt-or-le}
use Rattle.base.proofs.Parts.{get_or-zero-list}
use Rattle.structs.specs.Constants.{sefs_magic}
use Rattle.table.specs.Table.{empty_table}
use Rattle.structs.specs.Layout.{super_of}
use Rattle.structs.specs.declared.SuperBlock.{SuperBlock}
use Rattle.structs.proofs.Layouts.{super_of-super_bytes}
use Rattle.maps.specs.Maps.{bit_of, bit_at, set_bits}
use Rattle.files.specs.Read.{there, length_of, byte_at, read_file}
use Rattle.files.proofs.Runs.{read_done}
use Rattle.files_laws.proofs.Parts.{sound-inside}
use Rattle.files_laws.proofs.Views.{length_none}
use Rattle.sefs.specs.State.{Meta}
use Rattle.sefs.specs.Meta.{meta_file, ids, map_at, load_maps}
use Rattle.sefs.specs.Ask.{admit_arena}
use Rattle.sefs.specs.Open.{call_open}
use Rattle.sefs.specs.Create.{Given}
use Rattle.rules.specs.Image.{run, stored_super, maps_to, stored_maps, ids_in, is_node}
use Rattle.rules.specs.Rules.{Allowed}
use Rattle.rules.proofs.Files.{node-below}
use Rattle.image.specs.Midway.{stored_meta}
use Rattle.image.proofs.Metas.{length-maps_to}
use Rattle.image.proofs.Stores.{node-apart}
use Rattle.image.proofs.Allocs.{Sane, node_in, taken_is, taken-same}
use Rattle.sequences.specs.Pairs.{Pair}
use Rattle.sequences.proofs.Creates.{sane-fits}
use Rattle.sequences.proofs.Passing.{allowed}
use Rattle.cuts.specs.Stores.{cut_after}
use Rattle.cuts.specs.Creates.{Birth, create_stores, before_super, before_map, before_own_map}
use Rattle.cuts.specs.Premise.{Creation}
use Rattle.cuts.specs.Cuts.{SoFar, OnlyTraces, KeepsNodes}
use Rattle.cuts.specs.Answers.{CutOpens}
use Rattle.cuts.proofs.Stores.{group_map}
use Rattle.cuts.proofs.Along.{is-stored, not-stored}
use Rattle.cuts.proofs.Facts.{Known, known, node-zero, new-id}
use Rattle.cuts.proofs.SoFar.{only-traces}

-- ---- bits

-- a bit of the joined maps is one of its group's map
map-bit : (x : List ℕ) (m k : ℕ) → k < 1024 * m → bit_at (maps_to x m) k ≡ bit_at (run x meta_file (map_at (k / 1024)) 128) (k % 1024)
unfolding maps_to bit_at
map-bit x zero k l = absurd (omega arith)
map-bit x (suc m) k l =
    ⊎_elim
    (λ (q : k < 1024 * m).
    let z = get_or-append (maps_to x m) (run x meta_file (map_at m) 128) 0 (k / 8) (omega (arith, length-maps_to x m)) in
    ap (λ (y : ℕ). bit_of y (k % 8)) z ∙ map-bit x m k q)
    (λ (q : 1024 * m ≤ k).
    let e : k / 1024 ≡ m = omega arith in
    let z : k / 8 ≡ length (maps_to x m) + k % 1024 / 8 = omega (arith, length-maps_to x m) in
    ap (λ (j : ℕ). bit_of (get_or (maps_to x m ++ run x meta_file (map_at m) 128) j 0) (k % 8)) z
    ∙ ap (λ (y : ℕ). bit_of y (k % 8)) (get_or-append-add (maps_to x m) (run x meta_file (map_at m) 128) (k % 1024 / 8) 0)
    ∙ ap (λ (g : ℕ). bit_of (get_or (run x meta_file (map_at g) 128) (k % 1024 / 8) 0) (k % 8)) (sym e)
    ∙ ap (bit_of (get_or (run x meta_file (map_at (k / 1024)) 128) (k % 1024 / 8) 0)) (let z : k % 8 ≡ k % 1024 % 8 = omega arith in z))
    (lt-or-le k (1024 * m))

pub part-bit : (l : List ℕ) (k : ℕ) → bit_at (group_map l (k / 1024)) (k % 1024) ≡ bit_at l k
unfolding bit_at
part-bit l k =
    ap (λ (y : ℕ). bit_of y (k % 1024 % 8)) (get_d_part l (128 * (k / 1024)) (128 * (k / 1024) + 128) (k % 1024 / 8) (omega arith))
    ∙ ap (λ (j : ℕ). bit_of (get_or l j 0) (k % 1024 % 8)) (let z : 128 * (k / 1024) + k % 1024 / 8 ≡ k / 8 = omega arith in z)
    ∙ ap (bit_of (get_or l (k / 8) 0)) (let z : k % 1024 % 8 ≡ k % 8 = omega arith in z)

pub zero_bit : (n k : ℕ) → bit_at (replicate n 0) k ≡ false
unfolding bit_at bit_of
zero_bit n k = ap (λ (y : ℕ). bit_of y (k % 8)) (get_or-zero-list n (k / 8)) ∙ none (k % 8)
  where
    none : (j : ℕ) → bit_of 0 j ≡ false
    none j = ap (λ (x : ℕ). eqb (x % 2) 1) (zero-div (2 ^ j))

-- ---- what makes a node

pub node-bit : (x : List ℕ) (id : ℕ) → is_node x id ≡ true → bit_at (stored_maps x) id ≡ false
unfolding is_node
node-bit x id n =
    let y = and_parts (ltb id (ids_in x)) _ n in
    let z = and_parts (not (eqb id 0)) _ y.1 in
    not-true (bit_at (stored_maps x) id) (and_parts (not (eqb (id % 1024) 1)) _ z.1).1

pub node_of : (x : List ℕ) (id : ℕ) → id < ids_in x → id ≢ 0 → id % 1024 ≢ 1 → bit_at (stored_maps x) id ≡ false → is_node x id ≡ true
unfolding is_node
node_of x id l d e f = rw (lt-ltb id (ids_in x) l, ne_eqb id 0 d, ne_eqb (id % 1024) 1 e, f)

-- unused is right where superblock and maps are sane ones
pub counts : (x : List ℕ) (m : Meta) → Sane m → stored_super x ≡ m.super
    → ((k : ℕ) → k < ids m → bit_at (stored_maps x) k ≡ bit_at m.maps k)
    → (stored_super x).unused ≡ set_bits (stored_maps x) (ids_in x)
unfolding set_bits
counts x m S s bits =
    ap (λ (y : SuperBlock). y.unused) s ∙ S.unused
    ∙ sym (ap (λ (y : SuperBlock). count_to (bit_at (stored_maps x)) (1024 * y.groups)) s
    ∙ count_to-cong (bit_at (stored_maps x)) (bit_at m.maps) (ids m) bits)

-- ---- of a cut

module _ (p : Pair) (c : Birth) (g : Given) (B : Creation p c g) where
  abbrev a : List ℕ
  a = p.arena

  A : Allowed p.arena p.table
  A = allowed p B.passed

  K : Known p.arena c
  K = known p c g B

  abbrev old : ℕ
  old = (stored_super p.arena).groups

  abbrev groups : ℕ
  groups = c.after.super.groups

  -- no group came, or one, with the id in it
  pub same-groups : groups ≤ old → groups ≡ old
  same-groups l = omega (arith, K.taken.more)

  pub new-group : old < groups → (groups ≡ old + 1) × (1024 * old ≤ c.id)
  new-group l = let z = K.grown (omega (arith, K.old)) in (omega (arith, K.old, z.0), omega (arith, K.old, z.1))

  -- past the old end the metadata file reads as zeros
  pub zeros : (k : ℕ) → old ≤ k → run p.arena meta_file (map_at k) 128 ≡ replicate 128 0
  zeros k l =
      tab-cong (byte_at a meta_file) (λ i. 0) (map_at k) (map_at k) 128
      (λ i m. (sound-inside a A.rule1.sound meta_file).past (map_at k + i) (omega (arith, A.rule3.length)))
      ∙ tab-zeros (map_at k) 128

  module _ (n : ℕ) (b : List ℕ) (h : cut_after n (create_stores c) p.arena ≡ done b) where
    L : SoFar p.arena c n b
    unfolding OnlyTraces
    L = only-traces p c g B n b h

    pub super-until : n ≤ before_super c → stored_super b ≡ stored_super p.arena
    unfolding stored_super
    super-until l = ap super_of (not-stored _ _ (before_super c) n L.super l)

    pub super-after : before_super c < n → stored_super b ≡ c.after.super
    unfolding stored_super
    super-after l =
        ap super_of (is-stored _ _ (before_super c) n L.super l) ∙ super_of-super_bytes c.after.super (sane-fits c.after K.taken.sane)

    pub groups-until : n ≤ before_super c → (stored_super b).groups ≡ (stored_super p.arena).groups
    groups-until l = ap (λ (x : SuperBlock). x.groups) (super-until l)

    pub groups-after : before_super c < n → (stored_super b).groups ≡ c.after.super.groups
    groups-after l = ap (λ (x : SuperBlock). x.groups) (super-after l)

    groups-most : (stored_super b).groups ≤ groups
    groups-most = ⊎_elim (λ l. omega (arith, groups-after l)) (λ l. omega (arith, groups-until l, K.taken.more)) (lt-or-le (before_super c) n)

    groups-least : old ≤ (stored_super b).groups
    groups-least = ⊎_elim (λ l. omega (arith, groups-after l, K.taken.more)) (λ l. omega (arith, groups-until l)) (lt-or-le (before_super c) n)

    -- a bit whose map is stored is the new one; another is the old one, or clear
    new-bit : (k : ℕ) → k < ids_in b → before_map c (k / 1024) < n → bit_at (stored_maps b) k ≡ bit_at c.after.maps k
    unfolding stored_maps
    new-bit k l m =
        let q = is-stored _ _ (before_map c (k / 1024)) n (L.maps (k / 1024) (omega (arith, groups-most))) m in
        map-bit b (stored_super b).groups k l ∙ ap (λ (x : List ℕ). bit_at x (k % 1024)) q ∙ part-bit c.after.maps k

    not_yet : (k : ℕ) → k < ids_in b → n ≤ before_map c (k / 1024) → bit_at (stored_maps b) k ≡ bit_at (run a meta_file (map_at (k / 1024)) 128) (k % 1024)
    unfolding stored_maps
    not_yet k l m =
        let q = not-stored _ _ (before_map c (k / 1024)) n (L.maps (k / 1024) (omega (arith, groups-most))) m in
        map-bit b (stored_super b).groups k l ∙ ap (λ (x : List ℕ). bit_at x (k % 1024)) q

    old_bit : (k : ℕ) → k < 1024 * old → n ≤ before_map c (k / 1024) → bit_at (stored_maps b) k ≡ bit_at (stored_maps p.arena) k
    unfolding stored_maps
    old_bit k l m = not_yet k (omega (arith, groups-least)) m ∙ sym (map-bit a old k l)

    no-bit : (k : ℕ) → 1024 * old ≤ k → k < ids_in b → n ≤ before_map c (k / 1024) → bit_at (stored_maps b) k ≡ false
    no-bit k l m o = not_yet k m o ∙ ap (λ (x : List ℕ). bit_at x (k % 1024)) (zeros (k / 1024) (omega arith)) ∙ zero_bit 128 (k % 1024)

    -- an old id that is not the new one has its bit as it was
    bit_kept : (k : ℕ) → k ≢ c.id → k < 1024 * old → bit_at (stored_maps b) k ≡ bit_at (stored_maps p.arena) k
    bit_kept k d l =
        ⊎_elim
        (λ m. new-bit k (omega (arith, groups-least)) m ∙ K.taken.others k d l)
        (λ m. old_bit k l m)
        (lt-or-le (before_map c (k / 1024)) n)

    -- before the superblock is stored
    pub bits-until : n ≤ before_super c → (k : ℕ) → k < 1024 * old → bit_at (stored_maps b) k ≡ bit_at (stored_maps p.arena) k
    bits-until l k m = old_bit k m (omega arith)

    -- between it and the map with the new id's bit
    pub bits-between : n ≤ before_own_map c → (k : ℕ) → k < 1024 * old → bit_at (stored_maps b) k ≡ bit_at (stored_maps p.arena) k
    bits-between l k m =
        ⊎_elim
        (λ (q : k / 1024 < c.id / 1024). bit_kept k (λ e. absurd (omega arith)) m)
        (λ (q : c.id / 1024 ≤ k / 1024). old_bit k m (omega arith))
        (lt-or-le (k / 1024) (c.id / 1024))

    pub none_between : n ≤ before_own_map c → (k : ℕ) → 1024 * old ≤ k → k < ids_in b → bit_at (stored_maps b) k ≡ false
    none_between l k m o =
        let z = new-group (omega (arith, groups-most)) in
        no-bit k m o (omega (arith, z.0, z.1, groups-most, K.taken.inside))

    -- and after it
    pub bits-after : before_own_map c < n → (k : ℕ) → k < ids_in b → bit_at (stored_maps b) k ≡ bit_at c.after.maps k
    bits-after l k m =
        ⊎_elim (λ q. new-bit k m q)
        (λ q. ⊎_elim
        (λ (o : k < 1024 * old). old_bit k o q ∙ sym (K.taken.others k (λ e. absurd (omega arith)) o))
        (λ (o : 1024 * old ≤ k). absurd (let z = new-group (omega (arith, groups-most)) in omega (arith, z.0, z.1, groups-most)))
        (lt-or-le k (1024 * old)))
        (lt-or-le (before_map c (k / 1024)) n)

    -- ---- nodes

    node-keeps : (id : ℕ) → is_node p.arena id ≡ true → is_node b id ≡ true
    node-keeps id m =
        let l : id < 1024 * old = node-below a id m in
        node_of b id (omega (arith, groups-least)) (node-zero p B.passed id m) (node-apart a id m)
        (bit_kept id (λ e. new-id p c g B id m (sym e)) l ∙ node-bit a id m)

    -- where superblock and maps are those of m, so are the nodes
    nodes-by : (m : Meta) → stored_super b ≡ m.super → ((k : ℕ) → k < ids m → bit_at (stored_maps b) k ≡ bit_at m.maps k) → (id : ℕ) → is_node b id ≡ node_in m id
    unfolding is_node
    nodes-by m e bits id =
        ap (λ (x : SuperBlock). ltb id (1024 * x.groups) && (not (eqb id 0) && (not (eqb (id % 1024) 1) && not (bit_at (stored_maps b) id)))) e
        ∙ ⊎_elim
        (λ (q : id < ids m). ap (λ (x : Bool). ltb id (ids m) && (not (eqb id 0) && (not (eqb (id % 1024) 1) && not x))) (bits id q))
        (λ (q : ids m ≤ id). rw (le-ltb id (ids m) q))
        (lt-or-le id (ids m))

    pub nodes-until : n ≤ before_super c → (id : ℕ) → is_node b id ≡ is_node p.arena id
    unfolding is_node
    nodes-until l id = nodes-by (stored_meta a) (super-until l) (bits-until l) id

    nodes-in : before_own_map c < n → (id : ℕ) → is_node b id ≡ node_in c.after id
    nodes-in l id =
        nodes-by c.after (super-after (omega arith)) (λ k m. bits-after l k (omega (arith, groups-after (omega arith)))) id

    pub node-new : before_own_map c < n → is_node b c.id ≡ true
    node-new l = nodes-in l c.id ∙ taken_is (stored_meta a) c.after c.id K.taken

    pub nodes-after : before_own_map c < n → (id : ℕ) → id ≢ c.id → is_node b id ≡ is_node p.arena id
    unfolding is_node
    nodes-after l id d = nodes-in l id ∙ taken-same (stored_meta a) c.after c.id K.taken id d

    -- ---- it can be opened

    pub meta-until : n ≤ 0 → length_of b meta_file ≡ 131072 * c.before.super.groups
    meta-until l = L.metadata ∙ ap (λ (x : Bool). 131072 * pick x groups c.before.super.groups) (le-ltb 0 n l)

    pub meta-after : 0 < n → length_of b meta_file ≡ 131072 * c.after.super.groups
    meta-after l = L.metadata ∙ ap (λ (x : Bool). 131072 * pick x groups c.before.super.groups) (lt-ltb 0 n l)

    long-enough : 131072 * (stored_super b).groups ≤ length_of b meta_file
    long-enough =
        ⊎_elim
        (λ (q : 0 < n). omega (arith, meta-after q, groups-most))
        (λ (q : n ≤ 0). omega (arith, meta-until q, K.old, groups-until (omega arith)))
        (lt-or-le 0 n)

    meta-there : there b meta_file ≡ true
    meta-there =
        ⊎_elim
        (λ e. e)
        (λ e. absurd (omega (arith, long-enough, groups-least, A.rule3.some, length_none b meta_file e)))
        (bool_cases (there b meta_file))

    loads : (m : ℕ) → m ≤ (stored_super b).groups → load_maps b m ≡ done (maps_to b m)
    unfolding load_maps maps_to
    loads zero l = refl
    loads (suc m) l =
        ap (λ (o : Out (List ℕ)). bind o (λ k. bind (read_file b meta_file (map_at m) 128) (λ x. done (k ++ x)))) (loads m (omega arith))
        ∙ ap (λ (o : Out (List ℕ)). bind o (λ x. done (maps_to b m ++ x)))
        (read_done b meta_file (map_at m) 128 meta-there (omega (arith, long-enough)))

    magic : (stored_super b).magic ≡ sefs_magic
    magic =
        ⊎_elim (λ l. ap (λ (x : SuperBlock). x.magic) (super-after l) ∙ K.taken.sane.magic)
        (λ l. ap (λ (x : SuperBlock). x.magic) (super-until l) ∙ A.rule3.magic) (lt-or-le (before_super c) n)

    opens-b : call_open b ≡ done empty_table
    unfolding call_open stored_super admit_arena
    opens-b =
        rw (
          L.fine.length,
          L.fine.sound,
          read_done b meta_file 0 16 meta-there (omega (arith, long-enough, groups-least, A.rule3.some)),
          eq-eqb (stored_super b).magic sefs_magic magic,
          lt-ltb 0 (stored_super b).groups (omega (arith, groups-least, A.rule3.some)),
          lt-ltb (stored_super b).groups 5 (omega (arith, groups-most, K.taken.sane.few)),
          loads (stored_super b).groups (omega arith),
        )

pub keeps-nodes : KeepsNodes
unfolding KeepsNodes
keeps-nodes p c g B n b h = node-keeps p c g B n b h

pub cut-opens : CutOpens
unfolding CutOpens
cut-opens p c g B n b h = opens-b p c g B n b h
