-- Ids taken and freed, and rows: what the definitions are on the state of the three slices.
use mathlib.Core.Path.{◌≡◌, refl, ap, ◌∙◌, sym, subst}
use mathlib.Core.Bool.{Bool, true, false, not, ◌&&◌}
use mathlib.Core.List.{List, ◌++◌}
use Prim.Native.Nat.{ℕ, ◌+◌, ◌*◌, ◌-◌, ◌/◌, ◌%◌, ◌≤◌, ◌<◌}
use native.Mathlib.Omega.{arith}
use lib.ListN.{length, get_or}
use lib.Seq.{get_or-append-add}
use lib.Dec.{eqb, ltb}
use borrow.Author.Tests.{lt-ltb, le-ltb, ltb-true}
use Rattle.base.specs.Out.{Out, done, refused, bind, guard, kept, Went, well}
use Rattle.base.specs.Search.{lowest, found_below, pick}
use Rattle.std.specs.Prelude.{Option, Some, None}
use Rattle.base.proofs.Bools.{and_parts}
use Rattle.base.proofs.Outs.{above_zero}
use Rattle.base.proofs.Searches.{at-found, nothing-found, lowest-at-most}
use Rattle.structs.specs.declared.DiskINode.{DiskINode}
use Rattle.structs.specs.declared.SuperBlock.{SuperBlock}
use Rattle.table.specs.declared.Table.{Table}
use Rattle.table.specs.Table.{is_row, row_of, free_row, take_row}
use Rattle.maps.specs.Maps.{bit_of, bit_at, with_bit}
use Rattle.overlay.specs.View.{view}
use Rattle.overlay.specs.Steps.{Did}
use Rattle.files.specs.Store.{cut_file}
use Rattle.sefs.specs.State.{Fs, Meta, with_arena, with_meta}
use Rattle.sefs.specs.Meta.{meta_file, new_map, ids, first_bit, is_used, super_with, grown, add_group, take_bit, alloc_block, free_block}
use Rattle.sefs.specs.Nodes.{opened, open_in, open_at, get_node}
use Rattle.mem.specs.Mem.{table_in, super_in, maps_in, Whole, Tabled, Mapped}
use Rattle.mem.specs.State.{fs_of, Still, Stepped, fs_at}
use Rattle.nodes.specs.Steps.{meta_of}
use Rattle.nodes.proofs.Bytes.{meta-is, meta-none, meta-has}
use Rattle.nodes.proofs.Steps.{at-tabled, fs-mapped, did-mapped, did-stops}

-- ---- rows

pub row_below : (t : Table) (id i : ℕ) → row_of t id ≡ Some i → i < 34
unfolding row_of
row_below t id i e = (at-found (lowest (is_row t id) 34) 34 i e).1

pub opened_in : (m n : List ℕ) (i id : ℕ) (rec : DiskINode) (dirty : Bool) → row_of (table_in m) 0 ≡ Some i → Tabled m n (take_row (table_in m) i id rec dirty) → (a : List ℕ) → Went (open_in (fs_at a m) id rec dirty (free_row (table_in m))) (opened (fs_at a n) i) (Whole n × (i < 34)) 0
opened_in m n i id rec dirty e c a =
    well (rw e (ap (λ (s : Fs). done (opened s i)) (sym (at-tabled a c)))) (c.whole, row_below (table_in m) 0 i e)

-- ---- a node is asked for

pub get_none : (a m : List ℕ) (id : ℕ) → eqb (get_or m 4402 0) 1 ≡ false → get_node (fs_at a m) id ≡ refused 19
unfolding get_node
get_none a m id h = rw (meta-none m h)

pub get-unused : (a m : List ℕ) (id : ℕ) → get_or m 4402 0 ≡ 1 → is_used (meta_of m) id ≡ false → get_node (fs_at a m) id ≡ refused 19
unfolding get_node
get-unused a m id h u = rw (meta-is m h, u)

pub get-used : (a m : List ℕ) (id : ℕ) → get_or m 4402 0 ≡ 1 → is_used (meta_of m) id ≡ true → get_node (fs_at a m) id ≡ open_at (fs_at a m) id (row_of (table_in m) id)
unfolding get_node
get-used a m id h u = rw (meta-is m h, u)

-- ---- an id is taken

pub bit-taken : (m n : List ℕ) (i : ℕ) → ((super_in m).unused ≡ 0 → ⊥) → i ≡ first_bit (meta_of m) → Mapped m n (record { super = super_with (super_in m) (super_in m).blocks ((super_in m).unused - 1) (super_in m).groups; maps = with_bit (maps_in m) i false }) → (a w : List ℕ) → Went (take_bit (fs_of a w m) (meta_of m)) (record { state = fs_of a w n; id = i }) (Whole n) 0
unfolding take_bit
bit-taken m n i z e c a w =
    well (rw (lt-ltb 0 (super_in m).unused (above_zero (super_in m).unused z), ← e) (ap (λ (s : Fs). done (record { state = s; id = i })) (sym (fs-mapped a w c)))) c.whole

pub none-taken : (m : List ℕ) → (super_in m).unused ≡ 0 → (a w : List ℕ) → take_bit (fs_of a w m) (meta_of m) ≡ refused 19
unfolding take_bit
none-taken m z a w = rw (le-ltb 0 (super_in m).unused (omega arith))

-- what the search for a set bit finds
module _ (m : List ℕ) where
  abbrev found : Option ℕ
  found = found_below (lowest (bit_at (maps_in m)) (1024 * (super_in m).groups)) (1024 * (super_in m).groups)

  pub first-at : (i : ℕ) → found ≡ Some i → (i ≡ first_bit (meta_of m)) × (i < 1024 * (super_in m).groups)
  unfolding first_bit
  first-at i e = at-found (lowest (bit_at (maps_in m)) (1024 * (super_in m).groups)) (1024 * (super_in m).groups) i e

  pub first-over : found ≡ None → 1024 * (super_in m).groups ≤ first_bit (meta_of m)
  unfolding first_bit
  first-over e = nothing-found (lowest (bit_at (maps_in m)) (1024 * (super_in m).groups)) (1024 * (super_in m).groups) e

-- a new group has a set bit
grown-bit : (b : SuperBlock) (maps : List ℕ) → length maps ≡ 128 * b.groups → bit_at (maps ++ new_map) (1024 * b.groups) ≡ true
unfolding bit_at bit_of
grown-bit b maps h =
    let p : 1024 * b.groups / 8 ≡ length maps + 0 = omega arith in
    let q : 1024 * b.groups % 8 ≡ 0 = omega arith in
    rw (p, q, get_or-append-add maps new_map 0 0)

grown-first : (b : SuperBlock) (maps : List ℕ) → length maps ≡ 128 * b.groups → first_bit (grown b maps) < 1024 * (b.groups + 1)
unfolding first_bit
grown-first b maps h =
    omega (arith, lowest-at-most (bit_at (maps ++ new_map)) (1024 * (b.groups + 1)) (1024 * b.groups) (omega arith) (grown-bit b maps h))

-- superblock and maps that have a set bit
pub record Spare (s : Fs) : Type 0 where
  pub meta : Meta
  pub is : s.meta ≡ done meta
  pub below : first_bit meta < ids meta

-- a group that was added
spare-grown : (s t : Fs) (x : Meta) (b d : Bool) (o : Out (List ℕ)) → length x.maps ≡ 128 * x.super.groups → guard b 17 (guard d 19 (bind o (λ a. done (with_meta (with_arena s a) (grown x.super x.maps))))) ≡ done t → Spare t
spare-grown s t x true true (done a) h e =
    record { meta = grown x.super x.maps; is = sym (ap (λ (y : Fs). y.meta) (ap (kept s) e)); below = grown-first x.super x.maps h }
spare-grown s t x true true (refused n) h e = absurd (let z : ◌≡◌ {A = ℕ} 0 1 = cc in omega arith)
spare-grown s t x true false o h e = absurd (let z : ◌≡◌ {A = ℕ} 0 1 = cc in omega arith)
spare-grown s t x false d o h e = absurd (let z : ◌≡◌ {A = ℕ} 0 1 = cc in omega arith)

-- after a group was added where one was wanted, there is a set bit
pub spare-after : (s t : Fs) (x : Meta) → s.meta ≡ done x → length x.maps ≡ 128 * x.super.groups → pick (ltb (first_bit x) (1024 * x.super.groups)) (done s) (add_group s x) ≡ done t → Spare t
unfolding add_group
spare-after s t x m h e = go (ltb (first_bit x) (1024 * x.super.groups)) refl e
  where
    go : (b : Bool) → ltb (first_bit x) (1024 * x.super.groups) ≡ b → pick b (done s) (add_group s x) ≡ done t → Spare t
    go true l f =
        record { meta = x; is = sym (ap (λ (y : Fs). y.meta) (ap (kept s) f)) ∙ m; below = ltb-true (first_bit x) (1024 * x.super.groups) l }
    go false l f =
        spare-grown s t x (ltb x.super.groups 4) (ltb (x.super.blocks + 1024) 4294967296 && ltb (x.super.unused + 1023) 4294967296) (cut_file s.arena meta_file (131072 * (x.super.groups + 1))) h f

-- ---- a group is added

module _ (a w m : List ℕ) (g : (super_in m).groups < 4) where
  pub group-blocks : 4294967296 ≤ (super_in m).blocks + 1024 → add_group (fs_of a w m) (meta_of m) ≡ refused 19
  unfolding add_group
  group-blocks h = rw (lt-ltb (super_in m).groups 4 g, le-ltb ((super_in m).blocks + 1024) 4294967296 h)

  module _ (b : (super_in m).blocks + 1024 < 4294967296) where
    pub group-unused : 4294967296 ≤ (super_in m).unused + 1023 → add_group (fs_of a w m) (meta_of m) ≡ refused 19
    unfolding add_group
    group-unused h =
        rw (lt-ltb (super_in m).groups 4 g, lt-ltb ((super_in m).blocks + 1024) 4294967296 b, le-ltb ((super_in m).unused + 1023) 4294967296 h)

    group-is : (super_in m).unused + 1023 < 4294967296 → add_group (fs_of a w m) (meta_of m) ≡ bind (cut_file (view a w) meta_file (131072 * ((super_in m).groups + 1))) (λ d. done (with_meta (with_arena (fs_of a w m) d) (grown (super_in m) (maps_in m))))
    unfolding add_group fs_of
    group-is h =
        rw (lt-ltb (super_in m).groups 4 g, lt-ltb ((super_in m).blocks + 1024) 4294967296 b, lt-ltb ((super_in m).unused + 1023) 4294967296 h)

    module _ (h : (super_in m).unused + 1023 < 4294967296) (u : List ℕ) (r : ℕ) (d : Did (cut_file (view a w) meta_file (131072 * ((super_in m).groups + 1))) a w u 2 r) where
      pub group-stop : (n : List ℕ) → (r ≡ 0 → ⊥) → Stepped (add_group (fs_of a w m) (meta_of m)) a w u n 2 r
      group-stop n z =
          rw (group-is h) (did-stops (λ d. done (with_meta (with_arena (fs_of a w m) d) (grown (super_in m) (maps_in m)))) (fs_of a u n) (Still a w u n 2) z d)

      pub group-done : (n : List ℕ) → r ≡ 0 → Mapped m n (grown (super_in m) (maps_in m)) → Stepped (add_group (fs_of a w m) (meta_of m)) a w u n 2 0
      group-done n z c = rw (group-is h) (did-mapped d z c)

-- what the code asks of memory that has a spare id
pub record Has (m : List ℕ) : Type 0 where
  pub mark : get_or m 4402 0 ≡ 1
  pub below : first_bit (meta_of m) < 1024 * (super_in m).groups

pub spare-has : (a w m : List ℕ) → Spare (fs_of a w m) → Has m
unfolding fs_of
spare-has a w m s =
    let h = meta-has m s.meta s.is in
    record { mark = h.0; below = subst (λ (x : Meta). first_bit x < ids x) (sym h.1) s.below }

pub alloc-none : (a w m : List ℕ) → eqb (get_or m 4402 0) 1 ≡ false → alloc_block (fs_of a w m) ≡ refused 19
unfolding alloc_block fs_of
alloc-none a w m h = rw (meta-none m h)

-- the first half of `alloc_block`
abbrev pub room_for : List ℕ → List ℕ → List ℕ → Out Fs
room_for a w m = pick (ltb (first_bit (meta_of m)) (1024 * (super_in m).groups)) (done (fs_of a w m)) (add_group (fs_of a w m) (meta_of m))

pub alloc-is : (a w m : List ℕ) → get_or m 4402 0 ≡ 1 → alloc_block (fs_of a w m) ≡ bind (room_for a w m) (λ s. bind s.meta (take_bit s))
unfolding alloc_block fs_of
alloc-is a w m h = rw (meta-is m h)

pub take-is : (a w m : List ℕ) → get_or m 4402 0 ≡ 1 → bind (fs_of a w m).meta (take_bit (fs_of a w m)) ≡ take_bit (fs_of a w m) (meta_of m)
unfolding fs_of
take-is a w m h = rw (meta-is m h)

pub spare-room : (a w u m n : List ℕ) → length (maps_in m) ≡ 128 * (super_in m).groups → get_or m 4402 0 ≡ 1 → room_for a w m ≡ done (fs_of a u n) → Has n
unfolding fs_of
spare-room a w u m n l h e = spare-has a u n (spare-after (fs_of a w m) (fs_of a u n) (meta_of m) (meta-is m h) l e)

-- ---- an id is freed

pub free-none : (m : List ℕ) (id : ℕ) → eqb (get_or m 4402 0) 1 ≡ false → (a w : List ℕ) → free_block (fs_of a w m) id ≡ refused 19
unfolding free_block fs_of
free-none m id h a w = rw (meta-none m h)

pub free-unused : (m : List ℕ) (id : ℕ) → get_or m 4402 0 ≡ 1 → is_used (meta_of m) id ≡ false → (a w : List ℕ) → free_block (fs_of a w m) id ≡ refused 19
unfolding free_block fs_of
free-unused m id h u a w = rw (meta-is m h, u)

pub free-full : (m : List ℕ) (id : ℕ) → get_or m 4402 0 ≡ 1 → is_used (meta_of m) id ≡ true → (super_in m).unused ≡ 4294967295 → (a w : List ℕ) → free_block (fs_of a w m) id ≡ refused 19
unfolding free_block fs_of
free-full m id h u z a w = rw (meta-is m h, u, le-ltb ((super_in m).unused + 1) 4294967296 (omega arith))

pub used-below : (m : List ℕ) (id : ℕ) → is_used (meta_of m) id ≡ true → id < 1024 * (super_in m).groups
unfolding is_used
used-below m id e =
    let p = and_parts (not (eqb id 0)) (ltb id (1024 * (super_in m).groups) && not (bit_at (maps_in m) id)) e in
    ltb-true id (1024 * (super_in m).groups) (and_parts (ltb id (1024 * (super_in m).groups)) (not (bit_at (maps_in m) id)) p.1).0

meta-in : (a w m : List ℕ) → get_or m 4402 0 ≡ 1 → (fs_of a w m).meta ≡ done (meta_of m)
unfolding fs_of
meta-in a w m h = meta-is m h

pub bit-freed : (m n : List ℕ) (id : ℕ) → get_or m 4402 0 ≡ 1 → is_used (meta_of m) id ≡ true → (super_in m).unused + 1 < 4294967296 → Mapped m n (record { super = super_with (super_in m) (super_in m).blocks ((super_in m).unused + 1) (super_in m).groups; maps = with_bit (maps_in m) id true }) → (a w : List ℕ) → Went (free_block (fs_of a w m) id) (fs_of a w n) (Whole n) 0
unfolding free_block
bit-freed m n id h u z c a w =
    well (rw (meta-in a w m h, u, lt-ltb ((super_in m).unused + 1) 4294967296 z) (ap done (sym (fs-mapped a w c)))) c.whole
