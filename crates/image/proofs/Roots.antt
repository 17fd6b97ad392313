-- What format has in memory, computed: the root's id is 2, it takes row 0, and in the map that is stored every bit from 3 on is set.
use mathlib.Core.Path.{refl, ◌≡◌, sym, ap, ◌∙◌, subst}
use mathlib.Core.Bool.{true, false}
use mathlib.Core.List.{List, ◌∷◌}
use mathlib.Core.Logic.{⊎_elim}
use Prim.Native.Nat.{ℕ, zero, suc, ◌+◌, ◌-◌, ◌≤◌, ◌<◌}
use native.Mathlib.Omega.{arith}
use lib.ListN.{length, replicate, length-replicate, get_or-replicate, get_or-eq_default}
use Rattle.base.specs.Count.{sum_to, all_to, count_to}
use Rattle.base.specs.Out.{Out, done}
use Rattle.base.specs.Search.{lowest, found_below}
use Rattle.std.specs.Prelude.{Some, None}
use Rattle.base.proofs.Counts.{all_to-true}
use Rattle.base.proofs.Numbers.{lt-or-le}
use Rattle.base.proofs.Searches.{lowest-here}
use Rattle.le.specs.Le.{Bytes}
use Rattle.maps.specs.Maps.{bit_of, put_bit, bit_at, with_bit, set_bits}
use Rattle.structs.specs.Constants.{sefs_magic, type_dir}
use Rattle.structs.specs.declared.DiskINode.{DiskINode}
use Rattle.structs.specs.declared.SuperBlock.{SuperBlock}
use Rattle.structs.specs.declared.Timespec.{Timespec}
use Rattle.table.specs.declared.Table.{Table}
use Rattle.table.specs.Table.{empty_table, row_of, take_row}
use Rattle.arena.specs.Fields.{file}
use Rattle.files.specs.Store.{make_file}
use Rattle.sefs.specs.State.{Fs, Meta}
use Rattle.sefs.specs.Records.{new_record}
use Rattle.sefs.specs.Meta.{first_bit, Allocated, take_bit, alloc_block}
use Rattle.sefs.specs.Nodes.{opened, new_node}
use Rattle.sefs.specs.Create.{fresh_meta}

-- ---- the map once the root's bit is clear

unfoldable pub root_map : List ℕ
root_map = 248 ∷ replicate 127 255

pub length-root_map : length root_map ≡ 128
unfolding root_map
length-root_map = refl

pub root_map-bytes : Bytes root_map
unfolding root_map
root_map-bytes zero = omega arith
root_map-bytes (suc i) =
    ⊎_elim
    (λ l. rw (get_or-replicate {A = ℕ} 127 i 255 0 l) (omega arith))
    (λ g. rw (get_or-eq_default {A = ℕ} (replicate 127 255) 0 {n = i} (omega (arith, length-replicate {A = ℕ} 127 255))) (omega arith))
    (lt-or-le i 127)

-- bits 0, 1 and 2 are clear, the others set
pub root-zero : bit_at root_map 0 ≡ false
unfolding root_map bit_at bit_of
root-zero = refl

pub root-one : bit_at root_map 1 ≡ false
unfolding root_map bit_at bit_of
root-one = refl

pub root-two : bit_at root_map 2 ≡ false
unfolding root_map bit_at bit_of
root-two = refl

high_bits : all_to (λ i. bit_at root_map (3 + i)) 1021 ≡ true
unfolding root_map all_to bit_at bit_of
high_bits = refl

pub root-high : (j : ℕ) → 3 ≤ j → j < 1024 → bit_at root_map j ≡ true
root-high j l m =
    let e : 3 + (j - 3) ≡ j = omega arith in
    subst (λ (k : ℕ). bit_at root_map k ≡ true) e (all_to-true (λ i. bit_at root_map (3 + i)) 1021 high_bits (j - 3) (omega arith))

pub root-bits : set_bits root_map 1024 ≡ 1021
unfolding root_map set_bits count_to sum_to bit_at bit_of
root-bits = refl

-- ---- the id is taken

abbrev pub root_super : SuperBlock
root_super = record { magic = sefs_magic; blocks = 1024; unused = 1021; groups = 1 }

abbrev pub root_meta : Meta
root_meta = record { super = root_super; maps = root_map }

first_two : first_bit fresh_meta ≡ 2
unfolding first_bit bit_at bit_of
first_two = sym (lowest-here (bit_at fresh_meta.maps) 1024 2 (omega arith) (λ j l. before j l) refl)
  where
    before : (j : ℕ) → j < 2 → bit_at fresh_meta.maps j ≡ false
    before zero l = refl
    before (suc zero) l = refl
    before (suc (suc j)) l = absurd (omega arith)

root-map : with_bit fresh_meta.maps 2 false ≡ root_map
unfolding root_map with_bit put_bit bit_of
root-map = refl

-- format's state before the root is made, and with a table afterwards
abbrev pub begins : List ℕ → Fs
begins a = record { arena = a; table = empty_table; meta = done fresh_meta }

abbrev pub holding : List ℕ → Table → Fs
holding a t = record { arena = a; table = t; meta = done root_meta }

-- the arena, the map and the id that an allocation leaves
allocated : List ℕ → List ℕ → ℕ → Out Allocated
allocated a m k = done (record { state = record { arena = a; table = empty_table; meta = done (record { super = root_super; maps = m }) }; id = k })

take-root : (a : List ℕ) → take_bit (begins a) fresh_meta ≡ allocated a root_map 2
unfolding take_bit allocated
take-root a = ap (λ (k : ℕ). allocated a (with_bit fresh_meta.maps k false) k) first_two ∙ ap (λ (m : List ℕ). allocated a m 2) root-map

alloc-root : (a : List ℕ) → alloc_block (begins a) ≡ done (record { state = holding a empty_table; id = 2 })
unfolding alloc_block allocated
alloc-root a = rw first_two (take-root a)

-- ---- the row is taken

empty-two : row_of empty_table 2 ≡ None
unfolding row_of lowest found_below
empty-two = refl

empty-free : row_of empty_table 0 ≡ Some 0
unfolding row_of lowest found_below
empty-free = refl

-- the table with the root's row alone, dirty
abbrev pub root_table : DiskINode → Table
root_table r = take_row empty_table 0 2 r true

-- the file is made, and the root has its row
pub new-root : (a b : List ℕ) (time : Timespec) (name : List ℕ) → make_file a (file 1 name) ≡ done b
    → new_node (begins a) type_dir 493 time name ≡ done (opened (holding b (root_table (new_record type_dir 493 time name))) 0)
unfolding new_node
new-root a b time name e = rw (alloc-root a, empty-two, e, empty-free)
