-- The blocks of superblock and maps are there, in any arena that can be mended, so that storing these takes no block: a map shares its block with the
-- record of its group's first id, and with an absent block the map has no bit set, so that this id is a node, and its record has no type.
use mathlib.Core.Path.{◌≡◌, refl, sym, ap, ◌∙◌}
use mathlib.Core.Bool.{true, false, not}
use mathlib.Core.List.{List, ◌++◌}
use mathlib.Core.Logic.{⊎_elim}
use Prim.Native.Nat.{ℕ, zero, suc, ◌+◌, ◌*◌, ◌/◌, ◌%◌, ◌≤◌, ◌<◌}
use native.Mathlib.Omega.{arith}
use lib.ListN.{length, get_or, replicate, get_or-append}
use lib.Seq.{get_or-append-add}
use borrow.Author.Tests.{lt-ltb, ne_eqb, ltb-true}
use Rattle.base.proofs.Bools.{bool_cases, and_both}
use Rattle.base.proofs.Lists.{get_or-tab, tab-cong, tab-zeros}
use Rattle.base.proofs.Numbers.{lt-or-le}
use Rattle.le.specs.Le.{le_at, le_of}
use Rattle.structs.specs.Layout.{super_of, record_of}
use Rattle.structs.specs.declared.DiskINode.{DiskINode}
use Rattle.maps.specs.Maps.{bit_of, bit_at}
use Rattle.arena.specs.Fields.{File}
use Rattle.table.specs.Table.{empty_table}
use Rattle.files.specs.Read.{present, byte_at}
use Rattle.files.specs.Store.{lo, hi}
use Rattle.files_laws.specs.Laws.{touches}
use Rattle.files_laws.proofs.Views.{byte_in, byte-in, byte-none}
use Rattle.sefs.specs.Meta.{meta_file, map_at}
use Rattle.rules.specs.Image.{run, stored_super, maps_to, stored_maps, ids_in, is_node, stored_bytes, rec_of}
use Rattle.image.proofs.Metas.{length-maps_to}
use Rattle.mending.specs.Mendable.{Mendable}
use Rattle.mending.proofs.Tables.{rec-stored}

-- an absent block reads as zeros
none-run : (a : List ℕ) (f : File) (q pos n : ℕ) → present a f q ≡ false → 480 * q ≤ pos → pos + n ≤ 480 * q + 480 → run a f pos n ≡ replicate n 0
none-run a f q pos n e low high =
    tab-cong (byte_at a f) (λ i. 0) pos 0 n
    (λ i l. byte-in a f (pos + i) ∙ ap (λ (k : ℕ). byte_in a f k ((pos + i) % 480)) (let z : (pos + i) / 480 ≡ q = omega arith in z) ∙ byte-none a f q e ((pos + i) % 480))
    ∙ tab-zeros 0 n

no-groups : (super_of (replicate 16 0)).groups ≡ 0
unfolding super_of le_at le_of
no-groups = refl

pub no_kind : (record_of (replicate 112 0)).kind ≡ 0
unfolding record_of le_at le_of
no_kind = refl

-- byte i of map g
pub map-byte : (a : List ℕ) (n g i : ℕ) → g < n → i < 128 → get_or (maps_to a n) (128 * g + i) 0 ≡ byte_at a meta_file (map_at g + i)
unfolding maps_to
map-byte a zero g i l m = absurd (omega arith)
map-byte a (suc n) g i l m =
    ⊎_elim
    (λ (d : g < n). get_or-append (maps_to a n) (run a meta_file (map_at n) 128) 0 (128 * g + i) (omega (arith, length-maps_to a n)) ∙ map-byte a n g i d m)
    (λ (d : n ≤ g).
    let e : g ≡ n = omega arith in
    ap (λ (k : ℕ). get_or (maps_to a n ++ run a meta_file (map_at n) 128) k 0) (let z : 128 * g + i ≡ length (maps_to a n) + i = omega (arith, length-maps_to a n) in z)
    ∙ get_or-append-add (maps_to a n) (run a meta_file (map_at n) 128) i 0 ∙ get_or-tab (byte_at a meta_file) (map_at n) 128 i m
    ∙ ap (λ (k : ℕ). byte_at a meta_file (map_at k + i)) (sym e))
    (lt-or-le g n)

-- ---- the record of a group's first id stands in the block of the group's map

record Near (g : ℕ) : Type 0 where
  low : 480 * (map_at g / 480) ≤ 128 * (1024 * g)
  high : map_at g + 128 ≤ 480 * (map_at g / 480) + 480

near : (g : ℕ) → g ≤ 3 → Near g
near zero l = record { low = omega arith; high = omega arith }
near (suc zero) l = record { low = omega arith; high = omega arith }
near (suc (suc zero)) l = record { low = omega arith; high = omega arith }
near (suc (suc (suc zero))) l = record { low = omega arith; high = omega arith }
near (suc (suc (suc (suc g)))) l = absurd (omega arith)

no-bit : bit_of 0 0 ≡ false
unfolding bit_of
no-bit = refl

module _ (a : List ℕ) (M : Mendable a) where
  pub first_block : present a meta_file 0 ≡ true
  unfolding stored_super
  first_block =
      ⊎_elim (λ e. e)
      (λ (e : present a meta_file 0 ≡ false). absurd (omega (arith, M.rule3.some, ap (λ (l : List ℕ). (super_of l).groups) (none-run a meta_file 0 0 16 e (omega arith) (omega arith)), no-groups)))
      (bool_cases (present a meta_file 0))

  module _ (g : ℕ) (below : g < (stored_super a).groups) where
    N : Near g
    N = near g (omega (arith, M.rule3.few))

    module _ (some : 1 ≤ g) (none : present a meta_file (map_at g / 480) ≡ false) where
      byte-zero : byte_at a meta_file (map_at g + 0) ≡ 0
      byte-zero = byte-in a meta_file (map_at g + 0) ∙ ap (λ (k : ℕ). byte_in a meta_file k ((map_at g + 0) % 480)) (let z : (map_at g + 0) / 480 ≡ map_at g / 480 = omega arith in z)
          ∙ byte-none a meta_file (map_at g / 480) none ((map_at g + 0) % 480)

      bit-clear : bit_at (stored_maps a) (1024 * g) ≡ false
      unfolding bit_at stored_maps
      bit-clear =
          (λ z. bit_of (get_or (stored_maps a) (place z) 0) (rest z))
          ∙ ap (λ (x : ℕ). bit_of x 0) (map-byte a (stored_super a).groups g 0 below (omega arith) ∙ byte-zero) ∙ no-bit
        where
          place : 1024 * g / 8 ≡ 128 * g + 0
          place = omega arith

          rest : 1024 * g % 8 ≡ 0
          rest = omega arith

      is-node : is_node a (1024 * g) ≡ true
      unfolding is_node
      is-node =
          and_both (lt-ltb (1024 * g) (ids_in a) (omega arith))
          (and_both (ap not (ne_eqb (1024 * g) 0 (λ z. omega arith))) (and_both (ap not (ne_eqb (1024 * g % 1024) 1 (λ z. omega arith))) (ap not bit-clear)))

      kind-zero : (rec_of a empty_table (1024 * g)).kind ≡ 0
      unfolding stored_bytes
      kind-zero =
          ap (λ (r : DiskINode). r.kind) (rec-stored a (1024 * g) (λ z. omega arith))
          ∙ ap (λ (l : List ℕ). (record_of l).kind) (none-run a meta_file (map_at g / 480) (128 * (1024 * g)) 112 none N.low (omega (arith, N.high))) ∙ no_kind

      nowhere : ⊥
      nowhere = omega (arith, kind-zero, M.rule5.least (1024 * g) is-node)

    map-block : present a meta_file (map_at g / 480) ≡ true
    map-block =
        ⊎_elim
        (λ (z : g < 1). ap (present a meta_file) (let e : map_at g / 480 ≡ 0 = omega arith in e) ∙ first_block)
        (λ (some : 1 ≤ g). ⊎_elim (λ e. e) (λ (e : present a meta_file (map_at g / 480) ≡ false). absurd (nowhere some e)) (bool_cases (present a meta_file (map_at g / 480))))
        (lt-or-le g 1)

    pub map-here : (q : ℕ) → touches (map_at g) 128 q ≡ true → present a meta_file q ≡ true
    map-here q e =
        let l : lo (map_at g) q < hi (map_at g) 128 q = ltb-true (lo (map_at g) q) (hi (map_at g) 128 q) e in
        ap (present a meta_file) (let z : q ≡ map_at g / 480 = omega (arith, N.high) in z) ∙ map-block

  pub super-here : (q : ℕ) → touches 0 16 q ≡ true → present a meta_file q ≡ true
  super-here q e =
      let l : lo 0 q < hi 0 16 q = ltb-true (lo 0 q) (hi 0 16 q) e in
      ap (present a meta_file) (let z : q ≡ 0 = omega arith in z) ∙ first_block
