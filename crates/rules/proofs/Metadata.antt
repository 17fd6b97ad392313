-- Rules 1 to 4: a test decides each.
use mathlib.Core.Path.{◌≡◌}
use mathlib.Core.Bool.{Bool, true, false, not, ◌||◌}
use mathlib.Core.List.{List}
use mathlib.Core.Logic.{◌≢◌}
use Prim.Native.Nat.{ℕ, ◌+◌, ◌*◌}
use Rattle.base.specs.Decides.{Decides}
use Rattle.base.proofs.Bools.{true-false}
use Rattle.base.proofs.Sames.{decides-unless, test-fails}
use Rattle.base.proofs.Tests.{decides-true, decides-iff, decides_eqb, decides-leb, decides_and, decides-all, decides-same}
use Rattle.structs.specs.Constants.{sefs_magic}
use Rattle.structs.specs.Layout.{record_bytes}
use Rattle.maps.specs.Maps.{bit_at, set_bits}
use Rattle.table.specs.declared.Table.{Table}
use Rattle.table.specs.Table.{row_at}
use Rattle.table.specs.Formed.{well_formed}
use Rattle.arena.specs.Blocks.{legal}
use Rattle.sound.specs.Sound.{sound}
use Rattle.files.specs.Read.{length_of}
use Rattle.sefs.specs.Meta.{meta_file}
use Rattle.rules.specs.Image.{stored_super, stored_maps, ids_in, is_node, stored_bytes}
use Rattle.rules.specs.Rules.{Rule1, Rule2, Rule3, Rule4}
use Rattle.rules.specs.Tests.{test1, test2, test3, test4, row_allowed}
use Rattle.rules.proofs.General.{decides-false}

pub decides-1 : (a : List ℕ) → Decides (test1 a) (Rule1 a)
unfolding test1
decides-1 a =
    decides-iff (λ p. record { length = p.0; sound = p.1 }) (λ r. (r.length, r.sound)) (decides_and (decides-true (legal a)) (decides-true (sound a)))

pub decides-2 : (t : Table) → Decides (test2 t) (Rule2 t)
unfolding test2
decides-2 t = decides-iff (λ p. record { formed = p }) (λ r. r.formed) (decides-true (well_formed t))

pub decides-3 : (a : List ℕ) → Decides (test3 a) (Rule3 a)
unfolding test3
decides-3 a =
    decides-iff
    (λ p. record {
      magic = p.0;
      some = p.1.0;
      few = p.1.1.0;
      length = p.1.1.1.0;
      blocks = p.1.1.1.1.0;
      unused = p.1.1.1.1.1;
    })
    (λ r. (r.magic, (r.some, (r.few, (r.length, (r.blocks, r.unused))))))
    (decides_and (decides_eqb (stored_super a).magic sefs_magic)
    (decides_and (decides-leb 1 (stored_super a).groups)
    (decides_and (decides-leb (stored_super a).groups 4)
    (decides_and (decides_eqb (length_of a meta_file) (131072 * (stored_super a).groups))
    (decides_and (decides_eqb (stored_super a).blocks (1024 * (stored_super a).groups)) (decides_eqb (stored_super a).unused (set_bits (stored_maps a) (ids_in a))))))))

-- ---- 4

-- a test of what is not marked
decides-unmarked : {P : Type 0} {b : Bool} (m : Bool) → Decides b P → Decides (m || b) (m ≡ false → P)
decides-unmarked m d = decides-iff (λ f e. f (λ x. true-false x e)) (λ f n. f (test-fails m n)) (decides-unless (decides-true m) d)

-- what rule 4 says of row i
RowAllowed : List ℕ → Table → ℕ → Type 0
RowAllowed a t i =
    (row_at t i).id ≢ 0
    → (is_node a (row_at t i).id ≡ true) × ((row_at t i).dirty ≡ false → record_bytes (row_at t i).rec ≡ stored_bytes a (row_at t i).id)

decides-row : (a : List ℕ) (t : Table) (i : ℕ) → Decides (row_allowed a t i) (RowAllowed a t i)
unfolding row_allowed RowAllowed
decides-row a t i =
    decides-unless (decides_eqb (row_at t i).id 0)
    (decides_and (decides-true (is_node a (row_at t i).id))
    (decides-unmarked (row_at t i).dirty (decides-same (record_bytes (row_at t i).rec) (stored_bytes a (row_at t i).id))))

pub decides-4 : (a : List ℕ) (t : Table) → Decides (test4 a t) (Rule4 a t)
unfolding test4 RowAllowed
decides-4 a t =
    decides-iff
    (λ p. record {
      zero = p.0;
      two = p.1.0;
      maps = p.1.1.0;
      node = λ i l used. (p.1.1.1 i l used).0;
      clean = λ i l used. (p.1.1.1 i l used).1;
    })
    (λ r. (r.zero, (r.two, (r.maps, λ i l used. (r.node i l used, r.clean i l used)))))
    (decides_and (decides-false (bit_at (stored_maps a) 0))
    (decides_and (decides-false (bit_at (stored_maps a) 2))
    (decides_and
    (decides-all (stored_super a).groups (λ g. not (bit_at (stored_maps a) (1024 * g + 1))) (λ g. bit_at (stored_maps a) (1024 * g + 1) ≡ false)
    (λ g l. decides-false (bit_at (stored_maps a) (1024 * g + 1))))
    (decides-all 34 (row_allowed a t) (RowAllowed a t) (λ i l. decides-row a t i)))))
