-- What the check answers on two images that pass, the fresh one and the one with `a`, and on no image. That an image passes is not computed:
-- it is demand 3's, that a format that is done leaves a pair that passes, and that a call keeps it so.
use mathlib.Core.Path.{◌≡◌, refl, ap, ◌∙◌, subst}
use mathlib.Core.Bool.{not, ◌&&◌}
use mathlib.Core.List.{List, [], ◌∷◌}
use Prim.Native.Nat.{ℕ, zero, suc, ◌*◌, ◌%◌, ◌<◌}
use native.Mathlib.Omega.{arith}
use lib.Dec.{eqb, ltb}
use lib.ListN.{replicate, get_or, length-replicate}
use Rattle.base.specs.Count.{count_to}
use Rattle.base.specs.Decides.{first_fail}
use Rattle.structs.specs.Constants.{type_file}
use Rattle.structs.specs.Fits.{TimeFits}
use Rattle.structs.specs.Layout.{super_of}
use Rattle.structs.specs.declared.SuperBlock.{SuperBlock}
use Rattle.maps.specs.Maps.{bit_at}
use Rattle.table.specs.Table.{empty_table}
use Rattle.table.specs.declared.Table.{Table}
use Rattle.arena.specs.Blocks.{legal}
use Rattle.arena.specs.Places.{free_count}
use Rattle.sefs.specs.Meta.{meta_file, map_at}
use Rattle.rules.specs.Image.{stored_super, maps_to, stored_maps, is_node, node_count}
use Rattle.rules.specs.Tests.{test1, checked}
use Rattle.fsck.specs.Verdicts.{pass_of, verdict_of}
use Rattle.fsck.specs.declared.Verdict.TheVariants as verdicts
use Rattle.sequences.specs.Pairs.{Pair, pair, Passed}
use Rattle.sequences.specs.Calls.{Call, root, create, does, next, Fits}
use Rattle.sequences.specs.Promises.{Fresh, Keeps}
use Rattle.sequences.proofs.Fresh.{fresh as format-fresh}
use Rattle.sequences.proofs.Sequences.{keeps}
use Rattle.course_states.specs.Worlds.{epoch, uuid, editor, fresh}
use Rattle.course_states.proofs.Near.{run_near, run-near}
use Rattle.course_states.proofs.States.{super_with, map_from, handle, root_table, fresh_arena, a_meta, a_arena, a_world}
use Rattle.course_states.proofs.Steps.{computed, fresh-is, root_is}
use Rattle.cheats.proofs.Inputs.{a-done}

-- ---- no image: "Empty input gives `fail rule 1`"

pub empty-fails : verdict_of [] empty_table ≡ verdicts.Fail 1
unfolding verdict_of checked first_fail test1 legal
empty-fails = refl

-- ---- the counts, by the superblock and the map

-- the nodes by a superblock of one group and its map
unfoldable nodes_by : SuperBlock → List ℕ → ℕ
nodes_by b m = count_to (λ id. ltb id (1024 * b.groups) && (not (eqb id 0) && (not (eqb (id % 1024) 1) && not (bit_at m id)))) (1024 * b.groups)

module _ (a : List ℕ) (unused first : ℕ) (super : super_of (run_near a meta_file 0 16) ≡ super_with unused)
    (map : run_near a meta_file (map_at 0) 128 ≡ map_from first) where
  super-is : stored_super a ≡ super_with unused
  unfolding stored_super
  super-is = ap super_of (run-near a meta_file 0 16 (omega arith)) ∙ super

  maps-is : stored_maps a ≡ map_from first
  unfolding stored_maps maps_to
  maps-is = rw super-is (run-near a meta_file (map_at 0) 128 (omega arith) ∙ map)

  nodes-is : node_count a ≡ nodes_by (super_with unused) (map_from first)
  unfolding node_count is_node nodes_by
  nodes-is =
      λ j. count_to (λ id. ltb id (1024 * (super-is j).groups) && (not (eqb id 0) && (not (eqb (id % 1024) 1) && not (bit_at (maps-is j) id))))
      (1024 * (super-is j).groups)

  pass-is : (nodes free : ℕ) → nodes_by (super_with unused) (map_from first) ≡ nodes → free_count a ≡ free → pass_of a ≡ verdicts.Pass nodes unused free
  unfolding pass_of
  pass-is nodes free n f = λ j. verdicts.Pass ((nodes-is ∙ n) j) (super-is j).unused (f j)

fresh-super : super_of (run_near fresh_arena meta_file 0 16) ≡ super_with 1021
unfolding computed fresh_arena
fresh-super = refl

fresh-map : run_near fresh_arena meta_file (map_at 0) 128 ≡ map_from 248
unfolding computed fresh_arena
fresh-map = refl

fresh-nodes : nodes_by (super_with 1021) (map_from 248) ≡ 1
unfolding computed nodes_by
fresh-nodes = refl

fresh-free : free_count fresh_arena ≡ 11
unfolding computed fresh_arena
fresh-free = refl

a-super : super_of (run_near a_world.arena meta_file 0 16) ≡ super_with 1020
unfolding computed a_meta a_arena a_world
a-super = refl

a-map : run_near a_world.arena meta_file (map_at 0) 128 ≡ map_from 240
unfolding computed a_meta a_arena a_world
a-map = refl

a-nodes : nodes_by (super_with 1020) (map_from 240) ≡ 2
unfolding computed nodes_by
a-nodes = refl

a-free : free_count a_world.arena ≡ 9
unfolding computed a_meta a_arena a_world
a-free = refl

-- ---- that they pass

bytes_same : (n x : ℕ) → x < 256 → (i : ℕ) → get_or (replicate n x) i 0 < 256
bytes_same zero x h i = omega arith
bytes_same (suc n) x h zero = h
bytes_same (suc n) x h (suc i) = bytes_same n x h i

time-fits : TimeFits epoch
time-fits = record { sec = record { sfits = omega arith }; nsec = record { sfits = omega arith } }

fresh-passed : Passed (pair fresh_arena empty_table)
unfolding Fresh fresh
fresh-passed = format-fresh (replicate 8192 0) epoch (uuid 1) (bytes_same 8192 0 (omega arith)) time-fits (length-replicate {A = ℕ} 16 1) (bytes_same 16 1 (omega arith)) fresh_arena fresh-is

next-root : next (root editor) (pair fresh_arena empty_table) ≡ pair fresh_arena root_table
unfolding does
next-root = rw root_is

root-passed : Passed (pair fresh_arena root_table)
unfolding Keeps
root-passed = subst (λ (p : Pair). Passed p) next-root (keeps (pair fresh_arena empty_table) (root editor) fresh-passed (omega arith)).passes

create_a : Call
create_a = create editor (handle 0 1) (97 ∷ []) type_file 420 epoch (uuid 2)

next-a : next create_a (pair fresh_arena root_table) ≡ pair a_world.arena a_world.table
unfolding does create_a
next-a = rw a-done

a-fits : Fits create_a
unfolding create_a
a-fits = (
  omega arith,
  record { hold = omega arith; stamp = omega arith },
  (λ i. bytes_same 1 97 (omega arith) i),
  record { kind = omega arith; mode = omega arith; time = time-fits; file = length-replicate {A = ℕ} 16 2; bytes = bytes_same 16 2 (omega arith) },
)

a-passed : Passed (pair a_world.arena a_world.table)
unfolding Keeps
a-passed = subst (λ (p : Pair). Passed p) next-a (keeps (pair fresh_arena root_table) create_a root-passed a-fits).passes

-- ---- the verdicts

pass-verdict : (a : List ℕ) (t : Table) → checked a t ≡ 0 → verdict_of a t ≡ pass_of a
unfolding verdict_of
pass-verdict a t e = rw e

pub fresh-verdict : verdict_of fresh_arena empty_table ≡ verdicts.Pass 1 1021 11
fresh-verdict = pass-verdict fresh_arena empty_table fresh-passed.passes ∙ pass-is fresh_arena 1021 248 fresh-super fresh-map 1 11 fresh-nodes fresh-free

pub a-verdict : verdict_of a_world.arena a_world.table ≡ verdicts.Pass 2 1020 9
a-verdict = pass-verdict a_world.arena a_world.table a-passed.passes ∙ pass-is a_world.arena 1020 240 a-super a-map 2 9 a-nodes a-free
