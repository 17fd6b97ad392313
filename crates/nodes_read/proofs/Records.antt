-- A record alone: the tests of the definition on the state of arena and memory, and the stored bytes.
use mathlib.Core.Path.{◌≡◌}
use mathlib.Core.Bool.{true, false}
use mathlib.Core.List.{List}
use Prim.Native.Nat.{ℕ, ◌*◌}
use lib.ListN.{get_or}
use lib.Dec.{eqb}
use Rattle.base.specs.Out.{done, refused, bind, Went, well}
use Rattle.base.proofs.Outs.{went-is, went-stop}
use Rattle.structs.specs.Layout.{record_of}
use Rattle.structs.specs.declared.DiskINode.{DiskINode}
use Rattle.table.specs.Table.{row_of}
use Rattle.files.specs.Read.{read_file}
use Rattle.sefs.specs.Meta.{meta_file, is_used}
use Rattle.sefs.specs.Move.{record_by, record_on}
use Rattle.mem.specs.Mem.{table_in}
use Rattle.mem.specs.State.{fs_at}
use Rattle.nodes.specs.Steps.{meta_of}
use Rattle.nodes.proofs.Bytes.{meta-is, meta-none}

pub record-none : (a m : List ℕ) (id : ℕ) → eqb (get_or m 4402 0) 1 ≡ false → record_on (fs_at a m) id ≡ refused 19
unfolding record_on
record-none a m id h = rw (meta-none m h)

pub record-unused : (a m : List ℕ) (id : ℕ) → get_or m 4402 0 ≡ 1 → is_used (meta_of m) id ≡ false → record_on (fs_at a m) id ≡ refused 19
unfolding record_on
record-unused a m id h u = rw (meta-is m h, u)

pub record-used : (a m : List ℕ) (id : ℕ) → get_or m 4402 0 ≡ 1 → is_used (meta_of m) id ≡ true → record_on (fs_at a m) id ≡ record_by (fs_at a m) id (row_of (table_in m) id)
unfolding record_on
record-used a m id h u = rw (meta-is m h, u)

-- the stored one
module _ {P : Type 0} (a : List ℕ) (id : ℕ) {l : List ℕ} {r : ℕ} (g : Went (read_file a meta_file (128 * id) 112) l P r) where
  pub noted-stop : (v : DiskINode) → (r ≡ 0 → ⊥) → Went (bind (read_file a meta_file (128 * id) 112) (λ l. done (record_of l))) v Unit r
  noted-stop v z = went-stop (λ l. done (record_of l)) v z g

  pub noted-done : (x : DiskINode) → r ≡ 0 → x ≡ record_of l → Went (bind (read_file a meta_file (128 * id) 112) (λ l. done (record_of l))) x Unit 0
  noted-done x z e = well (rw (went-is g z, e)) tt
