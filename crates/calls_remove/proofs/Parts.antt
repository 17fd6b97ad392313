-- What the two calls do, one after another.
use mathlib.Core.Path.{◌≡◌, ◌∙◌, ap}
use mathlib.Core.Bool.{Bool}
use mathlib.Core.List.{List}
use Prim.Native.Nat.{ℕ}
use native.Mathlib.Omega.{arith}
use Rattle.base.specs.Out.{Out, answer, Went}
use Rattle.base.proofs.Outs.{went-is, went-has, went-not, went-next, went-stop, went-weaken}
use Rattle.structs.specs.declared.DiskINode.{DiskINode}
use Rattle.structs.specs.Layout.{entry_of}
use Rattle.le.specs.Le.{le_at}
use Rattle.table.specs.Table.{row_at}
use Rattle.sefs.specs.State.{Fs}
use Rattle.sefs.specs.Nodes.{sync_row}
use Rattle.sefs.specs.Slots.{find_slot}
use Rattle.sefs.specs.Folders.{dirent_node_remove}
use Rattle.mem.specs.Mem.{table_in}
use Rattle.mem.specs.State.{fs_of, Stepped, fs_at}
use Rattle.calls.proofs.Asks.{asked-done, asked-not}
use Rattle.steps.specs.Ends.{Rest}
use Rattle.steps.proofs.Ends.{rest-off, rest-as}
use Rattle.removals.specs.Removals.{remove_asks, remove_node, remove_id}
use Rattle.removals.proofs.Parts.{asks-remove}
use Rattle.calls_remove.specs.Steps.{remove_name, remove_from}

-- ---- steps

-- the removal, then the folder's record
module _ (s : Fs) (i c k : ℕ) (a w u m : List ℕ) (r : ℕ) (g : Stepped (dirent_node_remove s i c k) a w u m 18 r) where
  pub node-stop : (r ≡ 0 → ⊥) → Stepped (remove_node s i c k) a w u m 21 r
  unfolding remove_node
  node-stop z = went-stop (λ d. sync_row d i) _ z g

  pub node-next : (v n : List ℕ) (q : ℕ) → r ≡ 0 → Stepped (sync_row (fs_of a u m) i) a u v n 3 q → Stepped (remove_node s i c k) a w v n 21 q
  unfolding remove_node
  node-next v n q z h =
      went-next (λ d. sync_row d i) (went-is g z)
      (went-weaken (λ p. record { fine = p.fine; whole = p.whole; room = omega (arith, (went-has g z).room, p.room) }) h)

-- ---- before the steps

-- the slot, then what it names
module _ (dir : Bool) (a m : List ℕ) (i : ℕ) (name l : List ℕ) (k r : ℕ) {P : Type 0} (x : DiskINode) (e : x ≡ (row_at (table_in m) i).rec) (g : Went (find_slot a x name) (record { place = k; entry = entry_of l }) P r) where
  slot-at : Went (find_slot a (row_at (table_in m) i).rec name) (record { place = k; entry = entry_of l }) P r
  slot-at = rw e at g

  pub slot-stop : {e : Out Fs} {Q : Type 0} → (r ≡ 0 → ⊥) → Rest (remove_name dir (fs_at a m) i name) e Q r
  unfolding remove_name
  slot-stop z = rest-off z (rw (went-not slot-at z))

  pub slot_next : {e : Out Fs} {Q : Type 0} {q : ℕ} (id : ℕ) → id ≡ le_at l 0 4 → r ≡ 0 → Rest (remove_id dir (fs_at a m) i id k) e Q q → Rest (remove_name dir (fs_at a m) i name) e Q q
  unfolding remove_name entry_of
  slot_next id d z h = rest-as (rw (went-is slot-at z, d)) (λ p. p) h

-- the questions, then the slot
module _ (dir : Bool) (a m : List ℕ) (i : ℕ) (name : List ℕ) (r : ℕ) (x : DiskINode) (d : x ≡ (row_at (table_in m) i).rec) (f : r ≡ answer (remove_asks x name)) where
  asks_at : r ≡ answer (remove_asks (row_at (table_in m) i).rec name)
  asks_at = f ∙ ap (λ (y : DiskINode). answer (remove_asks y name)) d

  pub from-stop : {e : Out Fs} {Q : Type 0} → (r ≡ 0 → ⊥) → Rest (remove_from dir (fs_at a m) i name) e Q r
  unfolding remove_from
  from-stop z = rest-off z (rw (asked-not (remove_asks (row_at (table_in m) i).rec name) r asks_at z))

  pub from_next : {e : Out Fs} {Q : Type 0} {q : ℕ} → r ≡ 0 → Rest (remove_name dir (fs_at a m) i name) e Q q → Rest (remove_from dir (fs_at a m) i name) e Q q
  unfolding remove_from
  from_next z h = rest-as (rw (asked-done (remove_asks (row_at (table_in m) i).rec name) (asks-remove _ name) r asks_at z)) (λ p. p) h
